use Rattle.ob_checked.specs.CheckedModule.{program_in}
use Rattle.ob_text_reading.specs.HistoryContents.{heard_of}
use Rattle.ob_text_words.specs.Words.{words}
use Rattle.ob_text_reading.proofs.KindsLed.{found_as, read_as}
use Rattle.ob_text_reading.proofs.line_reader.Reader.take_line.Goals as goal

pub returns-in-Title : goal.returns-in-Title
returns-in-Title c = read_as (program_in c.args.checked.now) (heard_of c.args.self) (words c.args.line.now) _ _ c.kind_of.ensures c.in-Title.is _ c.take_title.ensures

pub returns-in-Count : goal.returns-in-Count
returns-in-Count c = read_as (program_in c.args.checked.now) (heard_of c.args.self) (words c.args.line.now) _ _ c.kind_of.ensures c.in-Count.is _ c.take_count.ensures

pub returns-in-Budget : goal.returns-in-Budget
returns-in-Budget c = read_as (program_in c.args.checked.now) (heard_of c.args.self) (words c.args.line.now) _ _ c.kind_of.ensures c.in-Budget.is _ c.take_budget.ensures

pub returns-in-Opening : goal.returns-in-Opening
returns-in-Opening c = read_as (program_in c.args.checked.now) (heard_of c.args.self) (words c.args.line.now) _ _ c.kind_of.ensures c.in-Opening.is _ c.take_opening.ensures

pub returns-in-Event : goal.returns-in-Event
returns-in-Event c = read_as (program_in c.args.checked.now) (heard_of c.args.self) (words c.args.line.now) _ _ c.kind_of.ensures c.in-Event.is _ c.take_event.ensures

pub returns-in-Applied : goal.returns-in-Applied
returns-in-Applied c = found_as (program_in c.args.checked.now) (heard_of c.args.self) (words c.args.line.now) _ _ c.kind_of.ensures c.in-Applied.is _ c.take_applied.ensures

pub returns-in-Order : goal.returns-in-Order
returns-in-Order c = found_as (program_in c.args.checked.now) (heard_of c.args.self) (words c.args.line.now) _ _ c.kind_of.ensures c.in-Order.is _ c.take_order.ensures

pub returns-in-Tail : goal.returns-in-Tail
returns-in-Tail c = found_as (program_in c.args.checked.now) (heard_of c.args.self) (words c.args.line.now) _ _ c.kind_of.ensures c.in-Tail.is _ c.take_tail.ensures
