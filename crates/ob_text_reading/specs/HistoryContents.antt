-- What the program's values of this crate stand for.
use Rattle.ob_store.specs.View.{variables_in}
use Rattle.ob_text_reading.specs.HistoryLines.{HistoryTold}
use Rattle.ob_text_reading.specs.Names.{events_of, named_all}
use Rattle.ob_text_reading.specs.Reading.{Heard}
use Rattle.ob_text_reading.specs.declared.line_reader.Reader.{Reader}
use Rattle.ob_text_reading.specs.declared.history_reading.ReadHistory.{ReadHistory}
use Rattle.ob_text_reading.specs.RecordContents.{carried_of}

abbrev pub heard_of : Reader → Heard
heard_of r = record { stage = r.stage; budget = r.budget; held = variables_in r.values.items; events = events_of r.calls }

abbrev pub told_of : ReadHistory → HistoryTold
told_of r = record { budget = r.budget; carried = carried_of r.carried; events = named_all r.processes.items r.history }
