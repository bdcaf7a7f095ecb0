use Rattle.std.proofs.Common.{◌∙◌, ap₂, sym}
use Rattle.ob_command.specs.CommandLine.{are_turned}
use Rattle.ob_command.proofs.CallPlaces.{turned_as, unsplit_unturned}
use Rattle.ob_command.proofs.call_range.is_turned.Goals as goal

pub returns-in-Some : goal.returns-in-Some
returns-in-Some c =
    c.are_turned.ensures
    ∙ (ap₂ are_turned c.place_number.ensures c.place_number-in-Some.ensures
    ∙ sym (turned_as c.args.text.now c.split_once.result c.split_once.ensures.cases _ c.in-Some.is))

pub returns-in-None : goal.returns-in-None
returns-in-None c = sym (unsplit_unturned c.args.text.now c.split_once.result c.split_once.ensures.cases c.in-None.is)
