use Rattle.std.proofs.Common.{◌≡◌, ◌∙◌, Some, ap, sym}
use Rattle.std.specs.Option.{option_copied}
use Rattle.std.specs.List.{slice_get}
use Rattle.ob_text_values_reading.proofs.VariableLines.{begins_at}
use Rattle.ob_text_values_reading.proofs.variables.begins_with.Goals as goal

pub returns-in-Some-first : goal.returns-in-Some-first
returns-in-Some-first c =
    let byte : slice_get c.in-Some.first.now 0 ≡ Some c.in-Some-first.byte.now = sym c.first.ensures.value ∙ ap option_copied c.in-Some-first.is in
    begins_at _ _ c.in-Some.first.now c.in-Some-first.byte.now c.args.kind c.in-Some.ensures.words byte
