use Rattle.std.proofs.Common.{◌≡◌, ◌∙◌, Some, None, ap, refl, sym}
use Rattle.std.specs.Option.{option_copied}
use Rattle.std.specs.List.{slice_get}
use Rattle.ob_text_values_reading.proofs.Marks.{ends_at, ends_nowhere}
use Rattle.ob_text_values_reading.proofs.value_texts.is_end.Goals as goal

pub returns-in-Some : goal.returns-in-Some
returns-in-Some c =
    let byte : slice_get c.args.text.now 0 ≡ Some c.in-Some.byte.now = sym c.first.ensures.value ∙ ap option_copied c.in-Some.is in
    ends_at c.args.text.now c.in-Some.byte.now c.is_mark.result byte c.is_mark.ensures

pub returns-in-None : goal.returns-in-None
returns-in-None c =
    let none : slice_get c.args.text.now 0 ≡ None = sym c.first.ensures.value ∙ ap option_copied c.in-None.is in
    (λ t. ends_nowhere c.args.text.now none, λ h. refl)
