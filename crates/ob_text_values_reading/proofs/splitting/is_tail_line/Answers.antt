-- By the first byte of the first word.
use Rattle.std.proofs.Common.{◌≡◌, ◌∙◌, Some, ap, refl, sym}
use Rattle.std.specs.Option.{option_copied}
use Rattle.std.specs.List.{slice_get}
use Rattle.ob_text_values_reading.specs.RecordTexts.{schedule, variable}
use Rattle.ob_text_values_reading.proofs.Fronts.{front_of}
use Rattle.ob_text_values_reading.proofs.splitting.is_tail_line.Goals as goal

pub returns-in-Some-eq83 : goal.returns-in-Some-eq83
returns-in-Some-eq83 c =
    let byte : slice_get c.in-Some.first.now 0 ≡ Some 83 =
    sym c.first.ensures.value ∙ ap option_copied c.in-Some-eq83.is ∙ ap (λ b. Some b) c.in-Some-eq83.field-0-test in
    let front = front_of c.in-Some.first.now 83 byte in
    (λ t. rw (c.in-Some.ensures.words, front.1) schedule, λ h. refl)

pub returns-in-Some-eq83-2 : goal.returns-in-Some-eq83-2
returns-in-Some-eq83-2 c =
    let byte : slice_get c.in-Some.first.now 0 ≡ Some 86 =
    sym c.first.ensures.value ∙ ap option_copied c.in-Some-eq83.is ∙ ap (λ b. Some b) c.in-Some-eq83.field-0-test in
    let front = front_of c.in-Some.first.now 86 byte in
    (λ t. rw (c.in-Some.ensures.words, front.1) variable, λ h. refl)
