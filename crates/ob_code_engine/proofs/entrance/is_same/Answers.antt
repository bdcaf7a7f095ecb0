use Rattle.std.proofs.Common.{◌∙◌, ap, sym}
use Rattle.std.proofs.lemmas.Slice.Eq.{slice_eq-Decides}
use Rattle.ob_code_engine.proofs.Formals.{formal_eq, formal_decides}
use Rattle.ob_code_engine.proofs.Found.{same_entrance}
use Rattle.ob_code_engine.proofs.entrance.is_same.Goals as goal

pub returns-then-entrance-other : goal.returns-then-entrance-other
returns-then-entrance-other c =
    let eq = slice_eq-Decides {E = formal_eq} formal_decides c.as_slice.result.now c.as_slice-then-entrance-other.result.now c.eq.result c.eq.ensures in
    let one = c.as_slice.ensures.value in
    let two = c.as_slice-then-entrance-other.ensures.value in (
      (λ t. sym c.entrance.view_is ∙ same_entrance _ _ _ _ c.if-entrance-other.true (sym one ∙ eq.0 t ∙ two) ∙ c.other.view_is),
      (λ same. eq.1 (one ∙ ap (λ x. x.parameters) (c.entrance.view_is ∙ same ∙ sym c.other.view_is) ∙ sym two)),
    )
