use Rattle.std.proofs.Common.{sym, ap, ◌∙◌}
use Rattle.ob_code_engine.specs.CodeEngine.{CompiledParts}
use Rattle.ob_code_engine.proofs.Made.{same_numbers, same_engines}
use Rattle.ob_code_engine.proofs.engine.CodeEngine.is_same.Goals as goal
use Rattle.ob_code_engine.proofs.engine.CodeEngine.is_same.Goals.{then-has_same_numbers, else-has_same_numbers}

pub returns-then-is_same_code : goal.returns-then-is_same_code
returns-then-is_same_code c =
    let one = c.as_slice.ensures.value ∙ ap (λ (v : CompiledParts). v.parts.exports) c.self.view_is in
    let two = c.as_slice-then-is_same_code.ensures.value ∙ ap (λ (v : CompiledParts). v.parts.exports) c.other.view_is in (
      (λ t. elim c.if-has_same_numbers.branch [
        | then-has_same_numbers w ↦
            let code = w.is_same_code.ensures.0 (sym w.value-is ∙ c.if-is_same_code.true) in
            same_engines _ _ (c.has_same_numbers.ensures.0 w.if-has_same_numbers.true) (sym one ∙ c.are_same.ensures.0 t ∙ two)
            (sym (ap (λ (v : CompiledParts). v.parts.code) c.self.view_is) ∙ code ∙ ap (λ (v : CompiledParts). v.parts.code) c.other.view_is)
        | else-has_same_numbers w ↦ absurd (let never = sym c.if-is_same_code.true ∙ w.value-is in cc)
      ]),
      (λ same. c.are_same.ensures.1 (one ∙ ap (λ (v : CompiledParts). v.parts.exports) same ∙ sym two)),
    )

pub returns-else-is_same_code : goal.returns-else-is_same_code
returns-else-is_same_code c = (
  (λ t. absurd (let never = sym c.if-is_same_code.false ∙ t in cc)),
  (λ same. elim c.if-has_same_numbers.branch [
    | then-has_same_numbers w ↦
        w.value-is ∙ w.is_same_code.ensures.1 (ap (λ (v : CompiledParts). v.parts.code) (c.self.view_is ∙ same ∙ sym c.other.view_is))
    | else-has_same_numbers w ↦
        absurd (let never = sym w.if-has_same_numbers.false ∙ c.has_same_numbers.ensures.1 (same_numbers _ _ (ap (λ (v : CompiledParts). v.parts) same)) in cc)
  ]),
)
