use Rattle.std.proofs.Common.{◌≡◌, refl, sym, ap, ◌∙◌, subst}
use Rattle.ob_code_correct.specs.CodeMeaning.{EngineParts, most, result_count, value_count}
use Rattle.ob_code_correct.specs.Parts.{HasProgram}
use Rattle.ob_code_engine.specs.CodeEngine.{compiled_same}
use Rattle.ob_code_engine.proofs.Made.{made, same_parts}
use Rattle.ob_code_engine.proofs.engine.CodeEngine.copy.Goals as goal

abbrev Facts : goal.In_ok-copied → Type 0
Facts c =
    made c.self.inside.block_words c.in_ok-copied.field-0.items c.in_ok-copy.field-0 c.self.inside.stack_words c.self.inside.budget
    ≡ made c.self.inside.block_words c.self.inside.exports.items c.self.inside.code c.self.inside.stack_words c.self.inside.budget

-- the copy has the parts of the engine
facts : (c : goal.In_ok-copied) → Facts c
facts c = same_parts _ _ _ _ _ _ _ _ _ _ refl (c.in_ok-copied.ensures ∙ c.as_slice.ensures.value) c.in_ok-copy.ensures refl refl

pub invariant_of-result : goal.invariant_of-result
invariant_of-result c =
    let e = c.self.inside in
    let exports = c.in_ok-copied.ensures ∙ c.as_slice.ensures.value in
    let compiled = subst (λ (parts : EngineParts). ∥ HasProgram parts ∥₁) (sym (facts c)) e.compiled in
    (e.most_results ∙ ap (most result_count) (sym exports), (e.most_values ∙ ap (most value_count) (sym exports), (e.few_turns, (compiled, tt))))

pub returns : goal.returns
returns c = compiled_same _ _ (facts c.before ∙ ap (λ v. v.parts) c.self.view_is)
