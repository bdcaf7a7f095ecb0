-- The results that are left, parameter by parameter.
use Rattle.std.proofs.Common.{◌≡◌, ◌∙◌, ◌+◌, ◌<◌, sym, subst, ap, arith, drop, to_z, of_z, w64, to_z-of_z, Bool, false, true, List, ℕ, Bor}
use Rattle.std.specs.Prelude.{◌↔◌, IsTrue}
use Rattle.ob_interface.specs.declared.scalar.Scalar.{Scalar}
use Rattle.ob_code_calls.specs.Calls.{meaning_of, results_of}
use Rattle.ob_code_calls.proofs.Results.{count_value, count_var, same_first, same_rest, values_value, values_var}
use Rattle.ob_code_correct.specs.CodeMeaning.{scalar_in, values_of}
use Rattle.ob_code_calls.proofs.wanted_values.are_results.Goals.{then-parameter+in-Some+else-not-is_value_of, else-parameter}
use Rattle.ob_code_calls.proofs.wanted_values.are_results.Goals as goal

pub returns-then-not-is_value_of : goal.returns-then-not-is_value_of
returns-then-not-is_value_of c =
    let m = meaning_of c.args.engine.now.parts in
    let f = m.result c.args.run.now in
    let n = m.replies in
    let i = c.loop-parameter.parameter-index in
    let k = c.loop-parameter.place in
    let h = c.loop-parameter.invariant in
    let counted = count_var f n c.args.parameters.now i _ c.loop-parameter-test.true c.if-parameter.true in
    let below : k < n = omega (arith, counted, h.enough) in
    let left = values_var f n c.args.parameters.now i _ c.loop-parameter-test.true k c.if-parameter.true below in
    let same : to_z w64 (of_z w64 c.result-word.result) ≡ c.result-word.result = search (arith, to_z-of_z) in (
      λ t. absurd (let e : false ≡ true = t in cc),
      λ all.
          let first = same_first _ _ _ c.in-Some.value.now c.in-Some.next.now left (h.same.1 all ∙ c.in-Some.ensures.cases.0) in
          subst (λ (b : Bool). IsTrue b) c.if-not-is_value_of.true (c.is_value_of.ensures.1 (ap (scalar_in _) (same ∙ c.result-word.ensures) ∙ first)),
    )

pub loop-parameter-preserved : goal.loop-parameter-preserved
loop-parameter-preserved c =
    let m = meaning_of c.args.engine.now.parts in
    let run = c.args.run.now in
    let f = m.result run in
    let n = m.replies in
    let parameters = c.args.parameters.now in
    let i = c.loop-parameter.parameter-index in
    let k = c.loop-parameter.place in
    let h = c.loop-parameter.invariant in
    let within = c.loop-parameter-test.true in
    elim c.if-parameter.branch [
      | then-parameter+in-Some+else-not-is_value_of w ↦
          let counted = count_var f n parameters i _ within w.if-parameter.true in
          let below : k < n = omega (arith, counted, h.enough) in
          let left = values_var f n parameters i _ within k w.if-parameter.true below in
          let same : to_z w64 (of_z w64 w.result-word.result) ≡ w.result-word.result = search (arith, to_z-of_z) in
          let first = sym (ap (scalar_in _) (same ∙ w.result-word.ensures)) ∙ w.is_value_of.ensures.0 w.if-not-is_value_of.false in
          let others = same_rest _ _ _ w.in-Some.value.now w.in-Some.next.now c.loop-parameter.others.now _ left w.in-Some.ensures.cases.0 first h.same in
          record {
            same =
                subst (λ (b : Bor (List Scalar)). (values_of (drop (i + 1) parameters) (drop c.if-parameter.place (results_of m run)) ≡ b.now) ↔ (values_of parameters (results_of m run) ≡ c.args.values.now)) (sym w.others-is)
                (subst (λ (j : ℕ). (values_of (drop (i + 1) parameters) (drop j (results_of m run)) ≡ w.in-Some.next.now) ↔ (values_of parameters (results_of m run) ≡ c.args.values.now)) (sym w.place-is) others);
            behind = omega (arith, w.place-is, h.behind);
            enough = omega (arith, w.place-is, counted, h.enough);
          }
      | else-parameter w ↦
          let counted = count_value f n parameters i _ within w.if-parameter.false in
          let left = values_value f n parameters i _ within k w.if-parameter.false in
          record {
            same =
                subst (λ (b : Bor (List Scalar)). (values_of (drop (i + 1) parameters) (drop c.if-parameter.place (results_of m run)) ≡ b.now) ↔ (values_of parameters (results_of m run) ≡ c.args.values.now)) (sym w.others-is)
                (subst (λ (j : ℕ). (values_of (drop (i + 1) parameters) (drop j (results_of m run)) ≡ c.loop-parameter.others.now) ↔ (values_of parameters (results_of m run) ≡ c.args.values.now)) (sym w.place-is)
                (subst (λ (l : List Scalar). (l ≡ c.loop-parameter.others.now) ↔ (values_of parameters (results_of m run) ≡ c.args.values.now)) left h.same));
            behind = omega (arith, w.place-is, h.behind);
            enough = omega (arith, w.place-is, counted, h.enough);
          }
    ]
