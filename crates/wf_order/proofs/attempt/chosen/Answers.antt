-- A silent call, or what is tried next.
use Rattle.std.proofs.Common.{Option, Some, None, subst, inl, inr, refl, arith}
use Rattle.std.proofs.lemmas.Result.{IfOk-weaker}
use Rattle.std.specs.Prelude.{MatchOption}
use Rattle.wf_order.specs.Search.{found_in, IsSilentFound}
use Rattle.wf_order.proofs.attempt.chosen.Goals as goal

at_some : {A : Type 0} (P : Type 0) {Q R : A → Type 0} → ((a : A) → Q a → R a) → (o : Option A) → MatchOption o P Q → MatchOption o P R
at_some P f None h = h
at_some P f (Some x) h = f x h

pub returns-then-from-gt0-clause-chosen : goal.returns-then-from-gt0-clause-chosen
returns-then-from-gt0-clause-chosen g c = λ history found at.
    IfOk-weaker c.next_attempt.result _ _ (λ o h. at_some _ (λ a try. inl try) o h) (c.next_attempt.ensures.next history found at)

pub returns-in-Step-clause-chosen : goal.returns-in-Step-clause-chosen
returns-in-Step-clause-chosen g c = λ history found at.
    let here = found_in g.O.Object.meaning c.args.here.now.found.now in
    let effect = g.O.Object.effect c.args.task.now.object.now in
    let silent = subst (IsSilentFound effect history g.O.Object.meaning here) c.in-Step.is (c.in_ok-process.ensures.silent history at) in
    inr (silent, (let from = c.if-from-gt0.false in omega (arith, from)), refl)

pub returns-in-Never-clause-chosen : goal.returns-in-Never-clause-chosen
returns-in-Never-clause-chosen g c = λ history found at.
    IfOk-weaker c.next_attempt-in-Never.result _ _ (λ o h. at_some _ (λ a try. inl try) o h) (c.next_attempt-in-Never.ensures.next history found at)
