-- Whatever leaves the step out; or it is the only one.
use Rattle.std.proofs.Common.{◌≡◌, refl, ap, ◌∙◌, false, not, get_or, Option}
use Rattle.std.specs.Option.{is_some}
use Rattle.std.proofs.lemmas.Result.{IfOk-weaker}
use Rattle.std.specs.Prelude.{MatchOption, None, Some}
use Rattle.std.proofs.lemmas.Option.{MatchOption-at_none, MatchOption-at_some}
use Rattle.wf_order.specs.Search.{found_in, HasNoStep, IsNextStep}
use Rattle.wf_order.proofs.Attempts.{behind_answered, idle_answered, none_answered}
use Rattle.wf_order.proofs.LeftOut.{idle_from}
use Rattle.wf_order.proofs.attempt.tried.Goals as goal

pub returns-then-branch-clause-tried : goal.returns-then-branch-clause-tried
returns-then-branch-clause-tried g c = λ history found at.
    none_answered (g.O.Object.effect c.args.task.now.object.now) history found (found_in g.O.Object.meaning c.args.here.now.found.now) c.args.next.now.process (c.in_ok-is_unfit.ensures.unfit history at c.if-branch.true)

none_is : {A : Type 0} (o : Option A) → is_some o ≡ false → o ≡ None
none_is None e = refl
none_is (Some x) e = absurd (cc)

pub returns-then-is_reader-clause-tried : goal.returns-then-is_reader-clause-tried
returns-then-is_reader-clause-tried g c = λ history found at.
    let next = c.args.next.now in
    let here = found_in g.O.Object.meaning c.args.here.now.found.now in
    let effect = g.O.Object.effect c.args.task.now.object.now in
    let none = none_is next.ended (c.is_none.ensures ∙ ap not c.if-is_none.true) in
    idle_answered effect history found here next.process
    (idle_from effect (λ call. g.met.O.Object.determined c.args.task.now.object.now call) history c.args.task.now.rows.now
    here at.0 c.args.here.now.limit at.1 next.process (get_or here.counts next.process 0) refl (c.requires.next.ended ∙ none) next.begun c.requires.next.begun (c.is_reader.ensures c.if-is_reader.true))

pub returns-then-branch-2-clause-tried : goal.returns-then-branch-2-clause-tried
returns-then-branch-2-clause-tried g c = λ history found at.
    behind_answered (g.O.Object.effect c.args.task.now.object.now) history found (found_in g.O.Object.meaning c.args.here.now.found.now) c.args.next.now.process (c.in_ok-is_behind.ensures.behind history at c.if-branch-2.true)

pub returns-then-branch-3-clause-tried : goal.returns-then-branch-3-clause-tried
returns-then-branch-3-clause-tried g c = λ history found at.
    behind_answered (g.O.Object.effect c.args.task.now.object.now) history found (found_in g.O.Object.meaning c.args.here.now.found.now) c.args.next.now.process (c.in_ok-is_behind-2.ensures.behind history at c.if-branch-3.true)

at_none : {A : Type 0} {P Q : Type 0} (R : A → Type 0) → (P → Q) → (o : Option A) → MatchOption o P R → MatchOption o Q R
at_none R f None h = f h
at_none R f (Some x) h = h

pub returns-in_default-clause-tried : goal.returns-in_default-clause-tried
returns-in_default-clause-tried g c = λ history found at.
    let here = found_in g.O.Object.meaning c.args.here.now.found.now in
    let effect = g.O.Object.effect c.args.task.now.object.now in
    none_answered effect history found here c.args.next.now.process
    (MatchOption-at_none (HasNoStep effect history here c.args.next.now.process) (λ s. IsNextStep effect history here c.args.next.now.process (g.O.Object.meaning s)) c.in_default.is (c.in_ok-state.ensures.stepped history at))

pub unless_left_out-requires-clause-step : goal.unless_left_out-requires-clause-step
unless_left_out-requires-clause-step g c = λ history at.
    let here = found_in g.O.Object.meaning c.args.here.now.found.now in
    let effect = g.O.Object.effect c.args.task.now.object.now in
    MatchOption-at_some (HasNoStep effect history here c.args.next.now.process) (λ s. IsNextStep effect history here c.args.next.now.process (g.O.Object.meaning s)) c.in-Some.state c.in-Some.is (c.in_ok-state.ensures.stepped history at)

pub returns-then-is_some-clause-tried : goal.returns-then-is_some-clause-tried
returns-then-is_some-clause-tried g c = λ history found at.
    let here = found_in g.O.Object.meaning c.args.here.now.found.now in
    let effect = g.O.Object.effect c.args.task.now.object.now in
    MatchOption-at_some (HasNoStep effect history here c.args.next.now.process) (λ s. IsNextStep effect history here c.args.next.now.process (g.O.Object.meaning s)) c.in-Some.state c.in-Some.is (c.in_ok-state.ensures.stepped history at)

pub returns-clause-tried : goal.returns-clause-tried
returns-clause-tried g c = λ history found at.
    IfOk-weaker c.unless_left_out.result _ _
    (λ o h. at_none _ (idle_answered (g.O.Object.effect c.args.task.now.object.now) history found (found_in g.O.Object.meaning c.args.here.now.found.now) c.args.next.now.process) o h)
    (c.unless_left_out.ensures.left_out history at)
