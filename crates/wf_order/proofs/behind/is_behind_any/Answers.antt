-- The equal call's step.
use Rattle.std.proofs.Common.{sym, subst, ℕ, length, get_or}
use Rattle.std.proofs.lemmas.Option.{MatchOption-at_some}
use Rattle.wf_order.specs.Rows.{call_at}
use Rattle.wf_order.specs.Rules.{AreAlike}
use Rattle.wf_order.specs.Search.{found_in, HasNoStep, IsNextStep}
use Rattle.wf_order.specs.Steps.{one_more}
use Rattle.wf_order.proofs.Replacing.{alike_behind}
use Rattle.wf_order.proofs.Taken.{taken_is}
use Rattle.wf_order.proofs.behind.is_behind_any.Goals as goal

pub returns-in-Some-2-clause-behind : goal.returns-in-Some-2-clause-behind
returns-in-Some-2-clause-behind g c = λ history at.
    let process = c.args.process in
    let found = c.args.here.now.found.now in
    let here = found_in g.O.Object.meaning found in
    let effect = g.O.Object.effect c.args.task.now.object.now in
    let other = c.in-Some-next_of.next.process in
    let own = taken_is c.as_slice-counts.result.now found.counts.items process c.in-Some.place.now c.in-Some.ensures.lookup.0 c.in-Some.ensures.lookup.1 c.as_slice-counts.ensures in
    let found_alike = c.are_alike.ensures history (length here.counts) at.0 c.if-not-are_alike.false in
    let q = c.first-process.result in
    let count = taken_is c.as_slice-counts.result.now found.counts.items q c.in-Some-get.count.now c.in-Some-get.ensures.lookup.0 c.in-Some-get.ensures.lookup.1 c.as_slice-counts.ensures in
    let first = subst (λ (k : ℕ). AreAlike history (call_at q k) (call_at process c.in-Some.place.now)) count found_alike in
    let named = subst (λ (p : ℕ). AreAlike history (call_at p (get_or here.counts p 0)) (call_at process c.in-Some.place.now)) (sym c.in-Some-next_of.ensures.0) first in
    let alike = subst (λ (k : ℕ). AreAlike history (call_at other (get_or here.counts other 0)) (call_at process k)) own named in
    let after = g.O.Object.meaning c.in-Some-2._state in
    let only = MatchOption-at_some (HasNoStep effect history here other) (λ s. IsNextStep effect history here other (g.O.Object.meaning s)) c.in-Some-2._state c.in-Some-2.is (c.in_ok-_state.ensures.stepped history at) in
    λ t. alike_behind effect history at.0.whole here process other alike (call_at other (get_or here.counts other 0)) (one_more here.counts other after) only
