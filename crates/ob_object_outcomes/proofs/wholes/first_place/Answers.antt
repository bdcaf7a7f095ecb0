-- One node more.
use Rattle.std.proofs.Common.{◌≤◌, ℕ, arith, get_or, subst, sym}
use Rattle.std.proofs.lemmas.Option.{get_or_from_slice_get}
use Rattle.wf_whole_outcomes.specs.declared.nodes.Node.{Node}
use Rattle.ob_object_outcomes.proofs.WholeStates.{lesser, one_more_below}
use Rattle.ob_object_outcomes.proofs.wholes.first_place.Goals as goal

pub loop-at-init : goal.loop-at-init
loop-at-init c = λ k d less. absurd (omega (arith, less))

pub loop-at-preserved : goal.loop-at-preserved
loop-at-preserved c = λ k d less.
    let keys = c.args.layer.now.keys in
    let node = c.index-node.result.now in
    let two = lesser c.loop-at.first node.place in
    let is = c.min-first.ensures in
    one_more_below (λ n. (e : Node) → c.min-first.result ≤ (get_or keys n e).place) c.loop-at.at
    (λ n before e. let old = c.loop-at.invariant n e before in let low = two.0 in omega (arith, is, low, old))
    (λ e. subst (λ (it : Node). c.min-first.result ≤ it.place) (sym (get_or_from_slice_get keys c.loop-at.at node e c.index-node.ensures)) (let low = two.1 in omega (arith, is, low))) k less d

pub returns : goal.returns
returns c = λ k d less. c.loop-at.invariant k d (let end = c.loop-at-test.false in let count = c.len-at-end.ensures.len in omega (arith, end, count, less))
