-- One state more.
use Rattle.std.proofs.Common.{◌<◌, ◌∙◌, ◌∷◌, [], ap, length, map, subst, sym, Some}
use Rattle.std.proofs.lemmas.List.{map-append}
use Rattle.std.proofs.lemmas.Option.{get_or_from_slice_get, slice_get_within}
use Rattle.wf_outcomes.specs.Explored.{all_kept, state_at}
use Rattle.wf_whole_outcomes.proofs.Reading.{both_more}
use Rattle.wf_whole_outcomes.specs.View.{seen_in}
use Rattle.wf_whole_outcomes.specs.declared.nodes.Node.{Node}
use Rattle.wf_whole_outcomes.proofs.leaves.states_told.Goals as goal

pub state-state-requires : goal.state-state-requires
state-state-requires g c =
    let keys = c.args.front.now.layer.keys in
    let node = c.index-node.result.now in
    let here = get_or_from_slice_get keys c.loop-at.at node node c.index-node.ensures in
    subst (λ (n : Node). n.place < length (all_kept g.O.Object.meaning c.args.explored.now.seen)) here (c.requires c.loop-at.at node (slice_get_within keys c.loop-at.at node c.index-node.ensures))

pub loop-at-preserved : goal.loop-at-preserved
loop-at-preserved g c =
    let meaning = g.O.Object.meaning in
    let found = all_kept meaning c.args.explored.now.seen in
    let keys = c.args.front.now.layer.keys in
    let node = c.index-node.result.now in
    let state = c.state-state.result in
    let here = get_or_from_slice_get keys c.loop-at.at node node c.index-node.ensures in
    both_more Some (λ (n : Node). state_at found n.place) (map (seen_in meaning) c.loop-at.states.items) keys c.loop-at.at node
    (slice_get_within keys c.loop-at.at node c.index-node.ensures) c.loop-at.invariant (meaning state.now)
    (sym (ap (λ (n : Node). state_at found n.place) here ∙ c.state-state.ensures)) (map (seen_in meaning) c.push.new.self.items)
    (ap (map (seen_in meaning)) c.in_ok-push.ensures.items ∙ map-append (seen_in meaning) c.loop-at.states.items (state ∷ []))
