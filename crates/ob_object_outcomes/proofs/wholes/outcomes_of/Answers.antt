-- With the states of the places.
use Rattle.std.proofs.Common.{◌∙◌, [], ap, get_or, length, map}
use Rattle.std.proofs.lemmas.Option.{slice_get_within}
use Rattle.ob_object_search.specs.Kept.{kept_in}
use Rattle.ob_store.specs.View.{state_of}
use Rattle.wf_history.specs.View.{kept_reply}
use Rattle.wf_outcomes.proofs.TellingOrders.{state_there}
use Rattle.wf_outcomes.specs.Explored.{all_kept, state_at}
use Rattle.wf_whole_outcomes.specs.View.{seen_in, wholes_from}
use Rattle.wf_whole_outcomes.specs.declared.nodes.Node.{Node}
use Rattle.ob_object_outcomes.proofs.WholeStates.{numbered_same}
use Rattle.ob_object_outcomes.proofs.wholes.outcomes_of.Goals as goal

pub returns : goal.returns
returns c =
    let told = c.args.told in
    let found = all_kept kept_in c.args.explored.now.seen in
    let own = map state_of c.in_ok-states.states.items in
    ap (wholes_from (map kept_reply told.replies.items) told.processes told.front 0)
    (ap (map (λ number. get_or own number [])) c.in_ok-numbers.ensures
    ∙ numbered_same (state_at found) (λ (node : Node). node.place) c.first_place-first.result (length found) own [] c.in_ok-states.ensures
    (λ place state at. let there = state_there found place state at in slice_get_within found place there.0 there.1) told.front.layer.keys (map (seen_in kept_in) told.states.items)
    c.first_place-first.ensures c.requires)
