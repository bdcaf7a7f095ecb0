-- One state more.
use Rattle.std.proofs.Common.{◌∙◌, ◌∷◌, [], List, Some, ap, arith, length, map, sym}
use Rattle.std.proofs.lemmas.List.{length-append, map-append}
use Rattle.ob_meaning.specs.ByPositionStore.{Activation}
use Rattle.ob_object_search.specs.Kept.{kept_in}
use Rattle.ob_store.specs.View.{state_of}
use Rattle.ob_store.specs.declared.state.State.{State}
use Rattle.wf_outcomes.specs.Explored.{all_kept, state_at}
use Rattle.ob_object_outcomes.proofs.WholeStates.{from_more}
use Rattle.ob_object_outcomes.proofs.wholes.states_from.Goals as goal

pub loop-place-init : goal.loop-place-init
loop-place-init c = record {
  low = omega arith;
  size = ap (λ (l : List State). length (map state_of l)) c.new-own.ensures.items ∙ omega arith;
  so_far = λ k less. absurd (omega (arith, less));
}

pub loop-place-preserved : goal.loop-place-preserved
loop-place-preserved c =
    let i = c.loop-place.invariant in
    let own = map state_of c.loop-place.own.items in
    let state = state_of c.in_ok-state.state in
    let pushed = ap (map state_of) c.in_ok-push.ensures.items ∙ map-append state_of c.loop-place.own.items (c.in_ok-state.state ∷ []) in
    let longer = ap (λ (l : List Activation). length l) pushed ∙ length-append own (state ∷ []) in
    let low = i.low in
    let size = i.size in
    record {
      low = omega (arith, low);
      size = omega (arith, longer, low, size);
      so_far = from_more (state_at (all_kept kept_in c.args.explored.now.seen)) c.args.first c.loop-place.place own low size i.so_far state
          (c.state-kept.ensures ∙ ap Some (sym c.in_ok-state.ensures)) (map state_of c.push.new.self.items) pushed;
    }

pub returns : goal.returns
returns c = λ k less. c.loop-place.invariant.so_far k (let end = c.loop-place-test.false in let count = c.len-place-end.ensures in omega (arith, end, count, less))
