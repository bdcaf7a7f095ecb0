-- Each final state is told.
use Rattle.std.proofs.Common.{◌≡◌, ℕ, sym, subst, ap, ◌∙◌, ◌<◌, List, ◌∷◌, [], length, get_or, map, Some, arith}
use Rattle.std.proofs.Math.Bridge.{le_prop}
use Rattle.std.proofs.Math.Logic.{∥∥₁_map, ∥∥₁_elim}
use Rattle.std.proofs.lemmas.List.{get_or_read, map-append}
use Rattle.std.proofs.lemmas.Option.{slice_get-get_or, slice_get_within}
use Rattle.std.specs.List.{slice_get}
use Rattle.wf_outcomes.specs.Explored.{all_kept, calls_in}
use Rattle.wf_outcomes.specs.Outcomes.{LeadsToPlace}
use Rattle.wf_outcomes.proofs.Matching.{match_more, match_none}
use Rattle.wf_outcomes.proofs.TellingOrders.{TellsEnd, ends_are, state_there}
use Rattle.wf_outcomes.specs.View.{end_in}
use Rattle.wf_outcomes.specs.declared.end_states.ToldEnd.{ToldEnd}
use Rattle.wf_outcomes.proofs.end_states.ends_told.Goals as goal

-- the place that was read is one of the places
here : (places : List ℕ) (i place : ℕ) → i < length places → get_or places i place ≡ place → slice_get places i ≡ Some place
here places i place within is = slice_get-get_or places i place within ∙ ap Some is

pub state-state-requires : goal.state-state-requires
state-state-requires g c =
    let kept = all_kept g.O.Object.meaning c.args.explored.now.seen in
    let places = c.in_ok-places.places.items in
    let place = c.index.result.now in
    let count : c.len-at-end.result ≡ length places = c.len-at-end.ensures ∙ c.in_ok-places.places.ok.0 in
    let less : c.loop-at.at < c.len-at-end.result = c.loop-at-test.true in
    let within : c.loop-at.at < length places = omega (arith, count, less) in
    let at = here places c.loop-at.at place within (sym c.index.ensures) in
    ∥∥₁_elim c.in_ok-places.ensures le_prop (λ a. let f = a.final c.loop-at.at place at in slice_get_within kept place f.0 f.1)

pub path_to-requires : goal.path_to-requires
path_to-requires g c =
    let kept = all_kept g.O.Object.meaning c.args.explored.now.seen in
    let places = c.in_ok-places.places.items in
    let place = c.index-in-loop-at.result.now in
    let count : c.len-at-end.result ≡ length places = c.len-at-end.ensures ∙ c.in_ok-places.places.ok.0 in
    let less : c.loop-at.at < c.len-at-end.result = c.loop-at-test.true in
    let within : c.loop-at.at < length places = omega (arith, count, less) in
    let at = here places c.loop-at.at place within (sym c.index-in-loop-at.ensures) in
    ∥∥₁_elim c.in_ok-places.ensures le_prop (λ a. let f = a.final c.loop-at.at place at in slice_get_within kept place f.0 f.1)

pub loop-at-init : goal.loop-at-init
loop-at-init g c =
    let explored = c.args.explored.now in
    let object = explored.object.now in
    match_none (TellsEnd (g.O.Object.effect object) (calls_in explored.scripts.now) (g.O.Object.opening object) (all_kept g.O.Object.meaning explored.seen)) c.in_ok-places.places.items
    (map (end_in g.O.Object.meaning) c.new-told.result.items) (ap (map (end_in g.O.Object.meaning)) c.new-told.ensures.items)

pub loop-at-preserved : goal.loop-at-preserved
loop-at-preserved g c =
    let explored = c.args.explored.now in
    let object = explored.object.now in
    let view = end_in g.O.Object.meaning in
    let kept = all_kept g.O.Object.meaning explored.seen in
    let places = c.in_ok-places.places.items in
    let place = c.index.result.now in
    let again = c.index-in-loop-at.result.now in
    let count : c.len-at-end.result ≡ length places = c.len-at-end.ensures ∙ c.in_ok-places.places.ok.0 in
    let less : c.loop-at.at < c.len-at-end.result = c.loop-at-test.true in
    let within : c.loop-at.at < length places = omega (arith, count, less) in
    let read = get_or_read places c.loop-at.at place within c.index.ensures 0 in
    let read_again = get_or_read places c.loop-at.at again within c.index-in-loop-at.ensures 0 in
    let at = here places c.loop-at.at place within (sym c.index.ensures) in
    let s = state_there kept place (g.O.Object.meaning c.state-state.result.now) c.state-state.ensures in
    let led = subst (λ (k : ℕ). ∥ LeadsToPlace (g.O.Object.effect object) (calls_in explored.scripts.now) (g.O.Object.opening object) kept c.in_ok-order.order.items k ∥₁)
    (read_again ∙ sym read) c.in_ok-order.ensures in
    let one : ToldEnd g.row.O-State.Denot = record { state = c.state-state.result; order = c.in_ok-order.order } in
    match_more (TellsEnd (g.O.Object.effect object) (calls_in explored.scripts.now) (g.O.Object.opening object) kept) places (map view c.loop-at.told.items) c.loop-at.at c.loop-at.invariant place at (view one)
    (record { it = s.0; there = s.1; same = s.2; leads = led })
    (map view c.push.new.self.items) (ap (map view) c.in_ok-push.ensures.items ∙ map-append view c.loop-at.told.items (one ∷ []))

pub returns : goal.returns
returns g c =
    let explored = c.args.explored.now in
    let object = explored.object.now in
    let count : c.len-at-end.result ≡ length c.in_ok-places.places.items = c.len-at-end.ensures ∙ c.in_ok-places.places.ok.0 in
    let end = c.loop-at-test.false in
    ∥∥₁_map c.in_ok-places.ensures (λ a.
    ends_are (g.O.Object.effect object) (calls_in explored.scripts.now) (g.O.Object.opening object) (all_kept g.O.Object.meaning explored.seen)
    c.in_ok-places.places.items a (map (end_in g.O.Object.meaning) c.loop-at.told.items) c.loop-at.at c.loop-at.invariant (omega (arith, count, end)))
