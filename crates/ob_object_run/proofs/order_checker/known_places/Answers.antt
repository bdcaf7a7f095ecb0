-- An id without a place, or seen before, is unknown; any other one has its places.
use Rattle.std.proofs.Common.{List, ◌↔◌, subst, ap, refl, sym, take, map, length, get_or, arith, ◌<◌, ◌≤◌, suc, [], ◌∷◌, ◌∙◌, add-one, inr}
use Rattle.std.proofs.lemmas.List.{map-append, take_all}
use Rattle.std.proofs.lemmas.Option.{slice_get-get_or}
use Rattle.std.proofs.lemmas.Bool.{false≢true}
use Rattle.std.specs.Option.{is_some}
use Rattle.std.specs.Prelude.{IsSome, Contains}
use Rattle.ob_object_run.proofs.Noting.{names_more}
use Rattle.ob_object_run.proofs.Placing.{begun_at, unknown_here, known_here, placed_more, nowhere_more, nowhere_all}
use Rattle.wf_history.proofs.Positions.{take_next}
use Rattle.ob_object_run.proofs.order_checker.known_places.Goals as goal
use Rattle.ob_object_run.specs.OrderFaults.{IsUnknown}
use Rattle.ob_object_run.specs.Noted.{noted_in}
use Rattle.wf_history.specs.View.{event_of}
use Rattle.wf_history.specs.declared.event.CallId.{CallId}
use Rattle.ob_object_run.specs.PlacedCalls.{placed_all, placed_at}

abbrev default : CallId
default = record { process = 0; number = 0 }

pub returns-in_default-clause-fault : goal.returns-in_default-clause-fault
returns-in_default-clause-fault c =
    let i = c.loop-id.id-index in
    let order = c.args.order.now in
    let history = map event_of c.args.events.now in
    let places = c.in_ok-places.places in
    let id = get_or order i default in
    let lt : i < length order = omega arith in
    record {
      place = i;
      here = slice_get-get_or order i default lt;
      holds = unknown_here history (noted_in places.begins) (noted_in places.ends) c.in_ok-places.ensures order i id c.in_default.ensures;
      earlier = c.loop-id.invariant.known;
    }

pub returns-then-is_some-clause-fault : goal.returns-then-is_some-clause-fault
returns-then-is_some-clause-fault c =
    let i = c.loop-id.id-index in
    let order = c.args.order.now in
    let id = get_or order i default in
    let lt : i < length order = omega arith in
    record {
      place = i;
      here = slice_get-get_or order i default lt;
      holds = inr ((c.loop-id.invariant.seen id).0 (sym (ap is_some c.get-in-loop-id.ensures) ∙ sym c.is_some.ensures ∙ c.if-is_some.true));
      earlier = c.loop-id.invariant.known;
    }

pub loop-id-preserved : goal.loop-id-preserved
loop-id-preserved c =
    let i = c.loop-id.id-index in
    let order = c.args.order.now in
    let history = map event_of c.args.events.now in
    let places = c.in_ok-places.places in
    let id = get_or order i default in
    let lt : i < length order = omega arith in
    let here = slice_get-get_or order i default lt in
    let next = take_next order i id here in
    record {
      placed = rw add-one
          (placed_more history (noted_in places.begins) (noted_in places.ends) c.in_ok-places.ensures (placed_all places (take i order)) (placed_all places (take (suc i) order)) (placed_at places id)
          (ap (placed_all places) next ∙ map-append (placed_at places) (take i order) (id ∷ [])) c.loop-id.invariant.placed (begun_at (noted_in places.begins id) c.in-Some.begin c.in-Some.ensures) refl);
      seen = rw (add-one, next)
          (names_more (noted_in c.loop-id.seen) (noted_in c.note.new.self) (take i order) id c.in-Some.begin c.loop-id.invariant.seen c.in_ok-note.ensures);
      known = nowhere_more (IsUnknown history order) order i id here c.loop-id.invariant.known
          (known_here history (noted_in places.begins) (noted_in places.ends) c.in_ok-places.ensures order i c.in-Some.begin id c.in-Some.ensures
          (λ before. false≢true (sym c.if-is_some.false ∙ c.is_some.ensures ∙ ap is_some c.get-in-loop-id.ensures ∙ (c.loop-id.invariant.seen id).1 before)));
    }

pub returns-clause-placed : goal.returns-clause-placed
returns-clause-placed c =
    let all : length c.args.order.now ≤ c.loop-id.id-index = omega arith in
    rw take_all at c.loop-id.invariant.placed

pub returns-clause-known : goal.returns-clause-known
returns-clause-known c =
    let i = c.loop-id.id-index in
    let order = c.args.order.now in
    nowhere_all (IsUnknown (map event_of c.args.events.now) order) order i (omega arith) c.loop-id.invariant.known

pub returns-clause-listed : goal.returns-clause-listed
returns-clause-listed c =
    let i = c.loop-id.id-index in
    let order = c.args.order.now in
    let whole = take_all i order (omega arith) in
    λ (q : CallId). subst (λ (ids : List CallId). IsSome (noted_in c.loop-id.seen q) ↔ Contains ids q) whole (c.loop-id.invariant.seen q)
