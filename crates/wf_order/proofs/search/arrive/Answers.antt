-- By the limit of the configuration, and by what is kept.
use Rattle.std.proofs.Common.{◌≡◌, refl, sym, ap, ◌∙◌, subst, ◌<◌, ◌∷◌, [], Bool, true, false, not, List, length, map, arith, inl, inr}
use Rattle.std.proofs.lemmas.List.{length-map, map-append}
use Rattle.std.specs.List.{Contains}
use Rattle.wf_order.specs.declared.search.Frame.{Frame}
use Rattle.wf_order.specs.declared.seen.Found.{Found}
use Rattle.wf_order.specs.Search.{found_in}
use Rattle.wf_order.proofs.Keeping.{found_eq, found_exact, keys_kept, keys_pushed, seen_among, worded_push}
use Rattle.wf_order.proofs.Limits.{limit_not_done}
use Rattle.wf_order.proofs.search.arrive.Goals as goal

from_not : (x : Bool) → false ≡ not x → x ≡ true
from_not true e = refl
from_not false e = absurd (cc)

to_not : (x : Bool) → true ≡ not x → x ≡ false
to_not false e = refl
to_not true e = absurd (cc)

pub returns-then-not-branch-clause-arrival : goal.returns-then-not-branch-clause-arrival
returns-then-not-branch-clause-arrival g c = λ history are limit.
    let view = found_in g.O.Object.meaning in
    let there = c.args.there in
    let keys = c.args.seen.now.keys in
    let effect = g.O.Object.effect c.args.task.now.object.now in
    let few = c.if-limit-task.false in
    let size = are.events in
    let less : c.args.limit < length history = omega (arith, few, size) in
    let has = from_not _ (sym c.if-not-branch.true ∙ c.in_ok-insert.ensures.added) in (
      limit_not_done history there.counts.items c.args.limit limit effect (g.O.Object.meaning there.state) less,
      inl (
        seen_among g.O.Object.meaning g.O.Object.words_of (λ a b. g.met.O.Object.told_apart a b) _ found_exact keys there c.requires.worded c.requires.words has,
        ap (map view) (c.in_ok-insert.ensures.keys ∙ keys_kept found_eq keys there has),
        refl,
      ),
    )

pub returns-clause-arrival : goal.returns-clause-arrival
returns-clause-arrival g c = λ history are limit.
    let view = found_in g.O.Object.meaning in
    let there = c.args.there in
    let keys = c.args.seen.now.keys in
    let effect = g.O.Object.effect c.args.task.now.object.now in
    let few = c.if-limit-task.false in
    let size = are.events in
    let less : c.args.limit < length history = omega (arith, few, size) in
    let new = to_not _ (sym c.if-not-branch.false ∙ c.in_ok-insert.ensures.added) in
    let frame : Frame = record { place = c.len-place.result; next = 0; id = c.default-id.result; limit = c.args.limit } in (
      limit_not_done history there.counts.items c.args.limit limit effect (g.O.Object.meaning there.state) less,
      inr (
        ap (map view) (c.in_ok-insert.ensures.keys ∙ keys_pushed found_eq keys there new) ∙ map-append view keys (there ∷ []),
        frame,
        c.in_ok-push.ensures.items,
        c.len-place.ensures.len ∙ sym (length-map keys view),
        refl,
        limit,
      ),
    )

pub returns-clause-worded : goal.returns-clause-worded
returns-clause-worded g c = λ f in_new.
    let there = c.args.there in
    let keys = c.args.seen.now.keys in
    let new = to_not _ (sym c.if-not-branch.false ∙ c.in_ok-insert.ensures.added) in
    worded_push g.O.Object.meaning g.O.Object.words_of (λ a b. g.met.O.Object.told_apart a b) keys there c.requires.worded c.requires.words f
    (subst (λ (l : List (Found g.row.O-State.Denot)). Contains l f) (c.in_ok-insert.ensures.keys ∙ keys_pushed found_eq keys there new) in_new)
