use Rattle.std.proofs.Common.{◌≡◌, ◌∙◌, ◌≤◌, ◌==◌, ℕ, rules, tests, arith, ap, length, map, subst, sym}
use Rattle.std.proofs.lemmas.Iterator.Consumers.{YieldsList-at, YieldsList-from_enumerate, YieldsList-turn, YieldsList-end}
use Rattle.std.proofs.lemmas.Iterator.Splits.{YieldsList-from_slice_split}
use Rattle.std.proofs.lemmas.List.{length_push}
use Rattle.std.proofs.lemmas.List.FromFn.{length-enumerate_from}
use Rattle.ob_text_words.specs.Words.{lines}
use Rattle.ob_text_words.specs.Schedule.{line_items}
use Rattle.ob_explained.specs.ItemMarks as Marks
use Rattle.ob_explained.specs.ItemPlaces as Places
use Rattle.ob_explained.specs.ItemPlaces.{IsItemPlace}
use Rattle.ob_explained.proofs.ItemPlaces.{item_here, line_at, none_left, passed_more}
use Rattle.ob_explained.proofs.item_place.item_place.Goals as goal

pub returns-then-left-items-clause-place : goal.returns-then-left-items-clause-place
returns-then-left-items-clause-place c =
    let turn =
    YieldsList-turn (YieldsList-at c.into_iter-index-iterator.ensures.into_iter_gives (YieldsList-from_enumerate (YieldsList-at c.enumerate-index-items.ensures.source
    (YieldsList-from_slice_split _ (λ b. b == 10) c.args.text.now c.split.ensures.rest c.split.ensures.done c.split.ensures.closure
    (λ x b q k. search (rules, tests)))) c.enumerate-index-items.ensures.count))
    c.loop-index.yielded _ c.loop-index.yielded_by _ _ (c.in-Some.index, c.in-Some.line) c.in-Some.is c.next.ensures.steps in
    let line = c.in-Some.line.now in
    let at = line_at (lines c.args.text.now) (length c.loop-index.yielded) c.in-Some.index line turn.0 turn.1 in
    let own : c.items_of-items.result ≡ length (line_items line) =
    c.items_of-items.ensures line (ap (map (λ w. w.now)) c.deref.ensures.value ∙ c.in_ok-put_words.ensures) in
    subst (λ (k : ℕ). IsItemPlace c.args.text.now c.args.number k) (sym c.place_of_word.ensures.place)
    (Places.item
    (item_here c.args.text.now c.args.number (length c.loop-index.yielded) c.loop-index.left line at.0 at.2 c.loop-index.invariant c.in-Some.index at.1
    (rw own at c.if-left-items.true)))

pub returns-then-left-items-clause-marked : goal.returns-then-left-items-clause-marked
returns-then-left-items-clause-marked c =
    let turn =
    YieldsList-turn (YieldsList-at c.into_iter-index-iterator.ensures.into_iter_gives (YieldsList-from_enumerate (YieldsList-at c.enumerate-index-items.ensures.source
    (YieldsList-from_slice_split _ (λ b. b == 10) c.args.text.now c.split.ensures.rest c.split.ensures.done c.split.ensures.closure
    (λ x b q k. search (rules, tests)))) c.enumerate-index-items.ensures.count))
    c.loop-index.yielded _ c.loop-index.yielded_by _ _ (c.in-Some.index, c.in-Some.line) c.in-Some.is c.next.ensures.steps in
    let line = c.in-Some.line.now in
    let at = line_at (lines c.args.text.now) (length c.loop-index.yielded) c.in-Some.index line turn.0 turn.1 in
    let own : c.items_of-items.result ≡ length (line_items line) =
    c.items_of-items.ensures line (ap (map (λ w. w.now)) c.deref.ensures.value ∙ c.in_ok-put_words.ensures) in
    Marks.item
    (item_here c.args.text.now c.args.number (length c.loop-index.yielded) c.loop-index.left line at.0 at.2 c.loop-index.invariant c.in-Some.index at.1
    (rw own at c.if-left-items.true))
    c.place_of_word.ensures.marked

pub loop-index-preserved : goal.loop-index-preserved
loop-index-preserved c =
    let turn =
    YieldsList-turn (YieldsList-at c.into_iter-index-iterator.ensures.into_iter_gives (YieldsList-from_enumerate (YieldsList-at c.enumerate-index-items.ensures.source
    (YieldsList-from_slice_split _ (λ b. b == 10) c.args.text.now c.split.ensures.rest c.split.ensures.done c.split.ensures.closure
    (λ x b q k. search (rules, tests)))) c.enumerate-index-items.ensures.count))
    c.loop-index.yielded _ c.loop-index.yielded_by _ _ (c.in-Some.index, c.in-Some.line) c.in-Some.is c.next.ensures.steps in
    let line = c.in-Some.line.now in
    let at = line_at (lines c.args.text.now) (length c.loop-index.yielded) c.in-Some.index line turn.0 turn.1 in
    let own : c.items_of-items.result ≡ length (line_items line) =
    c.items_of-items.ensures line (ap (map (λ w. w.now)) c.deref.ensures.value ∙ c.in_ok-put_words.ensures) in
    rw (length_push, own)
    (passed_more c.args.text.now c.args.number (length c.loop-index.yielded) c.loop-index.left line at.0 at.2 c.loop-index.invariant (rw own at c.if-left-items.false))

pub returns-clause-place : goal.returns-clause-place
returns-clause-place c =
    let end =
    YieldsList-end (YieldsList-at c.into_iter-index-iterator.ensures.into_iter_gives (YieldsList-from_enumerate (YieldsList-at c.enumerate-index-items.ensures.source
    (YieldsList-from_slice_split _ (λ b. b == 10) c.args.text.now c.split.ensures.rest c.split.ensures.done c.split.ensures.closure
    (λ x b q k. search (rules, tests)))) c.enumerate-index-items.ensures.count))
    c.loop-index.yielded _ c.loop-index.yielded_by _ _ c.in-None.is c.next.ensures.steps in
    let past : length (lines c.args.text.now) ≤ length c.loop-index.yielded = rw (← length-enumerate_from 0) (omega (arith, end.1)) in
    Places.none (none_left c.args.text.now c.args.number (length c.loop-index.yielded) c.loop-index.left past c.loop-index.invariant)

pub returns-clause-marked : goal.returns-clause-marked
returns-clause-marked c =
    let end =
    YieldsList-end (YieldsList-at c.into_iter-index-iterator.ensures.into_iter_gives (YieldsList-from_enumerate (YieldsList-at c.enumerate-index-items.ensures.source
    (YieldsList-from_slice_split _ (λ b. b == 10) c.args.text.now c.split.ensures.rest c.split.ensures.done c.split.ensures.closure
    (λ x b q k. search (rules, tests)))) c.enumerate-index-items.ensures.count))
    c.loop-index.yielded _ c.loop-index.yielded_by _ _ c.in-None.is c.next.ensures.steps in
    let past : length (lines c.args.text.now) ≤ length c.loop-index.yielded = rw (← length-enumerate_from 0) (omega (arith, end.1)) in
    Marks.none (none_left c.args.text.now c.args.number (length c.loop-index.yielded) c.loop-index.left past c.loop-index.invariant)
