use Rattle.std.proofs.Common.{◌≡◌, ◌∙◌, ◌++◌, ◌==◌, List, [], rules, tests, arith, ap, append-nil, length, map, sym}
use Rattle.std.specs.List.{flat_map}
use Rattle.std.proofs.lemmas.Iterator.Consumers.{YieldsList-at, YieldsList-turn, YieldsList-end}
use Rattle.std.proofs.lemmas.Iterator.Splits.{YieldsList-from_slice_split}
use Rattle.std.proofs.lemmas.List.{length_push, map-append, take_all}
use Rattle.ob_text_words.specs.Words.{Word, lines, words}
use Rattle.ob_text_words.specs.Schedule.{is_comment, line_items}
use Rattle.ob_text_words.proofs.LineItems.{lines_more, said, silent}
use Rattle.ob_text_words.proofs.schedule_texts.item_words.Goals as goal

pub loop-line-preserved-in-Continue-branch-2 : goal.loop-line-preserved-in-Continue-branch-2
loop-line-preserved-in-Continue-branch-2 c =
    let turn =
    YieldsList-turn (YieldsList-at c.into_iter-line-iterator.ensures.into_iter_gives
    (YieldsList-from_slice_split _ (λ b. b == 10) c.args.text.now c.split-line-items.ensures.rest c.split-line-items.ensures.done
    c.split-line-items.ensures.closure (λ x b q k. search (rules, tests))))
    c.loop-line.yielded _ c.loop-line.yielded_by _ _ c.in-Some.line c.in-Some.is c.next.ensures.steps in
    let line = c.in-Some.line.now in
    let is : c.is_comment.result ≡ is_comment (words line) = rw (c.deref.ensures.value, c.in_ok-put_words.ensures) at c.is_comment.ensures in
    let own : map (λ w. w.now) c.deref-then-not-is_comment.result.now ≡ line_items line =
    ap (map (λ w. w.now)) c.deref-then-not-is_comment.ensures.value ∙ c.in_ok-put_words.ensures
    ∙ sym (said line (sym is ∙ c.if-not-is_comment.true)) in
    rw (length_push, c.in_ok-extend_from_slice.ensures.items, map-append, own)
    (lines_more (lines c.args.text.now) (length c.loop-line.yielded) line _ turn.0 turn.1 c.loop-line.invariant)

pub loop-line-preserved : goal.loop-line-preserved
loop-line-preserved c =
    let turn =
    YieldsList-turn (YieldsList-at c.into_iter-line-iterator.ensures.into_iter_gives
    (YieldsList-from_slice_split _ (λ b. b == 10) c.args.text.now c.split-line-items.ensures.rest c.split-line-items.ensures.done
    c.split-line-items.ensures.closure (λ x b q k. search (rules, tests))))
    c.loop-line.yielded _ c.loop-line.yielded_by _ _ c.in-Some.line c.in-Some.is c.next.ensures.steps in
    let line = c.in-Some.line.now in
    let so_far = map (λ w. w.now) c.loop-line.items.items in
    let is : c.is_comment.result ≡ is_comment (words line) = rw (c.deref.ensures.value, c.in_ok-put_words.ensures) at c.is_comment.ensures in
    let none : line_items line ≡ [] = silent line (sym is ∙ c.if-not-is_comment.false) in
    rw length_push
    (sym (append-nil so_far) ∙ sym (ap (λ (ws : List Word). so_far ++ ws) none)
    ∙ lines_more (lines c.args.text.now) (length c.loop-line.yielded) line so_far turn.0 turn.1 c.loop-line.invariant)

pub returns : goal.returns
returns c =
    let end =
    YieldsList-end (YieldsList-at c.into_iter-line-iterator.ensures.into_iter_gives
    (YieldsList-from_slice_split _ (λ b. b == 10) c.args.text.now c.split-line-items.ensures.rest c.split-line-items.ensures.done
    c.split-line-items.ensures.closure (λ x b q k. search (rules, tests))))
    c.loop-line.yielded _ c.loop-line.yielded_by _ _ c.in-None.is c.next.ensures.steps in
    c.loop-line.invariant ∙ ap (flat_map line_items) (take_all (length c.loop-line.yielded) (lines c.args.text.now) (omega (arith, end.1)))
