use Rattle.std.proofs.Common.{◌∙◌, ◌==◌, rules, tests, arith, length, map, sym}
use Rattle.std.proofs.lemmas.Iterator.Consumers.{YieldsList-at, YieldsList-turn, YieldsList-end}
use Rattle.std.proofs.lemmas.Iterator.Splits.{YieldsList-from_slice_split}
use Rattle.std.proofs.lemmas.List.{length_push, length-map}
use Rattle.ob_fault_lines.specs.Counts.{begins_with}
use Rattle.ob_text_words.specs.Words.{lines, words}
use Rattle.ob_fault_lines.proofs.Counted.{all_counted, line_read, none_more, one_more}
use Rattle.ob_fault_lines.proofs.call_counts.lines_with.Goals as goal

pub loop-line-preserved-then-begins_with : goal.loop-line-preserved-then-begins_with
loop-line-preserved-then-begins_with c =
    let turn =
    YieldsList-turn (YieldsList-at c.into_iter-line-iterator.ensures.into_iter_gives
    (YieldsList-from_slice_split _ (λ b. b == 10) c.args.text.now c.split-line-items.ensures.rest c.split-line-items.ensures.done
    c.split-line-items.ensures.closure (λ x b q k. search (rules, tests))))
    c.loop-line.yielded _ c.loop-line.yielded_by _ _ c.in-Some.line c.in-Some.is c.next.ensures.steps in
    let at = line_read (lines c.args.text.now) (length c.loop-line.yielded) c.in-Some.line.now turn.0 turn.1 in
    rw length_push
    (one_more (begins_with c.args.letter) (map words (lines c.args.text.now)) (length c.loop-line.yielded) (words c.in-Some.line.now) at.0 at.1 c.loop-line.count c.loop-line.invariant
    (sym c.begins_with.ensures ∙ c.if-begins_with.true))

pub loop-line-preserved : goal.loop-line-preserved
loop-line-preserved c =
    let turn =
    YieldsList-turn (YieldsList-at c.into_iter-line-iterator.ensures.into_iter_gives
    (YieldsList-from_slice_split _ (λ b. b == 10) c.args.text.now c.split-line-items.ensures.rest c.split-line-items.ensures.done
    c.split-line-items.ensures.closure (λ x b q k. search (rules, tests))))
    c.loop-line.yielded _ c.loop-line.yielded_by _ _ c.in-Some.line c.in-Some.is c.next.ensures.steps in
    let at = line_read (lines c.args.text.now) (length c.loop-line.yielded) c.in-Some.line.now turn.0 turn.1 in
    rw length_push
    (none_more (begins_with c.args.letter) (map words (lines c.args.text.now)) (length c.loop-line.yielded) (words c.in-Some.line.now) at.0 at.1 c.loop-line.count c.loop-line.invariant
    (sym c.begins_with.ensures ∙ c.if-begins_with.false))

pub returns : goal.returns
returns c =
    let end =
    YieldsList-end (YieldsList-at c.into_iter-line-iterator.ensures.into_iter_gives
    (YieldsList-from_slice_split _ (λ b. b == 10) c.args.text.now c.split-line-items.ensures.rest c.split-line-items.ensures.done
    c.split-line-items.ensures.closure (λ x b q k. search (rules, tests))))
    c.loop-line.yielded _ c.loop-line.yielded_by _ _ c.in-None.is c.next.ensures.steps in
    all_counted (begins_with c.args.letter) (map words (lines c.args.text.now)) (length c.loop-line.yielded) c.loop-line.count
    (omega (arith, end.1, length-map (lines c.args.text.now) words)) c.loop-line.invariant
