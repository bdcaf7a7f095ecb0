use Rattle.std.proofs.Common.{◌∙◌, ◌==◌, rules, tests, arith, length, map, sym}
use Rattle.std.proofs.lemmas.Iterator.Consumers.{YieldsList-at, YieldsList-turn, YieldsList-end}
use Rattle.std.proofs.lemmas.Iterator.Splits.{YieldsList-from_slice_split}
use Rattle.std.proofs.lemmas.List.{length_push, length-map}
use Rattle.ob_fault_lines.specs.Counts.{makes_call}
use Rattle.ob_text_words.specs.Words.{lines, words}
use Rattle.ob_fault_lines.proofs.Counted.{all_counted, counts_calls, line_read, none_more, one_more}
use Rattle.ob_fault_lines.proofs.call_counts.script_calls.Goals as goal

pub loop-line-preserved-then-makes_call : goal.loop-line-preserved-then-makes_call
loop-line-preserved-then-makes_call c =
    let turn =
    YieldsList-turn (YieldsList-at c.into_iter-line-iterator.ensures.into_iter_gives
    (YieldsList-from_slice_split _ (λ b. b == 10) c.args.script.now c.split-line-items.ensures.rest c.split-line-items.ensures.done
    c.split-line-items.ensures.closure (λ x b q k. search (rules, tests))))
    c.loop-line.yielded _ c.loop-line.yielded_by _ _ c.in-Some.line c.in-Some.is c.next.ensures.steps in
    let at = line_read (lines c.args.script.now) (length c.loop-line.yielded) c.in-Some.line.now turn.0 turn.1 in
    rw length_push
    (one_more makes_call (map words (lines c.args.script.now)) (length c.loop-line.yielded) (words c.in-Some.line.now) at.0 at.1 c.loop-line.count c.loop-line.invariant
    (sym c.makes_call.ensures ∙ c.if-makes_call.true))

pub loop-line-preserved : goal.loop-line-preserved
loop-line-preserved c =
    let turn =
    YieldsList-turn (YieldsList-at c.into_iter-line-iterator.ensures.into_iter_gives
    (YieldsList-from_slice_split _ (λ b. b == 10) c.args.script.now c.split-line-items.ensures.rest c.split-line-items.ensures.done
    c.split-line-items.ensures.closure (λ x b q k. search (rules, tests))))
    c.loop-line.yielded _ c.loop-line.yielded_by _ _ c.in-Some.line c.in-Some.is c.next.ensures.steps in
    let at = line_read (lines c.args.script.now) (length c.loop-line.yielded) c.in-Some.line.now turn.0 turn.1 in
    rw length_push
    (none_more makes_call (map words (lines c.args.script.now)) (length c.loop-line.yielded) (words c.in-Some.line.now) at.0 at.1 c.loop-line.count c.loop-line.invariant
    (sym c.makes_call.ensures ∙ c.if-makes_call.false))

pub returns-clause-lines : goal.returns-clause-lines
returns-clause-lines c =
    let end =
    YieldsList-end (YieldsList-at c.into_iter-line-iterator.ensures.into_iter_gives
    (YieldsList-from_slice_split _ (λ b. b == 10) c.args.script.now c.split-line-items.ensures.rest c.split-line-items.ensures.done
    c.split-line-items.ensures.closure (λ x b q k. search (rules, tests))))
    c.loop-line.yielded _ c.loop-line.yielded_by _ _ c.in-None.is c.next.ensures.steps in
    all_counted makes_call (map words (lines c.args.script.now)) (length c.loop-line.yielded) c.loop-line.count
    (omega (arith, end.1, length-map (lines c.args.script.now) words)) c.loop-line.invariant

pub returns-clause-calls : goal.returns-clause-calls
returns-clause-calls c =
    let end =
    YieldsList-end (YieldsList-at c.into_iter-line-iterator.ensures.into_iter_gives
    (YieldsList-from_slice_split _ (λ b. b == 10) c.args.script.now c.split-line-items.ensures.rest c.split-line-items.ensures.done
    c.split-line-items.ensures.closure (λ x b q k. search (rules, tests))))
    c.loop-line.yielded _ c.loop-line.yielded_by _ _ c.in-None.is c.next.ensures.steps in
    counts_calls c.args.script.now c.loop-line.count (all_counted makes_call (map words (lines c.args.script.now)) (length c.loop-line.yielded) c.loop-line.count
    (omega (arith, end.1, length-map (lines c.args.script.now) words)) c.loop-line.invariant)
