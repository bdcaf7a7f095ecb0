use Rattle.std.proofs.Common.{◌≤◌, ◌==◌, rules, tests, arith, length, map}
use Rattle.std.proofs.lemmas.Iterator.Consumers.{YieldsList-at, YieldsList-turn, YieldsList-end}
use Rattle.std.proofs.lemmas.Iterator.Splits.{YieldsList-from_slice_split}
use Rattle.std.proofs.lemmas.List.{length_push, length-map, take_all}
use Rattle.ob_text_words.specs.Words.{lines, words}
use Rattle.ob_text_scripts.proofs.Answering.{finished, go_on, go_on_begun, line_words}
use Rattle.ob_text_scripts.proofs.finish.finished_schedule.Goals as goal

pub loop-line-init : goal.loop-line-init
loop-line-init c = go_on_begun (lines c.args.script.now) c.args.schedule.now _ (c.in_ok-text.ensures.items_if_clones_equal (λ x y same. same))

pub loop-line-preserved : goal.loop-line-preserved
loop-line-preserved c =
    let turn =
    YieldsList-turn (YieldsList-at c.into_iter-line-iterator.ensures.into_iter_gives
    (YieldsList-from_slice_split _ (λ b. b == 10) c.args.script.now c.split-line-items.ensures.rest c.split-line-items.ensures.done
    c.split-line-items.ensures.closure (λ x b q k. search (rules, tests))))
    c.loop-line.yielded _ c.loop-line.yielded_by _ _ c.in-Some.line c.in-Some.is c.next.ensures.steps in
    let at = line_words (lines c.args.script.now) (length c.loop-line.yielded) c.in-Some.line.now turn.0 turn.1 in
    let by = rw (c.deref.ensures.value, c.in_ok-put_words.ensures) at c.in_ok-push_answer.ensures in
    rw length_push
    (go_on (lines c.args.script.now) c.args.schedule.now (length c.loop-line.yielded) (words c.in-Some.line.now) _ _ at.0 at.1 by c.loop-line.invariant)

pub returns : goal.returns
returns c =
    let end =
    YieldsList-end (YieldsList-at c.into_iter-line-iterator.ensures.into_iter_gives
    (YieldsList-from_slice_split _ (λ b. b == 10) c.args.script.now c.split-line-items.ensures.rest c.split-line-items.ensures.done
    c.split-line-items.ensures.closure (λ x b q k. search (rules, tests))))
    c.loop-line.yielded _ c.loop-line.yielded_by _ _ c.in-None.is c.next.ensures.steps in
    let all : length (map words (lines c.args.script.now)) ≤ length c.loop-line.yielded = rw length-map (omega (arith, end.1)) in
    finished c.args.schedule.now c.args.script.now c.loop-line.text.items (length c.loop-line.yielded) (take_all _ _ all) c.loop-line.invariant
