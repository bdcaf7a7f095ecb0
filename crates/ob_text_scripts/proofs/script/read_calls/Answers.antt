use Rattle.std.proofs.Common.{◌≤◌, ◌+◌, rules, tests, arith, ◌==◌, length, map, ap}
use Rattle.std.proofs.lemmas.Iterator.Consumers.{YieldsList-at, YieldsList-from_enumerate, YieldsList-turn, YieldsList-end}
use Rattle.std.proofs.lemmas.Iterator.Splits.{YieldsList-from_slice_split}
use Rattle.std.proofs.lemmas.List.{length_push, length-map, map-append, take_all}
use Rattle.std.proofs.lemmas.List.FromFn.{length-enumerate_from}
use Rattle.std.proofs.lemmas.Result.{err_from_is_err_and}
use Rattle.ob_text_words.specs.Words.{lines, words}
use Rattle.ob_text_scripts.specs.Script.{none}
use Rattle.ob_text_words.proofs.Reading.{line_at}
use Rattle.ob_text_scripts.proofs.ScriptReading.{AreLines-skip, AreLines-more, fault_here}
use Rattle.ob_text_scripts.proofs.script.read_calls.Goals as goal

pub loop-index-init : goal.loop-index-init
loop-index-init c = rw c.new-calls.ensures.items none

pub returns-in_err-call-clause-fault : goal.returns-in_err-call-clause-fault
returns-in_err-call-clause-fault c =
    let turn =
    YieldsList-turn (YieldsList-at c.into_iter-index-iterator.ensures.into_iter_gives (YieldsList-from_enumerate (YieldsList-at c.enumerate-index-items.ensures.source
    (YieldsList-from_slice_split _ (λ b. b == 10) c.args.text.now c.split.ensures.rest c.split.ensures.done c.split.ensures.closure
    (λ x b q k. search (rules, tests)))) c.enumerate-index-items.ensures.count))
    c.loop-index.yielded _ c.loop-index.yielded_by _ _ (c.in-Some.index, c.in-Some.line) c.in-Some.is c.next.ensures.steps in
    let at = line_at (lines c.args.text.now) (length c.loop-index.yielded) c.in-Some.index c.in-Some.line.now turn.0 turn.1 in
    let p = err_from_is_err_and c.from_residual-in_err-call.result c.from_residual-in_err-call.ensures.1 in
    rw (p.1, p.2)
    (fault_here _ c.args.processes c.args.text.now (length c.loop-index.yielded) (words c.in-Some.line.now) _ at.0 at.2 c.loop-index.invariant
    (rw (c.deref.ensures.value, c.in_ok-put_words.ensures) at c.in_err-call.ensures.says)
    (c.in-Some.index + 1) _ (ap (λ i. i + 1) at.1)
    (rw (c.deref.ensures.value, c.in_ok-put_words.ensures) at c.in_err-call.ensures.fault))

pub loop-index-preserved-in-Continue-branch-4 : goal.loop-index-preserved-in-Continue-branch-4
loop-index-preserved-in-Continue-branch-4 c =
    let turn =
    YieldsList-turn (YieldsList-at c.into_iter-index-iterator.ensures.into_iter_gives (YieldsList-from_enumerate (YieldsList-at c.enumerate-index-items.ensures.source
    (YieldsList-from_slice_split _ (λ b. b == 10) c.args.text.now c.split.ensures.rest c.split.ensures.done c.split.ensures.closure
    (λ x b q k. search (rules, tests)))) c.enumerate-index-items.ensures.count))
    c.loop-index.yielded _ c.loop-index.yielded_by _ _ (c.in-Some.index, c.in-Some.line) c.in-Some.is c.next.ensures.steps in
    let at = line_at (lines c.args.text.now) (length c.loop-index.yielded) c.in-Some.index c.in-Some.line.now turn.0 turn.1 in
    let made = rw c.in-Some-2.is at c.in_ok-call.ensures.call in
    rw (length_push, c.in_ok-push.ensures.items, map-append)
    (AreLines-more _ c.args.processes _ _ (words c.in-Some.line.now) _ at.0 at.2 c.loop-index.invariant _
    (rw (c.deref.ensures.value, c.in_ok-put_words.ensures) at made))

pub loop-index-preserved : goal.loop-index-preserved
loop-index-preserved c =
    let turn =
    YieldsList-turn (YieldsList-at c.into_iter-index-iterator.ensures.into_iter_gives (YieldsList-from_enumerate (YieldsList-at c.enumerate-index-items.ensures.source
    (YieldsList-from_slice_split _ (λ b. b == 10) c.args.text.now c.split.ensures.rest c.split.ensures.done c.split.ensures.closure
    (λ x b q k. search (rules, tests)))) c.enumerate-index-items.ensures.count))
    c.loop-index.yielded _ c.loop-index.yielded_by _ _ (c.in-Some.index, c.in-Some.line) c.in-Some.is c.next.ensures.steps in
    let at = line_at (lines c.args.text.now) (length c.loop-index.yielded) c.in-Some.index c.in-Some.line.now turn.0 turn.1 in
    let skipped = rw c.in_default.is at c.in_ok-call.ensures.call in
    rw length_push
    (AreLines-skip _ c.args.processes _ _ (words c.in-Some.line.now) _ at.0 at.2 c.loop-index.invariant
    (rw (c.deref.ensures.value, c.in_ok-put_words.ensures) at skipped))

pub returns-clause-script : goal.returns-clause-script
returns-clause-script c =
    let end =
    YieldsList-end (YieldsList-at c.into_iter-index-iterator.ensures.into_iter_gives (YieldsList-from_enumerate (YieldsList-at c.enumerate-index-items.ensures.source
    (YieldsList-from_slice_split _ (λ b. b == 10) c.args.text.now c.split.ensures.rest c.split.ensures.done c.split.ensures.closure
    (λ x b q k. search (rules, tests)))) c.enumerate-index-items.ensures.count))
    c.loop-index.yielded _ c.loop-index.yielded_by _ _ c.in-None.is c.next.ensures.steps in
    let all : length (map words (lines c.args.text.now)) ≤ length c.loop-index.yielded =
    rw (length-map, ← length-enumerate_from 0) (omega (arith, end.1)) in
    rw take_all at c.loop-index.invariant
