use Rattle.std.proofs.Common.{◌≡◌, ◌∙◌, ◌≤◌, ◌+◌, ◌++◌, [], ◌∷◌, rules, tests, arith, ◌==◌, length, map, not, take, ap, sym}
use Rattle.std.proofs.lemmas.Iterator.Consumers.{YieldsList-at, YieldsList-from_enumerate, YieldsList-turn, YieldsList-end}
use Rattle.std.proofs.lemmas.Iterator.Splits.{YieldsList-from_slice_split}
use Rattle.std.proofs.lemmas.List.{length_push, length-map, take_all}
use Rattle.std.proofs.lemmas.List.FromFn.{length-enumerate_from}
use Rattle.ob_text_words.specs.Words.{lines, words}
use Rattle.ob_text_words.proofs.Reading.{line_at}
use Rattle.ob_explained_traps.specs.CallLines.{is_silent, lines_from}
use Rattle.ob_explained_traps.proofs.Lines.{is_quiet, lines_with, lines_without, speaks}
use Rattle.ob_explained_traps.proofs.call_lines.call_lines.Goals as goal
use Rattle.ob_explained_traps.proofs.call_lines.call_lines.Goals.{then-makes_call+in_ok-push, else-makes_call}

pub loop-index-preserved : goal.loop-index-preserved
loop-index-preserved c =
    let turn =
    YieldsList-turn (YieldsList-at c.into_iter-index-iterator.ensures.into_iter_gives (YieldsList-from_enumerate (YieldsList-at c.enumerate-index-items.ensures.source
    (YieldsList-from_slice_split _ (λ b. b == 10) c.args.script.now c.split.ensures.rest c.split.ensures.done c.split.ensures.closure
    (λ x b q k. search (rules, tests)))) c.enumerate-index-items.ensures.count))
    c.loop-index.yielded _ c.loop-index.yielded_by _ _ (c.in-Some.index, c.in-Some.line) c.in-Some.is c.next.ensures.steps in
    let all = map words (lines c.args.script.now) in
    let n = length c.loop-index.yielded in
    let at = line_at (lines c.args.script.now) n c.in-Some.index c.in-Some.line.now turn.0 turn.1 in
    let makes = rw (c.deref.ensures.value, c.in_ok-words.ensures) at c.makes_call.ensures in
    elim c.if-makes_call.branch [
      | then-makes_call+in_ok-push w ↦
          rw (w.lines-is, length_push, w.in_ok-push.ensures.items)
          (ap (λ ls. ls ++ (c.in-Some.index + 1) ∷ []) c.loop-index.invariant ∙ ap (λ i. lines_from 1 (take n all) ++ (i + 1) ∷ []) at.1
          ∙ sym (lines_with all n (words c.in-Some.line.now) at.0 at.2 (speaks (is_silent (words c.in-Some.line.now)) (sym makes ∙ w.if-makes_call.true))))
      | else-makes_call w ↦
          rw (w.lines-is, length_push)
          (c.loop-index.invariant ∙ sym (lines_without all n (words c.in-Some.line.now) at.0 at.2 (is_quiet (is_silent (words c.in-Some.line.now)) (sym makes ∙ w.if-makes_call.false))))
    ]

pub returns : goal.returns
returns c =
    let end =
    YieldsList-end (YieldsList-at c.into_iter-index-iterator.ensures.into_iter_gives (YieldsList-from_enumerate (YieldsList-at c.enumerate-index-items.ensures.source
    (YieldsList-from_slice_split _ (λ b. b == 10) c.args.script.now c.split.ensures.rest c.split.ensures.done c.split.ensures.closure
    (λ x b q k. search (rules, tests)))) c.enumerate-index-items.ensures.count))
    c.loop-index.yielded _ c.loop-index.yielded_by _ _ c.in-None.is c.next.ensures.steps in
    let all : length (map words (lines c.args.script.now)) ≤ length c.loop-index.yielded =
    rw (length-map, ← length-enumerate_from 0) (omega (arith, end.1)) in
    rw take_all at c.loop-index.invariant
