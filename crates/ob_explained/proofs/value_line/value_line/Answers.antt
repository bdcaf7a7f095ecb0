use Rattle.std.proofs.Common.{◌≡◌, ◌∙◌, ◌≤◌, ◌+◌, ◌-◌, ℕ, suc, rules, tests, arith, ◌==◌, List, length, map, drop, slice_get, Some, ap, sym, true, false}
use Rattle.std.proofs.lemmas.Iterator.Consumers.{YieldsList-at, YieldsList-from_enumerate, YieldsList-turn, YieldsList-end}
use Rattle.std.proofs.lemmas.Iterator.Splits.{YieldsList-from_slice_split}
use Rattle.std.proofs.lemmas.List.{length_push, length-map, drop_all}
use Rattle.std.proofs.lemmas.List.FromFn.{length-enumerate_from}
use Rattle.ob_text_words.specs.Words.{Word, lines, words}
use Rattle.ob_text_words.proofs.Reading.{line_at}
use Rattle.ob_explained.specs.ValueLines.{lines_from, tells_value}
use Rattle.ob_explained.proofs.ValueLines.{first_told, later_told, not_told}
use Rattle.ob_explained.proofs.value_line.value_line.Goals as goal

pub returns-then-before-eq0 : goal.returns-then-before-eq0
returns-then-before-eq0 c =
    let turn =
    YieldsList-turn (YieldsList-at c.into_iter-index-iterator.ensures.into_iter_gives (YieldsList-from_enumerate (YieldsList-at c.enumerate-index-items.ensures.source
    (YieldsList-from_slice_split _ (λ b. b == 10) c.args.text.now c.split.ensures.rest c.split.ensures.done c.split.ensures.closure
    (λ x b q k. search (rules, tests)))) c.enumerate-index-items.ensures.count))
    c.loop-index.yielded _ c.loop-index.yielded_by _ _ (c.in-Some.index, c.in-Some.line) c.in-Some.is c.next.ensures.steps in
    let all = map words (lines c.args.text.now) in
    let n = length c.loop-index.yielded in
    let at = line_at (lines c.args.text.now) n c.in-Some.index c.in-Some.line.now turn.0 turn.1 in
    let is : tells_value (words c.in-Some.line.now) ≡ true = sym c.tells_value.ensures ∙ c.if-tells_value.true in
    ap (λ (k : ℕ). Some (k + 1)) at.1
    ∙ sym (c.loop-index.invariant ∙ ap (slice_get (lines_from (suc n) (drop n all))) c.if-before-eq0.true ∙ first_told all n (words c.in-Some.line.now) at.0 at.2 is)

pub loop-index-preserved-then-tells_value : goal.loop-index-preserved-then-tells_value
loop-index-preserved-then-tells_value c =
    let turn =
    YieldsList-turn (YieldsList-at c.into_iter-index-iterator.ensures.into_iter_gives (YieldsList-from_enumerate (YieldsList-at c.enumerate-index-items.ensures.source
    (YieldsList-from_slice_split _ (λ b. b == 10) c.args.text.now c.split.ensures.rest c.split.ensures.done c.split.ensures.closure
    (λ x b q k. search (rules, tests)))) c.enumerate-index-items.ensures.count))
    c.loop-index.yielded _ c.loop-index.yielded_by _ _ (c.in-Some.index, c.in-Some.line) c.in-Some.is c.next.ensures.steps in
    let all = map words (lines c.args.text.now) in
    let n = length c.loop-index.yielded in
    let at = line_at (lines c.args.text.now) n c.in-Some.index c.in-Some.line.now turn.0 turn.1 in
    let is : tells_value (words c.in-Some.line.now) ≡ true = sym c.tells_value.ensures ∙ c.if-tells_value.true in
    let some : c.loop-index.before ≡ suc (c.loop-index.before - 1) = omega (arith, c.if-before-eq0.false) in
    rw length_push
    (c.loop-index.invariant ∙ ap (slice_get (lines_from (suc n) (drop n all))) some
    ∙ later_told all n (words c.in-Some.line.now) at.0 at.2 (c.loop-index.before - 1) is)

pub loop-index-preserved : goal.loop-index-preserved
loop-index-preserved c =
    let turn =
    YieldsList-turn (YieldsList-at c.into_iter-index-iterator.ensures.into_iter_gives (YieldsList-from_enumerate (YieldsList-at c.enumerate-index-items.ensures.source
    (YieldsList-from_slice_split _ (λ b. b == 10) c.args.text.now c.split.ensures.rest c.split.ensures.done c.split.ensures.closure
    (λ x b q k. search (rules, tests)))) c.enumerate-index-items.ensures.count))
    c.loop-index.yielded _ c.loop-index.yielded_by _ _ (c.in-Some.index, c.in-Some.line) c.in-Some.is c.next.ensures.steps in
    let all = map words (lines c.args.text.now) in
    let n = length c.loop-index.yielded in
    let at = line_at (lines c.args.text.now) n c.in-Some.index c.in-Some.line.now turn.0 turn.1 in
    let is : tells_value (words c.in-Some.line.now) ≡ false = sym c.tells_value.ensures ∙ c.if-tells_value.false in
    rw length_push (c.loop-index.invariant ∙ not_told all n (words c.in-Some.line.now) at.0 at.2 c.loop-index.before is)

pub returns : goal.returns
returns c =
    let end =
    YieldsList-end (YieldsList-at c.into_iter-index-iterator.ensures.into_iter_gives (YieldsList-from_enumerate (YieldsList-at c.enumerate-index-items.ensures.source
    (YieldsList-from_slice_split _ (λ b. b == 10) c.args.text.now c.split.ensures.rest c.split.ensures.done c.split.ensures.closure
    (λ x b q k. search (rules, tests)))) c.enumerate-index-items.ensures.count))
    c.loop-index.yielded _ c.loop-index.yielded_by _ _ c.in-None.is c.next.ensures.steps in
    let all = map words (lines c.args.text.now) in
    let n = length c.loop-index.yielded in
    let long : length all ≤ n = rw (length-map, ← length-enumerate_from 0) (omega (arith, end.1)) in
    sym (c.loop-index.invariant ∙ ap (λ (ls : List (List Word)). slice_get (lines_from (suc n) ls) c.loop-index.before) (drop_all n all long))
