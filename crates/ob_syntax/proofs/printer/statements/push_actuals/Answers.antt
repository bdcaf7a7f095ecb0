use Rattle.std.proofs.Common.{[], ◌∷◌, ◌++◌, false, sym, ◌∙◌, ap, map, option_map}
use Rattle.ob_scan.specs.declared.token.Kind.{Kind}
use Rattle.ob_grammar.specs.View.{expr_of}
use Rattle.ob_syntax.specs.Printing.{fixed, between, perhaps, expr_words, actual_words}
use Rattle.ob_syntax.proofs.PrintedLoops.{writes_all, separation, writes_part, parts_left, no_part_left, part_left, loop_writes, loop_wrote, writes_rest, writes_both}
use Rattle.ob_syntax.proofs.printer.statements.push_actuals.Goals as goal

pub loop-actual-init : goal.loop-actual-init
loop-actual-init c = writes_all _ _

pub loop-actual-preserved : goal.loop-actual-preserved
loop-actual-preserved c =
    let x = expr_of c.actual-item.result in
    loop_writes (λ xs. parts_left Kind.Comma expr_words c.loop-actual.is_first (map expr_of xs)) (λ xs. parts_left Kind.Comma expr_words false (map expr_of xs))
    (separation c.loop-actual.is_first Kind.Comma ++ expr_words x) c.deref-actual-items.result.now c.loop-actual.actual-index c.actual-item.result
    c.loop-actual.invariant c.loop-actual-test.true c.actual-item.is
    (λ ys. part_left Kind.Comma expr_words c.loop-actual.is_first x (map expr_of ys))
    (writes_part _ c.loop-actual.is_first Kind.Comma (expr_words x) c.in_ok-push_separator.ensures c.in_ok-push_expr.ensures)

pub returns : goal.returns
returns c =
    let xs = map expr_of c.deref-actual-items.result.now in
    let looped = loop_wrote (λ xs. parts_left Kind.Comma expr_words c.loop-actual.is_first (map expr_of xs)) c.deref-actual-items.result.now c.loop-actual.actual-index
    c.loop-actual.invariant (no_part_left Kind.Comma expr_words c.loop-actual.is_first) c.loop-actual-test.false in
    writes_rest _ _ _ (fixed Kind.LeftParen ∷ between Kind.Comma expr_words xs) (fixed Kind.RightParen ∷ [])
    (writes_both _ (fixed Kind.LeftParen ∷ []) (between Kind.Comma expr_words xs) c.in_ok-push_word.ensures looped)
    (ap (λ o. perhaps actual_words (option_map (λ ys. map expr_of ys.items) o)) c.in-Some.is ∙ ap (λ ys. actual_words (map expr_of ys)) (sym c.deref-actual-items.ensures.value))
    c.push_word-2.ensures
