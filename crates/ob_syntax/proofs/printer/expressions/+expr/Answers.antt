use Rattle.std.proofs.Common.{◌≡◌, ◌∷◌, [], ◌++◌, refl, sym, ◌∙◌, ap, append_assoc}
use Rattle.ob_grammar.specs.Tree
use Rattle.ob_grammar.specs.View.{name_of, expr_of, operands_in, selectors_in}
use Rattle.ob_syntax.specs.Printing.{ident, fixed, operator_kind, sign_words, expr_words, operand_words, selector_words}
use Rattle.ob_grammar.proofs.Rows.{expr_of-named, expr_of-product, expr_of-sum}
use Rattle.ob_syntax.proofs.PrintedLoops.{writes_all, writes_both, writes_rest, loop_writes, loop_wrote, selector_first}
use Rattle.ob_syntax.proofs.printer.expressions.+expr.Goals as goal

pub push_expr-returns-in_ok-push_name-in-Named : goal.push_expr-returns-in_ok-push_name-in-Named
push_expr-returns-in_ok-push_name-in-Named t c =
    let d = c.in-Named.designator in
    writes_rest _ _ _ (ident (name_of d.name) ∷ []) (selector_words (selectors_in c.deref.result.now)) c.in_ok-push_name-in-Named.ensures
    (ap expr_words (ap expr_of c.in-Named.is ∙ expr_of-named d) ∙ ap (λ ss. ident (name_of d.name) ∷ selector_words (selectors_in ss)) (sym c.deref.ensures.value))
    c.push_selectors.ensures

pub push_expr-returns-in_ok-push_expr-in-Product : goal.push_expr-returns-in_ok-push_expr-in-Product
push_expr-returns-in_ok-push_expr-in-Product t c =
    let first = c.deref-in-Product.result.now in
    let rest = c.deref-in-Product-2.result.now in
    let e : expr_of c.args.expr.now ≡ Tree.Product (expr_of first) (operands_in rest) =
    ap expr_of c.in-Product.is ∙ expr_of-product c.in-Product.first c.in-Product.rest
    ∙ ap (λ x. Tree.Product (expr_of x) (operands_in c.in-Product.rest.items)) (sym c.deref-in-Product.ensures)
    ∙ ap (λ os. Tree.Product (expr_of first) (operands_in os)) (sym c.deref-in-Product-2.ensures.value) in
    writes_rest _ _ _ (expr_words (expr_of first)) (operand_words (operands_in rest)) c.in_ok-push_expr-in-Product.ensures (ap expr_words e) c.push_operands.ensures

pub push_expr-returns-in_ok-push_expr-in-Sum : goal.push_expr-returns-in_ok-push_expr-in-Sum
push_expr-returns-in_ok-push_expr-in-Sum t c =
    let sign = c.in-Sum.sign in
    let first = c.deref-in-Sum.result.now in
    let rest = c.deref-in-Sum-2.result.now in
    let e : expr_of c.args.expr.now ≡ Tree.Sum sign (expr_of first) (operands_in rest) =
    ap expr_of c.in-Sum.is ∙ expr_of-sum sign c.in-Sum.first c.in-Sum.rest
    ∙ ap (λ x. Tree.Sum sign (expr_of x) (operands_in c.in-Sum.rest.items)) (sym c.deref-in-Sum.ensures)
    ∙ ap (λ os. Tree.Sum sign (expr_of first) (operands_in os)) (sym c.deref-in-Sum-2.ensures.value) in
    writes_rest _ _ _ (sign_words sign ++ expr_words (expr_of first)) (operand_words (operands_in rest))
    (writes_both _ (sign_words sign) (expr_words (expr_of first)) c.in_ok-push_sign-in-Sum.ensures c.in_ok-push_expr-in-Sum.ensures)
    (ap expr_words e ∙ sym (append_assoc (sign_words sign) (expr_words (expr_of first)) (operand_words (operands_in rest))))
    c.push_operands-in-Sum.ensures

pub push_operands-loop-operand-init : goal.push_operands-loop-operand-init
push_operands-loop-operand-init t c = writes_all _ _

pub push_operands-loop-operand-preserved : goal.push_operands-loop-operand-preserved
push_operands-loop-operand-preserved t c =
    let x = c.operand-item.result in
    loop_writes (λ os. operand_words (operands_in os)) (λ os. operand_words (operands_in os))
    (fixed (operator_kind x.operator) ∷ expr_words (expr_of x.value)) c.args.operands.now c.loop-operand.operand-index x
    c.loop-operand.invariant c.loop-operand-test.true c.operand-item.is (λ ys. refl)
    (writes_both _ (fixed (operator_kind x.operator) ∷ []) (expr_words (expr_of x.value)) c.in_ok-push_operator.ensures c.in_ok-push_expr.ensures)

pub push_operands-returns : goal.push_operands-returns
push_operands-returns t c =
    loop_wrote (λ os. operand_words (operands_in os)) c.args.operands.now c.loop-operand.operand-index c.loop-operand.invariant refl c.loop-operand-test.false

pub push_selectors-loop-selector-init : goal.push_selectors-loop-selector-init
push_selectors-loop-selector-init t c = writes_all _ _

pub push_selectors-loop-selector-preserved : goal.push_selectors-loop-selector-preserved
push_selectors-loop-selector-preserved t c =
    let x = c.selector-item.result in
    loop_writes (λ ss. selector_words (selectors_in ss)) (λ ss. selector_words (selectors_in ss))
    (selector_words (selectors_in (x ∷ []))) c.args.selectors.now c.loop-selector.selector-index x
    c.loop-selector.invariant c.loop-selector-test.true c.selector-item.is (λ ys. selector_first x ys) c.in_ok-push_selector.ensures

pub push_selectors-returns : goal.push_selectors-returns
push_selectors-returns t c =
    loop_wrote (λ ss. selector_words (selectors_in ss)) c.args.selectors.now c.loop-selector.selector-index c.loop-selector.invariant refl c.loop-selector-test.false
