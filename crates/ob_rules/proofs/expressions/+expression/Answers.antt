use Rattle.std.proofs.Common.{arith, sym, ap, ◌∙◌, ◌+◌, drop}
use Rattle.std.proofs.lemmas.List.{at_drop_all}
use Rattle.std.proofs.lemmas.Result.{IfOk-weaker, IfErr-weaker}
use Rattle.ob_grammar.proofs.Exits.{passed_on}
use Rattle.ob_grammar.specs.View.{expr_of, operands_in, selectors_in}
use Rattle.ob_typing.specs.Verdict.{Right, ◌>>=◌}
use Rattle.ob_typing.specs.ExpressionVerdicts.{expression, operands, selecting}
use Rattle.ob_checked.specs.Types.{type_in}
use Rattle.ob_scopes.specs.Usages.{use_of}
use Rattle.ob_scopes.specs.Names.{types_in, env_of}
use Rattle.ob_rules.proofs.Steps.{fails_as, fails_on, fails_past, goes_on}
use Rattle.ob_rules.proofs.Exprs.{named_verdict, product_verdict, sum_verdict}
use Rattle.ob_rules.proofs.Chains.{operations_before-end, resumed, selectors_before-end, walked}
use Rattle.ob_scopes.proofs.Lists.{next_left}
use Rattle.ob_rules.proofs.Walks.{operands_next, selecting_first, selecting_next, selector_field, selector_index}
use Rattle.ob_rules.proofs.expressions.+expression.Goals as goal

pub expression-returns-in_err-rest-in-Product-clause-fault : goal.expression-returns-in_err-rest-in-Product-clause-fault
expression-returns-in_err-rest-in-Product-clause-fault t c =
    passed_on _ _ _ c.from_residual-in_err-rest-in-Product.ensures.1
    (fails_as _ _ _ (product_verdict (env_of c.args.scopes.now) (use_of c.args.usage) c.args.expr.now _ _ c.in-Product.is _ c.deref-in-Product.ensures _ c.deref-in-Product-2.ensures.value)
    (fails_past _ _ _ _ c.in_ok-first-in-Product.ensures.typed (fails_on _ _ _ c.in_err-rest-in-Product.ensures.fault)))

pub expression-returns-in_ok-rest-in-Product-clause-typed : goal.expression-returns-in_ok-rest-in-Product-clause-typed
expression-returns-in_ok-rest-in-Product-clause-typed t c =
    IfOk-weaker c.joined.result _ _
    (λ x h. product_verdict (env_of c.args.scopes.now) (use_of c.args.usage) c.args.expr.now _ _ c.in-Product.is _ c.deref-in-Product.ensures _ c.deref-in-Product-2.ensures.value
    ∙ goes_on _ _ _ _ c.in_ok-first-in-Product.ensures.typed (goes_on _ _ _ _ c.in_ok-rest-in-Product.ensures.typed (ap Right (sym h))))
    c.joined.ensures.typed

pub expression-returns-in_err-rest-in-Sum-clause-fault : goal.expression-returns-in_err-rest-in-Sum-clause-fault
expression-returns-in_err-rest-in-Sum-clause-fault t c =
    passed_on _ _ _ c.from_residual-in_err-rest-in-Sum.ensures.1
    (fails_as _ _ _ (sum_verdict (env_of c.args.scopes.now) (use_of c.args.usage) c.args.expr.now _ _ _ c.in-Sum.is _ c.deref-in-Sum.ensures _ c.deref-in-Sum-2.ensures.value)
    (fails_past _ _ _ _ c.in_ok-first-in-Sum.ensures.typed (fails_past _ _ _ _ c.in_ok-first-in-Sum-2.ensures.typed (fails_on _ _ _ c.in_err-rest-in-Sum.ensures.fault))))

pub expression-returns-in_ok-rest-in-Sum-clause-typed : goal.expression-returns-in_ok-rest-in-Sum-clause-typed
expression-returns-in_ok-rest-in-Sum-clause-typed t c =
    IfOk-weaker c.joined-in-Sum.result _ _
    (λ x h. sum_verdict (env_of c.args.scopes.now) (use_of c.args.usage) c.args.expr.now _ _ _ c.in-Sum.is _ c.deref-in-Sum.ensures _ c.deref-in-Sum-2.ensures.value
    ∙ goes_on _ _ _ _ c.in_ok-first-in-Sum.ensures.typed (goes_on _ _ _ _ c.in_ok-first-in-Sum-2.ensures.typed (goes_on _ _ _ _ c.in_ok-rest-in-Sum.ensures.typed (ap Right (sym h)))))
    c.joined-in-Sum.ensures.typed

pub expression-returns-in-Named-clause-typed : goal.expression-returns-in-Named-clause-typed
expression-returns-in-Named-clause-typed t c =
    IfOk-weaker c.named.result _ _
    (λ x h. named_verdict (env_of c.args.scopes.now) (use_of c.args.usage) c.args.expr.now c.in-Named.designator c.in-Named.is ∙ h) c.named.ensures.typed

pub expression-returns-in-Named-clause-fault : goal.expression-returns-in-Named-clause-fault
expression-returns-in-Named-clause-fault t c =
    IfErr-weaker c.named.result _ _
    (λ f h. fails_as f _ _ (named_verdict (env_of c.args.scopes.now) (use_of c.args.usage) c.args.expr.now c.in-Named.designator c.in-Named.is) h) c.named.ensures.fault

pub operands-loop-o-preserved : goal.operands-loop-o-preserved
operands-loop-o-preserved t c =
    let env = env_of c.args.scopes.now in
    let all = c.args.operands.now in
    let o = c.o-item.result in
    let next = next_left all c.loop-o.o-index o c.loop-o-test.true c.o-item.is in
    c.loop-o.invariant
    ∙ operands_next env (use_of c.args.usage) c.args.data_type all c.loop-o.o-index o next c.loop-o.value c.in-Ok.next c.in-Some.operator c.in_ok-operand.operand
    (sym c.in-Some.ensures) (ap (λ u. expression env (expr_of o.value) u) (sym c.behind.ensures) ∙ c.in_ok-operand.ensures.typed)
    (sym c.takes_both.ensures ∙ c.if-not-takes_both.false) (sym c.in-Ok.ensures) c.loop-o.operations.items
    ∙ ap (λ os. ◌>>=◌ (operands env (operands_in (drop (c.loop-o.o-index + 1) all)) (use_of c.args.usage) c.args.data_type c.in-Ok.next) (resumed os)) (sym c.in_ok-push.ensures.items)

pub operands-returns-clause-typed : goal.operands-returns-clause-typed
operands-returns-clause-typed t c =
    let end = at_drop_all operands_in c.args.operands.now c.loop-o.o-index (omega arith) in
    c.loop-o.invariant
    ∙ ap (λ os. ◌>>=◌ (operands (env_of c.args.scopes.now) os (use_of c.args.usage) c.args.data_type c.loop-o.value) (resumed c.loop-o.operations.items)) end
    ∙ ap (λ os. Right (record { operations = os; value = c.loop-o.value })) (operations_before-end c.loop-o.operations.items)

pub selecting-returns-in_err-part-clause-fault : goal.selecting-returns-in_err-part-clause-fault
selecting-returns-in_err-part-clause-fault t c =
    let all = c.args.selectors.now in
    let i = c.loop-selector.selector-index in
    let next = next_left all i c.selector-item.result c.loop-selector-test.true c.selector-item.is in
    passed_on _ _ _ c.from_residual.ensures.1
    (fails_as _ _ _ c.loop-selector.invariant (fails_on _ _ _
    (fails_as _ _ _ (selecting_first (env_of c.args.scopes.now) (use_of c.args.usage) all i c.selector-item.result next _) (c.in_err-part.ensures.fault (selectors_in (drop (i + 1) all))))))

pub selecting-loop-selector-preserved : goal.selecting-loop-selector-preserved
selecting-loop-selector-preserved t c =
    let env = env_of c.args.scopes.now in
    let all = c.args.selectors.now in
    let i = c.loop-selector.selector-index in
    let next = next_left all i c.selector-item.result c.loop-selector-test.true c.selector-item.is in
    c.loop-selector.invariant
    ∙ selecting_next env (use_of c.args.usage) all i c.selector-item.result next _ _ c.in_ok-part.part c.in_ok-part.ensures.typed c.loop-selector.selected.items
    ∙ ap (λ ss. ◌>>=◌ (selecting env (selectors_in (drop (i + 1) all)) (use_of c.args.usage) (type_in (types_in c.args.scopes.now) c.in_ok-part.of_type)) (walked ss)) (sym c.in_ok-push.ensures.items)

pub selecting-returns-clause-typed : goal.selecting-returns-clause-typed
selecting-returns-clause-typed t c =
    let s = type_in (types_in c.args.scopes.now) c.loop-selector.data_type in
    let end = at_drop_all selectors_in c.args.selectors.now c.loop-selector.selector-index (omega arith) in
    c.loop-selector.invariant
    ∙ ap (λ ss. ◌>>=◌ (selecting (env_of c.args.scopes.now) ss (use_of c.args.usage) s) (walked c.loop-selector.selected.items)) end
    ∙ ap (λ ss. Right (record { type = s; selectors = ss })) (selectors_before-end c.loop-selector.selected.items)

pub selection-returns-in-Field-clause-fault : goal.selection-returns-in-Field-clause-fault
selection-returns-in-Field-clause-fault t c =
    IfErr-weaker c.field.result _ _
    (λ f h rest. fails_as f _ _ (selector_field (env_of c.args.scopes.now) (use_of c.args.usage) c.args.selector.now _ _ c.types.ensures c.args.whole rest _ _ c.in-Field.is) (h _))
    c.field.ensures.fault

pub selection-returns-in_ok-checked-in-Index-clause-fault : goal.selection-returns-in_ok-checked-in-Index-clause-fault
selection-returns-in_ok-checked-in-Index-clause-fault t c =
    IfErr-weaker c.element.result _ _
    (λ f h rest. fails_as f _ _
    (selector_index (env_of c.args.scopes.now) (use_of c.args.usage) c.args.selector.now _ _ c.types-in-Index.ensures c.args.whole rest _ c.in-Index.index c.in-Index.is c.in_ok-checked-in-Index.checked c.in_ok-checked-in-Index.ensures.typed _ c.first_place.ensures) (h _))
    c.element.ensures.fault
