use Rattle.std.proofs.Common.{refl, ap, arith, rules}
use Rattle.std.proofs.lemmas.Result.{on_ok_weaker}
use Rattle.ob_typing.specs.declared.operator.BinaryOperator.TheVariants.{Plus, Minus, Times, Div, Mod, And, Or}
use Rattle.ob_code_scheme.specs.Types.{words}
use Rattle.ob_code_words.specs.declared.instr.Instr.TheVariants as Instrs
use Rattle.ob_checked.specs.View.{selectors_in}
use Rattle.ob_code.specs.Scoped.{globals_in, own_in, type_in}
use Rattle.ob_code.proofs.Weights.{weight_of_selectors, value_falls, negated_falls, complement_falls, computed_falls, compared_falls, operand_at, index_falls, selector_at}
use Rattle.ob_code.proofs.Values.{value_put, computed_put, compared_put, and_put, or_put, operations_go, selectors_go}
use Rattle.ob_code.proofs.ValuesWithin.{unary_first, negated_is, complement_is, value_first, value_last, computed_first, computed_rest, compared_left, compared_right, compared_last, operations_next, operand_first, jump_operand, element_operands, element_index, selectors_next, designator_first}
use Rattle.ob_code.proofs.expressions.+values.Goals as goal

pub put_expression-returns-in_ok-put_designator-in-ValueOf : goal.put_expression-returns-in_ok-put_designator-in-ValueOf
put_expression-returns-in_ok-put_designator-in-ValueOf t c =
    on_ok_weaker c.push-in-ValueOf.result
    (λ more. value_put (globals_in c.args.scopes.now) (own_in c.args.scopes.now) c.args.code.now c.put_designator.new.code c.push-in-ValueOf.new.code c.args.expression.now _ c.in-ValueOf.variable c.in-ValueOf.is
    c.in_ok-put_designator-in-ValueOf.ensures more)
    c.push-in-ValueOf.ensures

pub put_expression-returns-in_ok-put_expression-in-Computed : goal.put_expression-returns-in_ok-put_expression-in-Computed
put_expression-returns-in_ok-put_expression-in-Computed t c =
    on_ok_weaker c.put_operations.result
    (λ more. computed_put (globals_in c.args.scopes.now) (own_in c.args.scopes.now) c.args.code.now c.put_expression-in-Computed.new.code c.put_operations.new.code c.args.expression.now
    c.deref-in-Computed.result.now c.in-Computed.first c.in-Computed.rest c.as_slice.result.now c.in-Computed.is c.deref-in-Computed.ensures c.as_slice.ensures.value
    c.in_ok-put_expression-in-Computed.ensures more)
    c.put_operations.ensures

pub put_expression-returns-in_ok-put_expression-in-Compared-2 : goal.put_expression-returns-in_ok-put_expression-in-Compared-2
put_expression-returns-in_ok-put_expression-in-Compared-2 t c =
    on_ok_weaker c.push-in-Compared.result
    (λ more. compared_put (globals_in c.args.scopes.now) (own_in c.args.scopes.now) c.args.code.now c.put_expression-in-Compared.new.code c.put_expression-in-Compared-2.new.code c.push-in-Compared.new.code c.args.expression.now
    c.deref-in-Compared.result.now c.deref-in-Compared-2.result.now c.in-Compared.relation c.in-Compared.left c.in-Compared.right c.relation_instruction.result
    c.in-Compared.is c.deref-in-Compared.ensures c.deref-in-Compared-2.ensures c.relation_instruction.ensures
    c.in_ok-put_expression-in-Compared.ensures c.in_ok-put_expression-in-Compared-2.ensures more)
    c.push-in-Compared.ensures

pub put_operation-returns-in_ok-put_expression-in-And : goal.put_operation-returns-in_ok-put_expression-in-And
put_operation-returns-in_ok-put_expression-in-And t c =
    and_put (globals_in c.args.scopes.now) (own_in c.args.scopes.now) c.args.code.now c.push.new.code c.put_expression.new.code c.set.new.self c.args.operation.now
    c.end-place.result c.end-target.result c.in-And.is c.end-place.ensures c.in_ok-push-in-And.ensures c.in_ok-put_expression-in-And.ensures c.end-target.ensures c.set.ensures

pub put_operation-returns-in_ok-put_expression-in-Or : goal.put_operation-returns-in_ok-put_expression-in-Or
put_operation-returns-in_ok-put_expression-in-Or t c =
    or_put (globals_in c.args.scopes.now) (own_in c.args.scopes.now) c.args.code.now c.push-in-Or.new.code c.put_expression-in-Or.new.code c.set-in-Or.new.self c.args.operation.now
    c.end-place.result c.end-target-in-Or.result c.in-Or.is c.end-place.ensures c.in_ok-push-in-Or.ensures c.in_ok-put_expression-in-Or.ensures c.end-target-in-Or.ensures c.set-in-Or.ensures

pub put_operations-loop-operation-preserved : goal.put_operations-loop-operation-preserved
put_operations-loop-operation-preserved t c =
    operations_go (globals_in c.args.scopes.now) (own_in c.args.scopes.now) c.loop-operation.code c.put_operation.new.code _ c.args.operations.now c.loop-operation.operation-index c.operation-item.result
    c.loop-operation-test.true c.operation-item.is c.in_ok-put_operation.ensures c.loop-operation.invariant

pub put_designator-loop-selector-preserved : goal.put_designator-loop-selector-preserved
put_designator-loop-selector-preserved t c =
    selectors_go (globals_in c.args.scopes.now) (own_in c.args.scopes.now) c.loop-selector.code c.put_selector.new.code _ _ _ c.deref-selector-items.result.now c.loop-selector.selector-index c.selector-item.result
    c.loop-selector-test.true c.selector-item.is c.in_ok-data_type-2.ensures.code c.in_ok-data_type-2.ensures.data_type c.loop-selector.invariant

-- ---- within the limits

pub put_expression-put_designator-requires : goal.put_expression-put_designator-requires
put_expression-put_designator-requires t c =
    let falls = value_falls c.args.expression.now _ c.in-ValueOf.variable c.in-ValueOf.is in
    (omega (arith, falls), value_first (globals_in c.args.scopes.now) (own_in c.args.scopes.now) c.args.code.now c.args.expression.now _ c.in-ValueOf.variable c.in-ValueOf.is c.requires)

pub put_expression-push-requires-in-ValueOf : goal.put_expression-push-requires-in-ValueOf
put_expression-push-requires-in-ValueOf t c =
    value_last (globals_in c.args.scopes.now) (own_in c.args.scopes.now) c.args.code.now c.args.expression.now _ c.in-ValueOf.variable c.in-ValueOf.is c.requires
    c.put_designator.new.code c.in_ok-put_designator-in-ValueOf.ensures

pub put_expression-put_expression-requires : goal.put_expression-put_expression-requires
put_expression-put_expression-requires t c =
    let falls = negated_falls c.args.expression.now c.deref.result.now _ c.in-Negated.is c.deref.ensures in
    let is = negated_is (globals_in c.args.scopes.now) (own_in c.args.scopes.now) c.args.expression.now c.deref.result.now _ c.in-Negated.is c.deref.ensures in
    (omega (arith, falls), unary_first (globals_in c.args.scopes.now) (own_in c.args.scopes.now) c.args.code.now c.args.expression.now c.deref.result.now Instrs.Negate is c.requires)

pub put_expression-put_expression-requires-in-Complement : goal.put_expression-put_expression-requires-in-Complement
put_expression-put_expression-requires-in-Complement t c =
    let falls = complement_falls c.args.expression.now c.deref-in-Complement.result.now _ c.in-Complement.is c.deref-in-Complement.ensures in
    let is = complement_is (globals_in c.args.scopes.now) (own_in c.args.scopes.now) c.args.expression.now c.deref-in-Complement.result.now _ c.in-Complement.is c.deref-in-Complement.ensures in
    (omega (arith, falls), unary_first (globals_in c.args.scopes.now) (own_in c.args.scopes.now) c.args.code.now c.args.expression.now c.deref-in-Complement.result.now Instrs.Not is c.requires)

pub put_expression-put_expression-requires-in-Computed : goal.put_expression-put_expression-requires-in-Computed
put_expression-put_expression-requires-in-Computed t c =
    let falls = (computed_falls c.args.expression.now c.deref-in-Computed.result.now c.in-Computed.first c.in-Computed.rest _ c.in-Computed.is c.deref-in-Computed.ensures refl).0 in (
      omega (arith, falls),
      computed_first (globals_in c.args.scopes.now) (own_in c.args.scopes.now) c.args.code.now c.args.expression.now c.deref-in-Computed.result.now c.in-Computed.first c.in-Computed.rest _
          c.in-Computed.is c.deref-in-Computed.ensures refl c.requires,
    )

pub put_expression-put_operations-requires : goal.put_expression-put_operations-requires
put_expression-put_operations-requires t c =
    let falls = (computed_falls c.args.expression.now c.deref-in-Computed.result.now c.in-Computed.first c.in-Computed.rest c.as_slice.result.now c.in-Computed.is c.deref-in-Computed.ensures c.as_slice.ensures.value).1 in (
      omega (arith, falls),
      computed_rest (globals_in c.args.scopes.now) (own_in c.args.scopes.now) c.args.code.now c.args.expression.now c.deref-in-Computed.result.now c.in-Computed.first c.in-Computed.rest c.as_slice.result.now
          c.in-Computed.is c.deref-in-Computed.ensures c.as_slice.ensures.value c.requires c.put_expression-in-Computed.new.code c.in_ok-put_expression-in-Computed.ensures,
    )

pub put_expression-put_expression-requires-in-Compared : goal.put_expression-put_expression-requires-in-Compared
put_expression-put_expression-requires-in-Compared t c =
    let falls = (compared_falls c.args.expression.now c.deref-in-Compared.result.now _ c.in-Compared.relation c.in-Compared.left c.in-Compared.right c.in-Compared.is c.deref-in-Compared.ensures refl).0 in (
      omega (arith, falls),
      compared_left (globals_in c.args.scopes.now) (own_in c.args.scopes.now) c.args.code.now c.args.expression.now c.deref-in-Compared.result.now c.in-Compared.relation c.in-Compared.left c.in-Compared.right
          c.in-Compared.is c.deref-in-Compared.ensures c.requires,
    )

pub put_expression-put_expression-requires-in-Compared-2 : goal.put_expression-put_expression-requires-in-Compared-2
put_expression-put_expression-requires-in-Compared-2 t c =
    let falls = (compared_falls c.args.expression.now c.deref-in-Compared.result.now c.deref-in-Compared-2.result.now c.in-Compared.relation c.in-Compared.left c.in-Compared.right c.in-Compared.is c.deref-in-Compared.ensures c.deref-in-Compared-2.ensures).1 in (
      omega (arith, falls),
      compared_right (globals_in c.args.scopes.now) (own_in c.args.scopes.now) c.args.code.now c.args.expression.now c.deref-in-Compared.result.now c.deref-in-Compared-2.result.now c.in-Compared.relation c.in-Compared.left c.in-Compared.right
          c.in-Compared.is c.deref-in-Compared.ensures c.deref-in-Compared-2.ensures c.requires c.put_expression-in-Compared.new.code c.in_ok-put_expression-in-Compared.ensures,
    )

pub put_expression-push-requires-in-Compared : goal.put_expression-push-requires-in-Compared
put_expression-push-requires-in-Compared t c =
    compared_last (globals_in c.args.scopes.now) (own_in c.args.scopes.now) c.args.code.now c.args.expression.now c.deref-in-Compared.result.now c.deref-in-Compared-2.result.now c.in-Compared.relation c.in-Compared.left c.in-Compared.right
    c.in-Compared.is c.deref-in-Compared.ensures c.deref-in-Compared-2.ensures c.requires c.put_expression-in-Compared.new.code c.put_expression-in-Compared-2.new.code
    c.in_ok-put_expression-in-Compared.ensures c.in_ok-put_expression-in-Compared-2.ensures

pub put_operations-put_operation-requires : goal.put_operations-put_operation-requires
put_operations-put_operation-requires t c =
    let falls = operand_at c.args.operations.now c.loop-operation.operation-index c.operation-item.result c.operation-item.result c.loop-operation-test.true c.operation-item.is in (
      omega (arith, falls),
      operations_next (globals_in c.args.scopes.now) (own_in c.args.scopes.now) c.loop-operation.code _ c.args.operations.now c.loop-operation.operation-index c.operation-item.result
          c.loop-operation-test.true c.operation-item.is c.loop-operation.invariant c.requires,
    )

pub put_operation-put_expression-requires : goal.put_operation-put_expression-requires
put_operation-put_expression-requires t c = (
  omega arith,
  jump_operand (globals_in c.args.scopes.now) (own_in c.args.scopes.now) c.args.code.now c.args.operation.now And Instrs.AndJump (λ a n operand. refl) c.in-And.is c.requires
      (Instrs.AndJump 0) refl (omega arith) c.push.new.code c.in_ok-push-in-And.ensures,
)

pub put_operation-put_expression-requires-in-Or : goal.put_operation-put_expression-requires-in-Or
put_operation-put_expression-requires-in-Or t c = (
  omega arith,
  jump_operand (globals_in c.args.scopes.now) (own_in c.args.scopes.now) c.args.code.now c.args.operation.now Or Instrs.OrJump (λ a n operand. refl) c.in-Or.is c.requires
      (Instrs.OrJump 0) refl (omega arith) c.push-in-Or.new.code c.in_ok-push-in-Or.ensures,
)

pub put_operation-put_expression-requires-in-Plus : goal.put_operation-put_expression-requires-in-Plus
put_operation-put_expression-requires-in-Plus t c =
    (omega arith, operand_first (globals_in c.args.scopes.now) (own_in c.args.scopes.now) c.args.code.now c.args.operation.now Plus Instrs.Add (λ a n operand. refl) c.in-Plus.is c.requires)

pub put_operation-put_expression-requires-in-Minus : goal.put_operation-put_expression-requires-in-Minus
put_operation-put_expression-requires-in-Minus t c =
    (omega arith, operand_first (globals_in c.args.scopes.now) (own_in c.args.scopes.now) c.args.code.now c.args.operation.now Minus Instrs.Subtract (λ a n operand. refl) c.in-Minus.is c.requires)

pub put_operation-put_expression-requires-in-Times : goal.put_operation-put_expression-requires-in-Times
put_operation-put_expression-requires-in-Times t c =
    (omega arith, operand_first (globals_in c.args.scopes.now) (own_in c.args.scopes.now) c.args.code.now c.args.operation.now Times Instrs.Multiply (λ a n operand. refl) c.in-Times.is c.requires)

pub put_operation-put_expression-requires-in-Div : goal.put_operation-put_expression-requires-in-Div
put_operation-put_expression-requires-in-Div t c =
    (omega arith, operand_first (globals_in c.args.scopes.now) (own_in c.args.scopes.now) c.args.code.now c.args.operation.now Div Instrs.Divide (λ a n operand. refl) c.in-Div.is c.requires)

pub put_operation-put_expression-requires-in-Mod : goal.put_operation-put_expression-requires-in-Mod
put_operation-put_expression-requires-in-Mod t c =
    (omega arith, operand_first (globals_in c.args.scopes.now) (own_in c.args.scopes.now) c.args.code.now c.args.operation.now Mod Instrs.Modulo (λ a n operand. refl) c.in-Mod.is c.requires)

pub put_selector-overflow_cast-length : goal.put_selector-overflow_cast-length
put_selector-overflow_cast-length t c =
    let small = element_operands (globals_in c.args.scopes.now) (own_in c.args.scopes.now) c.args.code.now (type_in c.args.scopes.now c.args.data_type) c.args.selector.now c.requires c.in-Element.length c.in-Element.index c.in-Element.is in
    omega (arith, small)

pub put_selector-overflow_cast-element_words : goal.put_selector-overflow_cast-element_words
put_selector-overflow_cast-element_words t c =
    let small = element_operands (globals_in c.args.scopes.now) (own_in c.args.scopes.now) c.args.code.now (type_in c.args.scopes.now c.args.data_type) c.args.selector.now c.requires c.in-Element.length c.in-Element.index c.in-Element.is in
    let same = ap words c.part_type-element.ensures in
    omega (arith, small, same, c.words-element_words.ensures)

pub put_selector-put_expression-requires : goal.put_selector-put_expression-requires
put_selector-put_expression-requires t c =
    let falls = index_falls c.args.selector.now c.in-Element.length c.in-Element.index c.in-Element.is in
    (omega (arith, falls), element_index (globals_in c.args.scopes.now) (own_in c.args.scopes.now) c.args.code.now (type_in c.args.scopes.now c.args.data_type) c.args.selector.now c.requires c.in-Element.length c.in-Element.index c.in-Element.is)

pub put_designator-put_variable-requires : goal.put_designator-put_variable-requires
put_designator-put_variable-requires t c = designator_first (globals_in c.args.scopes.now) (own_in c.args.scopes.now) c.args.code.now c.args.designator.now c.requires

pub put_designator-put_selector-requires : goal.put_designator-put_selector-requires
put_designator-put_selector-requires t c =
    let falls = selector_at c.deref-selector-items.result.now c.loop-selector.selector-index c.selector-item.result c.selector-item.result c.loop-selector-test.true c.selector-item.is in
    let all = ap (λ xs. weight_of_selectors (selectors_in xs)) c.deref-selector-items.ensures.value in (
      omega (arith, falls, all),
      selectors_next (globals_in c.args.scopes.now) (own_in c.args.scopes.now) c.loop-selector.code _ _ c.deref-selector-items.result.now c.loop-selector.selector-index c.selector-item.result
          c.loop-selector-test.true c.selector-item.is c.loop-selector.invariant c.requires,
    )
