use Rattle.std.proofs.Common.{rules, ◌≡◌, ◌-◌, ◌<◌, ◌∷◌, ap, sym, ◌∙◌, arith}
use Rattle.ob_grammar.specs.View.{expr_of, operands_in, selectors_in}
use Rattle.ob_grammar.proofs.Rows.{expr_of-named, expr_of-product, expr_of-sum}
use Rattle.ob_trap_places.specs.Places as Places
use Rattle.ob_trap_places.proofs.Found.{chain_later, signed_minus, operand_here, no_operand_here, selector_here, no_selector_here}
use Rattle.ob_trap_places.proofs.expression_places.+expressions.Goals as goal

pub in_expression-returns-in-Named : goal.in_expression-returns-in-Named
in_expression-returns-in-Named t c =
    c.in_selectors.ensures
    ∙ ap (λ ss. Places.of_parts (Places.parts_of_selectors (selectors_in ss)) c.args.path.now) c.as_slice.ensures.value
    ∙ sym (ap (λ e. Places.places_in e c.args.path.now) (ap expr_of c.in-Named.is ∙ expr_of-named c.in-Named.variable))

pub in_expression-returns-in-Some : goal.in_expression-returns-in-Some
in_expression-returns-in-Some t c =
    let path : c.args.path.now ≡ c.in-Some.part.now ∷ c.in-Some.further.now = search rules in
    let some : 0 < c.in-Some.part.now = omega arith in
    c.in_operands.ensures
    ∙ ap (λ os. Places.parts_of_operands (operands_in os) (c.in-Some.part.now - 1) c.in-Some.further.now) c.as_slice-in-Some.ensures.value
    ∙ sym (chain_later (Places.places_in (expr_of c.in-Product.first.value)) (Places.parts_of_operands (operands_in c.in-Product.rest.items))
    c.args.path.now c.in-Some.further.now c.in-Some.part.now path some)
    ∙ sym (ap (λ e. Places.places_in e c.args.path.now) (ap expr_of c.in-Product.is ∙ expr_of-product c.in-Product.first c.in-Product.rest))

pub in_expression-returns-in-Some-split_first : goal.in_expression-returns-in-Some-split_first
in_expression-returns-in-Some-split_first t c =
    let path : c.args.path.now ≡ c.in-Some-split_first.part.now ∷ c.in-Some-split_first.further.now = search rules in
    let some : 0 < c.in-Some-split_first.part.now = omega arith in
    c.in_operands-in-Some-split_first.ensures
    ∙ ap (λ os. Places.parts_of_operands (operands_in os) (c.in-Some-split_first.part.now - 1) c.in-Some-split_first.further.now) c.as_slice-in-Some-split_first.ensures.value
    ∙ sym (chain_later (Places.signed c.in-Sum.sign (Places.places_in (expr_of c.in-Sum.first.value))) (Places.parts_of_operands (operands_in c.in-Sum.rest.items))
    c.args.path.now c.in-Some-split_first.further.now c.in-Some-split_first.part.now path some)
    ∙ sym (ap (λ e. Places.places_in e c.args.path.now) (ap expr_of c.in-Sum.is ∙ expr_of-sum c.in-Sum.sign c.in-Sum.first c.in-Sum.rest))

pub in_operands-returns-in-Some : goal.in_operands-returns-in-Some
in_operands-returns-in-Some t c =
    c.with_behind.ensures
    ∙ sym (operand_here c.args.operands.now c.args.number c.in-Some.operand.now c.args.path.now c.in-Some.ensures.lookup.3.0 c.in-Some.ensures.lookup.1)

pub in_operands-returns-in-None : goal.in_operands-returns-in-None
in_operands-returns-in-None t c = sym (no_operand_here c.args.operands.now c.args.number c.args.path.now c.in-None.ensures.lookup.3)

pub in_selectors-returns-in-Some : goal.in_selectors-returns-in-Some
in_selectors-returns-in-Some t c =
    let path : c.args.path.now ≡ c.in_ok-number.number.now ∷ c.in_ok-number.further.now = search rules in
    c.in_selector.ensures
    ∙ sym (ap (Places.of_parts (Places.parts_of_selectors (selectors_in c.args.selectors.now))) path
    ∙ selector_here c.args.selectors.now c.in_ok-number.number.now c.in-Some.selector.now c.in_ok-number.further.now c.in-Some.ensures.lookup.3.0 c.in-Some.ensures.lookup.1)

pub in_selectors-returns-in-None : goal.in_selectors-returns-in-None
in_selectors-returns-in-None t c =
    let path : c.args.path.now ≡ c.in_ok-number.number.now ∷ c.in_ok-number.further.now = search rules in
    sym (ap (Places.of_parts (Places.parts_of_selectors (selectors_in c.args.selectors.now))) path
    ∙ no_selector_here c.args.selectors.now c.in_ok-number.number.now c.in_ok-number.further.now c.in-None.ensures.lookup.3)

pub in_signed-returns-in-Some : goal.in_signed-returns-in-Some
in_signed-returns-in-Some t c =
    c.with_behind.ensures
    ∙ sym (signed_minus c.args.sign c.in-Some.sign (Places.places_in (expr_of c.args.operand.now)) c.args.path.now c.in-Some.is c.if-sign.true)
