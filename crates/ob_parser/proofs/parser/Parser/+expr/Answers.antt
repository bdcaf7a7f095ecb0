use Rattle.std.proofs.Common.{◌≡◌, ◌<◌, false, is_some, length, refl, arith, ap, sym, ◌∙◌, ◌⊎◌, inl, inr}
use Rattle.std.proofs.lemmas.Bool.Decides.{nat_tests}
use Rattle.std.proofs.lemmas.Grind.{common_steps}
use Rattle.ob_grammar.specs.Tree
use Rattle.ob_grammar.specs.View.{expr_of}
use Rattle.ob_scan.specs.declared.token.Kind.{Kind}
use Rattle.ob_parser.specs.Answers.{IsAt}
use Rattle.ob_parser.proofs.Steps.{closed, before_last, fill_token, fill_both}
use Rattle.ob_parser.proofs.States.{token_there, at_here, here_at, away, either_here, starts, reaches, fails, fails_in, fails_here, past, passed, path_on, path_as, stays, went_as, refused_here, false_at, true_at}
use Rattle.ob_parser.proofs.Names.{begins_name, fill_name}
use Rattle.ob_parser.proofs.Openings.{went_opens, fails_deep}
use Rattle.ob_parser.proofs.Firsts.{fill_factor, fill_expression}
use Rattle.ob_parser.proofs.Selectors.{fill_selectors, leads_more_selectors, reads_no_selectors, leads_field, leads_index, fill_selector}
use Rattle.ob_parser.proofs.Operators.{chained_terms, chained_factors, leads_operand, reads_no_operand, operands_follow, fill_operands}
use Rattle.ob_parser.proofs.Expressions.{leads_expression, leads_comparison, reads_no_comparison, comparison_follows, fill_comparison, leads_simple, sign_follows, leads_term, leads_named, leads_parens, leads_not, refuses_factor}
use Rattle.ob_parser.proofs.ExpressionLoops.{operands_before_more, operands_before-end, product_alone, product_made, sum_alone, sum_made, selectors_before_more, selectors_before-end}
use Rattle.ob_grammar.proofs.Rows.{expr_of-named}
use Rattle.ob_parser.proofs.parser.Parser.+expr.Goals as goal
use Rattle.ob_parser.proofs.parser.Parser.+expr.Goals.{simple_expression-else-is_none-via-then-is_none+else-is_empty, simple_expression-else-is_none-via-else-is_none, selectors-then-at, selectors-else-at+then-at-2}

-- expression = SimpleExpression [("=" | "#" | "<" | "<=" | ">" | ">=") SimpleExpression]

pub expression-returns-in_err-left : goal.expression-returns-in_err-left
expression-returns-in_err-left g t c =
    passed _ _ _ _ _ _ c.from_residual.ensures.1 (fails_in (starts (λ _ _ w. leads_expression)) comparison_follows fill_comparison _ _ c.in_err-left.ensures)

pub expression-returns-in_default : goal.expression-returns-in_default
expression-returns-in_default g t c =
    reaches (past (starts (λ _ _ w. leads_expression)) comparison_follows c.in_ok-left.ensures) (stays (λ _ _ w. reads_no_comparison (λ kind operator i h. c.in_default.ensures.none kind operator i (here_at w h))))

pub expression-returns-in_err-right : goal.expression-returns-in_err-right
expression-returns-in_err-right g t c =
    let found = c.in-Some.ensures.some in
    let way = past (starts (λ _ _ w. leads_expression)) comparison_follows c.in_ok-left.ensures in
    let way = past (path_on way (starts (λ _ _ w. leads_comparison found.1 (at_here w found.2)))) (closed (λ k. refl)) (c.take-place.ensures.took _ found.2) in
    passed _ _ _ _ _ _ c.from_residual-in_err-right.ensures.1 (fails way _ _ c.in_err-right.ensures)

pub expression-returns : goal.expression-returns
expression-returns g t c =
    let found = c.in-Some.ensures.some in
    let way = past (starts (λ _ _ w. leads_expression)) comparison_follows c.in_ok-left.ensures in
    let way = past (path_on way (starts (λ _ _ w. leads_comparison found.1 (at_here w found.2)))) (closed (λ k. refl)) (c.take-place.ensures.took _ found.2) in
    let operator = c.in-Some.operator in
    let place = c.take-place.result in
    went_as (ap (λ x. Tree.Comparison (expr_of x) operator place (expr_of c.in_ok-right.right)) (sym c.in_ok-left-2.ensures.ok)
    ∙ ap (λ x. Tree.Comparison (expr_of c.in_ok-left-2.left.value) operator place (expr_of x)) (sym c.in_ok-right-2.ensures.ok))
    (reaches way c.in_ok-right.ensures)

-- SimpleExpression = ["+" | "-"] term {("+" | "-" | "OR") term}

pub simple_expression-returns-in_err-first : goal.simple_expression-returns-in_err-first
simple_expression-returns-in_err-first g t c =
    let way = past (starts (λ _ _ w. leads_simple)) (sign_follows _) c.sign-sign.ensures in
    passed _ _ _ _ _ _ c.from_residual.ensures.1
    (fails_in way (operands_follow chained_terms) (fill_operands chained_terms) _ _ c.in_err-first.ensures)

pub simple_expression-returns-in_err-rest : goal.simple_expression-returns-in_err-rest
simple_expression-returns-in_err-rest g t c =
    let way = past (starts (λ _ _ w. leads_simple)) (sign_follows _) c.sign-sign.ensures in
    let way = past way (operands_follow chained_terms) c.in_ok-first.ensures in
    passed _ _ _ _ _ _ c.from_residual-in_err-rest.ensures.1 (fails way _ _ c.in_err-rest.ensures)

pub simple_expression-returns-then-is_empty : goal.simple_expression-returns-then-is_empty
simple_expression-returns-then-is_empty g t c =
    let way = past (starts (λ _ _ w. leads_simple)) (sign_follows _) c.sign-sign.ensures in
    let way = past way (operands_follow chained_terms) c.in_ok-first.ensures in
    let none : length c.in_ok-rest.rest.items ≡ 0 = grind (arith, nat_tests, common_steps) in
    went_as (sum_alone _ _ _ c.if-is_none.ensures none) (reaches way c.in_ok-rest.ensures)

pub simple_expression-returns : goal.simple_expression-returns
simple_expression-returns g t c =
    let some : is_some c.sign-sign.result ≡ false → length c.in_ok-rest.rest.items ≡ 0 → ⊥ = λ s h.
    elim c.else-is_none.branch [
      | simple_expression-else-is_none-via-then-is_none+else-is_empty w ↦ (let e = w.if-is_empty.ensures in absurd (grind (arith, nat_tests, common_steps, e, h)))
      | simple_expression-else-is_none-via-else-is_none w ↦ (let e = w.if-is_none.ensures in absurd (cc))
    ] in
    let way = past (starts (λ _ _ w. leads_simple)) (sign_follows _) c.sign-sign.ensures in
    let way = past way (operands_follow chained_terms) c.in_ok-first.ensures in
    went_as (sum_made c.sign-sign.result c.in_ok-first.first c.in_ok-first-2.first c.in_ok-rest.rest c.in_ok-first-2.ensures.ok some)
    (reaches way c.in_ok-rest.ensures)

-- {("+" | "-" | "OR") term}

pub terms-returns-in_err-value : goal.terms-returns-in_err-value
terms-returns-in_err-value g t c =
    let found = c.in-Some.ensures.some in
    let way = path_on c.loop-operator.invariant (starts (λ _ _ w. leads_operand chained_terms found.1 (at_here w found.2))) in
    let way = past way (closed (λ k. refl)) (c.take-place.ensures.took _ found.2) in
    passed _ _ _ _ _ _ c.from_residual.ensures.1
    (fails_in way (operands_follow chained_terms) (fill_operands chained_terms) _ _ c.in_err-value.ensures)

pub terms-loop-operator-preserved : goal.terms-loop-operator-preserved
terms-loop-operator-preserved g t c =
    let found = c.in-Some.ensures.some in
    let way = path_on c.loop-operator.invariant (starts (λ _ _ w. leads_operand chained_terms found.1 (at_here w found.2))) in
    let way = past way (closed (λ k. refl)) (c.take-place.ensures.took _ found.2) in
    let way = past way (operands_follow chained_terms) c.in_ok-value.ensures in
    path_as (operands_before_more _ _ _ c.in_ok-push.ensures.items) way

pub terms-returns : goal.terms-returns
terms-returns g t c =
    let end = reaches c.loop-operator.invariant (stays (λ _ _ w. reads_no_operand chained_terms (λ kind operator i h. c.in_default.ensures.none kind operator i (here_at w h)))) in
    went_as (operands_before-end c.loop-operator.all.items) end

-- term = factor {("*" | "DIV" | "MOD" | "&") factor}

pub term-returns-in_err-first : goal.term-returns-in_err-first
term-returns-in_err-first g t c =
    passed _ _ _ _ _ _ c.from_residual.ensures.1
    (fails_in (starts (λ _ _ w. leads_term)) (operands_follow chained_factors) (fill_operands chained_factors) _ _ c.in_err-first.ensures)

pub term-returns-in_err-rest : goal.term-returns-in_err-rest
term-returns-in_err-rest g t c =
    let way = past (starts (λ _ _ w. leads_term)) (operands_follow chained_factors) c.in_ok-first.ensures in
    passed _ _ _ _ _ _ c.from_residual-in_err-rest.ensures.1 (fails way _ _ c.in_err-rest.ensures)

pub term-returns-then-is_empty : goal.term-returns-then-is_empty
term-returns-then-is_empty g t c =
    let way = past (starts (λ _ _ w. leads_term)) (operands_follow chained_factors) c.in_ok-first.ensures in
    let none : length c.in_ok-rest.rest.items ≡ 0 = grind (arith, nat_tests, common_steps) in
    went_as (product_alone _ _ none) (reaches way c.in_ok-rest.ensures)

pub term-returns : goal.term-returns
term-returns g t c =
    let some : length c.in_ok-rest.rest.items ≡ 0 → ⊥ = λ h. grind (arith, nat_tests, common_steps) in
    let way = past (starts (λ _ _ w. leads_term)) (operands_follow chained_factors) c.in_ok-first.ensures in
    went_as (product_made c.in_ok-first.first c.in_ok-first-2.first c.in_ok-rest.rest c.in_ok-first-2.ensures.ok some) (reaches way c.in_ok-rest.ensures)

-- {("*" | "DIV" | "MOD" | "&") factor}

pub factors-returns-in_err-value : goal.factors-returns-in_err-value
factors-returns-in_err-value g t c =
    let found = c.in-Some.ensures.some in
    let way = path_on c.loop-operator.invariant (starts (λ _ _ w. leads_operand chained_factors found.1 (at_here w found.2))) in
    let way = past way (closed (λ k. refl)) (c.take-place.ensures.took _ found.2) in
    passed _ _ _ _ _ _ c.from_residual.ensures.1
    (fails_in way (operands_follow chained_factors) (fill_operands chained_factors) _ _ c.in_err-value.ensures)

pub factors-loop-operator-preserved : goal.factors-loop-operator-preserved
factors-loop-operator-preserved g t c =
    let found = c.in-Some.ensures.some in
    let way = path_on c.loop-operator.invariant (starts (λ _ _ w. leads_operand chained_factors found.1 (at_here w found.2))) in
    let way = past way (closed (λ k. refl)) (c.take-place.ensures.took _ found.2) in
    let way = past way (operands_follow chained_factors) c.in_ok-value.ensures in
    path_as (operands_before_more _ _ _ c.in_ok-push.ensures.items) way

pub factors-returns : goal.factors-returns
factors-returns g t c =
    let end = reaches c.loop-operator.invariant (stays (λ _ _ w. reads_no_operand chained_factors (λ kind operator i h. c.in_default.ensures.none kind operator i (here_at w h)))) in
    went_as (operands_before-end c.loop-operator.all.items) end

-- factor = ident selector | number | "(" expression ")" | "~" factor

pub factor-returns-in_err-selectors : goal.factor-returns-in_err-selectors
factor-returns-in_err-selectors g t c =
    let way = past (starts (λ _ _ w. leads_named (at_here w (true_at c.if-at-4.ensures.kind)))) (closed (λ k. refl)) c.in_ok-name.ensures in
    passed _ _ _ _ _ _ c.from_residual-in_err-selectors.ensures.1 (fails way _ _ c.in_err-selectors.ensures)

pub factor-returns-then-at-3 : goal.factor-returns-then-at-3
factor-returns-then-at-3 g t c = c.number.ensures c.args.depth

pub factor-returns-in_ok-selectors : goal.factor-returns-in_ok-selectors
factor-returns-in_ok-selectors g t c =
    let way = past (starts (λ _ _ w. leads_named (at_here w (true_at c.if-at-4.ensures.kind)))) (closed (λ k. refl)) c.in_ok-name.ensures in
    went_as (sym (expr_of-named (record { name = c.in_ok-name.name; selectors = c.in_ok-selectors.selectors })))
    (reaches way c.in_ok-selectors.ensures)

pub factor-returns-else-at-4 : goal.factor-returns-else-at-4
factor-returns-else-at-4 g t c =
    refused_here (g.S.TokenSource.state c.args.self.now.source) c.unexpected.ensures
    (λ _ _ w. refuses_factor (away w (false_at c.if-at.ensures.kind)) (away w (false_at c.if-at-2.ensures.kind)) (away w (false_at c.if-at-3.ensures.kind)) (away w (false_at c.if-at-4.ensures.kind)))

-- "(" expression ")"

pub parenthesized-returns-then-depth-ge-DEEPEST_NESTING : goal.parenthesized-returns-then-depth-ge-DEEPEST_NESTING
parenthesized-returns-then-depth-ge-DEEPEST_NESTING g t c =
    fails_deep (g.S.TokenSource.state c.args.self.now.source) c.too_deep.ensures (λ _ _ w. leads_parens (at_here w c.requires)) fill_factor (fill_both fill_expression fill_token) (omega arith) c.requires

pub parenthesized-take-place-requires : goal.parenthesized-take-place-requires
parenthesized-take-place-requires g t c = token_there (g.S.TokenSource.state c.args.self.now.source) c.requires

pub parenthesized-returns-in_err-inner : goal.parenthesized-returns-in_err-inner
parenthesized-returns-in_err-inner g t c =
    let way = past (starts (λ _ _ w. leads_parens (at_here w c.requires))) (closed (λ k. refl)) (went_opens (omega arith) (c.take-place.ensures.took _ c.requires)) in
    passed _ _ _ _ _ _ c.from_residual.ensures.1 (fails_in way (before_last refl) fill_token _ _ c.in_err-inner.ensures)

pub parenthesized-returns-in_err-expect : goal.parenthesized-returns-in_err-expect
parenthesized-returns-in_err-expect g t c =
    let way = past (starts (λ _ _ w. leads_parens (at_here w c.requires))) (closed (λ k. refl)) (went_opens (omega arith) (c.take-place.ensures.took _ c.requires)) in
    let way = past way (before_last refl) c.in_ok-inner.ensures in
    passed _ _ _ _ _ _ c.from_residual-in_err-expect.ensures.1 (fails way _ _ c.in_err-expect.ensures.answers)

pub parenthesized-returns : goal.parenthesized-returns
parenthesized-returns g t c =
    let way = past (starts (λ _ _ w. leads_parens (at_here w c.requires))) (closed (λ k. refl)) (went_opens (omega arith) (c.take-place.ensures.took _ c.requires)) in
    let way = past way (before_last refl) c.in_ok-inner.ensures in
    went_as (ap (λ x. Tree.Parens c.take-place.result (expr_of x)) (sym c.in_ok-inner-2.ensures.ok)) (reaches way c.in_ok-expect.ensures.answers)

-- "~" factor

pub negation-returns-then-depth-ge-DEEPEST_NESTING : goal.negation-returns-then-depth-ge-DEEPEST_NESTING
negation-returns-then-depth-ge-DEEPEST_NESTING g t c =
    fails_deep (g.S.TokenSource.state c.args.self.now.source) c.too_deep.ensures (λ _ _ w. leads_not (at_here w c.requires)) fill_factor fill_factor (omega arith) c.requires

pub negation-take-place-requires : goal.negation-take-place-requires
negation-take-place-requires g t c = token_there (g.S.TokenSource.state c.args.self.now.source) c.requires

pub negation-returns-in_err-operand : goal.negation-returns-in_err-operand
negation-returns-in_err-operand g t c =
    let way = past (starts (λ _ _ w. leads_not (at_here w c.requires))) (closed (λ k. refl)) (went_opens (omega arith) (c.take-place.ensures.took _ c.requires)) in
    passed _ _ _ _ _ _ c.from_residual.ensures.1 (fails way _ _ c.in_err-operand.ensures)

pub negation-returns : goal.negation-returns
negation-returns g t c =
    let way = past (starts (λ _ _ w. leads_not (at_here w c.requires))) (closed (λ k. refl)) (went_opens (omega arith) (c.take-place.ensures.took _ c.requires)) in
    went_as (ap (λ x. Tree.Not c.take-place.result (expr_of x)) (sym c.in_ok-operand-2.ensures.ok)) (reaches way c.in_ok-operand.ensures)

-- selector = {"." ident | "[" expression "]"}

pub selectors-returns-in_err-next : goal.selectors-returns-in_err-next
selectors-returns-in_err-next g t c =
    let here : IsAt (g.S.TokenSource.state c.loop-self.self.source) Kind.Dot ⊎ IsAt (g.S.TokenSource.state c.loop-self.self.source) Kind.LeftBracket =
    elim c.if-at.branch [
      | selectors-then-at w ↦ inl (true_at w.if-at.ensures.kind)
      | selectors-else-at+then-at-2 w ↦ inr (true_at w.if-at-2.ensures.kind)
    ] in
    let way = path_on c.loop-self.invariant (starts (λ _ _ w. leads_more_selectors (either_here w here))) in
    passed _ _ _ _ _ _ c.from_residual.ensures.1 (fails_in way (closed (λ k. refl)) fill_selectors _ _ c.in_err-next.ensures.answers)

pub selectors-loop-self-preserved : goal.selectors-loop-self-preserved
selectors-loop-self-preserved g t c =
    let here : IsAt (g.S.TokenSource.state c.loop-self.self.source) Kind.Dot ⊎ IsAt (g.S.TokenSource.state c.loop-self.self.source) Kind.LeftBracket =
    elim c.if-at.branch [
      | selectors-then-at w ↦ inl (true_at w.if-at.ensures.kind)
      | selectors-else-at+then-at-2 w ↦ inr (true_at w.if-at-2.ensures.kind)
    ] in
    let way = path_on c.loop-self.invariant (starts (λ _ _ w. leads_more_selectors (either_here w here))) in
    path_as (selectors_before_more _ _ _ c.in_ok-push.ensures.items) (past way (closed (λ k. refl)) c.in_ok-next.ensures.answers)

pub selectors-returns : goal.selectors-returns
selectors-returns g t c =
    let end = reaches c.loop-self.invariant (stays (λ _ _ w. reads_no_selectors (away w (false_at c.if-at.ensures.kind)) (away w (false_at c.if-at-2.ensures.kind)))) in
    went_as (selectors_before-end c.loop-self.all.items) end

-- "." ident | "[" expression "]"

pub selector-returns-in_err-place-clause-answers : goal.selector-returns-in_err-place-clause-answers
selector-returns-in_err-place-clause-answers g t c =
    let way = starts (λ _ _ w. leads_field c.args.depth (away w (false_at c.if-at.ensures.kind))) in
    passed _ _ _ _ _ _ c.from_residual.ensures.1 (fails_in way (closed (λ k. refl)) fill_name _ _ c.in_err-place.ensures.answers)

pub selector-returns-in_err-name-clause-answers : goal.selector-returns-in_err-name-clause-answers
selector-returns-in_err-name-clause-answers g t c =
    let way = starts (λ _ _ w. leads_field c.args.depth (away w (false_at c.if-at.ensures.kind))) in
    let way = past way (closed (λ k. refl)) c.in_ok-place.ensures.answers in
    passed _ _ _ _ _ _ c.from_residual-in_err-name.ensures.1
    (fails way _ _ (fails_here (g.S.TokenSource.state c.expect.new.self.source) begins_name fill_name _ _ c.in_err-name.ensures))

pub selector-returns-clause-answers : goal.selector-returns-clause-answers
selector-returns-clause-answers g t c =
    let way = starts (λ _ _ w. leads_field c.args.depth (away w (false_at c.if-at.ensures.kind))) in
    reaches (past way (closed (λ k. refl)) c.in_ok-place.ensures.answers) c.in_ok-name.ensures

pub index-returns-then-depth-ge-DEEPEST_NESTING-clause-answers : goal.index-returns-then-depth-ge-DEEPEST_NESTING-clause-answers
index-returns-then-depth-ge-DEEPEST_NESTING-clause-answers g t c =
    fails_deep {n = c.args.depth} (g.S.TokenSource.state c.args.self.now.source) c.too_deep.ensures (λ _ _ w. leads_index c.args.depth (at_here w c.requires)) (fill_selector c.args.depth)
    (fill_both fill_expression fill_token) (omega arith) c.requires

pub index-take-place-requires : goal.index-take-place-requires
index-take-place-requires g t c = token_there (g.S.TokenSource.state c.args.self.now.source) c.requires

pub index-returns-in_err-index-clause-answers : goal.index-returns-in_err-index-clause-answers
index-returns-in_err-index-clause-answers g t c =
    let way = past (starts (λ _ _ w. leads_index c.args.depth (at_here w c.requires))) (closed (λ k. refl)) (went_opens {n = c.args.depth} (omega arith) (c.take-place.ensures.took _ c.requires)) in
    passed _ _ _ _ _ _ c.from_residual.ensures.1 (fails_in way (before_last refl) fill_token _ _ c.in_err-index.ensures)

pub index-returns-in_err-expect-clause-answers : goal.index-returns-in_err-expect-clause-answers
index-returns-in_err-expect-clause-answers g t c =
    let way = past (starts (λ _ _ w. leads_index c.args.depth (at_here w c.requires))) (closed (λ k. refl)) (went_opens {n = c.args.depth} (omega arith) (c.take-place.ensures.took _ c.requires)) in
    let way = past way (before_last refl) c.in_ok-index.ensures in
    passed _ _ _ _ _ _ c.from_residual-in_err-expect.ensures.1 (fails way _ _ c.in_err-expect.ensures.answers)

pub index-returns-clause-answers : goal.index-returns-clause-answers
index-returns-clause-answers g t c =
    let way = past (starts (λ _ _ w. leads_index c.args.depth (at_here w c.requires))) (closed (λ k. refl)) (went_opens {n = c.args.depth} (omega arith) (c.take-place.ensures.took _ c.requires)) in
    let way = past way (before_last refl) c.in_ok-index.ensures in
    reaches way c.in_ok-expect.ensures.answers
