-- The verdict on a chain of the program, step by step.
use Rattle.std.proofs.Common.{◌≡◌, List, Option, sym, ap, ◌∙◌, Box, Vec}
use Rattle.std.specs.declared.alloc.Global.{Global}
use Rattle.ob_grammar.specs.declared.tree.Expr.{Expr}
use Rattle.ob_grammar.specs.declared.tree.Expr.TheVariants as Exprs
use Rattle.ob_grammar.specs.declared.tree.Designator.{Designator}
use Rattle.ob_grammar.specs.declared.tree.Operand.{Operand}
use Rattle.ob_grammar.specs.declared.tree.Sign.{Sign}
use Rattle.ob_grammar.specs.View.{expr_of, operands_in}
use Rattle.ob_grammar.proofs.Rows.{expr_of-named, expr_of-product, expr_of-sum}
use Rattle.ob_typing.specs.Scopes.{Environment}
use Rattle.ob_typing.specs.Expressions.{Use}
use Rattle.ob_typing.specs.declared.rule.Rule.TheVariants.{TypesDiffer}
use Rattle.ob_typing.specs.Expressions.{sign_fits, value_signed, with_sign}
use Rattle.ob_typing.specs.Verdict.{Verdict, Right, ◌>>=◌, test, result}
use Rattle.ob_typing.specs.ExpressionVerdicts as Verdicts
use Rattle.ob_typing.specs.ExpressionVerdicts.{expression, operands, sign_place}
use Rattle.ob_rules.specs.Checking.{designator_in, signed, chained}
use Rattle.ob_rules.proofs.Steps.{bind_assoc, bind_same}

module _ (env : Environment) (use' : Use) (e : Expr) where
  pub named_verdict : (d : Designator) → e ≡ Exprs.Named d → expression env (expr_of e) use' ≡ expression env (designator_in d) use'
  named_verdict d is = ap (λ x. expression env (expr_of x) use') is ∙ ap (λ x. expression env x use') (expr_of-named d)

  -- the operands behind a first one
  abbrev pub behind_first : List Operand → Verdicts.Typed → Verdict Verdicts.Typed
  behind_first rest x = ◌>>=◌ (operands env (operands_in rest) use' x.type x.value) (λ y. Right (chained x y))

  pub product_verdict : (first : Box Expr Global) (rest : Vec Operand Global) → e ≡ Exprs.Product first rest → (x : Expr) → x ≡ first.value →
      (os : List Operand) → os ≡ rest.items → expression env (expr_of e) use' ≡ ◌>>=◌ (expression env (expr_of x) use') (behind_first os)
  product_verdict first rest is x at os at' =
      ap (λ y. expression env (expr_of y) use') is ∙ ap (λ y. expression env y use') (expr_of-product first rest)
      ∙ ap (λ y. ◌>>=◌ (expression env (expr_of y) use') (behind_first rest.items)) (sym at)
      ∙ ap (λ ys. ◌>>=◌ (expression env (expr_of x) use') (behind_first ys)) (sym at')

  -- a first term, its sign, and the operands behind
  abbrev pub behind_sign : Option Sign → List Operand → Verdicts.Typed → Verdict Verdicts.Typed
  behind_sign sign rest x = ◌>>=◌ (signed sign x) (behind_first rest)

  -- the same with the sign's tests in one line with the operands
  in_line : (sign : Option Sign) (rest : List Operand) (x : Verdicts.Typed) →
      behind_sign sign rest x
      ≡ ◌>>=◌ (test (sign_fits sign x.type) TypesDiffer (sign_place sign)) (λ fits.
      ◌>>=◌ (result (value_signed sign x.value) (sign_place sign)) (λ v.
      behind_first rest (record { type = x.type; code = with_sign sign x.code; value = v })))
  in_line sign rest x =
      bind_assoc (test (sign_fits sign x.type) TypesDiffer (sign_place sign)) _ (behind_first rest)
      ∙ bind_same (test (sign_fits sign x.type) TypesDiffer (sign_place sign)) _ _ (λ fits.
      bind_assoc (result (value_signed sign x.value) (sign_place sign)) _ (behind_first rest))

  pub sum_verdict : (sign : Option Sign) (first : Box Expr Global) (rest : Vec Operand Global) → e ≡ Exprs.Sum sign first rest → (x : Expr) → x ≡ first.value →
      (os : List Operand) → os ≡ rest.items → expression env (expr_of e) use' ≡ ◌>>=◌ (expression env (expr_of x) use') (behind_sign sign os)
  sum_verdict sign first rest is x at os at' =
      ap (λ y. expression env (expr_of y) use') is ∙ ap (λ y. expression env y use') (expr_of-sum sign first rest)
      ∙ bind_same (expression env (expr_of first.value) use') _ (behind_sign sign rest.items) (λ v. sym (in_line sign rest.items v))
      ∙ ap (λ y. ◌>>=◌ (expression env (expr_of y) use') (behind_sign sign rest.items)) (sym at)
      ∙ ap (λ ys. ◌>>=◌ (expression env (expr_of x) use') (behind_sign sign ys)) (sym at')
