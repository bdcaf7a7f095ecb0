-- Sizes summed up to the greatest number.
use Rattle.std.proofs.Common.{◌≡◌, ℕ, ◌+◌, ◌≤◌, Bool, List, [], ◌∷◌, Option, min, max, drop, length, ap, sym, ◌∙◌, Box, Vec, arith}
use Rattle.std.specs.declared.alloc.Global.{Global}
use Rattle.std.proofs.lemmas.List.{at_drop_all}
use Rattle.ob_typing.specs.Program as Program
use Rattle.ob_code_scheme.specs.Types.{Scope}
use Rattle.ob_code_scheme.specs.Scheme as Scheme
use Rattle.ob_checked.specs.declared.program.Branch.{Branch}
use Rattle.ob_checked.specs.declared.program.Designator.{Designator}
use Rattle.ob_checked.specs.declared.program.Operation.{Operation}
use Rattle.ob_checked.specs.declared.program.Expression.{Expression}
use Rattle.ob_checked.specs.declared.program.Expression.TheVariants as Expressions
use Rattle.ob_checked.specs.declared.program.Statement.{Statement}
use Rattle.ob_checked.specs.declared.program.Statement.TheVariants as Statements
use Rattle.ob_interface.specs.declared.scalar.ScalarType.{ScalarType}
use Rattle.ob_checked.specs.View.{expression_of, operations_in, designator_of, statement_of, statements_in, branches_in, otherwise_of}
use Rattle.ob_checked.proofs.Rows.{expression_of-value, expression_of-computed, statement_of-if, statement_of-while, statement_of-repeat}
use Rattle.ob_code.specs.Growing.{is_more, over_many}
use Rattle.ob_code.proofs.Constructs.{over_counted}

abbrev pub counted : ℕ → ℕ
counted n = min n 18446744073709551615

-- a sum that has gone through all
pub sum_ends : {X : Type 0} (S : List X → ℕ) (xs : List X) (i sum all : ℕ) → S [] ≡ 0 → length xs ≤ i → max sum (counted (sum + S (drop i xs))) ≡ counted all → sum ≡ counted all
sum_ends S xs i sum all none past so_far =
    let here : S (drop i xs) ≡ 0 = at_drop_all S xs i past ∙ none in
    let now : max sum (counted (sum + 0)) ≡ counted all = ap (λ n. max sum (counted (sum + n))) (sym here) ∙ so_far in
    last sum all now
  where
    last : (s a : ℕ) → max s (counted (s + 0)) ≡ counted a → s ≡ counted a
    last s a h = omega (arith, h)

one_more : (n m k : ℕ) → m ≡ counted k → n ≡ counted (m + 1) → n ≡ counted (k + 1)
one_more n m k h l = omega (arith, h, l)

two_parts : (n a b p q : ℕ) → a ≡ counted p → b ≡ counted q → n ≡ counted (a + b) → n ≡ counted (p + q)
two_parts n a b p q h k l = omega (arith, h, k, l)

module _ (o : Scope) where
  pub value_sized : (e : Expression) (type : ScalarType) (d : Designator) (n m : ℕ) → e ≡ Expressions.ValueOf type d →
      m ≡ counted (Scheme.designator_size o (designator_of d)) → n ≡ counted (m + 1) → n ≡ counted (Scheme.size o (expression_of e))
  value_sized e type d n m is h l =
      one_more n m (Scheme.designator_size o (designator_of d)) h l ∙ ap (λ x. counted (Scheme.size o x)) (sym (ap expression_of is ∙ expression_of-value type d))

  pub chain_sized : (e f : Expression) (first : Box Expression Global) (rest : Vec Operation Global) (os : List Operation) (n a b : ℕ) →
      e ≡ Expressions.Computed first rest → f ≡ first.value → os ≡ rest.items →
      a ≡ counted (Scheme.size o (expression_of f)) → b ≡ counted (Scheme.operations_size o (operations_in os)) → n ≡ counted (a + b) → n ≡ counted (Scheme.size o (expression_of e))
  chain_sized e f first rest os n a b is same items h k l =
      two_parts n a b (Scheme.size o (expression_of f)) (Scheme.operations_size o (operations_in os)) h k l
      ∙ ap (λ x. counted (Scheme.size o (expression_of x) + Scheme.operations_size o (operations_in os))) same
      ∙ ap (λ xs. counted (Scheme.size o (expression_of first.value) + Scheme.operations_size o (operations_in xs))) items
      ∙ ap (λ x. counted (Scheme.size o x)) (sym (ap expression_of is ∙ expression_of-computed first rest))

  pub if_sized : (s : Statement) (branches : Vec Branch Global) (otherwise : Option (Vec Statement Global)) (bs : List Branch) (n : ℕ) →
      s ≡ Statements.If branches otherwise → bs ≡ branches.items → n ≡ counted (Scheme.branches_size o (branches_in bs (otherwise_of otherwise))) →
      n ≡ counted (Scheme.statement_size o (statement_of s))
  if_sized s branches otherwise bs n is items h =
      h ∙ ap (λ xs. counted (Scheme.branches_size o (branches_in xs (otherwise_of otherwise)))) items
      ∙ ap (λ x. counted (Scheme.statement_size o x)) (sym (ap statement_of is ∙ statement_of-if branches otherwise))

  pub while_sized : (s : Statement) (condition : Expression) (body : Vec Statement Global) (ss : List Statement) (n m a b : ℕ) →
      s ≡ Statements.While condition body → ss ≡ body.items →
      a ≡ counted (Scheme.size o (expression_of condition)) → m ≡ counted (a + 3) → b ≡ counted (Scheme.statements_size o (statements_in ss)) → n ≡ counted (m + b) →
      n ≡ counted (Scheme.statement_size o (statement_of s))
  while_sized s condition body ss n m a b is items h k l r =
      sum n m a b (Scheme.size o (expression_of condition)) (Scheme.statements_size o (statements_in ss)) h k l r
      ∙ ap (λ xs. counted (Scheme.size o (expression_of condition) + 2 + Scheme.statements_size o (statements_in xs) + 1)) items
      ∙ ap (λ x. counted (Scheme.statement_size o x)) (sym (ap statement_of is ∙ statement_of-while condition body))
    where
      sum : (n m a b p q : ℕ) → a ≡ counted p → m ≡ counted (a + 3) → b ≡ counted q → n ≡ counted (m + b) → n ≡ counted (p + 2 + q + 1)
      sum n m a b p q h k l r = omega (arith, h, k, l, r)

  pub repeat_sized : (s : Statement) (body : Vec Statement Global) (condition : Expression) (ss : List Statement) (n m a b : ℕ) →
      s ≡ Statements.Repeat body condition → ss ≡ body.items →
      a ≡ counted (Scheme.size o (expression_of condition)) → m ≡ counted (a + 2) → b ≡ counted (Scheme.statements_size o (statements_in ss)) → n ≡ counted (m + b) →
      n ≡ counted (Scheme.statement_size o (statement_of s))
  repeat_sized s body condition ss n m a b is items h k l r =
      sum n m a b (Scheme.size o (expression_of condition)) (Scheme.statements_size o (statements_in ss)) h k l r
      ∙ ap (λ xs. counted (1 + Scheme.statements_size o (statements_in xs) + Scheme.size o (expression_of condition) + 1)) items
      ∙ ap (λ x. counted (Scheme.statement_size o x)) (sym (ap statement_of is ∙ statement_of-repeat body condition))
    where
      sum : (n m a b p q : ℕ) → a ≡ counted p → m ≡ counted (a + 2) → b ≡ counted q → n ≡ counted (m + b) → n ≡ counted (1 + q + p + 1)
      sum n m a b p q h k l r = omega (arith, h, k, l, r)

  pub branches_sized : (bs rest : List Branch) (b : Branch) (last : Program.Branches) (ss : List Statement) (more : Bool) (over n m u a c d : ℕ) →
      bs ≡ b ∷ rest → ss ≡ b.body.items → more ≡ is_more (branches_in rest last) → over ≡ over_many more →
      a ≡ counted (Scheme.size o (expression_of b.condition)) → m ≡ counted (a + (1 + over)) → c ≡ counted (Scheme.statements_size o (statements_in ss)) →
      d ≡ counted (Scheme.branches_size o (branches_in rest last)) → u ≡ counted (c + d) → n ≡ counted (m + u) →
      n ≡ counted (Scheme.branches_size o (branches_in bs last))
  branches_sized bs rest b last ss more over n m u a c d is items follows one h k l r v w =
      sum n m u a c d over (Scheme.size o (expression_of b.condition)) (Scheme.statements_size o (statements_in ss)) (Scheme.branches_size o (branches_in rest last)) h k l r v w
      ∙ ap (λ z. counted (Scheme.size o (expression_of b.condition) + 1 + Scheme.statements_size o (statements_in ss) + z + Scheme.branches_size o (branches_in rest last)))
      (one ∙ over_counted (branches_in rest last) more follows)
      ∙ ap (λ xs. counted (Scheme.size o (expression_of b.condition) + 1 + Scheme.statements_size o (statements_in xs) + Scheme.over_size (branches_in rest last) + Scheme.branches_size o (branches_in rest last))) items
      ∙ ap (λ xs. counted (Scheme.branches_size o (branches_in xs last))) (sym is)
    where
      sum : (n m u a c d over p q r : ℕ) → a ≡ counted p → m ≡ counted (a + (1 + over)) → c ≡ counted q → d ≡ counted r → u ≡ counted (c + d) → n ≡ counted (m + u) →
          n ≡ counted (p + 1 + q + over + r)
      sum n m u a c d over p q r h k l s v w = omega (arith, h, k, l, s, v, w)
