-- The most temporaries of constructs, counted up to the greatest number.
use Rattle.std.proofs.Common.{◌≡◌, ℕ, List, [], ◌∷◌, Option, max, sym, ap, ◌∙◌, Box, Vec, Global, arith}
use Rattle.ob_typing.specs.Program.{Branches, no_branch}
use Rattle.ob_code_scheme.specs.Temporaries as Counts
use Rattle.ob_checked.specs.declared.program.Branch.{Branch}
use Rattle.ob_checked.specs.declared.program.Operation.{Operation}
use Rattle.ob_checked.specs.declared.program.Expression.{Expression}
use Rattle.ob_checked.specs.declared.program.Expression.TheVariants as Expressions
use Rattle.ob_checked.specs.declared.program.Statement.{Statement}
use Rattle.ob_checked.specs.declared.program.Statement.TheVariants as Statements
use Rattle.ob_checked.specs.View.{expression_of, operations_in, statement_of, statements_in, branches_in, otherwise_of}
use Rattle.ob_layout.specs.Counted.{counted}
use Rattle.ob_checked.proofs.Rows.{expression_of-computed, statement_of-if, statement_of-while, statement_of-repeat}

most_counted : (a b : ℕ) → max (counted a) (counted b) ≡ counted (max a b)
most_counted a b = omega arith

pub chain_counted : (e f : Expression) (first : Box Expression Global) (rest : Vec Operation Global) (most behind : ℕ) (operations : List Operation) →
    e ≡ Expressions.Computed first rest → most ≡ counted (Counts.temporaries (expression_of f)) → f ≡ first.value →
    behind ≡ counted (Counts.operations_temporaries (operations_in operations)) → operations ≡ rest.items →
    max most behind ≡ counted (Counts.temporaries (expression_of e))
chain_counted e f first rest most behind operations is a same b items =
    let left = a ∙ ap (λ x. counted (Counts.temporaries (expression_of x))) same in
    let right = b ∙ ap (λ os. counted (Counts.operations_temporaries (operations_in os))) items in
    ap (λ n. max n behind) left ∙ ap (λ n. max (counted (Counts.temporaries (expression_of first.value))) n) right
    ∙ most_counted (Counts.temporaries (expression_of first.value)) (Counts.operations_temporaries (operations_in rest.items))
    ∙ ap counted (sym (ap Counts.temporaries (ap expression_of is ∙ expression_of-computed first rest)))

-- what stands behind branches counts beside them
branches_before : (bs : List Branch) (last : Branches) →
    Counts.branches_temporaries (branches_in bs last) ≡ max (Counts.branches_temporaries (branches_in bs no_branch)) (Counts.branches_temporaries last)
branches_before [] last = omega arith
branches_before (b ∷ bs) last =
    let rest = branches_before bs last in
    omega (arith, rest)

pub if_counted : (s : Statement) (branches : Vec Branch Global) (otherwise : Option (Vec Statement Global)) (most : ℕ) (bs : List Branch) →
    s ≡ Statements.If branches otherwise → most ≡ counted (Counts.branches_temporaries (branches_in bs no_branch)) → bs ≡ branches.items →
    (behind : ℕ) → behind ≡ counted (Counts.branches_temporaries (otherwise_of otherwise)) →
    max most behind ≡ counted (Counts.statement_temporaries (statement_of s))
if_counted s branches otherwise most bs is a items behind b =
    ap (λ n. max n behind) (a ∙ ap (λ xs. counted (Counts.branches_temporaries (branches_in xs no_branch))) items)
    ∙ ap (λ n. max (counted (Counts.branches_temporaries (branches_in branches.items no_branch))) n) b
    ∙ most_counted (Counts.branches_temporaries (branches_in branches.items no_branch)) (Counts.branches_temporaries (otherwise_of otherwise))
    ∙ ap counted (sym (branches_before branches.items (otherwise_of otherwise)))
    ∙ ap counted (sym (ap Counts.statement_temporaries (ap statement_of is ∙ statement_of-if branches otherwise)))

pub while_counted : (s : Statement) (condition : Expression) (body : Vec Statement Global) (most behind : ℕ) (ss : List Statement) →
    s ≡ Statements.While condition body → most ≡ counted (Counts.temporaries (expression_of condition)) →
    behind ≡ counted (Counts.statements_temporaries (statements_in ss)) → ss ≡ body.items →
    max most behind ≡ counted (Counts.statement_temporaries (statement_of s))
while_counted s condition body most behind ss is a b items =
    ap (λ n. max n behind) a ∙ ap (λ n. max (counted (Counts.temporaries (expression_of condition))) n) (b ∙ ap (λ xs. counted (Counts.statements_temporaries (statements_in xs))) items)
    ∙ most_counted (Counts.temporaries (expression_of condition)) (Counts.statements_temporaries (statements_in body.items))
    ∙ ap counted (sym (ap Counts.statement_temporaries (ap statement_of is ∙ statement_of-while condition body)))

turned : (a b : ℕ) → max a b ≡ max b a
turned a b = omega arith

pub repeat_counted : (s : Statement) (body : Vec Statement Global) (condition : Expression) (most behind : ℕ) (ss : List Statement) →
    s ≡ Statements.Repeat body condition → most ≡ counted (Counts.temporaries (expression_of condition)) →
    behind ≡ counted (Counts.statements_temporaries (statements_in ss)) → ss ≡ body.items →
    max most behind ≡ counted (Counts.statement_temporaries (statement_of s))
repeat_counted s body condition most behind ss is a b items =
    ap (λ n. max n behind) a ∙ ap (λ n. max (counted (Counts.temporaries (expression_of condition))) n) (b ∙ ap (λ xs. counted (Counts.statements_temporaries (statements_in xs))) items)
    ∙ most_counted (Counts.temporaries (expression_of condition)) (Counts.statements_temporaries (statements_in body.items))
    ∙ ap counted (turned (Counts.temporaries (expression_of condition)) (Counts.statements_temporaries (statements_in body.items)))
    ∙ ap counted (sym (ap Counts.statement_temporaries (ap statement_of is ∙ statement_of-repeat body condition)))
