-- The most tasks of constructs, counted up to the greatest number.
use Rattle.std.proofs.Common.{◌≡◌, ℕ, ◌+◌, ◌≤◌, List, [], ◌∷◌, Option, max, sym, ap, ◌∙◌, Box, Vec, Global, arith}
use Rattle.ob_typing.specs.Program.{Branches, no_branch, otherwise, branch, Statements, no_statement, statement}
use Rattle.ob_tree_law.specs.Reserve as Counts
use Rattle.ob_checked.specs.declared.program.Branch.{Branch}
use Rattle.ob_checked.specs.declared.program.Operation.{Operation}
use Rattle.ob_checked.specs.declared.program.Expression.{Expression}
use Rattle.ob_checked.specs.declared.program.Expression.TheVariants as Expressions
use Rattle.ob_checked.specs.declared.program.Statement.{Statement}
use Rattle.ob_checked.specs.declared.program.Statement.TheVariants as Given
use Rattle.ob_checked.specs.View.{expression_of, operations_in, statement_of, statements_in, branches_in, otherwise_of}
use Rattle.ob_layout.specs.Counted.{counted}
use Rattle.ob_checked.proofs.Rows.{expression_of-computed, statement_of-if, statement_of-while, statement_of-repeat}

pub plus_counted : (r s n k m : ℕ) → m ≡ n + k → r ≡ counted n → s ≡ counted (r + k) → s ≡ counted m
plus_counted r s n k m is a b = omega (arith, is, a, b)

chain : (r1 s1 r2 r n1 n2 m : ℕ) → m ≡ max (n1 + 1) n2 → r1 ≡ counted n1 → s1 ≡ counted (r1 + 1) → r2 ≡ counted n2 → r ≡ max s1 r2 → r ≡ counted m
chain r1 s1 r2 r n1 n2 m is a b d e = omega (arith, is, a, b, d, e)

loop_counted : (r1 s1 r2 s2 t r n1 n2 m : ℕ) → m ≡ max (n1 + 1) (max 3 (n2 + 1)) → r1 ≡ counted n1 → s1 ≡ counted (r1 + 1) → r2 ≡ counted n2 → s2 ≡ counted (r2 + 1) → t ≡ max s2 3 → r ≡ max s1 t → r ≡ counted m
loop_counted r1 s1 r2 s2 t r n1 n2 m is a b d e f g = omega (arith, is, a, b, d, e, f, g)

until_counted : (r1 s1 r2 s2 t r n1 n2 m : ℕ) → m ≡ max 4 (max (n2 + 2) (n1 + 1)) → r1 ≡ counted n1 → s1 ≡ counted (r1 + 1) → r2 ≡ counted n2 → s2 ≡ counted (r2 + 2) → t ≡ max s1 s2 → r ≡ max t 4 → r ≡ counted m
until_counted r1 s1 r2 s2 t r n1 n2 m is a b d e f g = omega (arith, is, a, b, d, e, f, g)

pub chain_counted : (e f : Expression) (first : Box Expression Global) (rest : Vec Operation Global) (r1 s1 r2 r : ℕ) (operations : List Operation) →
    e ≡ Expressions.Computed first rest → f ≡ first.value → operations ≡ rest.items →
    r1 ≡ counted (Counts.value_most (expression_of f)) → s1 ≡ counted (r1 + 1) → r2 ≡ counted (Counts.operators_most (operations_in operations)) → r ≡ max s1 r2 →
    r ≡ counted (Counts.value_most (expression_of e))
chain_counted e f first rest r1 s1 r2 r operations is same items a b d g =
    chain r1 s1 r2 r (Counts.value_most (expression_of first.value)) (Counts.operators_most (operations_in rest.items)) (Counts.value_most (expression_of e))
    (ap Counts.value_most (ap expression_of is ∙ expression_of-computed first rest))
    (a ∙ ap (λ x. counted (Counts.value_most (expression_of x))) same) b
    (d ∙ ap (λ os. counted (Counts.operators_most (operations_in os))) items) g

-- each takes a task at least
some_all : (ss : Statements) → 1 ≤ Counts.all_most ss
some_all no_statement = omega arith
some_all (statement first rest) = omega arith

pub some_choosing : (bs : Branches) → 1 ≤ Counts.choosing_most bs
some_choosing no_branch = omega arith
some_choosing (otherwise ss) = some_all ss
some_choosing (branch condition ss rest) = omega arith

-- what stands behind branches counts beside them
branches_before : (bs : List Branch) (last : Branches) →
    Counts.choosing_most (branches_in bs last) ≡ max (Counts.choosing_most (branches_in bs no_branch)) (Counts.choosing_most last)
branches_before [] last = let some = some_choosing last in omega (arith, some)
branches_before (b ∷ bs) last =
    let rest = branches_before bs last in
    omega (arith, rest)

most_counted : (a b : ℕ) → max (counted a) (counted b) ≡ counted (max a b)
most_counted a b = omega arith

pub if_counted : (s : Statement) (branches : Vec Branch Global) (last : Option (Vec Statement Global)) (most : ℕ) (bs : List Branch) →
    s ≡ Given.If branches last → most ≡ counted (Counts.choosing_most (branches_in bs no_branch)) → bs ≡ branches.items →
    (behind : ℕ) → behind ≡ counted (Counts.choosing_most (otherwise_of last)) →
    max most behind ≡ counted (Counts.doing_most (statement_of s))
if_counted s branches last most bs is a items behind b =
    ap (λ n. max n behind) (a ∙ ap (λ xs. counted (Counts.choosing_most (branches_in xs no_branch))) items)
    ∙ ap (λ n. max (counted (Counts.choosing_most (branches_in branches.items no_branch))) n) b
    ∙ most_counted (Counts.choosing_most (branches_in branches.items no_branch)) (Counts.choosing_most (otherwise_of last))
    ∙ ap counted (sym (branches_before branches.items (otherwise_of last)))
    ∙ ap counted (sym (ap Counts.doing_most (ap statement_of is ∙ statement_of-if branches last)))

pub alone : (n m : ℕ) → n ≡ counted m → 1 ≤ m → n ≡ max n 1
alone n m a some = omega (arith, a, some)

pub while_counted : (s : Statement) (condition : Expression) (body : Vec Statement Global) (r1 s1 r2 s2 t r : ℕ) (ss : List Statement) →
    s ≡ Given.While condition body → ss ≡ body.items →
    r1 ≡ counted (Counts.value_most (expression_of condition)) → s1 ≡ counted (r1 + 1) → r2 ≡ counted (Counts.all_most (statements_in ss)) → s2 ≡ counted (r2 + 1) → t ≡ max s2 3 → r ≡ max s1 t →
    r ≡ counted (Counts.doing_most (statement_of s))
while_counted s condition body r1 s1 r2 s2 t r ss is items a b d e f g =
    loop_counted r1 s1 r2 s2 t r (Counts.value_most (expression_of condition)) (Counts.all_most (statements_in body.items)) (Counts.doing_most (statement_of s))
    (ap Counts.doing_most (ap statement_of is ∙ statement_of-while condition body)) a b
    (d ∙ ap (λ xs. counted (Counts.all_most (statements_in xs))) items) e f g

pub repeat_counted : (s : Statement) (body : Vec Statement Global) (condition : Expression) (r1 s1 r2 s2 t r : ℕ) (ss : List Statement) →
    s ≡ Given.Repeat body condition → ss ≡ body.items →
    r1 ≡ counted (Counts.value_most (expression_of condition)) → s1 ≡ counted (r1 + 1) → r2 ≡ counted (Counts.all_most (statements_in ss)) → s2 ≡ counted (r2 + 2) → t ≡ max s1 s2 → r ≡ max t 4 →
    r ≡ counted (Counts.doing_most (statement_of s))
repeat_counted s body condition r1 s1 r2 s2 t r ss is items a b d e f g =
    until_counted r1 s1 r2 s2 t r (Counts.value_most (expression_of condition)) (Counts.all_most (statements_in body.items)) (Counts.doing_most (statement_of s))
    (ap Counts.doing_most (ap statement_of is ∙ statement_of-repeat body condition)) a b
    (d ∙ ap (λ xs. counted (Counts.all_most (statements_in xs))) items) e f g
