-- How large statements are. What stands within one is smaller.
use Rattle.std.proofs.Common.{◌≡◌, ℕ, zero, suc, ◌+◌, ◌<◌, ◌≤◌, List, [], ◌∷◌, drop, ap, arith}
use Rattle.ob_grammar.specs.declared.tree.Branch as Written
use Rattle.ob_grammar.specs.declared.tree.Stmt.{Stmt}
use Rattle.ob_grammar.specs.Tree
use Rattle.ob_grammar.specs.Tree.{Stmts, Branches, Otherwise}
use Rattle.ob_grammar.specs.View.{stmt_of, stmts_in, branches_in}

abbrev mutual
  pub size : Tree.Stmt → ℕ
  size (Tree.If place branches o) = suc (size_of_branches branches + size_of_else o)
  size (Tree.While place e body) = suc (size_of_all body)
  size (Tree.Repeat place body e) = suc (size_of_all body)
  size _ = 1

  pub size_of_all : Stmts → ℕ
  size_of_all Tree.no_stmt = 1
  size_of_all (Tree.stmt s rest) = suc (size s + size_of_all rest)

  pub size_of_branches : Branches → ℕ
  size_of_branches Tree.no_branch = 1
  size_of_branches (Tree.branch e body rest) = suc (size_of_all body + size_of_branches rest)

  pub size_of_else : Otherwise → ℕ
  size_of_else Tree.no_else = 1
  size_of_else (Tree.else' body) = suc (size_of_all body)

left_smaller : (ss : List Stmt) (i : ℕ) → size_of_all (stmts_in (drop i ss)) ≤ size_of_all (stmts_in ss)
left_smaller [] zero = omega arith
left_smaller (s ∷ ss) zero = omega arith
left_smaller [] (suc i) = omega arith
left_smaller (s ∷ ss) (suc i) = omega (arith, left_smaller ss i)

pub statement_smaller : (ss : List Stmt) (i : ℕ) (s : Stmt) → drop i ss ≡ s ∷ drop (i + 1) ss → size (stmt_of s) < size_of_all (stmts_in ss)
statement_smaller ss i s next =
    let first = ap (λ xs. size_of_all (stmts_in xs)) next in
    omega (arith, first, left_smaller ss i)

branches_smaller : (bs : List Written.Branch) (i : ℕ) → size_of_branches (branches_in (drop i bs)) ≤ size_of_branches (branches_in bs)
branches_smaller [] zero = omega arith
branches_smaller (b ∷ bs) zero = omega arith
branches_smaller [] (suc i) = omega arith
branches_smaller (b ∷ bs) (suc i) = omega (arith, branches_smaller bs i)

pub body_smaller : (bs : List Written.Branch) (i : ℕ) (b : Written.Branch) → drop i bs ≡ b ∷ drop (i + 1) bs →
    size_of_all (stmts_in b.body.items) < size_of_branches (branches_in bs)
body_smaller bs i b next =
    let first = ap (λ xs. size_of_branches (branches_in xs)) next in
    omega (arith, first, branches_smaller bs i)
