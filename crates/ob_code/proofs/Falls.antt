-- The size of statements, which falls from a statement to those within it.
use Rattle.std.proofs.Common.{ℕ, suc, zero, ◌+◌, ◌<◌, List, [], ◌∷◌, length, get_or, arith}
use Rattle.ob_typing.specs.Program as Programs
use Rattle.ob_checked.specs.declared.program.Statement.{Statement}
use Rattle.ob_checked.specs.View.{statement_of, statements_in}

abbrev mutual
  pub weight : Programs.Statement → ℕ
  weight (Programs.Assign target e) = 1
  weight (Programs.Call number actuals) = 1
  weight (Programs.If branches) = suc (weight_of_branches branches)
  weight (Programs.While condition body) = suc (weight_of_all body)
  weight (Programs.Repeat body condition) = suc (weight_of_all body)

  pub weight_of_all : Programs.Statements → ℕ
  weight_of_all Programs.no_statement = 1
  weight_of_all (Programs.statement first rest) = suc (weight first + weight_of_all rest)

  pub weight_of_branches : Programs.Branches → ℕ
  weight_of_branches Programs.no_branch = 1
  weight_of_branches (Programs.otherwise statements) = suc (weight_of_all statements)
  weight_of_branches (Programs.branch condition statements rest) = suc (weight_of_all statements + weight_of_branches rest)

pub weight_at : (ss : List Statement) (i : ℕ) (d : Statement) → i < length ss → weight (statement_of (get_or ss i d)) < weight_of_all (statements_in ss)
weight_at [] i d h = absurd (omega (arith, h))
weight_at (s ∷ ss) zero d h = omega arith
weight_at (s ∷ ss) (suc i) d h = let rest = weight_at ss i d (omega (arith, h)) in omega (arith, rest)
