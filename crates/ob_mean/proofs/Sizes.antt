-- The size of statements, which falls from a statement to those within it, and over a call to those of the procedure.
use Rattle.std.proofs.Common.{◌≡◌, subst, arith, ℕ, zero, suc, ◌+◌, ◌*◌, ◌-◌, ◌<◌, ◌≤◌, List, [], ◌∷◌, length, get_or, Some}
use Rattle.std.specs.Prelude.{slice_get}
use Rattle.ob_typing.specs.Program as Programs
use Rattle.ob_checked.specs.declared.program.Statement.{Statement}
use Rattle.ob_checked.specs.declared.program.Branch.{Branch}
use Rattle.ob_checked.specs.View.{statement_of, statements_in, branches_in}

abbrev mutual
  pub size : Programs.Statement → ℕ
  size (Programs.Assign target e) = 1
  size (Programs.Call number actuals) = 1
  size (Programs.If branches) = suc (size_of_branches branches)
  size (Programs.While condition body) = suc (size_of_all body)
  size (Programs.Repeat body condition) = suc (size_of_all body)

  pub size_of_all : Programs.Statements → ℕ
  size_of_all Programs.no_statement = 1
  size_of_all (Programs.statement first rest) = suc (size first + size_of_all rest)

  pub size_of_branches : Programs.Branches → ℕ
  size_of_branches Programs.no_branch = 1
  size_of_branches (Programs.otherwise statements) = suc (size_of_all statements)
  size_of_branches (Programs.branch condition statements rest) = suc (size_of_all statements + size_of_branches rest)

-- the statements of all procedures
abbrev pub sizes : List Programs.Procedure → ℕ
sizes [] = 0
sizes (p ∷ ps) = size_of_all p.body + sizes ps

-- what one activation more allows
abbrev pub turn_of : Programs.Program → ℕ
turn_of program = suc (2 * sizes program.procedures)

pub size_at : (ss : List Statement) (i : ℕ) (d : Statement) → i < length ss → size (statement_of (get_or ss i d)) < size_of_all (statements_in ss)
size_at [] i d h = absurd (omega (arith, h))
size_at (s ∷ ss) zero d h = omega arith
size_at (s ∷ ss) (suc i) d h = let rest = size_at ss i d (omega (arith, h)) in omega (arith, rest)

pub branch_at : (bs : List Branch) (last : Programs.Branches) (i : ℕ) (d : Branch) → i < length bs →
    size_of_all (statements_in (get_or bs i d).body.items) < size_of_branches (branches_in bs last)
branch_at [] last i d h = absurd (omega (arith, h))
branch_at (b ∷ bs) last zero d h = omega arith
branch_at (b ∷ bs) last (suc i) d h = let rest = branch_at bs last i d (omega (arith, h)) in omega (arith, rest)

pub last_at : (bs : List Branch) (last : Programs.Branches) → size_of_branches last ≤ size_of_branches (branches_in bs last)
last_at [] last = omega arith
last_at (b ∷ bs) last = let rest = last_at bs last in omega (arith, rest)

pub body_at : (ps : List Programs.Procedure) (n : ℕ) (p : Programs.Procedure) → slice_get ps n ≡ Some p → size_of_all p.body ≤ sizes ps
body_at [] n p h = absurd cc
body_at (q ∷ ps) zero p h = let same : q ≡ p = cc in subst (λ x. size_of_all x.body ≤ sizes (q ∷ ps)) same (omega arith)
body_at (q ∷ ps) (suc n) p h = let rest = body_at ps n p h in omega (arith, rest)

-- a call goes on with one activation less
pub within_less : (more turn b : ℕ) → 0 < more → b < turn → (more - 1) * turn + b < more * turn
within_less zero turn b h k = absurd (omega (arith, h))
within_less (suc more) turn b h k =
    let less : suc more - 1 ≡ more = omega arith in
    rw less (omega (arith, k))
