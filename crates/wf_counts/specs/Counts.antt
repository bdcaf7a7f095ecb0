-- How many calls of each process are made.
use Rattle.std.specs.Prelude.{ℕ, List}

-- the counts of all processes, in order
pub record Counted : Type 0 where
  pub items : List ℕ
