-- What a cell is once the words that were lent of a block come back.
use Rattle.std.specs.Prelude.{ℕ, ℤ, List}
use Rattle.std.specs.Borrow.{Lends, MutBor, Fml, i64, Array}
use Rattle.ll_cell.specs.contracts.shared.Shared.{the_row}
use Rattle.ll_cell.specs.Memory.{Memory, given_back_own}

-- the cell ends with the words last left behind the result as the first words of p's own block
abbrev pub LendsOwnWords : MutBor Memory → ℕ → MutBor (List ℤ) → Fml
LendsOwnWords s p r = Lends the_row (Array i64 0) s r (given_back_own s.now p)
