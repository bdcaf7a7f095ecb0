-- What blocks are once the words that were lent of one come back.
use Rattle.std.specs.Prelude.{ℕ, ℤ, List}
use Rattle.std.specs.Borrow.{Lends, MutBor, Fml, i64, Array}
use Rattle.ll_cell.specs.contracts.table.Table.{the_row}
use Rattle.ll_cell.specs.Rows.{Rows, given_back}

-- the blocks end with the words last left behind the result as the first words of this block
abbrev pub LendsFront : MutBor Rows → ℕ → MutBor (List ℤ) → Fml
LendsFront s row r = Lends the_row (Array i64 0) s r (λ ws. given_back s.now row ws)
