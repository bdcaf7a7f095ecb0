-- An exchange takes place or not.
use Rattle.std.proofs.Common.{◌≡◌, ℕ, Bool, true, false, cond, refl}
use Rattle.ll_cell.specs.Cell.{Cell, is_linked, exchange, exchanged}

by : (P : Cell → Type 0) (b : Bool) (x y : Cell) → (b ≡ true → P x) → (b ≡ false → P y) → P (cond b x y)
by P true x y done failed = done refl
by P false x y done failed = failed refl

-- what holds of the cell behind an exchange where p is linked, and of the cell itself where it isn't, holds behind the attempt
pub exchange_cases : (P : Cell → Type 0) (c : Cell) (p : ℕ) → (is_linked c p ≡ true → P (exchanged c p)) → (is_linked c p ≡ false → P c) → P (exchange c p)
exchange_cases P c p done failed = by P (is_linked c p) (exchanged c p) c done failed
