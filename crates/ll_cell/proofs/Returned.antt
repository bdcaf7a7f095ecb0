-- Words that come back.
use Rattle.std.proofs.Common.{◌≡◌, ℕ, ◌≤◌, true, cond, List, length, ap, arith}
use Rattle.std.specs.Prelude.{ℤ, nat_le}
use Rattle.std.proofs.lemmas.Bool.Decides.{nat_tests}
use Rattle.ll_cell.specs.Cell.{own_of, refill_own}
use Rattle.ll_cell.specs.Form.{MayStand}
use Rattle.ll_cell.specs.declared.form.Form.{Form}
use Rattle.ll_cell.specs.Rows.{overrun}
use Rattle.ll_cell.specs.Memory.{Memory, with_cell, MayAnnounce, given_back_own}

-- no more words than the head has are the first ones of the own block
pub own_returned : (m : Memory) (p : ℕ) (ws : List ℤ) → length ws ≤ m.form.head → given_back_own m p ws ≡ with_cell m (refill_own m.cell p ws)
own_returned m p ws few =
    let short : nat_le (length ws) m.form.head ≡ true = grind (arith, nat_tests) in
    ap (λ b. cond b (with_cell m (refill_own m.cell p ws)) (with_cell m (record m.cell { blocks = (overrun (record { form = m.form; rows = m.cell.blocks }) (own_of m.cell p) ws).rows }))) short

-- where blocks have no parts, any word may stand anywhere
pub any_stands : (f : Form) (i : ℕ) (w : ℤ) → f.parts ≡ 0 → MayStand f i w
any_stands f i w none = λ q lt e. absurd (omega (arith, none, lt))

pub any_announced : (m : Memory) (p i : ℕ) (w : ℤ) → m.form.parts ≡ 0 → MayAnnounce m p i w
any_announced m p i w none = λ some e. absurd (omega (arith, none, some))
