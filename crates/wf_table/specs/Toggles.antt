-- Toggles: bits, in torn blocks too, that count the announced calls.
use Rattle.std.specs.Prelude.{◌≡◌, ℕ, ◌+◌, ◌-◌, ◌%◌, ◌<◌, true, ℤ, pos, if◌then◌else◌, ◌⊎◌}
use Rattle.ll_cell.specs.Cell.{Cell, block_of}
use Rattle.wf_table.specs.declared.process.Sizes.{Sizes}
use Rattle.wf_table.specs.Labels.{at_store, unannounced}
use Rattle.wf_table.specs.StepTable.{Process, toggle_place, toggle_in, announced_toggle}

abbrev pub IsBit : ℤ → Type 0
IsBit w = (w ≡ pos 0) ⊎ (w ≡ pos 1)

-- every toggle in a block is a bit
pub record AreBits (z : Sizes) (c : Cell) : Type 0 where
  pub bit : (b q : ℕ) → b < z.processes + 1 → q < z.processes → IsBit (toggle_in z (block_of c b) q)

-- at STORE with the place of a toggle the word to store is a bit
pub record StoresBit {Run : Type 0} (z : Sizes) (q : Process Run) : Type 0 where
  pub bit : at_store q.label ≡ true → (k : ℕ) → k < z.processes → q.registers.i ≡ toggle_place z k → IsBit q.registers.acc

-- the number of calls of the process that have been announced
abbrev pub flips : {Run : Type 0} → Process Run → ℕ
flips q = if unannounced q.label then q.begun - 1 else q.begun

-- flip parity: the announced toggle counts the announced calls
pub record CountsFlips {Run : Type 0} (z : Sizes) (c : Cell) (p : ℕ) (q : Process Run) : Type 0 where
  pub parity : announced_toggle z c p ≡ pos (flips q % 2)
