-- The words that a step writes where toggles are kept as bits.
use Rattle.std.proofs.Common.{◌≡◌, ℕ, ◌+◌, ◌*◌, ◌<◌, Bool, true, false, cond, arith, refl, inl, inr, int_eq, le_refl}
use Rattle.std.specs.Prelude.{ℤ, pos, nat_eq}
use Rattle.std.proofs.lemmas.Bool.Decides.{nat_tests}
use Rattle.std.proofs.lemmas.Nat.{row_fits}
use Rattle.ll_cell.specs.Cell.{Cell}
use Rattle.ll_cell.specs.declared.form.Form.{Form}
use Rattle.wf_table.specs.declared.process.Sizes.{Sizes}
use Rattle.wf_table.specs.Meaning.{Meaning}
use Rattle.wf_table.specs.StepTable.{Process, inverted, toggle_in, own_block, block_words, kept_word}
use Rattle.wf_table.specs.Labels.{at_store}
use Rattle.wf_object.specs.Packed.{packed}
use Rattle.wf_table.specs.Toggles.{IsBit, StoresBit}

bit_of : (b : Bool) → IsBit (cond b (pos 1) (pos 0))
bit_of true = inr refl
bit_of false = inl refl

-- an inverted toggle is a bit
pub inverted_bit : (t : ℤ) → IsBit (inverted t)
inverted_bit t = bit_of (int_eq t (pos 0))

second : (a b : Bool) (x y w : ℤ) → a ≡ false → b ≡ true → IsBit y → IsBit (cond a x (cond b y w))
second true b x y w ea eb h = absurd (cc)
second false true x y w ea eb h = h
second false false x y w ea eb h = absurd (cc)

module _ {Run : Type 0} (z : Sizes) (q : Process Run) where
  -- what STORE writes over the last word of a part
  pub stored_bit : StoresBit z q → at_store q.label ≡ true → (k : ℕ) → k < z.processes → q.registers.i + 1 ≡ z.variables + (k + 1) * (z.replies + 2) → IsBit q.registers.acc
  stored_bit h at k lt e = h.bit at k lt (omega (arith, e))

  -- what KEEP writes there
  pub kept_bit : (m : Meaning Run) (c : Cell) (p : ℕ) → q.registers.i + 1 ≡ z.replies + 2 → IsBit (kept_word m z c p q)
  kept_bit m c p last =
      second (nat_eq q.registers.i 0) (nat_eq q.registers.i (z.replies + 1)) q.registers.status (inverted (toggle_in z (own_block c p) q.registers.j)) _
      (grind (arith, nat_tests, last)) (grind (arith, nat_tests, last))
      (inverted_bit (toggle_in z (own_block c p) q.registers.j))

-- a word of a process's part stands in the block
pub in_block : (z : Sizes) (f : Form) (q i : ℕ) → f ≡ packed z → q < z.processes → i < z.replies + 2 → f.head + q * f.part + i < block_words z
in_block z f q i is lt within = rw is (omega (arith, within, row_fits q (z.replies + 2) z.processes (z.replies + 2) lt (le_refl (z.replies + 2))))
