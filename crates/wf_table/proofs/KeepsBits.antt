-- Bits: every toggle in a block stays 0 or 1.
use Rattle.std.proofs.Common.{◌≡◌, ℕ, ◌+◌, ◌<◌, ◌≤◌, length, take, refl, sym, ap, subst, arith}
use Rattle.std.proofs.lemmas.Bool.Decides.{nat_tests}
use Rattle.std.proofs.lemmas.List.{length-take-le}
use Rattle.ll_cell.specs.Cell.{Cell, own_of}
use Rattle.ll_cell.proofs.Exchange.{exchange_cases}
use Rattle.wf_table.specs.declared.engine_turn.EngineTurn.{EngineTurn}
use Rattle.wf_table.specs.declared.engine_turn.EngineTurn.TheVariants.{On, Returned, Trapped, Stuck}
use Rattle.wf_table.specs.declared.process.Label.{Label}
use Rattle.wf_table.specs.declared.process.Label.TheVariants.{Load, Store, Body, Undo, Keep}
use Rattle.wf_table.specs.declared.process.Sizes.{Sizes}
use Rattle.wf_table.specs.Meaning.{Meaning}
use Rattle.wf_table.specs.StepTable.{Process, after_body, body_turn, block_words, toggle_place, toggle_in, own_block, Change, Nothing, Own, Refill, Announce, Links, Exchanges, cell_after, row}
use Rattle.wf_table.specs.Ranges.{IsInRange, index_in}
use Rattle.wf_table.specs.Labels.{at_store}
use Rattle.wf_table.specs.Toggles.{IsBit, AreBits, StoresBit}
use Rattle.wf_table.proofs.Words.{written, rewritten, at_toggle, bit_inverted}

-- a change that writes bits alone at the places of toggles
abbrev pub WritesBits : Sizes → Change → Type 0
WritesBits z Nothing = Unit {0}
WritesBits z (Own i w) = (k : ℕ) → k < z.processes → i ≡ toggle_place z k → IsBit w
WritesBits z (Refill ws) = length ws ≤ z.variables
WritesBits z (Announce i w) = Unit {0}
WritesBits z Links = Unit {0}
WritesBits z Exchanges = Unit {0}

pub change_keeps : (z : Sizes) (c : Cell) (p : ℕ) (change : Change) → WritesBits z change → AreBits z c → AreBits z (cell_after c p change)
change_keeps z c p Nothing w h = h
change_keeps z c p (Own i x) w h = record { bit = λ b q wb wq. written IsBit c.blocks (own_of c p) b i (toggle_place z q) x (λ _ e. w q wq (sym e)) (h.bit b q wb wq) }
change_keeps z c p (Refill ws) w h = record { bit = λ b q wb wq. rewritten IsBit c.blocks (own_of c p) b (toggle_place z q) ws (λ _. omega (arith, w)) (h.bit b q wb wq) }
change_keeps z c p (Announce i x) w h = record { bit = h.bit }
change_keeps z c p Links w h = record { bit = h.bit }
change_keeps z c p Exchanges w h = exchange_cases (AreBits z) c p (λ _. record { bit = h.bit }) (λ _. h)

module _ {Run : Type 0} where
  row_writes : (l : Label) (m : Meaning Run) (z : Sizes) (c : Cell) (p : ℕ) (q : Process Run) → length (body_turn m z c p q).block ≡ length (take z.variables (own_block c p)) → length (own_block c p) ≡ block_words z → q.label ≡ l → IsInRange z q → StoresBit z q → WritesBits z (row l m z c p q).change
  row_writes Store m z c p q step long is h stores = λ k lt e. stores.bit (ap at_store is) k lt e
  row_writes Undo m z c p q step long is h stores = let index : index_in z Undo q.registers = subst (λ (k : Label). index_in z k q.registers) is h.index in λ k lt e. absurd (omega (arith, index, e))
  row_writes Keep m z c p q step long is h stores =
      let index : index_in z Keep q.registers = subst (λ (k : Label). index_in z k q.registers) is h.index in
      λ k lt e. (let last : q.registers.i ≡ z.replies + 1 = at_toggle z.variables z.replies q.registers.j k q.registers.i (index.0) e in
      let bit = bit_inverted (toggle_in z (own_block c p) q.registers.j) in grind (arith, nat_tests, last, bit))
  row_writes Body m z c p q step long is h stores = omega (arith, step, length-take-le z.variables (own_block c p) (omega (arith, long)))
  row_writes l m z c p q step long is h stores = tt

  pub keeps_bits : (m : Meaning Run) (z : Sizes) (c : Cell) (p : ℕ) (q : Process Run) → length (body_turn m z c p q).block ≡ length (take z.variables (own_block c p)) → length (own_block c p) ≡ block_words z → IsInRange z q → StoresBit z q → AreBits z c → AreBits z (cell_after c p (row q.label m z c p q).change)
  keeps_bits m z c p q step long h stores bits = change_keeps z c p (row q.label m z c p q).change (row_writes q.label m z c p q step long refl h stores) bits

  body_stores : (z : Sizes) (t : EngineTurn) (q : Process Run) → q.label ≡ Body → StoresBit z (after_body z t q)
  body_stores z On q is = record { bit = let k = ap at_store is in λ a. absurd (cc) }
  body_stores z Returned q is = record { bit = λ a. absurd (cc) }
  body_stores z (Trapped k) q is = record { bit = λ a. absurd (grind (arith, nat_tests)) }
  body_stores z Stuck q is = record { bit = let k = ap at_store is in λ a. absurd (cc) }

  pub keeps_stores : (l : Label) (m : Meaning Run) (z : Sizes) (c : Cell) (p : ℕ) (q : Process Run) → q.label ≡ l → IsInRange z q → AreBits z c → StoresBit z (row l m z c p q).process
  keeps_stores Load m z c p q is h bits = record { bit = λ a k lt e. rw e (bits.bit q.registers.r k h.r lt) }
  keeps_stores Body m z c p q is h bits = body_stores z (body_turn m z c p q).turn _ is
  keeps_stores l m z c p q is h bits = record { bit = let k = ap at_store is in λ a. absurd (grind (arith, nat_tests, k)) }
