-- A step from CHECK1 to MINE finds the whole own block equal to the root.
use Rattle.std.proofs.Common.{◌≡◌, ℕ, zero, suc, ◌<◌, Bool, true, false, List, [], ◌∷◌, length, set, cond, refl, sym, ap, ◌∙◌, arith, subst}
use Rattle.std.specs.Prelude.{ℤ, Option, Some, None, slice_get}
use Rattle.std.proofs.lemmas.Option.{slice_get_within}
use Rattle.ll_cell.specs.Cell.{is_linked, own_of, block_of}
use Rattle.ob_interface.specs.Call.{ObjectCall}
use Rattle.wf_table.specs.declared.process.Label.{Label}
use Rattle.wf_table.specs.declared.process.Label.TheVariants.{Check1, Mine, Try}
use Rattle.wf_table.specs.declared.process.Sizes.{Sizes}
use Rattle.wf_table.specs.Meaning.{Meaning}
use Rattle.wf_table.specs.StepTable.{Process, own_block, row, at, to}
use Rattle.wf_table.specs.Object.{State, step_of, step_by, label_of, label_by}
use Rattle.wf_table.specs.Ranges.{index_in}
use Rattle.wf_table.specs.Labels.{copying}
use Rattle.wf_table.specs.Sound.{IsSound}
use Rattle.wf_table.proofs.Words.{same_words}

slice_get-set : {X : Type 0} (xs : List X) (p : ℕ) (x : X) → p < length xs → slice_get (set xs p x) p ≡ Some x
slice_get-set [] p x lt = absurd (omega (arith, lt))
slice_get-set (y ∷ xs) zero x lt = refl
slice_get-set (y ∷ xs) (suc p) x lt = slice_get-set xs p x (omega (arith, lt))

module _ {Run : Type 0} where
  linked_by : (b : Bool) (q : Process Run) → (cond b (at 0 Mine q) (to Try q)).label ≡ Mine → b ≡ true
  linked_by true q e = refl
  linked_by false q e = absurd (cc)

  copied_by : (m : Meaning Run) (lawful : List ℤ → Type 0) (fits : ObjectCall → Type 0) (ready : Run → Type 0) (z : Sizes) (opening : List ℤ) (s : State Run) (p : ℕ) (o : Option (Process Run)) → slice_get s.processes p ≡ o → IsSound m lawful fits ready z opening s → label_by o ≡ Check1 → label_of (step_by m z s p o) p ≡ Mine → own_block s.cell p ≡ block_of s.cell s.cell.root
  copied_by m lawful fits ready z opening s p None here h is leads = absurd (cc)
  copied_by m lawful fits ready z opening s p (Some q) here h is leads =
      let c = s.cell in
      let member : p < length s.processes = slice_get_within s.processes p q here in
      let owns : p < length c.own = omega (arith, member, h.count, h.shaped.owns) in
      let after : (row q.label m z c p q).process.label ≡ Mine = sym (ap label_by (slice_get-set s.processes p (row q.label m z c p q).process member)) ∙ leads in
      let checked : (cond (is_linked c p) (at 0 Mine q) (to Try q)).label ≡ Mine = subst (λ (l : Label). (row l m z c p q).process.label ≡ Mine) is after in
      let linked = linked_by (is_linked c p) q checked in
      let index = subst (λ (l : Label). index_in z l q.registers) is ((h.in_range p q here).index) in
      let own = h.shaped.block (own_of c p) (omega (arith, h.shaped.own_in p owns, h.shaped.blocks)) in
      let root = h.shaped.block c.root (omega (arith, h.shaped.root_in, h.shaped.blocks)) in
      same_words (own_block c p) (block_of c c.root) (own ∙ sym root) (λ k lt. (h.fronts p q here).front (ap copying is) linked k (omega (arith, lt, own, index)))

  pub copied : (m : Meaning Run) (lawful : List ℤ → Type 0) (fits : ObjectCall → Type 0) (ready : Run → Type 0) (z : Sizes) (opening : List ℤ) (s : State Run) (p : ℕ) → IsSound m lawful fits ready z opening s → label_of s p ≡ Check1 → label_of (step_of m z s p) p ≡ Mine → own_block s.cell p ≡ block_of s.cell s.cell.root
  copied m lawful fits ready z opening s p h is leads = copied_by m lawful fits ready z opening s p (slice_get s.processes p) refl h is leads
