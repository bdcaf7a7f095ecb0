-- A step of a body touches one word of the own block, since the engine's law says so.
use Rattle.std.proofs.Common.{◌≡◌, ℕ, zero, suc, ◌+◌, ◌<◌, ◌≤◌, List, [], ◌∷◌, length, take, set, length-set, refl, sym, ap, ◌∙◌, arith, subst}
use Rattle.std.specs.Prelude.{ℤ, pos, Some, slice_get}
use Rattle.std.proofs.lemmas.List.{length-take-le, take_all}
use Rattle.std.proofs.lemmas.Option.{slice_get_within}
use Rattle.ll_cell.specs.Cell.{Cell, own_of, block_of, word_at, refilled}
use Rattle.ob_interface.specs.Call.{ObjectCall}
use Rattle.wf_table.specs.declared.process.Label.{Label}
use Rattle.wf_table.specs.declared.process.Label.TheVariants.{Body}
use Rattle.wf_table.specs.declared.process.Sizes.{Sizes}
use Rattle.wf_table.specs.Meaning.{Meaning, Turned}
use Rattle.wf_table.specs.Law.{Effects, IsLawful, TouchesOneWord}
use Rattle.wf_table.specs.StepTable.{Process, Refill, cell_after, own_block}
use Rattle.wf_table.specs.Object.{State}
use Rattle.wf_table.specs.Sound.{IsSound}
use Rattle.wf_table.proofs.Words.{set_or}
use Rattle.wf_theorems.specs.Touches.{Word, Root, OfBlock, OfAnnouncement, touch, IsAsBefore, Touches, EveryStepTouchesOneWord}
use Rattle.wf_theorems.proofs.Touches.{reads_one, touches_one}

-- a word of the first ones
first_word : (n : ℕ) (ws : List ℤ) (i : ℕ) → i < length (take n ws) → word_at (take n ws) i ≡ word_at ws i
first_word zero ws i lt = absurd (omega (arith, lt))
first_word (suc n) [] i lt = refl
first_word (suc n) (w ∷ ws) zero lt = refl
first_word (suc n) (w ∷ ws) (suc i) lt = first_word n ws i (omega (arith, lt))

-- a word that is written anew as it was
refilled_at : (block ws : List ℤ) (i : ℕ) → (i < length ws → word_at ws i ≡ word_at block i) → word_at (refilled block ws) i ≡ word_at block i
refilled_at [] ws i h = refl
refilled_at (x ∷ xs) [] i h = ap (λ (ys : List ℤ). word_at ys i) (take_all (length (x ∷ xs)) (x ∷ xs) (omega arith))
refilled_at (x ∷ xs) (w ∷ ws) zero h = h (omega arith)
refilled_at (x ∷ xs) (w ∷ ws) (suc i) h = refilled_at xs ws i (λ lt. h (omega (arith, lt)))

module _ {Run : Type 0} (m : Meaning Run) (z : Sizes) (p : ℕ) (q : Process Run) (c : Cell) where
  abbrev first : List ℤ
  first = take z.variables (own_block c p)

  abbrev behind : Turned Run
  behind = m.step q.run first

  module _ (one : TouchesOneWord m q.run first) where
    block_is : behind.block ≡ set first one.place (word_at behind.block one.place)
    block_is = ap (λ (t : Turned Run). t.block) (one.same first refl refl)

    long : length behind.block ≡ length first
    long = ap length block_is ∙ length-set first one.place (word_at behind.block one.place)

    word_apart : (i : ℕ) → ¬ (i ≡ one.place) → word_at (refilled (own_block c p) behind.block) i ≡ word_at (own_block c p) i
    word_apart i apart =
        refilled_at (own_block c p) behind.block i
        (λ lt. ap (λ (ws : List ℤ). word_at ws i) block_is
        ∙ set_or (λ (w : ℤ). w ≡ word_at first i) first one.place i (word_at behind.block one.place) (pos 0) (λ e. absurd (apart e)) refl
        ∙ first_word z.variables (own_block c p) i (omega (arith, lt, long)))

    body_written : (w : Word) → ¬ (w ≡ OfBlock (own_of c p) one.place) → IsAsBefore w c (cell_after c p (Refill behind.block))
    body_written Root apart = (refl, refl, refl)
    body_written (OfBlock b i) apart =
        set_or (λ (row : List ℤ). word_at row i ≡ word_at (block_of c b) i) c.blocks (own_of c p) b (refilled (own_block c p) behind.block) []
        (λ e. word_apart i (λ at. apart (cc)) ∙ ap (λ (a : ℕ). word_at (block_of c a) i) (sym e))
        refl
    body_written (OfAnnouncement k i) apart = refl

module _ {Run : Type 0} (m : Meaning Run) (lawful : List ℤ → Type 0) (fits : ObjectCall → Type 0) (ready : Run → Type 0) (Effect : Effects) (law : IsLawful m lawful fits ready Effect) where
  body_touches : (z : Sizes) (opening : List ℤ) (s : State Run) (p : ℕ) (q : Process Run) → IsSound m lawful fits ready z opening s →
      slice_get s.processes p ≡ Some q → TouchesOneWord m q.run (take z.variables (own_block s.cell p))
  body_touches z opening s p q h at =
      let c = s.cell in
      let member : p < length s.processes = slice_get_within s.processes p q at in
      let owns : p < length c.own = omega (arith, member, h.count, h.shaped.owns) in
      let whole = h.shaped.block (own_of c p) (omega (arith, h.shaped.own_in p owns, h.shaped.blocks)) in
      let within : z.variables ≤ length (own_block c p) = omega (arith, whole) in
      law.one_word q.run (take z.variables (own_block c p)) (h.runs_ready p q at) (length-take-le z.variables (own_block c p) within ∙ h.variables)

  touches_by : (l : Label) (z : Sizes) (p : ℕ) (q : Process Run) (c : Cell) → TouchesOneWord m q.run (take z.variables (own_block c p)) →
      (place : ℕ) × Touches m z p q l c (touch l z (own_of c p) place p q.registers)
  touches_by Body z p q c one =
      (one.place, record { reads = λ d own same. reads_one m z p q Body c d one.place own same; writes = body_written m z p q c one })
  touches_by l z p q c one = (0, touches_one m z p q l c 0 refl)

  pub every_step : EveryStepTouchesOneWord m lawful fits ready
  every_step z opening s p q h at = touches_by q.label z p q s.cell (body_touches z opening s p q h at)
