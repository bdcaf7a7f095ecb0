-- The rows of the table touch the words of their lines.
use Rattle.std.proofs.Common.{◌≡◌, ℕ, ◌+◌, Bool, true, false, List, refl, sym, ap, ◌∙◌, arith, set, get_or}
use Rattle.std.specs.Prelude.{ℤ, pos, take}
use Rattle.ll_cell.specs.Cell.{Cell, own_of, block_of, announcement_of, word_at}
use Rattle.wf_table.specs.declared.process.Label.{Label}
use Rattle.wf_table.specs.declared.process.Label.TheVariants.{Next, Post, Flip, Try, Link, Load, Store, Check1, Mine, Seen, Fetch, Check2, Save, Enter, Body, Undo, Keep, Commit, Read, Take, Give}
use Rattle.wf_table.specs.declared.process.Sizes.{Sizes}
use Rattle.wf_table.specs.Meaning.{Meaning, Turned}
use Rattle.wf_table.specs.Labels.{at_body}
use Rattle.wf_table.specs.StepTable.{Process, Own, Refill, Announce, Links, Exchanges, Move, moved, after_body, cell_after, row}
use Rattle.wf_table.proofs.Words.{written}
use Rattle.wf_theorems.specs.Touches.{Word, Root, OfBlock, OfAnnouncement, Touch, touch, HaveSameOwn, ShowSameRead, IsAsBefore, IsWritten, Touches}

module _ {Run : Type 0} (m : Meaning Run) (z : Sizes) (p : ℕ) (q : Process Run) where
  -- what a step of a body comes to
  abbrev body_on : Turned Run → Move Run
  body_on t = moved (Refill t.block) (after_body z t.turn (record q { run = t.run }))

  pub reads_one : (l : Label) (c d : Cell) (k : ℕ) → HaveSameOwn p c d → ShowSameRead p (touch l z (own_of c p) k p q.registers) c d → row l m z d p q ≡ row l m z c p q
  reads_one Next c d k own same = refl
  reads_one Post c d k own same = refl
  reads_one Flip c d k own same = rw (own.announcement) (refl)
  reads_one Try c d k own same = refl
  reads_one Link c d k own same = rw (same.0) (refl)
  reads_one Load c d k own same = rw (same) (refl)
  reads_one Store c d k own same = refl
  reads_one Check1 c d k own same = rw (same.1) (refl)
  reads_one Mine c d k own same = rw (own.block, own.announcement) (refl)
  reads_one Seen c d k own same = rw (own.block, same) (refl)
  reads_one Fetch c d k own same = rw (same) (refl)
  reads_one Check2 c d k own same = rw (same.1) (refl)
  reads_one Save c d k own same = rw (own.block) (refl)
  reads_one Enter c d k own same = refl
  reads_one Body c d k own same = ap (λ (ws : List ℤ). body_on (m.step q.run (take z.variables ws))) (sym own.block)
  reads_one Undo c d k own same = refl
  reads_one Keep c d k own same = rw (own.block) (refl)
  reads_one Commit c d k own same = rw (same.1) (refl)
  reads_one Read c d k own same = rw (same.0) (refl)
  reads_one Take c d k own same = rw (same) (refl)
  reads_one Give c d k own same = refl

-- a cell that is as it was
untouched : (w : Word) (c : Cell) → IsAsBefore w c c
untouched Root c = (refl, refl, refl)
untouched (OfBlock b i) c = refl
untouched (OfAnnouncement k i) c = refl

module _ (c : Cell) (p : ℕ) where
  own_written : (i : ℕ) (v : ℤ) (w : Word) → ¬ (w ≡ OfBlock (own_of c p) i) → IsAsBefore w c (cell_after c p (Own i v))
  own_written i v Root apart = (refl, refl, refl)
  own_written i v (OfBlock b k) apart =
      written (λ (x : ℤ). x ≡ word_at (block_of c b) k) c.blocks (own_of c p) b i k v (λ same at. absurd (apart (cc))) refl
  own_written i v (OfAnnouncement b k) apart = refl

  announced : (i : ℕ) (v : ℤ) (w : Word) → ¬ (w ≡ OfAnnouncement p i) → IsAsBefore w c (cell_after c p (Announce i v))
  announced i v Root apart = (refl, refl, refl)
  announced i v (OfBlock b k) apart = refl
  announced i v (OfAnnouncement b k) apart =
      written (λ (x : ℤ). x ≡ word_at (announcement_of c b) k) c.announcements p b i k v (λ same at. absurd (apart (cc))) refl

  linked : (w : Word) → ¬ (w ≡ Root) → IsAsBefore w c (cell_after c p Links)
  linked Root apart = absurd (apart refl)
  linked (OfBlock b k) apart = refl
  linked (OfAnnouncement b k) apart = refl

  exchanges : (w : Word) → ¬ (w ≡ Root) → IsAsBefore w c (cell_after c p Exchanges)
  exchanges Root apart = absurd (apart refl)
  exchanges (OfBlock b k) apart = grind (arith)
  exchanges (OfAnnouncement b k) apart = grind (arith)

module _ {Run : Type 0} (m : Meaning Run) (z : Sizes) (p : ℕ) (q : Process Run) where
  writes_one : (l : Label) (c : Cell) (k : ℕ) → at_body l ≡ false → (w : Word) → ¬ IsWritten (touch l z (own_of c p) k p q.registers) w → IsAsBefore w c (cell_after c p (row l m z c p q).change)
  writes_one Next c k outside w apart = untouched w c
  writes_one Post c k outside w apart = announced c p _ _ w apart
  writes_one Flip c k outside w apart = announced c p _ _ w apart
  writes_one Try c k outside w apart = untouched w c
  writes_one Link c k outside w apart = linked c p w apart
  writes_one Load c k outside w apart = untouched w c
  writes_one Store c k outside w apart = own_written c p _ _ w apart
  writes_one Check1 c k outside w apart = untouched w c
  writes_one Mine c k outside w apart = untouched w c
  writes_one Seen c k outside w apart = untouched w c
  writes_one Fetch c k outside w apart = untouched w c
  writes_one Check2 c k outside w apart = untouched w c
  writes_one Save c k outside w apart = untouched w c
  writes_one Enter c k outside w apart = untouched w c
  writes_one Body c k outside w apart = absurd (cc)
  writes_one Undo c k outside w apart = own_written c p _ _ w apart
  writes_one Keep c k outside w apart = own_written c p _ _ w apart
  writes_one Commit c k outside w apart = exchanges c p w apart
  writes_one Read c k outside w apart = untouched w c
  writes_one Take c k outside w apart = untouched w c
  writes_one Give c k outside w apart = untouched w c

  pub touches_one : (l : Label) (c : Cell) (k : ℕ) → at_body l ≡ false → Touches m z p q l c (touch l z (own_of c p) k p q.registers)
  touches_one l c k outside = record { reads = λ d own same. reads_one m z p q l c d k own same; writes = writes_one l c k outside }
