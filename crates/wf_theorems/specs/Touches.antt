-- Which words a step reads and writes, of those that processes share. The words of its own block and of its own announcement a process
-- alone writes; so to read these is to read what it might keep for itself.
use Rattle.std.specs.Prelude.{◌≡◌, ℕ, ◌+◌, false, ℤ, List, Some, slice_get}
use Rattle.ll_cell.specs.Cell.{Cell, own_of, is_linked, block_of, announcement_of, word_at}
use Rattle.ob_interface.specs.Call.{ObjectCall}
use Rattle.wf_table.specs.declared.process.Label.{Label}
use Rattle.wf_table.specs.declared.process.Label.TheVariants.{Next, Post, Flip, Try, Link, Load, Store, Check1, Mine, Seen, Fetch, Check2, Save, Enter, Body, Undo, Keep, Commit, Read, Take, Give}
use Rattle.wf_table.specs.declared.process.Registers.{Registers}
use Rattle.wf_table.specs.declared.process.Sizes.{Sizes}
use Rattle.wf_table.specs.Meaning.{Meaning}
use Rattle.wf_table.specs.Labels.{at_body}
use Rattle.wf_table.specs.Object.{State}
use Rattle.wf_table.specs.Sound.{IsSound}
use Rattle.wf_table.specs.StepTable.{Process, cell_after, own_block, part, row}

-- the root, with the own block numbers and the links to it; word i of a block; word i of a process's announcement
pub data Word : Type 0 where
  Root : Word
  OfBlock : (block i : ℕ) → Word
  OfAnnouncement : (process i : ℕ) → Word

-- what a step does to shared words, apart from reading those that its process alone writes
pub data Touch : Type 0 where
  NoWord : Touch
  Reads : (w : Word) → Touch
  Writes : (w : Word) → Touch
  Updates : (w : Word) → Touch  -- reads and writes it at once

-- the line of a label: process p, whose own block is number `own`, touches this word. A body writes the word of a place of the own block
abbrev pub touch : Label → Sizes → (own body_place p : ℕ) → Registers → Touch
touch Next z own body_place p r = NoWord
touch Post z own body_place p r = Writes (OfAnnouncement p r.i)
touch Flip z own body_place p r = Writes (OfAnnouncement p z.arguments)
touch Try z own body_place p r = NoWord
touch Link z own body_place p r = Updates Root
touch Load z own body_place p r = Reads (OfBlock r.r r.i)
touch Store z own body_place p r = Writes (OfBlock own r.i)
touch Check1 z own body_place p r = Reads Root
touch Mine z own body_place p r = NoWord
touch Seen z own body_place p r = Reads (OfAnnouncement r.j z.arguments)
touch Fetch z own body_place p r = Reads (OfAnnouncement r.j r.i)
touch Check2 z own body_place p r = Reads Root
touch Save z own body_place p r = NoWord
touch Enter z own body_place p r = NoWord
touch Body z own body_place p r = Writes (OfBlock own body_place)
touch Undo z own body_place p r = Writes (OfBlock own r.i)
touch Keep z own body_place p r = Writes (OfBlock own (part z r.j + r.i))
touch Commit z own body_place p r = Updates Root
touch Read z own body_place p r = Reads Root
touch Take z own body_place p r = Reads (OfBlock r.r (part z p + r.i))
touch Give z own body_place p r = NoWord

-- what p alone writes is the same in both cells
pub record HaveSameOwn (p : ℕ) (c d : Cell) : Type 0 where
  pub number : own_of c p ≡ own_of d p
  pub block : own_block c p ≡ own_block d p
  pub announcement : announcement_of c p ≡ announcement_of d p

-- both cells show p the same at this word; of the root its number, and whether p is linked
abbrev pub ShowSame : ℕ → Word → Cell → Cell → Type 0
ShowSame p Root c d = (c.root ≡ d.root) × (is_linked c p ≡ is_linked d p)
ShowSame p (OfBlock block i) c d = word_at (block_of c block) i ≡ word_at (block_of d block) i
ShowSame p (OfAnnouncement process i) c d = word_at (announcement_of c process) i ≡ word_at (announcement_of d process) i

-- and so at the word that is read, if one is
abbrev pub ShowSameRead : ℕ → Touch → Cell → Cell → Type 0
ShowSameRead p NoWord c d = Unit {0}
ShowSameRead p (Reads w) c d = ShowSame p w c d
ShowSameRead p (Writes w) c d = Unit {0}
ShowSameRead p (Updates w) c d = ShowSame p w c d

-- nobody has written the word; of the root no number and no link
abbrev pub IsAsBefore : Word → (before after : Cell) → Type 0
IsAsBefore Root c d = (d.root ≡ c.root) × (d.own ≡ c.own) × (d.linked ≡ c.linked)
IsAsBefore (OfBlock block i) c d = word_at (block_of d block) i ≡ word_at (block_of c block) i
IsAsBefore (OfAnnouncement process i) c d = word_at (announcement_of d process) i ≡ word_at (announcement_of c process) i

-- the word is the one that is written
abbrev pub IsWritten : Touch → Word → Type 0
IsWritten NoWord w = ⊥
IsWritten (Reads w') w = ⊥
IsWritten (Writes w') w = w ≡ w'
IsWritten (Updates w') w = w ≡ w'

module _ {Run : Type 0} (m : Meaning Run) (z : Sizes) (p : ℕ) (q : Process Run) where
  -- the row of the label does this to shared words and no more: to each cell with the same own words that shows p the same at the word
  -- that is read it does the same, and it leaves all words but the one that is written
  pub record Touches (l : Label) (c : Cell) (t : Touch) : Type 0 where
    pub reads : (d : Cell) → HaveSameOwn p c d → ShowSameRead p t c d → row l m z d p q ≡ row l m z c p q
    pub writes : (w : Word) → ¬ IsWritten t w → IsAsBefore w c (cell_after c p (row l m z c p q).change)

  -- each step but that of a body touches the word of its label's line
  abbrev pub StepTouchesOneWord : Type 0
  StepTouchesOneWord =
      (c : Cell) (body_place : ℕ) → at_body q.label ≡ false → Touches q.label c (touch q.label z (own_of c p) body_place p q.registers)

module _ {Run : Type 0} (m : Meaning Run) (lawful : List ℤ → Type 0) (fits : ObjectCall → Type 0) (ready : Run → Type 0) where
  -- each step of a run touches the word of its label's line, in a body the word of some place of the own block
  abbrev pub EveryStepTouchesOneWord : Type 0
  EveryStepTouchesOneWord =
      (z : Sizes) (opening : List ℤ) (s : State Run) (p : ℕ) (q : Process Run) → IsSound m lawful fits ready z opening s →
      slice_get s.processes p ≡ Some q →
      (body_place : ℕ) × Touches m z p q q.label s.cell (touch q.label z (own_of s.cell p) body_place p q.registers)
