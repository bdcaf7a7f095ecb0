-- Replies stand: a block that has been the root since the announced call of a process was applied holds the reply that the
-- root holds, status, values and toggle, until the process's next FLIP.
use Rattle.std.specs.Prelude.{◌≡◌, ℕ, ◌+◌, ◌<◌, ◌≤◌, Bool, true, false, ℤ, List, take, slice_index, Contains}
use Rattle.ll_cell.specs.Cell.{Cell, own_of, is_linked, block_of, word_at}
use Rattle.wf_history.specs.declared.event.CallId.{CallId}
use Rattle.wf_table.specs.declared.process.Label.{Label}
use Rattle.wf_table.specs.declared.process.Label.TheVariants.{Take, Give}
use Rattle.wf_table.specs.declared.process.Sizes.{Sizes}
use Rattle.wf_table.specs.StepTable.{Process, part}
use Rattle.wf_table.specs.Object.{Records}
use Rattle.wf_table.specs.Marks.{applied_in}
use Rattle.wf_table.specs.Labels.{copying, at_store, taking}
use Rattle.wf_table.specs.Each.{Each}
use Rattle.wf_table.specs.Helping.{Serving, has_copied}
use Rattle.wf_table.specs.HelpAndOrder.{phase, announced_call}

-- the calls that were applied when the block last became the root
abbrev pub since : Records → ℕ → List CallId
since r b = applied_in (take (slice_index r.root_marks b) r.history)

-- the announced call of the process was applied, and the block has been the root since
abbrev pub Stands : {Run : Type 0} → List (Process Run) → Records → ℕ → ℕ → Type 0
Stands ps r k b = Contains (since r b) (announced_call ps k)

-- the word in place i of block b
abbrev pub word_in : Cell → ℕ → ℕ → ℤ
word_in c b i = word_at (block_of c b) i

-- the place is in the process's part
abbrev pub InPart : Sizes → ℕ → ℕ → Type 0
InPart z k i = (part z k ≤ i) × (i < part z k + (z.replies + 2))

-- how many words of the reply are taken
abbrev pub words_taken : Sizes → Label → ℕ → ℕ
words_taken z Take i = i
words_taken z Give i = z.replies + 1
words_taken z _ i = 0

-- S k b: the reply of process k stands in block b. w b i: the word in place i of block b
module _ (z : Sizes) (S : ℕ → ℕ → Type 0) (w : ℕ → ℕ → ℤ) (root : ℕ) where
  -- reply stands, in any block, also while it is written anew
  pub record RepliesStand : Type 0 where
    pub stands : (b k i : ℕ) → b < z.processes + 1 → k < z.processes → InPart z k i → S k b → w b i ≡ w root i

  -- of process p that stands at q, which is linked or not
  pub record Carries {Run : Type 0} (own p : ℕ) (linked : Bool) (q : Process Run) : Type 0 where
    -- source not older: what stands in the own block stands in the block that is copied
    pub source : copying q.label ≡ true → (k : ℕ) → S k own → S k q.registers.r
    -- carried word: what is about to be stored over a standing word is that word
    pub carried : at_store q.label ≡ true → (k : ℕ) → k < z.processes → InPart z k q.registers.i → S k own → q.registers.acc ≡ w root q.registers.i
    -- no standing part written: the reply of the process that is served does not stand in the own block
    pub unwritten : phase q.label ≡ Serving → ¬ S q.registers.j own
    -- a whole copy holds each reply that stands in the root
    pub copied : has_copied (phase q.label) ≡ true → linked ≡ true → (k i : ℕ) → k < z.processes → InPart z k i → S k root → w own i ≡ w root i
    -- taken front: the words of the reply that are taken are those that stand
    pub source_stands : taking q.label ≡ true → S p q.registers.r
    pub taken : (x : ℕ) → x < words_taken z q.label q.registers.i → word_at q.replies x ≡ w root (part z p + x)

module _ {Run : Type 0} where
  abbrev pub AllCarry : Sizes → Cell → List (Process Run) → Records → ℕ → Process Run → Type 0
  AllCarry z c ps r p q = Carries z (Stands ps r) (word_in c) c.root (own_of c p) p (is_linked c p) q

  -- what every reached object keeps of its replies
  pub record IsStanding (z : Sizes) (c : Cell) (ps : List (Process Run)) (r : Records) : Type 0 where
    pub replies : RepliesStand z (Stands ps r) (word_in c) c.root
    pub carried : Each (AllCarry z c ps r) ps
