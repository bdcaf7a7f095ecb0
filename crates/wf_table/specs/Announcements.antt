-- Announcements: the words of the open call, whole behind POST.
use Rattle.std.specs.Prelude.{◌≡◌, ℕ, ◌<◌, true}
use Rattle.ll_cell.specs.Cell.{Cell, announcement_of, word_at}
use Rattle.wf_table.specs.declared.process.Label.{Label}
use Rattle.wf_table.specs.declared.process.Label.TheVariants.{Next, Post}
use Rattle.wf_table.specs.declared.process.Sizes.{Sizes}
use Rattle.wf_table.specs.Labels.{at_post}
use Rattle.wf_table.specs.Meaning.{Meaning}
use Rattle.wf_table.specs.StepTable.{Process, open_call}

-- how many words of the open call are announced
abbrev pub words_laid : Sizes → Label → ℕ → ℕ
words_laid z Next i = 0
words_laid z Post i = i
words_laid z _ i = z.arguments

-- laid words: at POST the list is the open call's, and so are the words that were announced
pub record LaysCall {Run : Type 0} (m : Meaning Run) (z : Sizes) (c : Cell) (p : ℕ) (q : Process Run) : Type 0 where
  pub listed : at_post q.label ≡ true → q.list ≡ m.lay (open_call q)
  pub said : (k : ℕ) → k < words_laid z q.label q.registers.i → word_at (announcement_of c p) k ≡ word_at (m.lay (open_call q)) k
