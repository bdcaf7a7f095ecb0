-- Copies: a linked process in its round holds the root, and what it has copied is the root's beginning.
use Rattle.std.specs.Prelude.{◌≡◌, ℕ, ◌<◌, Bool, true, ℤ, List}
use Rattle.ll_cell.specs.Cell.{Cell, is_linked, block_of, word_at}
use Rattle.wf_table.specs.Labels.{in_round, copying, at_store}
use Rattle.wf_table.specs.StepTable.{Process, own_block}

-- of a process that stands at q and is linked or not
pub record HoldsRoot {Run : Type 0} (root : ℕ) (linked : Bool) (q : Process Run) : Type 0 where
  pub held : in_round q.label ≡ true → linked ≡ true → q.registers.r ≡ root

abbrev pub AllHoldRoot : {Run : Type 0} → Cell → ℕ → Process Run → Type 0
AllHoldRoot c p q = HoldsRoot c.root (is_linked c p) q

-- copied front, of a process that stands at q, with its own block
pub record CopiesRoot {Run : Type 0} (linked : Bool) (root own : List ℤ) (q : Process Run) : Type 0 where
  pub front : copying q.label ≡ true → linked ≡ true → (k : ℕ) → k < q.registers.i → word_at own k ≡ word_at root k
  pub loaded : at_store q.label ≡ true → linked ≡ true → q.registers.acc ≡ word_at root q.registers.i

abbrev pub AllCopyRoot : {Run : Type 0} → Cell → ℕ → Process Run → Type 0
AllCopyRoot c p q = CopiesRoot (is_linked c p) (block_of c c.root) (own_block c p) q
