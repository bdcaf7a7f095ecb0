-- What the theorems say of replies.
use Rattle.std.specs.Prelude.{◌≡◌, ℕ, ◌+◌, ◌<◌, ℤ, List, [], slice_get, slice_index_or, Some, Contains, take}
use Rattle.ll_cell.specs.Cell.{block_of, word_at}
use Rattle.wf_table.specs.declared.process.Sizes.{Sizes}
use Rattle.wf_table.specs.declared.process.Label.TheVariants as Place
use Rattle.wf_table.specs.StepTable.{Process, part, toggle_in, announced_toggle}
use Rattle.wf_table.specs.Runs.{Act, ActsFit, run, IsRun}
use Rattle.wf_table.specs.Object.{State}
use Rattle.wf_table.specs.Sound.{IsSound}
use Rattle.wf_table.specs.Start.{sizes_of}
use Rattle.wf_table.specs.Order.{IsAt}
use Rattle.wf_table.specs.HelpAndOrder.{IsCommitted, announced_call, flips_at}
use Rattle.wf_table.specs.Stands.{IsStanding, Stands, InPart, word_in}
use Rattle.wf_table.specs.Contents.{RootHolds, reply_word}
use Rattle.wf_table.specs.Meaning.{Meaning}
use Rattle.ob_interface.specs.Call.{ObjectCall}
use Rattle.wf_history.specs.Legal.{IsLegal}
use Rattle.wf_table.specs.Law.{Effects}

module _ {Run : Type 0} (m : Meaning Run) (lawful : List ℤ → Type 0) (fits : ObjectCall → Type 0) (ready : Run → Type 0) where
  -- each state that a run reaches keeps what is said of replies
  abbrev pub EveryRunIsStanding : Type 0
  EveryRunIsStanding =
      (n : ℕ) (opening : List ℤ) (acts : List Act) (s : State Run) → IsRun m lawful fits ready n opening acts s →
      IsStanding (sizes_of m n) s.cell s.processes s.records

  -- however a run goes on, until k's next FLIP each block b that has been the root since k's announced call was applied holds in k's part
  -- what the root has there in the first state
  abbrev pub RepliesStand : Type 0
  RepliesStand =
      (n : ℕ) (opening : List ℤ) (acts more : List Act) (s : State Run) (k b i : ℕ) → IsRun m lawful fits ready n opening acts s → ActsFit fits more →
      k < n → b < n + 1 → InPart (sizes_of m n) k i → Contains s.records.order (announced_call s.processes k) →
      flips_at (run m (sizes_of m n) more s).processes k ≡ flips_at s.processes k →
      Stands (run m (sizes_of m n) more s).processes (run m (sizes_of m n) more s).records k b →
      word_in (run m (sizes_of m n) more s).cell b i ≡ word_in s.cell s.cell.root i

  -- the root has the announced toggle of a process whose announced call is in the order
  abbrev pub RootHasToggle : Type 0
  RootHasToggle =
      (z : Sizes) (opening : List ℤ) (s : State Run) (k : ℕ) → IsSound m lawful fits ready z opening s → IsCommitted z s → k < z.processes →
      Contains s.records.order (announced_call s.processes k) → toggle_in z (block_of s.cell s.cell.root) k ≡ announced_toggle z s.cell k

module _ {Run : Type 0} (m : Meaning Run) (lawful : List ℤ → Type 0) where
  -- where the root holds what the order leads to, it has the words of a process's announced call that is in the order
  abbrev pub RootHasReply : Type 0
  RootHasReply =
      (z : Sizes) (opening : List ℤ) (s : State Run) (k i x : ℕ) (holds : RootHolds m lawful z opening s.records.history s.records.order (block_of s.cell s.cell.root)) →
      IsCommitted z s → k < z.processes → x < z.replies + 1 → IsAt s.records.order i (announced_call s.processes k) →
      reply_word z (block_of s.cell s.cell.root) k x ≡ word_at (slice_index_or holds.words i []) x

module _ {Run : Type 0} (z : Sizes) (s : State Run) (p x : ℕ) (q : Process Run) where
  -- at GIVE the reply list has what the root has of the process
  abbrev pub GivenStands : Type 0
  GivenStands =
      IsStanding z s.cell s.processes s.records → slice_get s.processes p ≡ Some q → q.label ≡ Place.Give → x < z.replies + 1 →
      word_at q.replies x ≡ word_in s.cell s.cell.root (part z p + x)

module _ {Run : Type 0} (m : Meaning Run) (lawful : List ℤ → Type 0) (fits : ObjectCall → Type 0) (ready : Run → Type 0) (effect : Effects) where
  -- in each state that a run reaches the order is a legal order of the history, to the variables of the root
  abbrev pub EveryOrderIsLegal : Type 0
  EveryOrderIsLegal =
      (n : ℕ) (opening : List ℤ) (acts : List Act) (s : State Run) → IsRun m lawful fits ready n opening acts s →
      ∥ IsLegal effect opening s.records.history s.records.order (take m.variables (block_of s.cell s.cell.root)) ∥₁
