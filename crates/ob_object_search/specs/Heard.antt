-- What is heard of a history before an order is looked for.
use Rattle.std.specs.Prelude.{◌≡◌, ℕ, List, Option, length}
use Rattle.ob_object_search.specs.Searched.{budget_of}
use Rattle.ob_object_search.specs.declared.order_recording.Heard as Rust
use Rattle.ob_object_calls.specs.Beginnings.{BeginsPlaced}
use Rattle.ob_store.specs.View.{state_of}
use Rattle.ob_text_reading.specs.HistoryLines.{HistoryTold, IsHistoryText}
use Rattle.ob_text_reading.specs.Names.{AreApart, AreBelow, HaveBegun}
use Rattle.ob_text_reading.specs.HistoryContents.{told_of}
use Rattle.ob_typing.specs.Program.{Program}

-- the text is a history, and this is what it tells, with the state with which its calls begin and the budget of each
pub record IsHeard (program : Program) (text : List ℕ) (asked : Option ℕ) (h : Rust.Heard) : Type 0 where
  pub history : IsHistoryText program text (told_of h.read)
  pub alone : (other : HistoryTold) → IsHistoryText program text other → other ≡ told_of h.read
  pub apart : AreApart h.read.processes.items
  pub below : AreBelow (length h.read.processes.items) h.read.history
  pub begun : HaveBegun h.read.processes.items h.read.history
  pub begins : BeginsPlaced program (told_of h.read).carried (state_of h.opening)
  pub budget : h.budget ≡ budget_of asked h.read.budget
