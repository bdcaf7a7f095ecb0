-- Ranges: what keeps every index of a step in range, and at most two rounds.
use Rattle.std.specs.Prelude.{◌≡◌, ℕ, ◌+◌, ◌^◌, ◌<◌, ◌≤◌, length, true, false}
use Rattle.ob_interface.specs.Processes.{most_processes}
use Rattle.ll_cell.specs.Cell.{Cell, own_of, block_of, announcement_of}
use Rattle.wf_table.specs.declared.process.Label.{Label}
use Rattle.wf_table.specs.declared.process.Label.TheVariants.{Next, Post, Flip, Try, Link, Load, Store, Check1, Mine, Seen, Fetch, Check2, Save, Enter, Body, Undo, Keep, Commit, Read, Take, Give}
use Rattle.wf_table.specs.declared.process.Registers.{Registers}
use Rattle.wf_table.specs.declared.process.Sizes.{Sizes}
use Rattle.wf_table.specs.Labels.{at_next, in_try}
use Rattle.wf_table.specs.StepTable.{Process, block_words}

pub record IsSized (z : Sizes) : Type 0 where
  pub processes : z.processes ≤ most_processes
  pub some : 0 < z.processes
  pub argument : 0 < z.arguments
  pub block : block_words z < 2 ^ 60
  pub announcement : z.arguments < 2 ^ 60

pub record IsShaped (z : Sizes) (c : Cell) : Type 0 where
  pub owns : length c.own ≡ z.processes
  pub links : length c.linked ≡ z.processes
  pub blocks : length c.blocks ≡ z.processes + 1
  pub announcements : length c.announcements ≡ z.processes
  pub block : (b : ℕ) → b < length c.blocks → length (block_of c b) ≡ block_words z
  pub announcement : (q : ℕ) → q < length c.announcements → length (announcement_of c q) ≡ z.arguments + 1
  pub root_in : c.root < z.processes + 1
  pub own_in : (q : ℕ) → q < length c.own → own_of c q < z.processes + 1

-- what a label reads of the registers is in range
abbrev pub index_in : Sizes → Label → Registers → Type 0
index_in z Next g = Unit {0}
index_in z Post g = g.i < z.arguments
index_in z Flip g = Unit {0}
index_in z Try g = Unit {0}
index_in z Link g = Unit {0}
index_in z Load g = g.i < block_words z
index_in z Store g = g.i < block_words z
index_in z Check1 g = g.i ≡ block_words z
index_in z Mine g = Unit {0}
index_in z Seen g = g.j ≤ z.processes
index_in z Fetch g = (g.i < z.arguments) × (g.j < z.processes)
index_in z Check2 g = (g.i ≡ z.arguments) × (g.j < z.processes)
index_in z Save g = (g.i < z.variables) × (g.j < z.processes)
index_in z Enter g = g.j < z.processes
index_in z Body g = g.j < z.processes
index_in z Undo g = (g.i < z.variables) × (g.j < z.processes)
index_in z Keep g = (g.i < z.replies + 2) × (g.j < z.processes)
index_in z Commit g = g.j ≡ z.processes
index_in z Read g = Unit {0}
index_in z Take g = g.i < z.replies + 1
index_in z Give g = Unit {0}

pub record IsInRange {Run : Type 0} (z : Sizes) (q : Process Run) : Type 0 where
  pub list : length q.list ≡ z.arguments
  pub replies : length q.replies ≡ z.replies + 1
  pub save : length q.save ≡ z.variables
  pub r : q.registers.r < z.processes + 1
  pub round : q.registers.round ≤ 2
  pub begun : q.begun ≤ length q.calls
  -- a call is open but at NEXT
  pub opened : at_next q.label ≡ false → 0 < q.begun
  -- a round is counted from LINK to COMMIT
  pub tried : in_try q.label ≡ true → 0 < q.registers.round
  pub index : index_in z q.label q.registers
