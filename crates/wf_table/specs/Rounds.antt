-- Rounds: how often a process has linked since it began its open call, or its last one where none is open; and what its
-- register says of that.
use Rattle.std.specs.Prelude.{◌≡◌, ℕ, ◌+◌, ◌≤◌, Bool, if◌then◌else◌}
use Rattle.wf_table.specs.declared.process.Label.{Label}
use Rattle.wf_table.specs.declared.process.Label.TheVariants.{Next, Post, Flip, Link}
use Rattle.wf_table.specs.StepTable.{Process}

-- a step at the label; at NEXT it begins a call, which has no round yet, or is halted
abbrev pub rounds_after : Label → Bool → ℕ → ℕ
rounds_after Next begins rounds = if begins then 0 else rounds
rounds_after Link begins rounds = rounds + 1
rounds_after _ begins rounds = rounds

-- a process at the label with this number in its register has begun so many rounds. Between two calls nothing is said of the
-- register; up to FLIP there is no round, whatever the register; at LINK the next round is about to begin
abbrev pub TellsRounds : Label → ℕ → ℕ → Type 0
TellsRounds Next register rounds = Unit {0}
TellsRounds Post register rounds = rounds ≡ 0
TellsRounds Flip register rounds = rounds ≡ 0
TellsRounds Link register rounds = register ≡ rounds + 1
TellsRounds _ register rounds = register ≡ rounds

-- of a process that stands at q: at most two rounds, and the register tells them
pub record IsInRounds {Run : Type 0} (rounds : ℕ) (q : Process Run) : Type 0 where
  pub most : rounds ≤ 2
  pub told : TellsRounds q.label q.registers.round rounds
