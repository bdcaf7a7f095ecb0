-- The bound on what a call takes of its process.
use Rattle.std.specs.Prelude.{ℕ, ◌+◌, ◌-◌, ◌*◌, ◌≤◌}
use Rattle.wf_table.specs.declared.process.Label.{Label}
use Rattle.wf_table.specs.declared.process.Label.TheVariants.{Next, Post, Flip, Try, Link, Load, Store, Check1, Mine, Seen, Fetch, Check2, Save, Enter, Body, Undo, Keep, Commit, Read, Take, Give}
use Rattle.wf_table.specs.declared.process.Registers.{Registers}
use Rattle.wf_table.specs.declared.process.Sizes.{Sizes}
use Rattle.wf_table.specs.StepTable.{Process, block_words}
use Rattle.wf_table.specs.declared.spent.Spent.{Spent}
use Rattle.wf_table.specs.Each.{Each}
use Rattle.wf_table.specs.Left.{left_to}
use Rattle.wf_table.specs.Counted.{Counted, counts_of}
use Rattle.wf_table.specs.Rounds.{IsInRounds}

-- own steps outside bodies that no call exceeds: one to begin, A + 1 to announce, two rounds, TRY, and the reply
unfoldable pub sharp : Sizes → ℕ
sharp z = 2 * (2 * block_words z + z.processes * (z.arguments + 2 * z.variables + z.replies + 5) + 6) + z.arguments + z.replies + 6

-- the bound that is promised
unfoldable pub bound : Sizes → ℕ
bound z = 2 * (2 * block_words z + z.processes * (z.arguments + 2 * z.variables + z.replies + 10) + 10) + z.arguments + z.replies + 20

-- one body for each process in so many rounds
unfoldable pub bodies_in : Sizes → ℕ → ℕ
bodies_in z rounds = z.processes * rounds

-- the most bodies that a call has begun, where its process stands so
abbrev pub bodies_allowed : Sizes → Label → Registers → ℕ
bodies_allowed z Next g = bodies_in z 2
bodies_allowed z Post g = 0
bodies_allowed z Flip g = 0
bodies_allowed z Try g = bodies_in z g.round
bodies_allowed z Link g = bodies_in z (g.round - 1)
bodies_allowed z Load g = bodies_in z (g.round - 1)
bodies_allowed z Store g = bodies_in z (g.round - 1)
bodies_allowed z Check1 g = bodies_in z (g.round - 1)
bodies_allowed z Mine g = bodies_in z (g.round - 1)
bodies_allowed z Seen g = bodies_in z (g.round - 1) + g.j
bodies_allowed z Fetch g = bodies_in z (g.round - 1) + g.j
bodies_allowed z Check2 g = bodies_in z (g.round - 1) + g.j
bodies_allowed z Save g = bodies_in z (g.round - 1) + g.j
bodies_allowed z Enter g = bodies_in z (g.round - 1) + g.j
bodies_allowed z Body g = bodies_in z (g.round - 1) + g.j + 1
bodies_allowed z Undo g = bodies_in z (g.round - 1) + g.j + 1
bodies_allowed z Keep g = bodies_in z (g.round - 1) + g.j + 1
bodies_allowed z Commit g = bodies_in z (g.round - 1) + g.j
bodies_allowed z Read g = bodies_in z 2
bodies_allowed z Take g = bodies_in z 2
bodies_allowed z Give g = bodies_in z 2

-- of a process that stands so
abbrev pub allowed_to : {Run : Type 0} → Sizes → Process Run → ℕ
allowed_to z q = bodies_allowed z q.label q.registers

-- of a process that stands at q: steps spent and steps left are together no more than sharp, and the bodies no more than
-- its place allows
pub record StaysWithin {Run : Type 0} (z : Sizes) (s : Spent) (q : Process Run) : Type 0 where
  pub outside : s.outside + left_to z q ≤ sharp z
  pub bodies : s.bodies ≤ allowed_to z q

-- the open call, or the last one, of a process that stands at q: at most two rounds, at most two bodies for each process,
-- and no more own steps outside bodies than is promised
pub record IsWithinBound {Run : Type 0} (z : Sizes) (s : Spent) (q : Process Run) : Type 0 where
  pub rounds : q.registers.round ≤ 2
  pub bodies : s.bodies ≤ 2 * z.processes
  pub outside : s.outside ≤ sharp z
  pub promised : s.outside ≤ bound z

abbrev pub AllWithinBound : {Run : Type 0} → Sizes → Counted Run → Type 0
AllWithinBound z s = Each (λ p q. IsWithinBound z (counts_of s.counts p).spent q) s.state.processes

-- the open call, or the last one, of each process: at most two rounds, counted and as the register tells
abbrev pub AllInRounds : {Run : Type 0} → Counted Run → Type 0
AllInRounds s = Each (λ p q. IsInRounds (counts_of s.counts p).rounds q) s.state.processes
