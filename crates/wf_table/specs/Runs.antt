-- Runs of an object: steps and submissions, in any order.
use Rattle.std.specs.Prelude.{◌≡◌, ℕ, ◌<◌, ◌≤◌, ℤ, List, [], ◌∷◌, ◌++◌}
use Rattle.ob_interface.specs.Call.{ObjectCall}
use Rattle.ob_interface.specs.Processes.{most_processes}
use Rattle.wf_table.specs.declared.process.Sizes.{Sizes}
use Rattle.wf_table.specs.declared.schedule.Turns.{Turns}
use Rattle.wf_table.specs.Meaning.{Meaning}
use Rattle.wf_table.specs.Schedule.{steps_of}
use Rattle.wf_table.specs.Object.{State, step_of, submit_of}
use Rattle.wf_table.specs.Start.{IsStart, sizes_of}

pub data Act : Type 0 where
  Steps : (p : ℕ) → Act
  Submits : (p : ℕ) (call : ObjectCall) → Act

-- the submitted calls fit
abbrev pub ActFits : (ObjectCall → Type 0) → Act → Type 0
ActFits fits (Steps p) = Unit {0}
ActFits fits (Submits p call) = fits call

abbrev pub ActsFit : (ObjectCall → Type 0) → List Act → Type 0
ActsFit fits [] = Unit {0}
ActsFit fits (act ∷ acts) = ActFits fits act × ActsFit fits acts

abbrev pub act_of : {Run : Type 0} → Meaning Run → Sizes → State Run → Act → State Run
act_of m z s (Steps p) = step_of m z s p
act_of m z s (Submits p call) = submit_of s p call

abbrev pub run : {Run : Type 0} → Meaning Run → Sizes → List Act → State Run → State Run
run m z [] s = s
run m z (act ∷ acts) s = run m z acts (act_of m z s act)

-- all calls of the scripts submitted first, each with its process, and then the turns of a schedule
abbrev pub submissions : List (ℕ × ObjectCall) → List Act
submissions [] = []
submissions (s ∷ scripts) = Submits s.0 s.1 ∷ submissions scripts

abbrev pub turns : List ℕ → List Act
turns [] = []
turns (p ∷ ps) = Steps p ∷ turns ps

abbrev pub performed : List (ℕ × ObjectCall) → List Turns → List Act
performed scripts schedule = submissions scripts ++ turns (steps_of schedule)

-- the state is reached by these acts from an object of n processes that begins with this block. Several objects begin
-- with it, since a run that was not started may hold anything
pub record IsRun {Run : Type 0} (m : Meaning Run) (lawful : List ℤ → Type 0) (fits : ObjectCall → Type 0) (ready : Run → Type 0) (n : ℕ) (opening : List ℤ) (acts : List Act) (s : State Run) : Type 0 where
  pub some : 0 < n
  pub few : n ≤ most_processes
  pub opens : lawful opening
  pub fit : ActsFit fits acts
  pub start : State Run
  pub begins : IsStart ready (sizes_of m n) opening start
  pub leads : run m (sizes_of m n) acts start ≡ s
