-- A floor: a machine that the run of its submissions and of its own schedule leads to, with the turns of each process.
use Rattle.std.specs.Prelude.{◌≡◌, ℕ, ◌+◌, ◌<◌, ℤ, Bool, List, [], count_by, length, map, nat_eq, replicate, slice_index, slice_set}
use Rattle.ob_desk_floor.specs.Submission.{submission_of}
use Rattle.ob_desk_floor.specs.declared.submission.Submission.{Submission}
use Rattle.ob_interface.specs.Call.{ObjectCall}
use Rattle.wf_table.specs.Counted.{spent_by_step}
use Rattle.wf_object.specs.View.{Object}
use Rattle.wf_table.specs.Meaning.{Meaning}
use Rattle.wf_table.specs.Object.{step_of}
use Rattle.wf_table.specs.Runs.{IsRun, performed, run, submissions}
use Rattle.wf_table.specs.Schedule.{steps_of}
use Rattle.wf_table.specs.Start.{sizes_of}
use Rattle.wf_table.specs.declared.schedule.Turns.{Turns}

-- how often a process stands in a schedule
abbrev pub turns_in : ℕ → List Turns → ℕ
turns_in p schedule = count_by (λ q. nat_eq q p) (steps_of schedule)

-- the machine, whether the values with which it began were carried over, the calls that were submitted before any turn, each with
-- its process, and each process's number of turns
pub record Floor (E Run : Type 0) : Type 0 where
  pub machine : Object E Run
  pub carried : Bool
  pub scripts : List (ℕ × ObjectCall)
  pub counts : List ℕ

-- the machine with what is kept beside it
abbrev pub floor_view : {E Run : Type 0} → Object E Run → Bool → List Submission → (counts : List ℕ) → Floor E Run
floor_view machine carried scripts counts = record { machine = machine; carried = carried; scripts = map submission_of scripts; counts = counts }

-- from the machine's opening all calls of the scripts are submitted, and then the processes of its own schedule step: this leads
-- to where it stands; and each process has taken as many turns as it stands in the schedule
pub record IsFloor {E Run : Type 0} (m : Meaning Run) (lawful : List ℤ → Type 0) (fits : ObjectCall → Type 0) (ready : Run → Type 0) (f : Floor E Run) : Type 0 where
  pub sizes : f.machine.sizes ≡ sizes_of m f.machine.sizes.processes
  pub runs : IsRun m lawful fits ready f.machine.sizes.processes f.machine.opening (performed f.scripts f.machine.state.records.schedule) f.machine.state
  pub each : length f.counts ≡ f.machine.sizes.processes
  pub counts : (p : ℕ) → p < f.machine.sizes.processes → slice_index f.counts p ≡ turns_in p f.machine.state.records.schedule

-- the same, over the machine's own engine
abbrev pub IsFloorOver : {E Run : Type 0} → (meaning : E → Meaning Run) → (lawful : E → List ℤ → Type 0) → (fits : E → ObjectCall → Type 0) → (ready : E → Run → Type 0) → Floor E Run → Type 0
IsFloorOver meaning lawful fits ready f =
    IsFloor (meaning f.machine.engine) (lawful f.machine.engine) (fits f.machine.engine) (ready f.machine.engine) f

-- no process has taken a turn
pub record HasNoTurns {E Run : Type 0} (f : Floor E Run) : Type 0 where
  pub schedule : f.machine.state.records.schedule ≡ []
  pub counts : f.counts ≡ replicate f.machine.sizes.processes 0

-- the calls of the scripts submitted to the machine
abbrev pub with_submissions : {E Run : Type 0} → Meaning Run → List (ℕ × ObjectCall) → Object E Run → Object E Run
with_submissions m scripts o = record o { state = run m o.sizes (submissions scripts) o.state }

-- one step of the process
abbrev pub machine_after : {E Run : Type 0} → Meaning Run → Object E Run → ℕ → Object E Run
machine_after m o p = record o { state = step_of m o.sizes o.state p; spent = spent_by_step o.state o.spent p }

-- one step of the process, and one turn more
abbrev pub floor_after : {E Run : Type 0} → Meaning Run → Floor E Run → ℕ → Floor E Run
floor_after m f p = record {
  machine = machine_after m f.machine p;
  carried = f.carried;
  scripts = f.scripts;
  counts = slice_set f.counts p (slice_index f.counts p + 1);
}
