-- What the calls of a recorded run take of their processes.
use Rattle.std.specs.Prelude.{◌≡◌, ℕ, List, ◌++◌}
use Rattle.ob_interface.specs.Call.{ObjectCall}
use Rattle.wf_table.specs.Bound.{AllWithinBound, IsWithinBound}
use Rattle.wf_table.specs.Calls.{BeginsOne, own_spent}
use Rattle.wf_table.specs.Counted.{Counted, counted_from, counted_run}
use Rattle.wf_table.specs.Limit.{AllWithinLimit}
use Rattle.wf_table.specs.declared.spent.Spent.{Spent}
use Rattle.wf_table.specs.declared.schedule.Turns.{Turns}
use Rattle.wf_table.specs.Meaning.{Meaning}
use Rattle.wf_table.specs.Object.{State}
use Rattle.wf_table.specs.Runs.{run, submissions, turns}
use Rattle.wf_table.specs.Schedule.{steps_of}
use Rattle.wf_table.specs.Start.{sizes_of}
use Rattle.wf_table.specs.StepTable.{Process}

-- of an object of n processes that begins in this state, with these scripts
module _ {Run : Type 0} (m : Meaning Run) (n : ℕ) (scripts : List (ℕ × ObjectCall)) (start : State Run) where
  -- the object behind the scripts and these steps, with what each process has spent
  abbrev pub counted_behind : List ℕ → Counted Run
  counted_behind steps = counted_run m (sizes_of m n) (submissions scripts ++ turns steps) (counted_from start)

  -- behind each beginning of the schedule the open or last call of each process is within the bound
  abbrev pub KeepsBound : List Turns → Type 0
  KeepsBound schedule = (first rest : List ℕ) → steps_of schedule ≡ first ++ rest → AllWithinBound (sizes_of m n) (counted_behind first)

  -- and within a limit for each body
  abbrev pub KeepsLimit : ℕ → List Turns → Type 0
  KeepsLimit limit schedule = (first rest : List ℕ) → steps_of schedule ≡ first ++ rest → AllWithinLimit (sizes_of m n) limit (counted_behind first)

  -- behind the first steps process p begins one call and no other in a piece of the schedule, and then stands at last
  abbrev pub MakesOneCall : List ℕ → List ℕ → ℕ → Process Run → Type 0
  MakesOneCall first piece p last = BeginsOne m (sizes_of m n) p (turns piece) (run m (sizes_of m n) (submissions scripts ++ turns first) start) last

  -- what the process spends there
  abbrev pub spent_on_call : List ℕ → List ℕ → ℕ → Spent
  spent_on_call first piece p = own_spent m (sizes_of m n) p (turns piece) (run m (sizes_of m n) (submissions scripts ++ turns first) start)

  -- each call is within the bound, by what its process spends while it makes it
  abbrev pub CallsKeepBound : List Turns → Type 0
  CallsKeepBound schedule = (first piece rest : List ℕ) (p : ℕ) (last : Process Run) → steps_of schedule ≡ first ++ (piece ++ rest) → MakesOneCall first piece p last → IsWithinBound (sizes_of m n) (spent_on_call first piece p) last
