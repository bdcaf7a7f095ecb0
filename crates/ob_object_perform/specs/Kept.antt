-- Runs on an object keep its numbers.
use Rattle.std.specs.Prelude.{◌≡◌, ℕ, ◌+◌, ◌≤◌, ℤ, List, ◌++◌}
use Rattle.ob_code_correct.specs.CodeMeaning.{code_meaning}
use Rattle.ob_code_machine.specs.Body.{Run}
use Rattle.ob_interface.specs.Call.{ObjectCall}
use Rattle.ob_object_perform.specs.Numbers.{numbers_of}
use Rattle.ob_object_perform.specs.declared.object_numbers.Numbers.{Numbers}
use Rattle.ob_object_compile.specs.Compilation.{ObjectParts}
use Rattle.ob_text_record.specs.Record.{Record}
use Rattle.ob_object_run.specs.KeepsBound.{counted_behind}
use Rattle.ob_object_run.specs.Recorded.{IsRecorded}
use Rattle.ob_text_words.specs.declared.item.Item.{Item}
use Rattle.wf_table.specs.Counted.{Counted, counts_of}
use Rattle.wf_table.specs.declared.spent.Spent.{Spent}
use Rattle.wf_table.specs.Each.{Each}
use Rattle.wf_table.specs.Object.{State}
use Rattle.wf_table.specs.Schedule.{steps_of}
use Rattle.wf_table.specs.declared.schedule.Turns.{Turns}

-- what a process has spent on a call is within the numbers
pub record IsWithin (k : Numbers) (s : Spent) : Type 0 where
  pub outside : s.outside ≤ k.outside
  pub total : s.outside + s.inside ≤ k.steps

abbrev pub AllWithin : {Run : Type 0} → Numbers → Counted Run → Type 0
AllWithin k s = Each (λ p q. IsWithin k (counts_of s.counts p).spent) s.state.processes

-- behind each beginning of the schedule the open or last call of each process is within the numbers of the object
abbrev pub KeepsNumbers : ObjectParts → List (ℕ × ObjectCall) → State Run → List Turns → Type 0
KeepsNumbers o scripts start schedule =
    (first rest : List ℕ) → steps_of schedule ≡ first ++ rest → AllWithin (numbers_of o) (counted_behind (code_meaning o.engine) o.processes scripts start first)

-- so it is in each run that is recorded of the object, from whichever block it begins
abbrev pub NumbersAreKept : Type 0
NumbersAreKept =
    (o : ObjectParts) (block : List ℤ) (scripts : List (ℕ × ObjectCall)) (items : List Item) (r : Record) →
    (h : IsRecorded o.engine o.processes block scripts items r) → KeepsNumbers o scripts h.played.runs.start r.schedule
