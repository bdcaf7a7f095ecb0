-- A run of an object by the calls of scripts and the items of a schedule.
use Rattle.std.specs.Prelude.{◌≡◌, ℕ, ◌<◌, ◌⊎◌, ℤ, List, map}
use Rattle.ob_interface.specs.Call.{ObjectCall}
use Rattle.ob_interface.specs.Processes.{most_processes}
use Rattle.ob_text_words.specs.declared.item.Item.{Item}
use Rattle.ob_text_words.specs.ScriptCalls.{ScriptCall}
use Rattle.ob_text_words.specs.declared.script_call.ScriptCall as Read
use Rattle.ob_text_words.specs.ScriptCalls.{object_call, script_call_of}
use Rattle.wf_object.specs.View.{Object}
use Rattle.wf_table.specs.declared.process.Sizes.{Sizes}
use Rattle.wf_table.specs.Meaning.{Meaning}
use Rattle.wf_table.specs.Object.{State}
use Rattle.wf_table.specs.Runs.{IsRun, performed, run, submissions}
use Rattle.wf_table.specs.Schedule.{steps_of}
use Rattle.wf_table.specs.Start.{IsStart, sizes_of}
use Rattle.ll_cell.specs.declared.fault.CellFault.{CellFault}
use Rattle.ll_cell.specs.declared.fault.CellFault.TheVariants as New
use Rattle.wf_play.specs.declared.playing.PlayFault.{PlayFault}
use Rattle.wf_play.specs.declared.playing.PlayFault.TheVariants as Faults
use Rattle.wf_play.specs.ItemSteps.{AreItemSteps, IsFirstBeyond}

-- the most steps of an item
abbrev pub most_steps : ℕ
most_steps = 1000000

-- the calls of a script, each with its process
abbrev pub scripts_of : List ScriptCall → List (ℕ × ObjectCall)
scripts_of calls = map (λ c. (c.process, object_call c)) calls

-- those of a script as it was read
abbrev pub scripts_in : List Read.ScriptCall → List (ℕ × ObjectCall)
scripts_in calls = scripts_of (map script_call_of calls)

-- the same object, in a state of its own
pub record IsSameObject {E Run : Type 0} (a b : Object E Run) : Type 0 where
  pub engine : a.engine ≡ b.engine
  pub sizes : a.sizes ≡ b.sizes
  pub opening : a.opening ≡ b.opening

-- the state behind the scripts, which are submitted first, and the state's own schedule, whose steps are exactly those that
-- the items stand for: of an object of n processes that begins with this block, over an engine's meaning
pub record IsPlayed {Run : Type 0} (m : Meaning Run) (lawful : List ℤ → Type 0) (fits : ObjectCall → Type 0) (ready : Run → Type 0) (n : ℕ) (opening : List ℤ) (scripts : List (ℕ × ObjectCall)) (items : List Item) (s : State Run) : Type 0 where
  pub runs : IsRun m lawful fits ready n opening (performed scripts s.records.schedule) s
  pub plays : AreItemSteps m (sizes_of m n) most_steps items (run m (sizes_of m n) (submissions scripts) runs.start) (steps_of s.records.schedule) s

-- an object in a state behind these calls, as they were read, and these items
abbrev pub IsPlayedObject : {E Run : Type 0} → Meaning Run → (lawful : List ℤ → Type 0) → (fits : ObjectCall → Type 0) → (ready : Run → Type 0) → (n : ℕ) → (opening : List ℤ) → List Read.ScriptCall → List Item → Object E Run → Type 0
IsPlayedObject m lawful fits ready n opening calls items o = IsPlayed m lawful fits ready n opening (scripts_in calls) items o.state

module _ {Run : Type 0} (m : Meaning Run) (ready : Run → Type 0) (n : ℕ) (opening : List ℤ) (scripts : List (ℕ × ObjectCall)) where
  -- there are objects that begin with this block, on each of them the item of this number, from 1, is the first one that stands
  -- for more steps than an item may take, and on none of them are the items a run within the limit
  pub record IsTooLong (items : List Item) (number : ℕ) : Type 0 where
    pub start : State Run
    pub begins : IsStart ready (sizes_of m n) opening start
    pub first : (other : State Run) → IsStart ready (sizes_of m n) opening other → IsFirstBeyond m (sizes_of m n) most_steps items (run m (sizes_of m n) (submissions scripts) other) number
    pub none : (other after : State Run) (steps : List ℕ) → IsStart ready (sizes_of m n) opening other → AreItemSteps m (sizes_of m n) most_steps items (run m (sizes_of m n) (submissions scripts) other) steps after → ⊥

  -- N1: the number of processes is not 1 to 16; Q3; nothing is said where memory wanted
  abbrev pub IsPlayFault : List Item → PlayFault → Type 0
  IsPlayFault items Faults.Processes = (n ≡ 0) ⊎ (most_processes < n)
  IsPlayFault items (Faults.TooLong number) = IsTooLong items number
  IsPlayFault items Faults.NoMemory = Unit {0}

-- of the items alone
abbrev pub IsItemFault : {Run : Type 0} → Meaning Run → Sizes → ℕ → List Item → State Run → PlayFault → Type 0
IsItemFault m z limit items s Faults.Processes = ⊥
IsItemFault m z limit items s (Faults.TooLong number) = IsFirstBeyond m z limit items s number
IsItemFault m z limit items s Faults.NoMemory = Unit {0}

-- why there is no machine, as a fault of a run
abbrev pub of_new : CellFault → PlayFault
of_new New.Processes = Faults.Processes
of_new New.NoMemory = Faults.NoMemory
