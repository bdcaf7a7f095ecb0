-- Laws of the records of runs.
use Rattle.std.specs.Prelude.{◌≡◌, ℕ, ◌<◌, ℤ, List, All, map}
use Rattle.ob_interface.specs.Call.{ObjectCall}
use Rattle.ob_typing.specs.Program.{Program}
use Rattle.ob_meaning.specs.ByNameObject.{State, replies_to}
use Rattle.ob_meaning.specs.ByPositionStore.{Activation}
use Rattle.ob_code_engine.specs.Total.{body_limit}
use Rattle.ob_code_correct.specs.CodeMeaning.{EngineParts, code_meaning}
use Rattle.ob_code_correct.specs.Compiled.{parts_of}
use Rattle.ob_code_scheme.specs.Layout.{encoded}
use Rattle.ob_code_scheme.specs.Types.{IsStateOf}
use Rattle.ob_code_scheme.specs.WellFormed.{IsWellFormed}
use Rattle.ob_object_run.specs.OrderFaults.{IsOrderFault}
use Rattle.ob_object_run.specs.declared.order_checker.OrderFault.{OrderFault}
use Rattle.ob_object_run.specs.declared.order_checker.OrderFault.TheVariants.{NoMemory}
use Rattle.ob_text_record.specs.Record.{Record}
use Rattle.ob_object_run.specs.KeepsBound.{CallsKeepBound, KeepsBound, KeepsLimit}
use Rattle.ob_object_run.specs.OwnCalls.{HasReplies, calls_by}
use Rattle.ob_object_run.specs.Recorded.{IsNamedObjectOf, IsObjectOf, IsRecorded}
use Rattle.ob_text_words.specs.declared.item.Item.{Item}
use Rattle.wf_theorems.specs.FirstCalls.{AreFirstCalls, own_ids}

-- a state of a well-formed program, its variables with values of their types, is an object over the engine of its code, with any budget
abbrev pub StatesAreObjects : Type 0
StatesAreObjects =
    (program : Program) (budget : ℕ) (state : Activation) → IsWellFormed program → IsStateOf program.variables state →
    IsObjectOf program (parts_of program budget) state (encoded state)

-- all calls of the scripts are of process 0
abbrev pub AreOfOneProcess : List (ℕ × ObjectCall) → Type 0
AreOfOneProcess scripts = All (λ c. c.0 < 1) scripts

-- the calls of each process stand in the order as in the scripts: those of the order are its first ones, and of those that have begun
-- at most the last is missing
abbrev pub OwnCallsInTurn : Type 0
OwnCallsInTurn =
    (parts : EngineParts) (n p : ℕ) (block : List ℤ) (scripts : List (ℕ × ObjectCall)) (items : List Item) (r : Record) → p < n →
    IsRecorded parts n block scripts items r → AreFirstCalls p (calls_by p scripts) r.history (own_ids p r.order)

-- where there is one process, the order is a beginning of the calls of the scripts
abbrev pub OneProcessInTurn : Type 0
OneProcessInTurn =
    (parts : EngineParts) (block : List ℤ) (scripts : List (ℕ × ObjectCall)) (items : List Item) (r : Record) → AreOfOneProcess scripts →
    IsRecorded parts 1 block scripts items r → AreFirstCalls 0 (map (λ c. c.1) scripts) r.history r.order

-- and its replies are those that the calls of the scripts have when they are made one at a time, from the state that the run began
-- with, by what they mean with the engine's budget
abbrev pub OneProcessAnswers : Type 0
OneProcessAnswers =
    (program : Program) (parts : EngineParts) (opening : State) (block : List ℤ) (scripts : List (ℕ × ObjectCall)) (items : List Item) (r : Record) →
    AreOfOneProcess scripts → IsRecorded parts 1 block scripts items r → IsNamedObjectOf program parts opening block →
    HasReplies 0 r.history (replies_to program parts.budget opening (map (λ c. c.1) scripts))

-- at each moment no call has taken more than two rounds, 2n bodies and the promised number of its own steps outside them
abbrev pub RunsKeepBound : Type 0
RunsKeepBound =
    (parts : EngineParts) (n : ℕ) (block : List ℤ) (scripts : List (ℕ × ObjectCall)) (items : List Item) (r : Record) →
    (h : IsRecorded parts n block scripts items r) → KeepsBound (code_meaning parts) n scripts h.played.runs.start r.schedule

-- by what its process spends while it makes the call
abbrev pub RunsKeepBoundByCall : Type 0
RunsKeepBoundByCall =
    (parts : EngineParts) (n : ℕ) (block : List ℤ) (scripts : List (ℕ × ObjectCall)) (items : List Item) (r : Record) →
    (h : IsRecorded parts n block scripts items r) → CallsKeepBound (code_meaning parts) n scripts h.played.runs.start r.schedule

-- and in all no more than the promised number of own steps and, in each of 2n bodies, what the budget pays for. Nothing is asked of
-- the calls: each ends
abbrev pub RunsKeepTotal : Type 0
RunsKeepTotal =
    (parts : EngineParts) (n : ℕ) (block : List ℤ) (scripts : List (ℕ × ObjectCall)) (items : List Item) (r : Record) →
    (h : IsRecorded parts n block scripts items r) →
    KeepsLimit (code_meaning parts) n scripts h.played.runs.start (body_limit parts) r.schedule

-- from the state that the run began with, with the engine's budget, a checker of orders would refuse the record's order for want of
-- memory alone
abbrev pub RunsPassCheck : Type 0
RunsPassCheck =
    (program : Program) (parts : EngineParts) (opening : Activation) (n : ℕ) (block : List ℤ) (scripts : List (ℕ × ObjectCall)) (items : List Item) (r : Record) →
    IsRecorded parts n block scripts items r → IsObjectOf program parts opening block →
    (fault : OrderFault) → IsOrderFault program parts.budget opening r.history r.order fault → fault ≡ NoMemory
