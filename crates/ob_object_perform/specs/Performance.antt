-- A run from the texts of a module, of scripts and of a schedule: what its record is, and why there is none.
use Rattle.std.specs.Prelude.{◌≡◌, ◌≢◌, ℕ, ◌<◌, All, Bool, true, false, List, Option}
use Rattle.ob_meaning.specs.Same.{SameState}
use Rattle.ob_checked.specs.Exports.{signatures}
use Rattle.ob_code_correct.specs.CodeMeaning.{code_meaning}
use Rattle.ob_code_correct.specs.Compiled.{Fits, HasReserve}
use Rattle.ob_code_scheme.specs.Layout.{encoded}
use Rattle.ob_meaning.specs.ByNameObject as Named
use Rattle.ob_object_compile.specs.Compilation as Compilation
use Rattle.ob_object_compile.specs.Compilation.{IsAny, IsObjectFault, IsObjectOf, IsShort, ObjectParts}
use Rattle.ob_object_compile.specs.Sound.{IsSoundObject}
use Rattle.ob_object_compile.specs.declared.compiling.CompileFault.{CompileFault}
use Rattle.ob_object_compile.specs.declared.compiling.CompileFault.TheVariants as Compile
use Rattle.ob_object_perform.specs.Texts.{Texts}
use Rattle.ob_object_perform.specs.declared.performing.PerformFault.{PerformFault}
use Rattle.ob_object_perform.specs.declared.performing.PerformFault.TheVariants as Faults
use Rattle.ob_text_record.specs.Record.{Record, carried_from}
use Rattle.ob_object_run.specs.Recorded.{IsMeantOrder, IsNoRun, IsRecorded}
use Rattle.ob_meaning.specs.ByPositionStore.{Activation}
use Rattle.ob_text_words.specs.Schedule.{IsSchedule, IsScheduleFault, process_of}
use Rattle.ob_text_words.specs.declared.item.Item.{Item}
use Rattle.ob_text_words.specs.declared.schedule_texts.ScheduleFault.{ScheduleFault}
use Rattle.ob_text_words.specs.declared.schedule_texts.ScheduleFault.TheVariants as Schedule
use Rattle.ob_text_scripts.specs.Script.{IsScript, IsScriptFault}
use Rattle.ob_text_scripts.specs.declared.script.ScriptFault.{ScriptFault}
use Rattle.ob_text_scripts.specs.declared.script.ScriptFault.TheVariants as Script
use Rattle.ob_text_words.specs.ScriptCalls.{ScriptCall, object_call}
use Rattle.ob_typing.specs.ModuleText.{IsModule}
use Rattle.ob_typing.specs.Program.{Program}
use Rattle.wf_play.specs.Makers.{AreMakersOf}
use Rattle.wf_play.specs.Played.{scripts_of}
use Rattle.wf_play.specs.declared.playing.PlayFault.{PlayFault}
use Rattle.wf_play.specs.declared.playing.PlayFault.TheVariants as Play
use Rattle.wf_table.specs.Schedule.{steps_of}

-- ---- objects, and their runs

-- calls and items with which an object may run: each is of one of its processes, and the calls fit its program
pub record IsReady (o : ObjectParts) (calls : List ScriptCall) (items : List Item) : Type 0 where
  pub sound : IsSoundObject o
  pub callers : All (λ c. c.process < o.processes) calls
  pub fit : All (λ c. Fits o.program (object_call c)) calls
  pub turns : All (λ item. process_of item < o.processes) items

-- the state with which an object begins, where it was carried over
abbrev pub carried_in : ObjectParts → Option Activation
carried_in o = carried_from o.carried o.opening

-- a record shows a run of these calls and items on an object
pub record Shows (o : ObjectParts) (calls : List ScriptCall) (items : List Item) (r : Record) : Type 0 where
  pub recorded : IsRecorded o.engine o.processes (encoded o.opening) (scripts_of calls) items r
  pub carried : r.carried ≡ carried_in o

-- why there is no run of these calls and items on an object
abbrev pub IsRunFault : ObjectParts → List ScriptCall → List Item → PlayFault → Type 0
IsRunFault o calls items fault = IsNoRun o.engine o.processes (encoded o.opening) (scripts_of calls) items fault

-- where an item is too long, no record shows a run
abbrev pub ShowsNone : ObjectParts → List ScriptCall → List Item → PlayFault → Type 0
ShowsNone o calls items (Play.TooLong number) = (r : Record) → Shows o calls items r → ⊥
ShowsNone o calls items _ = Unit {0}

-- for each event of a record that shows a run of these calls on an object, the process whose step showed it
abbrev pub AreMakersIn : ObjectParts → List ScriptCall → Record → List ℕ → Type 0
AreMakersIn o calls r makers =
    AreMakersOf (code_meaning o.engine) (HasReserve o.engine) o.processes (encoded o.opening) (scripts_of calls) (steps_of r.schedule) makers

-- the record's order is legal by what the calls mean by name with the object's budget, from the state by name with which it begins
abbrev pub IsMeantIn : ObjectParts → Record → Type 0
IsMeantIn o r = (opening : Named.State) → SameState o.program opening o.opening → ∥ IsMeantOrder o.program o.engine.budget opening r ∥₁

-- ---- from texts, where an object is asked for of certain programs alone

module _ (Allowed : Program → Type 0) where
  -- The record shows a run of the object that is asked for, and its order is a legal order of its history by what the calls mean by name
  -- with the budget, from the state with which the object begins to the record's state.
  pub record IsRunOf (t : Texts) (r : Record) : Type 0 where
    pub object : ObjectParts
    pub compiled : IsObjectOf Allowed t.asked object
    pub calls : List ScriptCall
    pub calls_are : IsScript (signatures object.program) t.asked.processes t.scripts calls
    pub items : List Item
    pub items_are : IsSchedule t.asked.processes t.schedule items
    pub shows : Shows object calls items r
    pub legal : ∥ IsMeantOrder object.program t.asked.budget compiled.opens.state r ∥₁

  -- the object of a module's text, the calls of scripts and the items of a schedule: each text has one program, one list of calls and
  -- one list of items
  pub record AreReadOf (t : Texts) (o : ObjectParts) (calls : List ScriptCall) (items : List Item) : Type 0 where
    pub compiled : IsObjectOf Allowed t.asked o
    pub alone : (other : Program) → IsModule t.asked.text other → other ≡ o.program
    pub calls_are : IsScript (signatures o.program) t.asked.processes t.scripts calls
    pub only_calls : (others : List ScriptCall) → IsScript (signatures o.program) t.asked.processes t.scripts others → others ≡ calls
    pub items_are : IsSchedule t.asked.processes t.schedule items
    pub only_items : (others : List Item) → IsSchedule t.asked.processes t.schedule others → others ≡ items

  -- there is no object that is asked for with such calls and such items
  abbrev pub HasNoReading : Texts → Type 0
  HasNoReading t =
      (o : ObjectParts) (calls : List ScriptCall) (items : List Item) → IsObjectOf Allowed t.asked o →
      IsScript (signatures o.program) t.asked.processes t.scripts calls → IsSchedule t.asked.processes t.schedule items → ⊥

  -- the texts have no run
  abbrev pub HasNoRun : Texts → Type 0
  HasNoRun t = (r : Record) → IsRunOf t r → ⊥

  -- the scripts are none for the object
  pub record IsScriptFaultFor (t : Texts) (fault : ScriptFault) : Type 0 where
    pub object : ObjectParts
    pub compiled : IsObjectOf Allowed t.asked object
    pub fails : IsScriptFault (signatures object.program) t.asked.processes t.scripts fault

  -- the scripts are calls on the object, and the schedule is none
  pub record IsScheduleFaultFor (t : Texts) (fault : ScheduleFault) : Type 0 where
    pub object : ObjectParts
    pub compiled : IsObjectOf Allowed t.asked object
    pub calls : List ScriptCall
    pub calls_are : IsScript (signatures object.program) t.asked.processes t.scripts calls
    pub fails : IsScheduleFault t.asked.processes t.schedule fault

  -- the item of this number, from 1, is the first one that stands for more steps than an item may take
  pub record PassesLimit (t : Texts) (number : ℕ) : Type 0 where
    pub object : ObjectParts
    pub compiled : IsObjectOf Allowed t.asked object
    pub calls : List ScriptCall
    pub calls_are : IsScript (signatures object.program) t.asked.processes t.scripts calls
    pub items : List Item
    pub items_are : IsSchedule t.asked.processes t.schedule items
    pub long : IsRunFault object calls items (Play.TooLong number)

  -- what each fault says
  abbrev pub IsFaultOf : Texts → PerformFault → Type 0
  IsFaultOf t (Faults.Compile e) = IsObjectFault Allowed t.asked e
  IsFaultOf t (Faults.Script e) = IsScriptFaultFor t e
  IsFaultOf t (Faults.Schedule e) = IsScheduleFaultFor t e
  IsFaultOf t (Faults.TooLong number) = PassesLimit t number
  IsFaultOf t Faults.NoMemory = Unit {0}

-- a run of an object over code
abbrev pub IsPerformance : Texts → Record → Type 0
IsPerformance = IsRunOf IsShort

-- over the module's tree: the run is one over the code of the scheme, of whatever length
abbrev pub IsTreePerformance : Texts → Record → Type 0
IsTreePerformance = IsRunOf IsAny

-- ---- faults

-- want of memory is told in one place

abbrev pub of_compile : CompileFault → PerformFault
of_compile Compile.NoMemory = Faults.NoMemory
of_compile e = Faults.Compile e

abbrev pub of_script : ScriptFault → PerformFault
of_script Script.NoMemory = Faults.NoMemory
of_script e = Faults.Script e

abbrev pub of_schedule : ScheduleFault → PerformFault
of_schedule Schedule.NoMemory = Faults.NoMemory
of_schedule e = Faults.Schedule e

abbrev pub of_play : PlayFault → PerformFault
of_play Play.Processes = Faults.Compile Compile.Processes
of_play (Play.TooLong number) = Faults.TooLong number
of_play Play.NoMemory = Faults.NoMemory

-- want of memory is told by its own variant alone
abbrev pub TellsMemoryApart : PerformFault → Type 0
TellsMemoryApart (Faults.Compile e) = Compilation.TellsMemoryApart e × (e ≢ Compile.NoMemory)
TellsMemoryApart (Faults.Script e) = e ≢ Script.NoMemory
TellsMemoryApart (Faults.Schedule e) = e ≢ Schedule.NoMemory
TellsMemoryApart _ = Unit {0}

abbrev pub is_want_of_memory : PerformFault → Bool
is_want_of_memory Faults.NoMemory = true
is_want_of_memory _ = false

-- a fault with a number, so no want of memory
abbrev pub IsNumbered : PerformFault → Type 0
IsNumbered fault = (is_want_of_memory fault ≡ false) × TellsMemoryApart fault

-- a fault of the texts themselves, and with a number
abbrev pub IsOfTexts : PerformFault → Type 0
IsOfTexts (Faults.Compile e) = Compilation.IsNumbered e
IsOfTexts (Faults.Script e) = e ≢ Script.NoMemory
IsOfTexts (Faults.Schedule e) = e ≢ Schedule.NoMemory
IsOfTexts _ = ⊥

-- What is said with a fault of texts: what the fault says of them; that where it has a number they have no run, and where it is their
-- own can't be read, whatever else is wrong; and that want of memory is told by its own variant alone.
pub record IsRefusal (Allowed : Program → Type 0) (t : Texts) (fault : PerformFault) : Type 0 where
  pub says : IsFaultOf Allowed t fault
  pub none : IsNumbered fault → HasNoRun Allowed t
  pub unread : IsOfTexts fault → HasNoReading Allowed t
  pub memory : TellsMemoryApart fault
