-- Workers served from the texts of a module and of scripts: what is printed of them, and why there is nothing.
use Rattle.std.specs.Prelude.{◌≡◌, ◌≢◌, ℕ, ◌<◌, ◌^◌, List, [], length}
use Rattle.ob_desk_serve.specs.Rounds.{Hears, Says, always, never, unknown}
use Rattle.ob_object_compile.specs.Asked.{Asked}
use Rattle.ob_object_compile.specs.Compilation.{ObjectParts, IsShort}
use Rattle.ob_object_perform.specs.Performance as Performs
use Rattle.ob_object_perform.specs.Performance.{AreReadOf, HasNoReading, IsFaultOf}
use Rattle.ob_object_perform.specs.Texts.{Texts, run_texts}
use Rattle.ob_object_perform.specs.declared.performing.PerformFault.{PerformFault}
use Rattle.ob_object_perform.specs.declared.performing.PerformFault.TheVariants as Perform
use Rattle.ob_text_record.specs.Record.{Record}
use Rattle.ob_text_words.specs.declared.item.Item.{Item}
use Rattle.ob_text_record.specs.RecordText.{record_text}
use Rattle.ob_desk_serve.specs.ServeFaults.{IsServeFault}
use Rattle.ob_desk_serve.specs.PromisesOfServe.{AreAnswersTold, AreTurnsLet, HaveEnded, IsRecordOf}
use Rattle.ob_desk_serve.specs.declared.fault.ServeFault.{ServeFault}
use Rattle.ob_desk_serve.specs.declared.fault.ServeFault.TheVariants as Serve
use Rattle.ob_desk_serve.specs.declared.serving_texts.ServeTextFault.{ServeTextFault}
use Rattle.ob_desk_serve.specs.declared.serving_texts.ServeTextFault.TheVariants as Faults
use Rattle.ob_text_words.specs.ScriptCalls.{ScriptCall}

-- the texts that workers are given: those of a run of which no schedule says who steps
abbrev pub calls_texts : Asked → (scripts : List ℕ) → Texts
calls_texts a scripts = run_texts a scripts []

-- the object that is asked for and the calls of the scripts: each text has one program and one list of calls
abbrev pub AreReadCalls : Asked → (scripts : List ℕ) → ObjectParts → List ScriptCall → Type 0
AreReadCalls a scripts o calls = (items : List Item) × AreReadOf IsShort (calls_texts a scripts) o calls items

-- the bytes are the text of a record in which workers made the calls of the scripts on the object that is asked for, each to its end
pub record IsServedPrinted (a : Asked) (scripts output : List ℕ) : Type 0 where
  pub object : ObjectParts
  pub calls : List ScriptCall
  pub read : AreReadCalls a scripts object calls
  pub shown : Record
  pub is_record : IsRecordOf object calls shown
  pub events : length shown.history < 2 ^ 64
  pub ended : HaveEnded a.processes calls shown.history
  pub printed : output ≡ record_text object.program shown

-- so they are of workers whose gate let them take each turn of the record, by this limit, and was told of each answer
pub record IsServedBy (passes : Says) (hears : Hears) (limit : ℕ) (a : Asked) (scripts output : List ℕ) : Type 0 where
  pub served : IsServedPrinted a scripts output
  pub passed : AreTurnsLet passes limit a.processes served.shown.schedule
  pub told : AreAnswersTold hears a.processes served.shown.history

-- The workers on the object fail so with their calls, by a gate that says so where it passes, where it refuses and once it was told of
-- an answer, and by this limit.
pub record IsServeFaultOf (passes refuses : Says) (hears : Hears) (limit : ℕ) (a : Asked) (scripts : List ℕ) (fault : ServeFault) : Type 0 where
  pub object : ObjectParts
  pub calls : List ScriptCall
  pub read : AreReadCalls a scripts object calls
  pub fails : IsServeFault passes refuses hears limit object calls fault

-- what each fault says
abbrev pub IsServeTextFault : (passes refuses : Says) → Hears → (limit : ℕ) → Asked → (scripts : List ℕ) → ServeTextFault → Type 0
IsServeTextFault passes refuses hears limit a scripts (Faults.Texts e) = IsFaultOf IsShort (calls_texts a scripts) e
IsServeTextFault passes refuses hears limit a scripts (Faults.Serve e) = IsServeFaultOf passes refuses hears limit a scripts e
IsServeTextFault passes refuses hears limit a scripts Faults.NoMemory = Unit {0}

-- want of memory is told in one place

abbrev pub of_texts : PerformFault → ServeTextFault
of_texts Perform.NoMemory = Faults.NoMemory
of_texts e = Faults.Texts e

abbrev pub of_serve : ServeFault → ServeTextFault
of_serve Serve.NoMemory = Faults.NoMemory
of_serve e = Faults.Serve e

-- want of memory is told by its own variant alone
abbrev pub TellsMemoryApart : ServeTextFault → Type 0
TellsMemoryApart (Faults.Texts e) = Performs.TellsMemoryApart e × (e ≢ Perform.NoMemory)
TellsMemoryApart (Faults.Serve e) = e ≢ Serve.NoMemory
TellsMemoryApart Faults.NoMemory = Unit {0}

-- a fault with a number, so no want of memory
abbrev pub IsNumbered : ServeTextFault → Type 0
IsNumbered e = (e ≢ Faults.NoMemory) × TellsMemoryApart e

-- a fault of the texts themselves, and with a number
abbrev pub IsOfTexts : ServeTextFault → Type 0
IsOfTexts (Faults.Texts e) = Performs.IsOfTexts e
IsOfTexts _ = ⊥

-- What is said with a fault, by a gate that says so and by a limit: what the fault says; that where it is one of the
-- texts they can't be read, whatever else is wrong; and that want of memory is told by its own variant alone.
pub record IsServeRefusal (passes refuses : Says) (hears : Hears) (limit : ℕ) (a : Asked) (scripts : List ℕ) (fault : ServeTextFault) : Type 0 where
  pub says : IsServeTextFault passes refuses hears limit a scripts fault
  pub unread : IsOfTexts fault → HasNoReading IsShort (calls_texts a scripts)
  pub memory : TellsMemoryApart fault

-- of workers in whose way no gate stands: V1 is none of their faults
abbrev pub IsUngatedRefusal : Asked → (scripts : List ℕ) → ServeTextFault → Type 0
IsUngatedRefusal a scripts fault = IsServeRefusal always never unknown 1 a scripts fault
