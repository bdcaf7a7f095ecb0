-- A record of a run over the compiled code of a program, and what it says of the program.
use Rattle.std.specs.Prelude.{◌≡◌, ℕ, ℤ, List, map}
use Rattle.ob_interface.specs.Call.{ObjectCall, Reply}
use Rattle.ob_typing.specs.Program.{Program, Variable}
use Rattle.ob_meaning.specs.ByNameObject as Named
use Rattle.ob_meaning.specs.ByPositionStore.{Activation}
use Rattle.ob_meaning.specs.Resolved.{IsResolved}
use Rattle.ob_meaning.specs.Same.{SameState}
use Rattle.ob_code_machine.specs.Body.{Run}
use Rattle.ob_code_scheme.specs.Layout.{IsEncoding}
use Rattle.ob_code_correct.specs.CodeMeaning.{EngineParts, code_meaning}
use Rattle.ob_code_correct.specs.Compiled.{IsFitting, HasReserve}
use Rattle.ob_code_correct.specs.Carried.{BegunFit}
use Rattle.ob_code_correct.specs.Named.{CallMeans}
use Rattle.ob_code_correct.specs.Parts.{IsCompiledTo, IsLawfulFor}
use Rattle.ob_object_run.specs.LegalOrder.{IsLegalOrder}
use Rattle.ob_text_record.specs.Record.{Record}
use Rattle.ob_text_words.specs.declared.item.Item.{Item}
use Rattle.ob_text_words.specs.ScriptCalls.{script_call_of}
use Rattle.ob_text_words.specs.declared.script_call.ScriptCall.{ScriptCall}
use Rattle.wf_history.specs.History.{Event}
use Rattle.wf_history.specs.Legal.{IsLegal}
use Rattle.wf_play.specs.Played.{IsPlayed, IsPlayFault, scripts_of}
use Rattle.wf_play.specs.declared.playing.PlayFault.{PlayFault}
use Rattle.wf_table.specs.Object.{State}

-- ---- what an object is over an engine: a program that is compiled to the engine's parts, and a state that a block has the words of

-- for this program and this state
pub record IsObjectOf (program : Program) (parts : EngineParts) (opening : Activation) (block : List ℤ) : Type 0 where
  pub compiled : IsCompiledTo program parts
  pub encodes : IsEncoding program.variables opening block

-- for some program with these variables, and some state of it
pub record IsObject (variables : List Variable) (parts : EngineParts) (block : List ℤ) : Type 0 where
  pub program : Program
  pub same : program.variables ≡ variables
  pub opening : Activation
  pub is : IsObjectOf program parts opening block

-- for this program, whose names stand for its declarations, and this state by name
pub record IsNamedObjectOf (program : Program) (parts : EngineParts) (opening : Named.State) (block : List ℤ) : Type 0 where
  pub resolved : IsResolved program
  pub activation : Activation
  pub same : SameState program opening activation
  pub is : IsObjectOf program parts activation block

-- the calls of scripts, each with its process
abbrev pub scripts_in : List ScriptCall → List (ℕ × ObjectCall)
scripts_in calls = scripts_of (map script_call_of calls)

-- ---- of a run over an engine, of an object of n processes that begins with this block

module _ (parts : EngineParts) (n : ℕ) (block : List ℤ) (scripts : List (ℕ × ObjectCall)) (items : List Item) where
  -- the record shows a run of the scripts and of the items
  pub record IsRecorded (r : Record) : Type 0 where
    pub state : State Run
    pub played : IsPlayed (code_meaning parts) (IsLawfulFor parts) (IsFitting parts.exports) (HasReserve parts) n block scripts items state
    pub processes : r.processes ≡ n
    pub budget : r.budget ≡ parts.budget
    pub history : r.history ≡ state.records.history
    pub order : r.order ≡ state.records.order
    pub schedule : r.schedule ≡ state.records.schedule

  -- why there is no such run
  abbrev pub IsNoRun : PlayFault → Type 0
  IsNoRun = IsPlayFault (code_meaning parts) (HasReserve parts) n block scripts items

-- ---- what the record says

-- each call that begins is one that fits the engine
abbrev pub DoFit : EngineParts → List (Event ObjectCall Reply) → Type 0
DoFit parts = BegunFit (IsFitting parts.exports)

-- of each program with these variables that the engine has the code of, from the state that the block has the words of: the
-- record's order is a legal order of its history, by what calls come to with the engine's budget, and leads to the record's state
abbrev pub IsLegalFor : List Variable → EngineParts → List ℤ → Record → Type 0
IsLegalFor variables parts block r =
    (program : Program) (opening : Activation) → program.variables ≡ variables → IsObjectOf program parts opening block →
    ∥ IsLegalOrder program parts.budget opening r.history r.order r.state ∥₁

-- the record's order is legal by what calls mean by name with this budget, and leads to the record's state
pub record IsMeantOrder (program : Program) (budget : ℕ) (opening : Named.State) (r : Record) : Type 0 where
  pub last : Named.State
  pub legal : IsLegal (CallMeans program budget) opening r.history r.order last
  pub same : SameState program last r.state

-- so it is for each program with these variables that the engine has the code of
abbrev pub IsMeantFor : List Variable → EngineParts → List ℤ → Record → Type 0
IsMeantFor variables parts block r =
    (program : Program) (opening : Named.State) → program.variables ≡ variables → IsNamedObjectOf program parts opening block →
    ∥ IsMeantOrder program parts.budget opening r ∥₁
