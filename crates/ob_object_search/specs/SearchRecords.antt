-- Records of histories with a legal order that was found: from the bytes of a module and of a history of its object.
use Rattle.std.specs.Prelude.{◌≡◌, ◌≤◌, ℕ, List, [], Option}
use Rattle.ob_meaning.specs.Same.{SameState}
use Rattle.ob_code_correct.specs.Named.{CallMeans}
use Rattle.ob_interface.specs.Call.{ObjectCall, Reply}
use Rattle.ob_interface.specs.Processes.{most_processes}
use Rattle.ob_text_record.specs.Record.{Record}
use Rattle.ob_object_search.specs.Searched.{HasBeginning, HasNoneNeedless, budget_of}
use Rattle.ob_object_calls.specs.Beginnings.{BeginsNamed}
use Rattle.ob_meaning.specs.ByPositionStore.{Activation}
use Rattle.ob_text_record.specs.RecordText.{record_text}
use Rattle.ob_typing.specs.ModuleText.{IsModule}
use Rattle.ob_typing.specs.Program.{Program}
use Rattle.wf_lookup.specs.Beginnings.{process_count}
use Rattle.wf_history.specs.Legal.{IsLegal}

-- with which state the calls of a history begin, how calls with a budget lead from state to state, and which variables a state is
module _ {State : Type 0} (Begins : Program → Option Activation → State → Type 0) (Ends : Program → (budget : ℕ) → ObjectCall → State → State → Reply → Type 0)
    (Is : Program → State → Activation → Type 0) where
  -- the text is a history of the program's object, and this is its record: it has the history's events, with the processes that they need,
  -- the budget that is asked for or told, the values that were carried over, a legal order of which no open call can be left out, no
  -- schedule, and the variables that the order leads to
  pub record IsHistoryRecord (program : Program) (text : List ℕ) (asked : Option ℕ) (r : Record) : Type 0 where
    pub start : HasBeginning Begins program text
    pub processes : r.processes ≡ process_count start.tells.events
    pub few : r.processes ≤ most_processes
    pub budget : r.budget ≡ budget_of asked start.tells.budget
    pub carried : r.carried ≡ start.tells.carried
    pub history : r.history ≡ start.tells.events
    pub last : State
    pub legal : IsLegal (Ends program r.budget) start.opening r.history r.order last
    pub needed : HasNoneNeedless Begins Ends program text asked r.order
    pub schedule : r.schedule ≡ []
    pub leads : Is program last r.state

-- by positions, a state is the variables themselves
abbrev pub IsSame : Program → Activation → Activation → Type 0
IsSame program state other = state ≡ other

-- one text is a module, and the output is the text of such a record of the other one, a history of its object, by what the module's body
-- and its calls mean
pub record IsRecordFound (module_text history_text : List ℕ) (asked : Option ℕ) (output : List ℕ) : Type 0 where
  pub program : Program
  pub is_module : IsModule module_text program
  pub r : Record
  pub is_record : IsHistoryRecord BeginsNamed CallMeans SameState program history_text asked r
  pub written : output ≡ record_text program r
