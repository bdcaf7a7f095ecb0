-- Legal orders that are found: from the bytes of a module and of a history of its object.
use Rattle.std.specs.Prelude.{◌≡◌, ◌≤◌, ℕ, List, ◌∷◌, ◌++◌, Option, Some, None, All, length}
use Rattle.ob_code_correct.specs.Named.{CallMeans}
use Rattle.ob_interface.specs.Call.{ObjectCall, Reply}
use Rattle.ob_object_calls.specs.Beginnings.{BeginsNamed}
use Rattle.ob_meaning.specs.ByPositionStore.{Activation}
use Rattle.ob_text_reading.specs.HistoryLines.{HistoryTold, IsHistoryText, IsOfOne}
use Rattle.ob_typing.specs.ModuleText.{IsModule}
use Rattle.ob_typing.specs.Program.{Program}
use Rattle.wf_history.specs.declared.event.CallId.{CallId}
use Rattle.wf_history.specs.Legal.{IsLegal}
use Rattle.wf_needed.specs.Needed.{IsOpen}
use Rattle.wf_order.specs.Verdict.{enough}

-- how many turns each call has: so many as are asked for, or else as the history tells, or else this many
abbrev pub default_budget : ℕ
default_budget = 100000

abbrev pub budget_of : (asked told : Option ℕ) → ℕ
budget_of (Some turns) told = turns
budget_of None (Some turns) = turns
budget_of None None = default_budget

module _ {State : Type 0} (Begins : Program → Option Activation → State → Type 0) (program : Program) (text : List ℕ) where
  -- the text is a history of the program's object, and there is a state with which its calls begin, by the values that were carried over
  pub record HasBeginning : Type 0 where
    pub tells : HistoryTold
    pub is_history : IsHistoryText program text tells
    pub opening : State
    pub begins : Begins program tells.carried opening

-- the text is a history of the program's object, in which the call does not end
pub record HasOpen (program : Program) (text : List ℕ) (id : CallId) : Type 0 where
  pub tells : HistoryTold
  pub is_history : IsHistoryText program text tells
  pub never_ends : IsOpen tells.events id

-- how calls with a budget lead from state to state
module _ {State : Type 0} (Begins : Program → Option Activation → State → Type 0) (Ends : Program → (budget : ℕ) → ObjectCall → State → State → Reply → Type 0) (program : Program) (text : List ℕ) where
  -- the text is such a history, and from that state the order is a legal order of its events, where each call has the budget that is
  -- asked for or told
  pub record HasOrder (asked : Option ℕ) (order : List CallId) : Type 0 where
    pub start : HasBeginning Begins program text
    pub last : State
    pub legal : IsLegal (Ends program (budget_of asked start.tells.budget)) start.opening start.tells.events order last

  -- Where an open call of the order is left out, this is no such order.
  abbrev pub HasNoneNeedless : (asked : Option ℕ) (order : List CallId) → Type 0
  HasNoneNeedless asked order = (first rest : List CallId) (id : CallId) → order ≡ first ++ id ∷ rest → HasOpen program text id → ¬ HasOrder asked (first ++ rest)

-- the text is a history of the program's object, and so many configurations are enough for its events, whose processes are among these
pub record HasEnough (program : Program) (text : List ℕ) (most : ℕ) : Type 0 where
  pub tells : HistoryTold
  pub is_history : IsHistoryText program text tells
  pub processes : List ℕ
  pub each : All (IsOfOne processes) tells.events
  pub many : enough (length processes) (length tells.events) ≤ most

module _ (module_text history_text : List ℕ) where
  -- one text is a module, and the other one a history of its object that has this legal order, by what the module's body and its calls
  -- mean
  pub record IsLegalOrder (asked : Option ℕ) (order : List CallId) : Type 0 where
    pub program : Program
    pub is_module : IsModule module_text program
    pub has_order : HasOrder BeginsNamed CallMeans program history_text asked order

  -- one text is a module, and the other one a history of its object, in which the call does not end
  pub record IsOpenCall (id : CallId) : Type 0 where
    pub program : Program
    pub is_module : IsModule module_text program
    pub has_open : HasOpen program history_text id

  -- No open call of the order can be left out: without it the order is not legal.
  abbrev pub NoneIsNeedless : (asked : Option ℕ) (order : List CallId) → Type 0
  NoneIsNeedless asked order = (first rest : List CallId) (id : CallId) → order ≡ first ++ id ∷ rest → IsOpenCall id → ¬ IsLegalOrder asked (first ++ rest)

  -- one text is a module, and the other one a history of its object for which so many configurations are enough
  pub record IsEnough (most : ℕ) : Type 0 where
    pub program : Program
    pub is_module : IsModule module_text program
    pub has_enough : HasEnough program history_text most
