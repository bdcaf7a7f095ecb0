-- What there is of the events of a history before a call's end.
use Rattle.std.specs.Prelude.{◌≡◌, ℕ, List, [], ◌∷◌, ◌++◌, All, Contains, Option, Some, slice_get, take}
use Rattle.ob_code_correct.specs.Named.{CallMeans}
use Rattle.ob_interface.specs.Call.{ObjectCall, Reply}
use Rattle.ob_interface.specs.View.{reply_of}
use Rattle.ob_object_search.specs.Searched.{HasBeginning, budget_of}
use Rattle.ob_object_search.specs.declared.witness.Evidence.{Evidence}
use Rattle.ob_object_calls.specs.Beginnings.{BeginsNamed}
use Rattle.ob_meaning.specs.ByPositionStore.{Activation}
use Rattle.ob_text_reading.specs.HistoryLines.{HistoryTold, IsHistoryText}
use Rattle.ob_typing.specs.ModuleText.{IsModule}
use Rattle.ob_typing.specs.Program.{Program}
use Rattle.wf_lookup.specs.Beginnings.{open_calls}
use Rattle.wf_history.specs.History.{Event, End}
use Rattle.wf_history.specs.Legal.{IsLegal}
use Rattle.wf_history.specs.declared.event.CallId.{CallId}
use Rattle.wf_needed.specs.Needed.{NoneIsNeedless}
use Rattle.wf_order.specs.Verdict.{HasLegal}

-- the call does not end
abbrev pub EndsNowhere : List (Event ObjectCall Reply) → CallId → Type 0
EndsNowhere events id = (reply : Reply) → Contains events (End id reply) → ⊥

-- how calls lead from state to state, and the events of a history
module _ {State : Type 0} (Effect : ObjectCall → State → State → Reply → Type 0) (opening : State) (events : List (Event ObjectCall Reply)) (id : CallId) where
  -- the events before a place have a legal order with that call's end and this reply behind them
  abbrev pub CouldEnd : (place : ℕ) → Reply → Type 0
  CouldEnd place reply = HasLegal Effect opening (take place events ++ End id reply ∷ [])

  -- of the events before the call's end: a legal order of which no open call can be left out, the calls that are open, and replies with which the call could have ended there
  pub record Shows (e : Evidence) : Type 0 where
    pub place : ℕ
    pub reply : Reply
    pub ends : slice_get events place ≡ Some (End id reply)
    pub last : State
    pub legal : IsLegal Effect opening (take place events) e.order.items last
    pub needed : NoneIsNeedless Effect opening (take place events) e.order.items
    pub are_open : e.open_calls.items ≡ open_calls (take place events)
    pub possible : All (λ r. CouldEnd place (reply_of r)) e.replies.items

-- the text is a history of the program's object, in which the call does not end
pub record IsNoEnd (program : Program) (text : List ℕ) (id : CallId) : Type 0 where
  pub tells : HistoryTold
  pub is_history : IsHistoryText program text tells
  pub ends_nowhere : EndsNowhere tells.events id

-- with which state the calls of a history begin, and how calls with a budget lead from state to state
module _ {State : Type 0} (Begins : Program → Option Activation → State → Type 0) (Ends : Program → (budget : ℕ) → ObjectCall → State → State → Reply → Type 0) where
  -- the text is a history of the program's object, and this is shown of its events, from the state with which its calls begin, where each
  -- call has the budget that is asked for or told
  pub record HasEvidence (program : Program) (text : List ℕ) (asked : Option ℕ) (id : CallId) (e : Evidence) : Type 0 where
    pub start : HasBeginning Begins program text
    pub shows : Shows (Ends program (budget_of asked start.tells.budget)) start.opening start.tells.events id e

module _ (module_text history_text : List ℕ) where
  -- one text is a module, and the other one a history of its object, in which the call does not end
  pub record NeverEnds (id : CallId) : Type 0 where
    pub program : Program
    pub is_module : IsModule module_text program
    pub no_end : IsNoEnd program history_text id

  -- one text is a module, and this is shown of the other one, a history of its object, by what the module's body and its calls mean
  pub record IsEvidence (asked : Option ℕ) (id : CallId) (e : Evidence) : Type 0 where
    pub program : Program
    pub is_module : IsModule module_text program
    pub has_evidence : HasEvidence BeginsNamed CallMeans program history_text asked id e
