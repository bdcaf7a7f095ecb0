-- Which of the events of a history are drawn, by which order, and which call is marked.
use Rattle.std.specs.Prelude.{◌≡◌, ◌≢◌, ℕ, ◌+◌, ◌≤◌, List, Option, Some, None, length, slice_get, take}
use Rattle.ob_checked.specs.CheckedModule.{program_in}
use Rattle.ob_interface.specs.Call.{ObjectCall, Reply}
use Rattle.ob_interface.specs.Processes.{most_processes}
use Rattle.ob_object_run.specs.LegalOrder.{CallEnds}
use Rattle.ob_object_search.specs.Found.{IsFaultHere}
pub use Rattle.ob_object_search.specs.Objects.{effect_in, opening_in}
use Rattle.ob_object_search.specs.Searched.{HasBeginning, budget_of}
use Rattle.ob_object_search.specs.declared.instance.ModuleObject.{ModuleObject}
use Rattle.ob_object_search.specs.declared.searching.SearchFault.{SearchFault}
use Rattle.ob_object_search.specs.declared.searching.SearchFault.TheVariants as Search
use Rattle.ob_object_draw.specs.declared.shown_history.Shown.{Shown}
use Rattle.ob_object_calls.specs.Beginnings.{BeginsPlaced}
use Rattle.ob_meaning.specs.ByPositionStore.{Activation}
use Rattle.ob_typing.specs.Program.{Program}
use Rattle.wf_lookup.specs.Beginnings.{process_count}
use Rattle.wf_history.specs.History.{Event, End}
use Rattle.wf_history.specs.Legal.{IsLegal}
use Rattle.wf_history.specs.declared.event.CallId.{CallId}
use Rattle.wf_order.specs.Verdict.{HasLegal}

-- how calls lead from state to state, and the events of a history
module _ {State : Type 0} (Effect : ObjectCall → State → State → Reply → Type 0) (opening : State) (events : List (Event ObjectCall Reply)) where
  -- so many first events have no legal order, the last of them is the end of this call, and the others have this one
  pub record Ceases (count : ℕ) (order : List CallId) (id : CallId) : Type 0 where
    pub place : ℕ
    pub reply : Reply
    pub ends : slice_get events place ≡ Some (End id reply)
    pub behind : count ≡ place + 1
    pub last : State
    pub legal : IsLegal Effect opening (take place events) order last
    pub none : ¬ HasLegal Effect opening (take (place + 1) events)

  -- all events, by a legal order of them, and no call is marked; or those up to the end with which there ceases to be one, by a legal order
  -- of the events before it, and the call that ends there is marked
  abbrev pub IsShown : (count : ℕ) → (order : List CallId) → (ceases : Option CallId) → Type 0
  IsShown count order None = (last : State) × IsLegal Effect opening events order last × (count ≡ length events)
  IsShown count order (Some id) = Ceases count order id

-- with which state the calls of a history begin, and how calls with a budget lead from state to state
module _ {State : Type 0} (Begins : Program → Option Activation → State → Type 0) (Ends : Program → (budget : ℕ) → ObjectCall → State → State → Reply → Type 0) (program : Program) (text : List ℕ) (asked : Option ℕ) where
  -- the text is a history of the program's object, of no more processes than a picture has, and this is shown of its events
  pub record ShowsPart (count : ℕ) (order : List CallId) (ceases : Option CallId) : Type 0 where
    pub start : HasBeginning Begins program text
    pub few : process_count start.tells.events ≤ most_processes
    pub shown : IsShown (Ends program (budget_of asked start.tells.budget)) start.opening start.tells.events count order ceases

-- the same, where variables go by their positions, and this is kept of it
pub record Shows (program : Program) (text : List ℕ) (asked : Option ℕ) (s : Shown) : Type 0 where
  pub part : ShowsPart BeginsPlaced CallEnds program text asked s.part.count s.part.order.items s.part.ceases
  pub events : s.events ≡ part.start.tells.events
  pub processes : s.processes ≡ process_count s.events
  pub few : s.processes ≤ most_processes
  pub within : s.part.count ≤ length s.events

-- ---- what is found of the object of a module

abbrev pub IsLegalIn : ModuleObject → List (Event ObjectCall Reply) → List CallId → Type 0
IsLegalIn o events order = (last : Activation) × IsLegal (effect_in o) (opening_in o) events order last

-- X1 is not told: where there ceases to be a legal order, the events are drawn up to there
abbrev pub IsNoX1 : SearchFault → Type 0
IsNoX1 e = (id : CallId) → e ≢ Search.Illegal id

abbrev pub IsFaultIn : ModuleObject → List (Event ObjectCall Reply) → (names : List ℕ) → (most : ℕ) → SearchFault → Type 0
IsFaultIn o events names most e = IsFaultHere (program_in o.checked.now) o.budget (opening_in o) events names most e × IsNoX1 e
