-- Legal orders of the parts of a history: from the bytes of a module and of a history of its object.
use Rattle.std.specs.Prelude.{◌≡◌, ℕ, List, Option, Some, map, slice_get}
use Rattle.ob_code_correct.specs.Named.{CallMeans}
use Rattle.ob_interface.specs.Call.{ObjectCall, Reply}
use Rattle.ob_interface.specs.declared.scalar.Scalar.{Scalar}
use Rattle.ob_object_search.specs.Searched.{HasBeginning, budget_of}
use Rattle.ob_object_calls.specs.Beginnings.{BeginsNamed}
use Rattle.ob_meaning.specs.ByPositionStore.{Activation}
use Rattle.ob_typing.specs.ModuleText.{IsModule}
use Rattle.ob_typing.specs.Program.{Program}
use Rattle.wf_history.specs.declared.event.CallId.{CallId}
use Rattle.wf_history.specs.Legal.{IsLegal}
use Rattle.wf_needed.specs.Needed.{NoneIsNeedless}
use Rattle.wf_parts.specs.Parts.{AreValues, Events, IsPart}

-- an order of the calls that have this value
pub record PartOrder : Type 0 where
  pub value : Scalar
  pub order : List CallId

abbrev pub value_of : PartOrder → Scalar
value_of p = p.value

-- how calls lead from state to state
module _ {State : Type 0} (Effect : ObjectCall → State → State → Reply → Type 0) (opening : State) (events : Events) (by : ℕ) where
  -- the part of the events with this value has this legal order
  pub record HasPartOrder (value : Scalar) (order : List CallId) : Type 0 where
    pub part : Events
    pub is_part : IsPart events by value part
    pub last : State
    pub legal : IsLegal Effect opening part order last

  -- each value of the argument stands there once, in the order in which the values first come, with a legal order of its part
  pub record AreOrders (parts : List PartOrder) : Type 0 where
    pub values : AreValues by events (map value_of parts)
    pub each : (k : ℕ) (p : PartOrder) → slice_get parts k ≡ Some p → HasPartOrder p.value p.order

  -- no open call of an order can be left out
  abbrev pub AreNeeded : List PartOrder → Type 0
  AreNeeded parts = (k : ℕ) (p : PartOrder) (part : Events) → slice_get parts k ≡ Some p → IsPart events by p.value part → NoneIsNeedless Effect opening part p.order

module _ {State : Type 0} (Begins : Program → Option Activation → State → Type 0) (Ends : Program → (budget : ℕ) → ObjectCall → State → State → Reply → Type 0) (program : Program) (text : List ℕ) where
  -- the text is a history of the program's object, and these are legal orders of its parts, each from the state with which calls begin,
  -- where each call has the budget that is asked for or told
  pub record HasPartOrders (asked : Option ℕ) (by : ℕ) (parts : List PartOrder) : Type 0 where
    pub start : HasBeginning Begins program text
    pub orders : AreOrders (Ends program (budget_of asked start.tells.budget)) start.opening start.tells.events by parts

  -- the same, where no open call of these orders can be left out
  pub record HasNeededOrders (asked : Option ℕ) (by : ℕ) (parts : List PartOrder) : Type 0 where
    pub start : HasBeginning Begins program text
    pub needed : AreNeeded (Ends program (budget_of asked start.tells.budget)) start.opening start.tells.events by parts

-- one text is a module, and the other one a history of its object whose parts have these legal orders, by what the module's body and its
-- calls mean
pub record AreLegalOrders (module_text history_text : List ℕ) (asked : Option ℕ) (by : ℕ) (parts : List PartOrder) : Type 0 where
  pub program : Program
  pub is_module : IsModule module_text program
  pub has_orders : HasPartOrders BeginsNamed CallMeans program history_text asked by parts

-- one text is a module, and the other one a history of its object; no open call of these orders of its parts can be left out, by the same
pub record AreNeededOrders (module_text history_text : List ℕ) (asked : Option ℕ) (by : ℕ) (parts : List PartOrder) : Type 0 where
  pub program : Program
  pub is_module : IsModule module_text program
  pub has_needed : HasNeededOrders BeginsNamed CallMeans program history_text asked by parts
