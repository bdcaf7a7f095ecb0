-- What a call of a record's order comes to: from the bytes of a module and of a record.
use Rattle.std.specs.Prelude.{ℕ, List, Option, MatchOption}
use Rattle.ob_code_correct.specs.Named.{CallMeans}
use Rattle.ob_interface.specs.Call.{ObjectCall, Reply}
use Rattle.ob_object_run.specs.LegalOrder.{CallEnds}
use Rattle.ob_object_run.specs.declared.order_checker.OrderFault.TheVariants as Order
use Rattle.ob_object_calls.specs.Early.{IsOvertaken}
use Rattle.ob_object_calls.specs.MadeCalls.{IsMadeThere, MadeCall}
use Rattle.ob_object_calls.specs.Beginnings.{BeginsNamed, BeginsPlaced, TrapsPlaced}
use Rattle.ob_object_calls.specs.VerifyFaults.{HasOrderFault, IsFaultOfRecord}
use Rattle.ob_object_calls.specs.declared.verifying.VerifyFault.TheVariants as Faults
use Rattle.ob_meaning.specs.ByPositionStore.{Activation}
use Rattle.ob_text_reading.specs.RecordLines.{IsRecord, Told}
use Rattle.ob_typing.specs.ModuleText.{IsModule}
use Rattle.ob_typing.specs.Program.{Program}
use Rattle.wf_history.specs.declared.event.CallId.{CallId}

-- with which state the calls of a record begin, by the values that were carried over, and how calls with a budget lead from state to state
module _ {State : Type 0} (Begins : Program → Option Activation → State → Type 0) (Ends : Program → (budget : ℕ) → ObjectCall → State → State → Reply → Type 0) where
  -- the text is a record of the program's object, and in its order the call comes to this from the state on with which its calls begin,
  -- where each call has the record's budget
  pub record IsMadeIn (program : Program) (text : List ℕ) (id : CallId) (made : MadeCall) : Type 0 where
    pub tells : Told
    pub is_record : IsRecord program text tells
    pub opening : State
    pub begins : Begins program tells.carried opening
    pub there : IsMadeThere (Ends program tells.budget) opening tells.events tells.order id made

-- the same where variables go by their positions: what the call comes to, where it is found, as it is where the order has the fault of
-- another reply
abbrev pub IsFoundIn : Program → (text : List ℕ) → CallId → Option MadeCall → Type 0
IsFoundIn program text id made =
    MatchOption made (¬ HasOrderFault BeginsPlaced TrapsPlaced CallEnds program text (Order.OtherReply id))
    (IsMadeIn BeginsPlaced CallEnds program text id)

-- one text is a module, and in the other one, a record of its object, the call comes to this by what the module's body and its calls mean
pub record IsMadeInRecord (module_text record_text : List ℕ) (id : CallId) (made : MadeCall) : Type 0 where
  pub program : Program
  pub is_module : IsModule module_text program
  pub is_made : IsMadeIn BeginsNamed CallMeans program record_text id made

-- what the call comes to, where it is found; it is where the record has the fault of another reply, H4
abbrev pub IsCallFound : (module_text record_text : List ℕ) → CallId → Option MadeCall → Type 0
IsCallFound module_text record_text id made =
    MatchOption made (¬ IsFaultOfRecord module_text record_text (Faults.Order (Order.OtherReply id))) (IsMadeInRecord module_text record_text id)

-- the text is a record of the program's object, in whose order this call stands before the other one, which ended before this one began
pub record IsOvertakenIn (program : Program) (text : List ℕ) (id other : CallId) : Type 0 where
  pub tells : Told
  pub is_record : IsRecord program text tells
  pub there : IsOvertaken tells.events tells.order id other

abbrev pub IsOvertakenFoundIn : Program → (text : List ℕ) → CallId → Option CallId → Type 0
IsOvertakenFoundIn program text id other =
    MatchOption other (¬ HasOrderFault BeginsPlaced TrapsPlaced CallEnds program text (Order.TooEarly id)) (IsOvertakenIn program text id)

-- the same, where the other text is a module
pub record IsOvertakenInRecord (module_text record_text : List ℕ) (id other : CallId) : Type 0 where
  pub program : Program
  pub is_module : IsModule module_text program
  pub is_overtaken : IsOvertakenIn program record_text id other

-- such a call, where one is found; it is where the record has the fault that this call stands too early, H3
abbrev pub IsCallOvertaken : (module_text record_text : List ℕ) → CallId → Option CallId → Type 0
IsCallOvertaken module_text record_text id other =
    MatchOption other (¬ IsFaultOfRecord module_text record_text (Faults.Order (Order.TooEarly id))) (IsOvertakenInRecord module_text record_text id)
