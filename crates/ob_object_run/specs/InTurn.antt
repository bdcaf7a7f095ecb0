-- Calls on a module's object, made one at a time by whatever makes them.
use Rattle.std.specs.Prelude.{◌≡◌, ℕ, List, Result, IfErr}
use Rattle.ob_interface.specs.Call.{ObjectCall, Reply}
use Rattle.ob_object_run.specs.LegalOrder.{IsLegalOrder}
use Rattle.ob_object_run.specs.OrderFaults.{AllLeadTo, IsOrderFault, IsReplayFault, TellsFault}
use Rattle.ob_object_run.specs.declared.order_checker.OrderFault.{OrderFault}
use Rattle.ob_object_run.specs.declared.order_checker.OrderFault.TheVariants as Faults
use Rattle.ob_meaning.specs.ByPositionObject.{effect}
use Rattle.ob_meaning.specs.ByPositionStore.{Activation}
use Rattle.ob_typing.specs.Program.{Program}
use Rattle.wf_history.specs.History.{Event}
use Rattle.wf_history.specs.Legal.{HasBegun}
use Rattle.wf_history.specs.declared.event.CallId.{CallId}

-- which calls of a program it takes, and in which state of the program's variables, with so many turns for each call, it stands
module _ {Maker : Type 0} (Takes : Program → ObjectCall → Type 0) (Stands : Program → (budget : ℕ) → Activation → Maker → Type 0) where
  -- it stands in some state of a program, and takes the call there
  pub record Takeable (maker : Maker) (call : ObjectCall) : Type 0 where
    pub program : Program
    pub budget : ℕ
    pub state : Activation
    pub stands : Stands program budget state maker
    pub takes : Takes program call

  -- it stands in some state of a program, and takes there each call that begins in the history
  pub record TakesBegun (history : List (Event ObjectCall Reply)) (maker : Maker) : Type 0 where
    pub program : Program
    pub budget : ℕ
    pub state : Activation
    pub stands : Stands program budget state maker
    pub takes : (id : CallId) (call : ObjectCall) → HasBegun history id call → Takes program call

module _ {Maker : Type 0} (Stands : Program → (budget : ℕ) → Activation → Maker → Type 0) where
  -- the call, made in this state, has this reply, and it stands in the state that the call leaves: the one before it, where the call traps
  pub record IsMadeInTurn (program : Program) (budget : ℕ) (call : ObjectCall) (before : Activation) (after : Maker) (reply : Reply) : Type 0 where
    pub reply_is : (effect program call budget before).reply ≡ reply
    pub stands : Stands program budget (effect program call budget before).state after

  module _ (history : List (Event ObjectCall Reply)) (order : List CallId) (begun : Maker) where
    -- wherever it stood, all calls of the list lead with the history's replies to where it stands
    abbrev pub MakesAll : Maker → Type 0
    MakesAll left =
        (program : Program) (budget : ℕ) (opening : Activation) → Stands program budget opening begun →
        (last : Activation) × AllLeadTo program budget opening history order last × Stands program budget last left

    abbrev pub StopsAt : OrderFault → Type 0
    StopsAt fault =
        (program : Program) (budget : ℕ) (opening : Activation) → Stands program budget opening begun → IsReplayFault program budget opening history order fault

    -- wherever it stood, the list is a legal order from there, to where it stands
    abbrev pub MakesLegal : Maker → Type 0
    MakesLegal left =
        (program : Program) (budget : ℕ) (opening : Activation) → Stands program budget opening begun →
        (last : Activation) × IsLegalOrder program budget opening history order last × Stands program budget last left

    abbrev pub FailsBy : OrderFault → Type 0
    FailsBy fault =
        (program : Program) (budget : ℕ) (opening : Activation) → Stands program budget opening begun → IsOrderFault program budget opening history order fault

    -- the fault that stands there is answered, want of memory aside
    abbrev pub TellsFaults : {T : Type 0} → Result T OrderFault → Type 0
    TellsFaults result =
        (program : Program) (budget : ℕ) (opening : Activation) → Stands program budget opening begun →
        (fault : OrderFault) → IsOrderFault program budget opening history order fault → TellsFault result fault

    -- a legal order is accepted, want of memory aside
    abbrev pub AcceptsLegal : {T : Type 0} → Result T OrderFault → Type 0
    AcceptsLegal result =
        (program : Program) (budget : ℕ) (opening last : Activation) → Stands program budget opening begun →
        IsLegalOrder program budget opening history order last → IfErr result (λ e. e ≡ Faults.NoMemory)
