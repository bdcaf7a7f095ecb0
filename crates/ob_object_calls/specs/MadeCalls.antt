-- What a call of an order comes to, where it and the calls before it there are made one at a time.
use Rattle.std.specs.Prelude.{◌≡◌, ℕ, List, [], ◌∷◌, ◌++◌, Option, Contains, MatchOption}
use Rattle.ob_interface.specs.Call.{ObjectCall, Reply}
use Rattle.ob_object_run.specs.LegalOrder.{CallEnds}
use Rattle.ob_object_run.specs.OrderFaults.{AnswersOtherwise, IsArranged}
use Rattle.ob_meaning.specs.ByPositionStore.{Activation}
use Rattle.ob_typing.specs.Program.{Program}
use Rattle.wf_history.specs.History.{Event, End}
use Rattle.wf_history.specs.Legal.{HasBegun, OneAtATime}
use Rattle.wf_history.specs.declared.event.CallId.{CallId}

-- the calls before it in the order, its reply in the history, and the one that it has when they and it are made one at a time
pub record MadeCall : Type 0 where
  pub before : List CallId
  pub told : Reply
  pub meant : Reply

module _ (history : List (Event ObjectCall Reply)) where
  abbrev pub NeverBegan : CallId → Type 0
  NeverBegan id = (call : ObjectCall) → ¬ HasBegun history id call

  -- one of the calls never began
  abbrev pub HasUnbegun : List CallId → Type 0
  HasUnbegun ids = (id : CallId) × Contains ids id × NeverBegan id

  -- what the call's End says, where it has one
  abbrev pub IsTold : CallId → Option Reply → Type 0
  IsTold id told = MatchOption told ((reply : Reply) → ¬ Contains history (End id reply)) (λ reply. Contains history (End id reply))

module _ {State : Type 0} (Effect : ObjectCall → State → State → Reply → Type 0) (opening : State) (history : List (Event ObjectCall Reply)) where
  -- the calls, made one at a time, lead to this state
  abbrev pub LeadTo : List CallId → State → Type 0
  LeadTo ids state = (replies : List Reply) × OneAtATime (HasBegun history) Effect opening ids replies state

  -- these calls, made one at a time, lead to a state in which the call ends with this reply
  pub record IsMeant (before : List CallId) (id : CallId) (reply : Reply) : Type 0 where
    pub state : State
    pub lead : LeadTo before state
    pub call : ObjectCall
    pub begun : HasBegun history id call
    pub after : State
    pub ends : Effect call state after reply

  module _ (order : List CallId) (id : CallId) where
    -- in the order the call stands behind these calls, of which it means one reply; the history has the other one
    pub record IsMadeThere (made : MadeCall) : Type 0 where
      pub behind : List CallId
      pub here : order ≡ made.before ++ id ∷ behind
      pub told : Contains history (End id made.told)
      pub meant : IsMeant made.before id made.meant

    -- what the call comes to, where it is found; it is where the order is arranged, and the call ends otherwise than in the history
    abbrev pub IsFound : Option MadeCall → Type 0
    IsFound made = MatchOption made (¬ (IsArranged history order × AnswersOtherwise Effect opening history order id)) IsMadeThere

-- of calls on the object of a program, each with a budget of turns
module _ (program : Program) (budget : ℕ) (history : List (Event ObjectCall Reply)) where
  -- the call, as it began, leads from one state to the other, with this reply
  abbrev pub CallLeadsTo : CallId → (before after : Activation) → Reply → Type 0
  CallLeadsTo id before after reply = (call : ObjectCall) × HasBegun history id call × CallEnds program budget call before after reply

  -- the state and the reply to which the call leads, where it began
  abbrev pub IsCallMade : CallId → (before : Activation) → Option (Activation × Reply) → Type 0
  IsCallMade id before made = MatchOption made (NeverBegan history id) (λ m. CallLeadsTo id before m.0 m.1)

  -- the state to which the calls lead, made one at a time, where all of them began
  abbrev pub IsStateBehind : (opening : Activation) → List CallId → Option Activation → Type 0
  IsStateBehind opening ids state = MatchOption state (HasUnbegun history ids) (LeadTo (CallEnds program budget) opening history ids)

  -- the reply with which the call ends behind these, where they and the call began
  abbrev pub IsMeantFound : (opening : Activation) (before : List CallId) → CallId → Option Reply → Type 0
  IsMeantFound opening before id reply =
      MatchOption reply (HasUnbegun history (before ++ id ∷ [])) (IsMeant (CallEnds program budget) opening history before id)
