-- Legal orders of calls on a module's object, each with a budget of turns.
use Rattle.std.specs.Prelude.{◌≡◌, ℕ, List}
use Rattle.ob_interface.specs.Call.{ObjectCall, Reply}
use Rattle.ob_typing.specs.Program.{Program}
use Rattle.ob_meaning.specs.ByPositionStore.{Activation}
use Rattle.ob_meaning.specs.ByPositionObject.{effect}
use Rattle.wf_history.specs.declared.event.CallId.{CallId}
use Rattle.wf_history.specs.History.{Event}
use Rattle.wf_history.specs.Legal.{IsLegal}

-- one call on the object of a program with a budget of turns leads from this state to that one, with this reply
abbrev pub CallEnds : Program → (budget : ℕ) → ObjectCall → Activation → Activation → Reply → Type 0
CallEnds program budget call before after reply =
    effect program call budget before ≡ record { state = after; reply = reply }

abbrev pub IsLegalOrder : Program → (budget : ℕ) → Activation → List (Event ObjectCall Reply) → List CallId → Activation → Type 0
IsLegalOrder program budget opening history order last = IsLegal (CallEnds program budget) opening history order last
