-- Where the traps of calls come from that are made one at a time.
use Rattle.std.specs.Prelude.{◌≡◌, ℕ, List, [], ◌∷◌, Option}
use Rattle.ob_interface.specs.Call.{ObjectCall, Reply}
use Rattle.ob_meaning.specs.ByPositionObject.{Effect, effect}
use Rattle.ob_meaning.specs.ByPositionStore.{Activation}
use Rattle.ob_trap_places.specs.TrapOfCall.{site_of_call}
use Rattle.ob_trap_places.specs.Site.{Site}
use Rattle.ob_typing.specs.Program.{Program}

-- of each call, made one at a time from a state with the budget, where its trap comes from, if it traps
abbrev pub sites_from : Program → (budget : ℕ) → Activation → List ObjectCall → List (Option Site)
sites_from program budget state [] = []
sites_from program budget state (call ∷ calls) =
    site_of_call program call budget state ∷ sites_from program budget (effect program call budget state).state calls

-- a call left this state and this reply
abbrev pub effect_left : Activation → Reply → Effect
effect_left state reply = record { state = state; reply = reply }

-- in each state from which the call leaves this state and this reply, its trap comes from this site, or it doesn't trap
abbrev pub IsSiteBehind : Program → ObjectCall → (budget : ℕ) → (left : Activation) → Reply → Option Site → Type 0
IsSiteBehind program call budget left reply site =
    (before : Activation)
    → effect program call budget before ≡ effect_left left reply
    → site ≡ site_of_call program call budget before
