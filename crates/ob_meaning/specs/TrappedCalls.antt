-- A call that traps changes nothing: its effect is taken of the state from before the call (`effect_of` of ByNameObject), whatever
-- its statements had written by then.
use Rattle.std.specs.Prelude.{◌≡◌, ℕ}
use Rattle.ob_interface.specs.Call.{ObjectCall, Trapped}
use Rattle.ob_typing.specs.Program.{Program}
use Rattle.ob_meaning.specs.ByNameObject.{State, effect}

-- a call from outside that traps leaves the state as it was
abbrev pub TrapsLeaveTheState : Program → Type 0
TrapsLeaveTheState program =
    (call : ObjectCall) (budget k : ℕ) (state : State)
    → (effect program call budget state).reply ≡ Trapped k
    → (effect program call budget state).state ≡ state
