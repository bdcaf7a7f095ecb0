-- What holds of the places of sites.
use Rattle.std.specs.Prelude.{◌≡◌, ℕ, Some}
use Rattle.ob_grammar.specs.Tree.{Module}
use Rattle.ob_interface.specs.Call.{ObjectCall}
use Rattle.ob_typing.specs.Program.{Program}
use Rattle.ob_typing.specs.Declarations.{WellTyped}
use Rattle.ob_meaning.specs.ByPositionStore.{Activation}
use Rattle.ob_trap_places.specs.Site.{Site}
use Rattle.ob_trap_places.specs.TrapOfCall.{site_of_call, site_of_opening}
use Rattle.ob_trap_places.specs.Places.{place_of}

-- where a call on the object of a well typed module traps, the operation has a place in the module
abbrev pub TrappedCallsHavePlaces : Type 0
TrappedCallsHavePlaces =
    (m : Module) (program : Program) (call : ObjectCall) (budget : ℕ) (state : Activation) (site : Site) →
    WellTyped m program → site_of_call program call budget state ≡ Some site → (place : ℕ) × (place_of m site ≡ Some place)

-- so it is where its opening traps
abbrev pub TrappedOpeningsHavePlaces : Type 0
TrappedOpeningsHavePlaces =
    (m : Module) (program : Program) (turns : ℕ) (site : Site) →
    WellTyped m program → site_of_opening program turns ≡ Some site → (place : ℕ) × (place_of m site ≡ Some place)
