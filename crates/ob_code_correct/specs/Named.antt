-- From states by position to the module's states by name: so orders are legal by what the source means.
use Rattle.std.specs.Prelude.{◌≡◌, ℕ}
use Rattle.ob_interface.specs.Call.{ObjectCall, Reply}
use Rattle.ob_typing.specs.Program.{Program}
use Rattle.ob_meaning.specs.ByNameObject as Named
use Rattle.ob_meaning.specs.ByPositionStore.{Activation}
use Rattle.ob_meaning.specs.Resolved.{IsResolved}
use Rattle.ob_meaning.specs.Same.{SameState}
use Rattle.ob_code_correct.specs.Compiled.{Fits, CallEnds}
use Rattle.ob_code_correct.specs.Carried.{CarriesLegal}

-- a call with the budget, on this state of the module, leads to that one, with this reply
abbrev pub CallMeans : Program → (budget : ℕ) → ObjectCall → Named.State → Named.State → Reply → Type 0
CallMeans program budget call before after reply =
    Named.effect program call budget before ≡ record { state = after; reply = reply }

-- an order that is legal by what calls come to by position is legal by what they mean by name
abbrev pub PositionsCarryLegal : Type 0
PositionsCarryLegal =
    (program : Program) (budget : ℕ) → IsResolved program →
    CarriesLegal (Fits program) (λ (activation : Activation) (state : Named.State). SameState program state activation) (CallEnds program budget) (CallMeans program budget)
