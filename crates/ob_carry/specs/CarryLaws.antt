-- What the laws say of carried states.
use Rattle.std.specs.Prelude.{◌≡◌, List, Some, Contains}
use Rattle.ob_typing.specs.Program.{Program}
use Rattle.ob_meaning.specs.ByNameObject.{State}
use Rattle.ob_meaning.specs.ByPositionStore.{Activation}
use Rattle.ob_meaning.specs.Same.{SameState}
use Rattle.ob_carry.specs.Carried.{Entry, AreCarriable, AreValuesOf, carried, value_given}

-- what is carried over to a module is a state of it
abbrev pub CarriedStatesAreStates : Program → Type 0
CarriedStatesAreStates program =
    (entries : List Entry)
    → AreCarriable program.variables entries
    → (activation : Activation) × SameState program (carried program entries) activation

-- each variable has a value of its type in it
abbrev pub CarriedStatesHaveTheirTypes : Program → Type 0
CarriedStatesHaveTheirTypes program =
    (entries : List Entry)
    → AreCarriable program.variables entries
    → AreValuesOf program.variables (carried program entries)

-- one state by name is one by position
abbrev pub SameStatesAreOne : Program → Type 0
SameStatesAreOne program =
    (state : State) (one other : Activation)
    → SameState program state one
    → SameState program state other
    → one ≡ other

-- where no name stands twice each entry counts, wherever it stands
abbrev pub EachEntryCounts : List Entry → Type 0
EachEntryCounts entries =
    (e : Entry) → Contains entries e → value_given entries e.name ≡ Some e.value
