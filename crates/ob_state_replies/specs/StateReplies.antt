-- Calls whose reply depends on the state alone, and on no argument.
use Rattle.std.specs.Prelude.{◌≡◌, ℕ, Bool, true, List, length, slice_get, Some}
use Rattle.ob_interface.specs.declared.scalar.Scalar.{Scalar}
use Rattle.ob_typing.specs.Program.{Program, exports}
use Rattle.ob_meaning.specs.ByPositionStore.{Activation}
use Rattle.ob_meaning.specs.ByPositionObject.{effect}

-- whatever the arguments, each call of the export has the same reply in one state, with the same budget
abbrev pub IsOfState : Program → (export : ℕ) → Type 0
IsOfState program export =
    (budget : ℕ) (arguments others : List Scalar) (state : Activation) →
    (effect program (record { export = export; arguments = arguments }) budget state).reply
    ≡ (effect program (record { export = export; arguments = others }) budget state).reply

-- for each export whether its reply is known to be so; where it is not known, nothing is said
pub record TellsStateReplies (program : Program) (told : List Bool) : Type 0 where
  pub each : length told ≡ length (exports program)
  pub true_of : (export : ℕ) → slice_get told export ≡ Some true → IsOfState program export
