-- The values that were carried over are of their variables' types, by position too.
use Rattle.std.proofs.Common.{Option, Some, None}
use Rattle.ob_object_calls.proofs.Beginnings.{AreOpened}
use Rattle.ob_object_calls.proofs.Typed.{openings_typed}
use Rattle.ob_meaning.specs.ByPositionStore.{Activation}
use Rattle.ob_laws.specs.Writable.{AreCarried}
use Rattle.ob_typing.specs.Program.{Program}

module _ (program : Program) where
  pub carried_typed : (carried : Option Activation) → AreOpened program.variables carried → AreCarried program carried
  carried_typed None opened = tt
  carried_typed (Some held) opened = openings_typed opened.1
