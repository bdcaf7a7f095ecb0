-- With which state the calls of a record begin: the one that the module's body leaves, or the values that were carried over.
use Rattle.std.specs.Prelude.{◌≡◌, ℕ, Option, Some, None}
use Rattle.ob_meaning.specs.Same.{SameState}
use Rattle.ob_mean.specs.Sequences as Positions
use Rattle.ob_mean.specs.declared.openings.OpenFault.{OpenFault}
use Rattle.ob_mean.specs.declared.openings.OpenFault.TheVariants as Open
use Rattle.ob_meaning.specs.ByNameObject as Named
use Rattle.ob_meaning.specs.ByPositionStore.{Activation}
use Rattle.ob_typing.specs.Program.{Program}

-- where variables go by their names; no body is run where values were carried over

abbrev pub BeginsNamed : Program → Option Activation → Named.State → Type 0
BeginsNamed program None state = Named.IsOpening program state
BeginsNamed program (Some held) state = SameState program state held

abbrev pub TrapsNamed : Program → Option Activation → ℕ → Type 0
TrapsNamed program None trap = Named.OpeningTraps program trap
TrapsNamed program (Some held) trap = ⊥

-- where they go by their positions

abbrev pub BeginsPlaced : Program → Option Activation → Activation → Type 0
BeginsPlaced program None state = Positions.IsOpening program state
BeginsPlaced program (Some held) state = state ≡ held

abbrev pub TrapsPlaced : Program → Option Activation → ℕ → Type 0
TrapsPlaced program None trap = Positions.OpeningTraps program trap
TrapsPlaced program (Some held) trap = ⊥

-- why there is no such state: the body traps
abbrev pub IsBeginningFault : Program → Option Activation → OpenFault → Type 0
IsBeginningFault program carried (Open.Trap trap) = TrapsPlaced program carried trap
IsBeginningFault program carried Open.NoMemory = Unit {0}
