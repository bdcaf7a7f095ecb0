-- What each fault of an opening and of calls made one at a time says.
use Rattle.std.specs.Prelude.{ℕ}
use Rattle.ob_typing.specs.Program.{Program}
use Rattle.ob_mean.specs.declared.openings.OpenFault.{OpenFault}
use Rattle.ob_mean.specs.declared.openings.OpenFault.TheVariants as Open
use Rattle.ob_mean.specs.declared.sequences.SeqFault.{SeqFault}
use Rattle.ob_mean.specs.declared.sequences.SeqFault.TheVariants as Seq
use Rattle.ob_mean.specs.declared.places.Stop.{Stop}
use Rattle.ob_mean.specs.declared.places.Stop.TheVariants as Stops
use Rattle.ob_mean.specs.Sequences.{OpeningTraps}

abbrev pub IsOpenFault : Program → OpenFault → Type 0
IsOpenFault program (Open.Trap k) = OpeningTraps program k
IsOpenFault program Open.NoMemory = Unit {0}

abbrev pub IsSeqFault : Program → SeqFault → Type 0
IsSeqFault program (Seq.OpeningTrap k) = OpeningTraps program k
IsSeqFault program Seq.NoMemory = Unit {0}

-- the fault of an opening, as a fault of calls made one at a time
abbrev pub of_opening : OpenFault → SeqFault
of_opening (Open.Trap k) = Seq.OpeningTrap k
of_opening Open.NoMemory = Seq.NoMemory

-- what stopped the module's body, as the fault of the opening
abbrev pub of_stop : Stop → OpenFault
of_stop (Stops.Trap k) = Open.Trap k
of_stop Stops.NoMemory = Open.NoMemory
