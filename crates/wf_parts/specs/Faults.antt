-- Why a history has no parts.
use Rattle.std.specs.Prelude.{ℕ}
use Rattle.wf_parts.specs.Parts.{Events, IsShort}
use Rattle.wf_parts.specs.declared.parts.PartsFault.{PartsFault}
use Rattle.wf_parts.specs.declared.parts.PartsFault.TheVariants as Faults

abbrev pub IsPartsFault : Events → (by : ℕ) → PartsFault → Type 0
IsPartsFault events by (Faults.Short id) = IsShort by events id
IsPartsFault events by Faults.NoMemory = Unit {0}
