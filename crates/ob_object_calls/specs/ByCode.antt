-- Where a module's code stands.
use Rattle.std.specs.Prelude.{ℕ}
use Rattle.ob_code_calls.specs.Standing.{StandsAt}
use Rattle.ob_object_calls.specs.declared.coded_verifying.ByCode.{ByCode}
use Rattle.ob_meaning.specs.ByPositionStore.{Activation}
use Rattle.ob_typing.specs.Program.{Program}

abbrev pub IsAt : Program → (budget : ℕ) → Activation → ByCode → Type 0
IsAt program budget state b = StandsAt program budget state b.coded
