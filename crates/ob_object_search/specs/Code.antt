-- The code of a module.
use Rattle.std.specs.Prelude.{◌≡◌, ℕ, Option, Some, None, map}
use Rattle.ob_interface.specs.Call.{Reply}
use Rattle.ob_code_calls.specs.Parts.{parts_in}
use Rattle.ob_code_calls.specs.Scalars.{held_of}
use Rattle.ob_code_calls.specs.declared.scalar_calls.Led.{Led}
use Rattle.ob_code_calls.specs.declared.scalar_calls.Led.TheVariants as Leds
use Rattle.ob_code_calls.specs.declared.scalar_calls.ScalarCalls.{ScalarCalls}
use Rattle.ob_code_correct.specs.Parts.{IsCompiledTo}
use Rattle.ob_meaning.specs.ByPositionStore.{Activation}
use Rattle.ob_typing.specs.Program.{Program}
use Rattle.wf_order.specs.Rules.{IsOutcome}

-- the code is that of the program, each call with so many turns
pub record HasCode (program : Program) (budget : ℕ) (code : ScalarCalls) : Type 0 where
  pub compiled : IsCompiledTo program (parts_in code.calls)
  pub turns : (parts_in code.calls).budget ≡ budget

-- where there is code
abbrev pub IsCodeOf : Program → (budget : ℕ) → Option ScalarCalls → Type 0
IsCodeOf program budget None = Unit {0}
IsCodeOf program budget (Some code) = HasCode program budget code

-- the call leads to variables that hold these scalars, with the reply that is known, if one is; or it has another one; or nothing is said
abbrev pub IsLedSo : (Activation → Activation → Reply → Type 0) → (before : Activation) → (known : Option Reply) → Led → Type 0
IsLedSo Effect before known (Leds.To after) = IsOutcome Effect before known (Some (map held_of after.items))
IsLedSo Effect before known Leds.Elsewhere = IsOutcome Effect before known None
IsLedSo Effect before known Leds.Nowhere = Unit {0}
