-- Calls whose reply may be known.
use Rattle.std.specs.Prelude.{◌≡◌, ℕ, List, Option, Some, None, IfSome, map}
use Rattle.ob_interface.specs.Call.{ObjectCall, Reply, Trapped}
use Rattle.ob_interface.specs.declared.scalar.Scalar.{Scalar}
use Rattle.ob_code_calls.specs.Calls.{meaning_of}
use Rattle.ob_code_calls.specs.Scalars.{held_of}
use Rattle.ob_code_calls.specs.declared.scalar_calls.Led.{Led}
use Rattle.ob_code_calls.specs.declared.scalar_calls.Led.TheVariants as Leds
use Rattle.ob_code_correct.specs.CodeMeaning.{EngineParts}
use Rattle.ob_code_machine.specs.Body.{Run}
use Rattle.ob_meaning.specs.ByPositionObject.{effect}
use Rattle.ob_typing.specs.Program.{Program}
use Rattle.wf_table.specs.Meaning.{kept}

-- the reply of a call whose body has returned, or trapped so
abbrev pub reply_behind : EngineParts → ObjectCall → Run → (trap : Option ℕ) → Reply
reply_behind parts call run None = (meaning_of parts).reply call (kept (meaning_of parts) run)
reply_behind parts call run (Some number) = Trapped number

-- What the call comes to on variables that hold these scalars has the reply that is known, if one is, and leads to variables that hold
-- those; or it has another one.
abbrev pub IsLed : Program → EngineParts → ObjectCall → (before : List Scalar) → (known : Option Reply) → Led → Type 0
IsLed program parts call before known (Leds.To after) =
    ((effect program call parts.budget (map held_of before)).state ≡ map held_of after.items)
    × IfSome known (λ x. x ≡ (effect program call parts.budget (map held_of before)).reply)
IsLed program parts call before known Leds.Elsewhere = ¬ IfSome known (λ x. x ≡ (effect program call parts.budget (map held_of before)).reply)
IsLed program parts call before known Leds.Nowhere = Unit {0}
