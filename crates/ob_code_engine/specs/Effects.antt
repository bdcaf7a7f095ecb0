-- The effect of calls over an engine is total: one block and one reply, never nothing, and never two.
use Rattle.std.specs.Prelude.{◌≡◌, ℤ, List}
use Rattle.ob_interface.specs.Call.{ObjectCall, Reply}
use Rattle.ob_code_correct.specs.CodeMeaning.{EngineParts}
use Rattle.ob_code_correct.specs.Compiled.{IsFitting}
use Rattle.ob_code_correct.specs.Parts.{IsLawfulFor, IsEffectOf}

-- the call leads from this block to one block, with one reply
pub record HasOneEffect (parts : EngineParts) (call : ObjectCall) (block : List ℤ) : Type 0 where
  pub after : List ℤ
  pub reply : Reply
  pub is : IsEffectOf parts call block after reply
  pub only : (other : List ℤ) (answer : Reply) → IsEffectOf parts call block other answer → (other ≡ after) × (answer ≡ reply)

-- so does each call that fits, on each lawful block
abbrev pub EffectsAreTotal : Type 0
EffectsAreTotal =
    (parts : EngineParts) (call : ObjectCall) (block : List ℤ) → IsLawfulFor parts block → IsFitting parts.exports call →
    HasOneEffect parts call block
