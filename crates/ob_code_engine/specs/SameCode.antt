-- Engines of the same parts do the same. The budget is one of the parts, so that engines with different budgets are different.
use Rattle.std.specs.Prelude.{◌≡◌, refl}
use Rattle.std.proofs.Common.{subst}
use Rattle.ob_code_engine.specs.CodeEngine.{CompiledParts}
use Rattle.ob_code_correct.specs.CodeMeaning.{EngineParts, code_meaning}
use Rattle.ob_code_correct.specs.Compiled.{HasReserve, IsFitting}
use Rattle.ob_code_correct.specs.Parts.{IsEffectOf, IsLawfulFor}
use Rattle.wf_theorems.specs.Coded.{DoesTheSame}

-- an engine of some parts does what one of these parts does
abbrev SameAs : EngineParts → EngineParts → Type 0
SameAs p q =
    DoesTheSame
    (code_meaning p) (IsLawfulFor p) (IsFitting p.exports) (HasReserve p) (IsEffectOf p)
    (code_meaning q) (IsLawfulFor q) (IsFitting q.exports) (HasReserve q) (IsEffectOf q)

itself : (p : EngineParts) → SameAs p p
itself p = record { meaning = refl; lawful_too = λ block h. h; fits_too = λ call h. h; ready_too = λ run h. h; effect = λ call block after reply h. h }

pub does_the_same : (a b : CompiledParts) → a.parts ≡ b.parts → SameAs a.parts b.parts
does_the_same a b same = subst (SameAs a.parts) same (itself a.parts)
