-- Exports have few parameters.
use Rattle.std.proofs.Common.{◌≡◌, ℕ, ◌≤◌, length, Some, sym, ap, ◌∙◌}
use Rattle.std.proofs.Math.Logic.{∥∥₁_elim}
use Rattle.std.proofs.Math.Bridge.{le_prop}
use Rattle.std.specs.Prelude.{ℤ, pos, negsuc, slice_get}
use Rattle.ob_code_correct.specs.CodeMeaning.{Entrance, EngineParts, entrance_at}
use Rattle.ob_code_correct.specs.Parts.{HasProgram}
use Rattle.ob_code_correct.proofs.ExportLaw as Law

pub few : (parts : EngineParts) → ∥ HasProgram parts ∥₁ → (i : ℕ) (x : Entrance) → slice_get parts.exports i ≡ Some x → length x.parameters ≤ 8
few parts there i x h =
    ∥∥₁_elim there le_prop (λ p. Law.few p.0 p.1.well i x (ap (λ (q : EngineParts). slice_get q.exports i) (sym p.1.parts_are) ∙ h))

pub few_at : (parts : EngineParts) → ∥ HasProgram parts ∥₁ → (z : ℤ) (x : Entrance) → entrance_at parts.exports z ≡ Some x → length x.parameters ≤ 8
few_at parts there (pos n) x h = few parts there n x h
few_at parts there (negsuc n) x h = absurd (cc)
