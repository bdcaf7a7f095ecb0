-- Arguments that fit parameters, one after the other, and how many there are.
use Rattle.std.proofs.Common.{◌≡◌, ℕ, ◌<◌, ◌≤◌, Some, suc, Bool, true, false, cond, not, List, [], ◌∷◌, length, map, filter, refl, ap, ◌∙◌, sym, arith}
use Rattle.std.proofs.Math.Logic.{∥∥₁_elim}
use Rattle.std.proofs.Math.Bridge.{le_prop}
use Rattle.std.specs.Prelude.{slice_get}
use Rattle.std.proofs.lemmas.List.{length-map}
use Rattle.std.proofs.lemmas.Option.{slice_get_within}
use Rattle.ob_code_calls.specs.Calls.{meaning_of}
use Rattle.ob_code_correct.proofs.ExportLaw.{most_has}
use Rattle.ob_code_correct.proofs.ExportLaw as Law
use Rattle.ob_code_correct.specs.CodeMeaning.{Entrance, EngineParts, value_count}
use Rattle.ob_code_correct.specs.Parts.{HasProgram}
use Rattle.ob_code_correct.specs.Compiled.{IsFitting}
use Rattle.ob_interface.specs.Call.{ObjectCall}
use Rattle.ob_interface.specs.declared.export.Formal.{Formal}
use Rattle.ob_interface.specs.declared.scalar.Scalar.{Scalar}
use Rattle.ob_interface.specs.declared.scalar.ScalarType.{ScalarType}
use Rattle.ob_interface.specs.Export.{ArgumentsFit, type_of}

types_with : (b : Bool) (f : Formal) (fs : List Formal) → List ScalarType
types_with b f fs = map (λ (g : Formal). g.scalar_type) (cond b (f ∷ filter (λ (g : Formal). not g.is_var) fs) (filter (λ (g : Formal). not g.is_var) fs))

-- a VAR parameter takes no argument
pub var_more : (f : Formal) (fs : List Formal) (arguments : List Scalar) → f.is_var ≡ true → ArgumentsFit fs arguments → ArgumentsFit (f ∷ fs) arguments
unfolding types_with
var_more f fs arguments is fit = fit ∙ sym (ap (λ (b : Bool). types_with (not b) f fs) is)

-- and another one the first that is left
pub value_more : (f : Formal) (fs : List Formal) (a : Scalar) (arguments : List Scalar) → f.is_var ≡ false → type_of a ≡ f.scalar_type → ArgumentsFit fs arguments → ArgumentsFit (f ∷ fs) (a ∷ arguments)
unfolding types_with
value_more f fs a arguments is typed fit =
    ap (λ (t : ScalarType). t ∷ map type_of arguments) typed ∙ ap (λ (ts : List ScalarType). f.scalar_type ∷ ts) fit ∙ sym (ap (λ (b : Bool). types_with (not b) f fs) is)

-- arguments that fit are as many as the parameters that are not VAR
values_with : (b : Bool) (f : Formal) (fs : List Formal) → length (filter (λ (g : Formal). not g.is_var) fs) ≡ value_count fs →
    length (cond (not b) (f ∷ filter (λ (g : Formal). not g.is_var) fs) (filter (λ (g : Formal). not g.is_var) fs)) ≡ cond b (value_count fs) (suc (value_count fs))
values_with true f fs h = h
values_with false f fs h = ap suc h

values_counted : (fs : List Formal) → length (filter (λ (g : Formal). not g.is_var) fs) ≡ value_count fs
values_counted [] = refl
values_counted (f ∷ fs) = values_with f.is_var f fs (values_counted fs)

pub as_many : (fs : List Formal) (arguments : List Scalar) → ArgumentsFit fs arguments → length arguments ≡ value_count fs
as_many fs arguments fit =
    sym (length-map arguments type_of)
    ∙ ap (λ (types : List ScalarType). length types) fit
    ∙ length-map (filter (λ (f : Formal). not f.is_var) fs) (λ (f : Formal). f.scalar_type)
    ∙ values_counted fs

-- so there is room for them behind the number of the call
pub has_room_for : (parts : EngineParts) (call : ObjectCall) → ∥ IsFitting parts.exports call ∥₁ → length call.arguments < (meaning_of parts).arguments
has_room_for parts call fits = ∥∥₁_elim fits le_prop (λ f.
    let many = as_many f.entrance.parameters call.arguments f.typed in
    let has = most_has value_count parts.exports call.export f.entrance f.there in
    omega (arith, many, has))

-- and its number is one of an export
pub is_within : (parts : EngineParts) (call : ObjectCall) → ∥ IsFitting parts.exports call ∥₁ → call.export < length parts.exports
is_within parts call fits = ∥∥₁_elim fits le_prop (λ f. slice_get_within parts.exports call.export f.entrance f.there)

-- an export has few parameters
pub few : (parts : EngineParts) → ∥ HasProgram parts ∥₁ → (i : ℕ) (x : Entrance) → slice_get parts.exports i ≡ Some x → length x.parameters ≤ 8
few parts there i x h =
    ∥∥₁_elim there le_prop (λ p. Law.few p.0 p.1.well i x (ap (λ (q : EngineParts). slice_get q.exports i) (sym p.1.parts_are) ∙ h))
