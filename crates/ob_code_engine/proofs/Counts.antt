-- Parameters counted by their modes.
use Rattle.std.proofs.Common.{◌≡◌, ℕ, suc, ◌+◌, Bool, true, false, cond, not, count_by, List, length, filter, refl, sym, ap, ◌∙◌, arith}
use Rattle.std.proofs.lemmas.List.{length-map}
use Rattle.std.proofs.lemmas.List.Recursion.{is_count_by}
use Rattle.std.proofs.lemmas.List.Sums.{length-filter}
use Rattle.ob_interface.specs.declared.export.Formal.{Formal}
use Rattle.ob_interface.specs.declared.scalar.Scalar.{Scalar}
use Rattle.ob_interface.specs.declared.scalar.ScalarType.{ScalarType}
use Rattle.ob_interface.specs.Export.{ArgumentsFit, type_of}
use Rattle.ob_code_correct.specs.CodeMeaning.{result_count, value_count}

-- one more of them, or not
one_yes : (b : Bool) (n : ℕ) → cond b (suc n) n ≡ cond b (1 + n) n
one_yes true n = omega arith
one_yes false n = refl

one_no : (b : Bool) (n : ℕ) → cond b n (suc n) ≡ cond (not b) (1 + n) n
one_no true n = refl
one_no false n = omega arith

pub count_by-results : (fs : List Formal) → count_by (λ f. f.is_var) fs ≡ result_count fs
count_by-results fs = sym (is_count_by result_count (λ f. f.is_var) refl (λ f rest. one_yes f.is_var (result_count rest)) fs)

pub count_by-values : (fs : List Formal) → count_by (λ f. not f.is_var) fs ≡ value_count fs
count_by-values fs = sym (is_count_by value_count (λ f. not f.is_var) refl (λ f rest. one_no f.is_var (value_count rest)) fs)

-- arguments that fit are as many as the parameters that are not VAR
pub arguments_count : (fs : List Formal) (arguments : List Scalar) → ArgumentsFit fs arguments → length arguments ≡ value_count fs
arguments_count fs arguments fit =
    sym (length-map arguments type_of)
    ∙ ap (λ (types : List ScalarType). length types) fit
    ∙ length-map (filter (λ (f : Formal). not f.is_var) fs) (λ (f : Formal). f.scalar_type)
    ∙ length-filter (λ (f : Formal). not f.is_var) fs
    ∙ count_by-values fs
