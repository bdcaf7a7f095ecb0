-- Whether an export is a question.
use Rattle.std.proofs.Common.{◌≡◌, ◌∙◌, ap, sym, ℕ, true, List, [], ◌∷◌, Some, None}
use Rattle.std.proofs.lemmas.Option.{same_Some}
use Rattle.ob_interface.specs.Export.{Signature}
use Rattle.ob_interface.specs.declared.scalar.ScalarType.TheVariants.{Boolean}
use Rattle.ob_object_outcomes.specs.Questions.{IsQuestion}
use Rattle.ob_text_words.specs.ExportNames.{export_named}

module _ (signatures : List Signature) (name : List ℕ) where
  pub no_export : None ≡ export_named signatures name → (number : ℕ) → ¬ IsQuestion signatures name number
  no_export none number q = let both = none ∙ q.named in cc

  module _ (n : ℕ) (s : Signature) (found : Some (n, s) ≡ export_named signatures name) where
    pub the_export : s.formals ≡ record { is_var = true; scalar_type = Boolean } ∷ [] → IsQuestion signatures name n
    the_export one = record { signature = s; named = sym found; formals = one }

    pub other_export : ¬ (s.formals ≡ record { is_var = true; scalar_type = Boolean } ∷ []) → (number : ℕ) → ¬ IsQuestion signatures name number
    other_export other number q =
        let both = found ∙ q.named in
        let same : s ≡ q.signature = ap (λ (e : ℕ × Signature). e.1) (same_Some (n, s) (number, q.signature) both) in
        other (ap (λ (x : Signature). x.formals) same ∙ q.formals)
