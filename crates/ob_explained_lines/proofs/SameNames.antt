-- The test of two names says whether they are of one call.
use Rattle.std.proofs.Common.{◌≡◌, ◌∙◌, Bool, true, false, ◌⊎◌, ap, eq-eqb, inl, inr}
use Rattle.std.proofs.lemmas.Bool.{cases_eq, ne_eqb}
use Rattle.std.specs.Prelude.{◌&&◌, nat_eq}
use Rattle.ob_object_run.specs.Places.{same_id}
use Rattle.wf_history.proofs.Positions.{same_call}
use Rattle.wf_history.specs.declared.event.CallId.{CallId}

pub is_same_id : (a b : CallId) → ((same_id a b ≡ true) × (a ≡ b)) ⊎ ((same_id a b ≡ false) × (a ≡ b → ⊥))
is_same_id a b =
    elim (cases_eq a.process b.process) [
      | inl e ↦ elim (cases_eq a.number b.number) [
        | inl f ↦ inl (ap (λ (x : Bool). x && nat_eq a.number b.number) (eq-eqb a.process b.process e) ∙ eq-eqb a.number b.number f, same_call a b e f)
        | inr ne ↦ inr (ap (λ (x : Bool). x && nat_eq a.number b.number) (eq-eqb a.process b.process e) ∙ ne_eqb a.number b.number ne, λ same. ne (ap (λ (c : CallId). c.number) same))
      ]
      | inr ne ↦ inr (ap (λ (x : Bool). x && nat_eq a.number b.number) (ne_eqb a.process b.process ne), λ same. ne (ap (λ (c : CallId). c.process) same))
    ]
