-- The test of two names says whether they are of one call; and sets of names.
use Rattle.std.proofs.Common.{◌≡◌, ◌∙◌, ◌↔◌, Bool, true, false, cond, List, [], ◌∷◌, ◌++◌, ◌⊎◌, ap, eq-eqb, inl, inr, refl, subst, sym}
use Rattle.std.proofs.lemmas.Bool.{cases_eq, false≢true, ne_eqb}
use Rattle.std.proofs.lemmas.List.Elements.{Contains-append_left, Contains-push, Contains-push_cases}
use Rattle.std.specs.Prelude.{◌&&◌, Contains, IsTrue, nat_eq}
use Rattle.ob_object_run.specs.Places.{same_id}
use Rattle.wf_history.proofs.Positions.{same_call}
use Rattle.wf_history.specs.declared.event.CallId.{CallId}

pub is_same_id : (a b : CallId) → ((same_id a b ≡ true) × (a ≡ b)) ⊎ ((same_id a b ≡ false) × (a ≡ b → ⊥))
is_same_id a b =
    elim (cases_eq a.process b.process) [
      | inl e ↦ elim (cases_eq a.number b.number) [
        | inl f ↦ inl (ap (λ (x : Bool). x && nat_eq a.number b.number) (eq-eqb a.process b.process e) ∙ eq-eqb a.number b.number f, same_call a b e f)
        | inr ne ↦ inr (ap (λ (x : Bool). x && nat_eq a.number b.number) (eq-eqb a.process b.process e) ∙ ne_eqb a.number b.number ne, λ same. ne (ap (λ (c : CallId). c.number) same))
      ]
      | inr ne ↦ inr (ap (λ (x : Bool). x && nat_eq a.number b.number) (ne_eqb a.process b.process ne), λ same. ne (ap (λ (c : CallId). c.process) same))
    ]

pub same_true : (a b : CallId) → same_id a b ≡ true → a ≡ b
same_true a b t = elim (is_same_id a b) [ inl same ↦ same.1 | inr other ↦ absurd (false≢true (sym other.0 ∙ t)) ]

pub same_false : (a b : CallId) → same_id a b ≡ false → a ≡ b → ⊥
same_false a b f e = elim (is_same_id a b) [ inl same ↦ absurd (false≢true (sym f ∙ same.0)) | inr other ↦ other.1 e ]

pub same_is : (a b : CallId) → a ≡ b → same_id a b ≡ true
same_is a b e = elim (is_same_id a b) [ inl same ↦ same.0 | inr other ↦ absurd (other.1 e) ]

-- the set of the calls of a list, with one more
pub set_more : (has new_has : CallId → Bool) (ids : List CallId) (id : CallId) → ((q : CallId) → IsTrue (has q) ↔ Contains ids q) → ((q : CallId) → new_has q ≡ cond (same_id id q) true (has q)) →
    (q : CallId) → IsTrue (new_has q) ↔ Contains (ids ++ id ∷ []) q
set_more has new_has ids id h new q =
    subst (λ (b : Bool). IsTrue b ↔ Contains (ids ++ id ∷ []) q) (sym (new q))
    (elim (is_same_id id q) [
      | inl same ↦ subst (λ (b : Bool). IsTrue (cond b true (has q)) ↔ Contains (ids ++ id ∷ []) q) (sym same.0)
          ((λ t. subst (λ (i : CallId). Contains (ids ++ id ∷ []) i) same.1 (Contains-push ids id)), λ c. refl)
      | inr other ↦ subst (λ (b : Bool). IsTrue (cond b true (has q)) ↔ Contains (ids ++ id ∷ []) q) (sym other.0) (
        (λ t. Contains-append_left ids (id ∷ []) q ((h q).0 t)),
        λ c. elim (Contains-push_cases ids id q c) [ inl listed ↦ (h q).1 listed | inr e ↦ absurd (other.1 e) ],
      )
    ])
