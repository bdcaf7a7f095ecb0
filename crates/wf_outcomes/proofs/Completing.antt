-- Each front of a merge can be completed, where each call has an outcome on each state.
use Rattle.std.proofs.Common.{◌≡◌, refl, sym, ap, ◌∙◌, subst, ℕ, ◌+◌, ◌-◌, ◌<◌, ◌≤◌, zero, suc, List, [], ◌∷◌, ◌++◌, length, get_or, set, map, replicate, Some, ◌⊎◌, arith, inl, inr, length-set, get_or-set_same, get_or-set_other}
use Rattle.std.proofs.lemmas.Bool.{cases_eq, cases_lt}
use Rattle.std.proofs.lemmas.List.{length-replicate}
use Rattle.std.proofs.lemmas.Option.{slice_get_within}
use Rattle.std.specs.List.{slice_get}
use Rattle.wf_history.specs.declared.event.CallId.{CallId}
use Rattle.wf_outcomes.specs.Merges.{Configuration, IsStep, Leads, none, more, full, IsReached, CanComplete, IsPossible, IsInWhole}
use Rattle.wf_outcomes.specs.Whole.{Completes, IsTotal}
use Rattle.wf_outcomes.proofs.OutcomesLists.{same_configuration}
use Rattle.wf_outcomes.proofs.Growing.{leads_push}
use Rattle.wf_outcomes.proofs.Stepping.{next_of}

-- how many calls are left
left : {Call : Type 0} → List (List Call) → List ℕ → ℕ
left [] counts = 0
left (s ∷ scripts) [] = 0
left (s ∷ scripts) (c ∷ counts) = (length s - c) + left scripts counts

left_step : {Call : Type 0} (scripts : List (List Call)) (counts : List ℕ) (p k : ℕ) → get_or counts p 0 ≡ k → p < length counts → k < length (get_or scripts p []) → left scripts (set counts p (k + 1)) + 1 ≡ left scripts counts
unfolding left
left_step [] counts p k e within less = absurd (omega arith)
left_step (s ∷ scripts) [] p k e within less = absurd (omega arith)
left_step (s ∷ scripts) (c ∷ counts) zero k e within less = omega arith
left_step (s ∷ scripts) (c ∷ counts) (suc p) k e within less = let r = left_step scripts counts p k e (omega arith) less in omega (arith, r)

-- the counts are those of scripts
record Fits {Call : Type 0} (scripts : List (List Call)) (counts : List ℕ) : Type 0 where
  size : length counts ≡ length scripts
  small : (p : ℕ) → get_or counts p 0 ≤ length (get_or scripts p [])

some_call : {Call : Type 0} (script : List Call) (k : ℕ) → k < length script → (call : Call) × (slice_get script k ≡ Some call)
some_call [] k lt = absurd (omega arith)
some_call (x ∷ script) zero lt = (x, refl)
some_call (x ∷ script) (suc k) lt = some_call script k (omega arith)

-- all calls are made, or one is next
full_or_next : {Call : Type 0} (scripts : List (List Call)) (counts : List ℕ) → length counts ≡ length scripts → ((p : ℕ) → get_or counts p 0 ≤ length (get_or scripts p [])) →
    (counts ≡ map length scripts) ⊎ ((p : ℕ) × (p < length counts) × (get_or counts p 0 < length (get_or scripts p [])))
full_or_next [] [] size small = inl refl
full_or_next [] (c ∷ counts) size small = absurd (omega (arith, size))
full_or_next (s ∷ scripts) [] size small = absurd (omega (arith, size))
full_or_next (s ∷ scripts) (c ∷ counts) size small =
    elim (cases_lt c (length s)) [
      | inl lt ↦ inr (0, omega arith, lt)
      | inr le ↦
          let here : c ≤ length s = small 0 in
          let same : c ≡ length s = omega (arith, le, here) in
          elim (full_or_next scripts counts (omega (arith, size)) (λ p. small (suc p))) [
            | inl rest ↦ inl (ap (λ (n : ℕ). n ∷ counts) same ∙ ap (λ (l : List ℕ). length s ∷ l) rest)
            | inr next ↦ inr (suc next.0, let lt = next.1 in omega (arith, lt), next.2)
          ]
    ]

fits_more : {Call : Type 0} (scripts : List (List Call)) (counts : List ℕ) (p : ℕ) → Fits scripts counts → p < length counts → get_or counts p 0 < length (get_or scripts p []) → Fits scripts (set counts p (get_or counts p 0 + 1))
fits_more scripts counts p h within less = record {
  size = length-set counts p (get_or counts p 0 + 1) ∙ h.size;
  small = λ q. elim (cases_eq q p) [
    | inl e ↦ subst (λ (i : ℕ). get_or (set counts p (get_or counts p 0 + 1)) i 0 ≤ length (get_or scripts i [])) (sym e) (let s = get_or-set_same counts p (get_or counts p 0 + 1) 0 within in omega (arith, s, less))
    | inr ne ↦ let s = get_or-set_other counts p q (get_or counts p 0 + 1) 0 ne in let b = h.small q in omega (arith, s, b)
  ];
}

none_there : (n p : ℕ) → get_or (replicate {A = ℕ} n 0) p 0 ≡ 0
none_there zero p = refl
none_there (suc n) zero = refl
none_there (suc n) (suc p) = none_there n p

fits_start : {Call : Type 0} (scripts : List (List Call)) → Fits scripts (replicate (length scripts) 0)
fits_start scripts = record { size = length-replicate (length scripts) 0; small = λ p. let z = none_there (length scripts) p in omega (arith, z) }

module _ {State Call Reply : Type 0} (Effect : Call → State → State → Reply → Type 0) (scripts : List (List Call)) where
  fits_leads : {c e : Configuration State} {ids : List CallId} → Leads Effect scripts c ids e → Fits scripts c.counts → Fits scripts e.counts
  fits_leads none h = h
  fits_leads (more {c} {d} {e} {id} {ids} r s l) h =
      let less = slice_get_within (get_or scripts id.process []) (get_or c.counts id.process 0) s.call s.listed in
      fits_leads l (subst (λ (k : List ℕ). Fits scripts k) (sym (s.counts ∙ ap (set c.counts id.process) s.number)) (fits_more scripts c.counts id.process h s.process less))

  module _ (total : IsTotal Effect) where
    complete_by : (n : ℕ) (c : Configuration State) → left scripts c.counts ≡ n → Fits scripts c.counts → (rest : List CallId) × (last : State) × Leads Effect scripts c rest (full Effect scripts last)
    complete_by zero c is h =
        elim (full_or_next scripts c.counts h.size h.small) [
          | inl all ↦ ([], c.state, subst (λ (x : Configuration State). Leads Effect scripts c [] x) (same_configuration all refl) none)
          | inr next ↦ let less = left_step scripts c.counts next.0 (get_or c.counts next.0 0) refl next.1 next.2 in absurd (omega (arith, less, is))
        ]
    complete_by (suc n) c is h =
        elim (full_or_next scripts c.counts h.size h.small) [
          | inl all ↦ ([], c.state, subst (λ (x : Configuration State). Leads Effect scripts c [] x) (same_configuration all refl) none)
          | inr next ↦
              let call = some_call (get_or scripts next.0 []) (get_or c.counts next.0 0) next.2 in
              let made = total call.0 c.state in
              let d : Configuration State = record { counts = set c.counts next.0 (get_or c.counts next.0 0 + 1); state = made.0 } in
              let s : IsStep Effect scripts c (next_of c next.0) made.1 d = record { call = call.0; process = next.1; listed = call.1; number = refl; effect = made.2; counts = refl } in
              let less = left_step scripts c.counts next.0 (get_or c.counts next.0 0) refl next.1 next.2 in
              let r = complete_by n d (omega (arith, less, is)) (fits_more scripts c.counts next.0 h next.1 next.2) in
              (next_of c next.0 ∷ r.0, r.1, more made.1 s r.2)
        ]

    completed : (opening : State) (c : Configuration State) → IsReached Effect scripts opening c → CanComplete Effect scripts c
    completed opening c r = complete_by (left scripts c.counts) c refl (fits_leads r.1 (fits_start scripts))

    in_whole : (opening : State) (id : CallId) (reply : Reply) → IsPossible Effect scripts opening id reply → IsInWhole Effect scripts opening id reply
    in_whole opening id reply p =
        let r = completed opening p.1 (p.2.0 ++ id ∷ [], leads_push Effect scripts reply p.2.1 p.3) in
        (p.0, p.1, p.2, p.3, r)

  from_whole : (opening : State) (id : CallId) (reply : Reply) → IsInWhole Effect scripts opening id reply → IsPossible Effect scripts opening id reply
  from_whole opening id reply p = (p.0, p.1, p.2, p.3)

  pub all_completed : (opening : State) → Completes Effect scripts opening
  all_completed opening total = record {
    fronts = completed total opening;
    replies = λ id reply. (in_whole total opening id reply, from_whole opening id reply);
  }
