-- The calls of steps, from a configuration in which none is taken to one that is done, are a legal order.
use Rattle.std.proofs.Common.{◌≡◌, refl, sym, ap, ◌∙◌, subst, ℕ, ◌+◌, ◌<◌, zero, suc, List, [], ◌∷◌, ◌++◌, length, get_or, set, Some, arith, ◌⊎◌, inl, inr, get_or-set_same, get_or-set_other}
use Rattle.std.proofs.lemmas.Option.{same_Some}
use Rattle.std.proofs.lemmas.Bool.{cases_eq}
use Rattle.std.specs.List.{slice_get, Contains}
use Rattle.wf_history.specs.declared.event.CallId.{CallId}
use Rattle.wf_history.specs.History.{Event, Before}
use Rattle.wf_history.specs.Legal.{NoRepeats, HasBegun, OneAtATime, RepliesAgree, IsLegal}
use Rattle.wf_history.specs.Legal as legal
use Rattle.wf_history.proofs.Positions.{place_of, contains_at, same_call}
use Rattle.wf_order.specs.Steps.{Configuration, IsTaken, IsStep, Leads, none, more, IsDone}

-- one more of a process's calls is taken
module _ (counts : List ℕ) (id : CallId) (within : id.process < length counts) (number : id.number ≡ get_or counts id.process 0 + 1) where
  count_same : (a : CallId) → a.process ≡ id.process → get_or (set counts id.process id.number) a.process 0 ≡ id.number
  count_same a e = ap (λ (p : ℕ). get_or (set counts id.process id.number) p 0) e ∙ get_or-set_same counts id.process id.number 0 within

  count_other : (a : CallId) → (a.process ≡ id.process → ⊥) → get_or (set counts id.process id.number) a.process 0 ≡ get_or counts a.process 0
  count_other a ne = get_or-set_other counts id.process a.process id.number 0 ne

  pub taken_more : (a : CallId) → IsTaken counts a → IsTaken (set counts id.process id.number) a
  taken_more a h =
      elim (cases_eq a.process id.process) [
        | inl e ↦ let s = count_same a e in let t : get_or counts a.process 0 ≡ get_or counts id.process 0 = ap (λ (p : ℕ). get_or counts p 0) e in (h.0, omega (arith, s, t, h.1))
        | inr ne ↦ let s = count_other a ne in (h.0, omega (arith, s, h.1))
      ]

  pub taken_now : IsTaken (set counts id.process id.number) id
  taken_now = let s = count_same id refl in (omega arith, omega (arith, s))

  pub taken_not : IsTaken counts id → ⊥
  taken_not h = omega (arith, h.1)

  pub taken_back : (a : CallId) → IsTaken (set counts id.process id.number) a → IsTaken counts a ⊎ (id ≡ a)
  taken_back a h =
      elim (cases_eq a.process id.process) [
        | inl e ↦
            let s = count_same a e in
            let t : get_or counts a.process 0 ≡ get_or counts id.process 0 = ap (λ (p : ℕ). get_or counts p 0) e in
            elim (cases_eq a.number id.number) [
              | inl f ↦ inr (same_call id a (sym e) (sym f))
              | inr ne ↦ inl (h.0, omega (arith, s, t, h.1))
            ]
        | inr ne ↦ let s = count_other a ne in inl (h.0, omega (arith, s, h.1))
      ]

module _ {State Call Reply : Type 0} (Effect : Call → State → State → Reply → Type 0) (history : List (Event Call Reply)) where
  pub step_grows : (c d : Configuration State) (id : CallId) → IsStep Effect history c id d → (a : CallId) → IsTaken c.counts a → IsTaken d.counts a
  step_grows c d id s a h = subst (λ (l : List ℕ). IsTaken l a) (sym s.counts) (taken_more c.counts id s.process s.number a h)

  step_takes : (c d : Configuration State) (id : CallId) → IsStep Effect history c id d → IsTaken d.counts id
  step_takes c d id s = subst (λ (l : List ℕ). IsTaken l id) (sym s.counts) (taken_now c.counts id s.process s.number)

  step_back : (c d : Configuration State) (id : CallId) → IsStep Effect history c id d → (a : CallId) → IsTaken d.counts a → IsTaken c.counts a ⊎ (id ≡ a)
  step_back c d id s a h = taken_back c.counts id s.process s.number a (subst (λ (l : List ℕ). IsTaken l a) s.counts h)

  step_new : (c d : Configuration State) (id : CallId) → IsStep Effect history c id d → IsTaken c.counts id → ⊥
  step_new c d id s h = taken_not c.counts id s.process s.number h

  -- what is behind the first of a list
  contains_cases : (id : CallId) (ids : List CallId) (a : CallId) → Contains (id ∷ ids) a → (id ≡ a) ⊎ Contains ids a
  contains_cases id ids a h = at_place (place_of (id ∷ ids) a h).0 (place_of (id ∷ ids) a h).1
    where
      at_place : (k : ℕ) → slice_get (id ∷ ids) k ≡ Some a → (id ≡ a) ⊎ Contains ids a
      at_place zero e = inl (same_Some id a e)
      at_place (suc k) e = inr (contains_at ids k a e)

  contains_first : (id : CallId) (ids : List CallId) → Contains (id ∷ ids) id
  contains_first id ids = contains_at (id ∷ ids) 0 id refl

  contains_behind : (id : CallId) (ids : List CallId) (a : CallId) → Contains ids a → Contains (id ∷ ids) a
  contains_behind id ids a h = let p = place_of ids a h in contains_at (id ∷ ids) (suc p.0) a p.1

  leads_grow : {c e : Configuration State} {ids : List CallId} → Leads Effect history c ids e → (a : CallId) → IsTaken c.counts a → IsTaken e.counts a
  leads_grow none a h = h
  leads_grow (more {c} {d} {e} {id} {ids} s l) a h = leads_grow l a (step_grows c d id s a h)

  leads_fresh : {c e : Configuration State} {ids : List CallId} → Leads Effect history c ids e → (a : CallId) → Contains ids a → IsTaken c.counts a → ⊥
  leads_fresh none a h t = let p = place_of [] a h in let e = p.1 in absurd (cc)
  leads_fresh (more {c} {d} {e} {id} {ids} s l) a h t =
      elim (contains_cases id ids a h) [
        | inl same ↦ step_new c d id s (subst (λ (i : CallId). IsTaken c.counts i) (sym same) t)
        | inr later ↦ leads_fresh l a later (step_grows c d id s a t)
      ]

  leads_once : {c e : Configuration State} {ids : List CallId} → Leads Effect history c ids e → NoRepeats ids
  leads_once none = tt
  leads_once (more {c} {d} {e} {id} {ids} s l) = ((λ h. leads_fresh l id h (step_takes c d id s)), leads_once l)

  leads_taken : {c e : Configuration State} {ids : List CallId} → Leads Effect history c ids e → (a : CallId) → IsTaken e.counts a → IsTaken c.counts a ⊎ Contains ids a
  leads_taken none a h = inl h
  leads_taken (more {c} {d} {e} {id} {ids} s l) a h =
      elim (leads_taken l a h) [
        | inl early ↦ elim (step_back c d id s a early) [
          | inl t ↦ inl t
          | inr same ↦ inr (subst (λ (i : CallId). Contains (id ∷ ids) i) same (contains_first id ids))
        ]
        | inr later ↦ inr (contains_behind id ids a later)
      ]

  contains_middle : (second third : List CallId) (b : CallId) → Contains (second ++ b ∷ third) b
  contains_middle [] third b = contains_first b third
  contains_middle (x ∷ second) third b = contains_behind x (second ++ b ∷ third) b (contains_middle second third b)

  leads_in_time : {c e : Configuration State} {ids : List CallId} → Leads Effect history c ids e → (first second third : List CallId) (a b : CallId) → ids ≡ first ++ a ∷ (second ++ b ∷ third) → Before history b a → ⊥
  leads_in_time none [] second third a b h bef = absurd (cc)
  leads_in_time none (x ∷ first) second third a b h bef = absurd (cc)
  leads_in_time (more {c} {d} {e} {id} {ids} s l) [] second third a b h bef =
      let same : id ≡ a = cc in
      let rest : ids ≡ second ++ b ∷ third = cc in
      let taken = s.earlier b (subst (λ (i : CallId). Before history b i) (sym same) bef) in
      leads_fresh l b (subst (λ (l : List CallId). Contains l b) (sym rest) (contains_middle second third b)) (step_grows c d id s b taken)
  leads_in_time (more {c} {d} {e} {id} {ids} s l) (x ∷ first) second third a b h bef =
      let rest : ids ≡ first ++ a ∷ (second ++ b ∷ third) = cc in
      leads_in_time l first second third a b rest bef

  leads_made : {c e : Configuration State} {ids : List CallId} → Leads Effect history c ids e →
      (replies : List Reply) × OneAtATime (HasBegun history) Effect c.state ids replies e.state × RepliesAgree history ids replies
  leads_made none = ([], legal.OneAtATime.none, legal.RepliesAgree.none)
  leads_made (more s l) =
      let r = leads_made l in
      (s.reply ∷ r.0, legal.OneAtATime.more s.begun s.effect r.1, legal.RepliesAgree.more s.agrees r.2)

  pub sound : {c e : Configuration State} {order : List CallId} → Leads Effect history c order e → ((a : CallId) → IsTaken c.counts a → ⊥) → IsDone Effect history e → IsLegal Effect c.state history order e.state
  sound {c} {e} {order} l fresh done =
      let m = leads_made l in
      record {
        once = leads_once l;
        ended = λ id reply h. elim (leads_taken l id (done id reply h)) [ inl t ↦ absurd (fresh id t) | inr i ↦ i ];
        in_time = λ first second third a b h bef. leads_in_time l first second third a b h bef;
        replies = m.0;
        made = m.1;
        agree = m.2;
      }
