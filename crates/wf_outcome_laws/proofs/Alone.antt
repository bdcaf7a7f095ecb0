-- The run of a merge in which its calls run alone, one after the other.
use Rattle.std.proofs.Common.{◌≡◌, refl, sym, ap, ◌∙◌, subst, ℕ, ◌+◌, ◌-◌, ◌<◌, ◌≤◌, zero, suc, Bool, true, false, List, [], ◌∷◌, ◌++◌, length, get_or, map, replicate, Some, ◌⊎◌, arith, inl, inr, if◌then◌else◌, eq-eqb, get_or-set_same, get_or-set_other}
use Rattle.std.proofs.lemmas.Bool.{cases_eq, ne_eqb}
use Rattle.std.proofs.lemmas.Option.{same_Some, slice_get_within}
use Rattle.std.specs.List.{slice_get, Contains}
use Rattle.std.specs.Prelude.{nat_eq}
use Rattle.wf_history.proofs.Positions.{contains_at, place_of, same_call}
use Rattle.wf_history.specs.declared.event.CallId.{CallId}
use Rattle.wf_history.specs.History.{Event, Begin, Applied, End, Begins, Ends, Before, before, OwnEvent, in_turn, own_events}
use Rattle.wf_history.specs.Legal as Legal
use Rattle.wf_history.specs.Legal.{HasBegun, IsLegal, NoRepeats, OneAtATime, RepliesAgree}
use Rattle.wf_outcome_laws.specs.ScriptRuns as Runs
use Rattle.wf_outcome_laws.specs.ScriptRuns.{IsOneByOne, IsRunAlone, IsRunOfScripts, MergesAreLegalOrders}
use Rattle.wf_outcomes.specs.Merges.{Configuration, IsStep, Leads, none, more}

from_test : (a b : ℕ) → nat_eq a b ≡ true → a ≡ b
from_test a b h = elim (cases_eq a b) [ inl e ↦ e | inr ne ↦ let f = ne_eqb a b ne in absurd (cc) ]

same_test : (p : ℕ) → nat_eq p p ≡ true
same_test p = eq-eqb p p refl

-- what stands in a list, first or behind
module _ {A : Type 0} (x : A) (xs : List A) (y : A) where
  first_or_rest : Contains (x ∷ xs) y → (x ≡ y) ⊎ Contains xs y
  first_or_rest h = let p = place_of (x ∷ xs) y h in at p.0 p.1
    where
      at : (k : ℕ) → slice_get (x ∷ xs) k ≡ Some y → (x ≡ y) ⊎ Contains xs y
      at zero is = inl (same_Some x y is)
      at (suc k) is = inr (contains_at xs k y is)

  in_rest : Contains xs y → Contains (x ∷ xs) y
  in_rest h = let p = place_of xs y h in contains_at (x ∷ xs) (suc p.0) y p.1

is_first : {A : Type 0} (x : A) (xs : List A) → Contains (x ∷ xs) x
is_first x xs = contains_at (x ∷ xs) 0 x refl

in_none : {A : Type 0} (y : A) → Contains [] y → ⊥
in_none y h = let p = place_of [] y h in let e = p.1 in cc

zeros : (n p : ℕ) → get_or (replicate {A = ℕ} n 0) p 0 ≡ 0
zeros zero p = refl
zeros (suc n) zero = refl
zeros (suc n) (suc p) = zeros n p

lengths : {A : Type 0} (rows : List (List A)) (p : ℕ) → get_or (map length rows) p 0 ≡ length (get_or rows p [])
lengths [] p = refl
lengths (row ∷ rows) zero = refl
lengths (row ∷ rows) (suc p) = lengths rows p

module _ {State Call Reply : Type 0} (Effect : Call → State → State → Reply → Type 0) (scripts : List (List Call)) where
  -- how many calls of a process are made
  abbrev made_of : Configuration State → ℕ → ℕ
  made_of c p = get_or c.counts p 0

  module _ (c d : Configuration State) (id : CallId) (reply : Reply) (s : IsStep Effect scripts c id reply d) where
    made_own : made_of d id.process ≡ id.number
    made_own = ap (λ (l : List ℕ). get_or l id.process 0) s.counts ∙ get_or-set_same c.counts id.process id.number 0 s.process

    made_other : (p : ℕ) → (p ≡ id.process → ⊥) → made_of d p ≡ made_of c p
    made_other p other = ap (λ (l : List ℕ). get_or l p 0) s.counts ∙ get_or-set_other c.counts id.process p id.number 0 other

  -- each call runs alone
  abbrev pub events_of : {c e : Configuration State} {ids : List CallId} → Leads Effect scripts c ids e → List (Event Call Reply)
  events_of none = []
  events_of (more {c} {d} {e} {id} {ids} reply s l) = Begin id s.call ∷ Applied (id ∷ []) ∷ End id reply ∷ events_of l

  abbrev pub replies_of : {c e : Configuration State} {ids : List CallId} → Leads Effect scripts c ids e → List Reply
  replies_of none = []
  replies_of (more {c} {d} {e} {id} {ids} reply s l) = reply ∷ replies_of l

  one_by_one : {c e : Configuration State} {ids : List CallId} (l : Leads Effect scripts c ids e) → IsOneByOne ids (events_of l)
  one_by_one none = Runs.none
  one_by_one (more {c} {d} {e} {id} {ids} reply s l) = Runs.more id s.call reply (one_by_one l)

  -- each process takes turns with its calls
  turns : {c e : Configuration State} {ids : List CallId} (l : Leads Effect scripts c ids e) (p : ℕ) → own_events p (events_of l) ≡ in_turn (made_of c p + 1) (length (own_events p (events_of l)))
  turns none p = refl
  turns (more {c} {d} {e} {id} {ids} reply s l) p = by (turns l p) (nat_eq id.process p) refl
    where
      rest : List OwnEvent
      rest = own_events p (events_of l)

      two : Bool → List OwnEvent
      two b = (if b then Begins id.number ∷ [] else []) ++ ((if b then Ends id.number ∷ [] else []) ++ rest)

      by : rest ≡ in_turn (made_of d p + 1) (length rest) → (b : Bool) → nat_eq id.process p ≡ b → two (nat_eq id.process p) ≡ in_turn (made_of c p + 1) (length (two (nat_eq id.process p)))
      by later true same =
          let own : id.process ≡ p = from_test id.process p same in
          let number : id.number ≡ made_of c p + 1 = s.number ∙ ap (λ (q : ℕ). made_of c q + 1) own in
          let next : made_of d p ≡ made_of c p + 1 = ap (made_of d) (sym own) ∙ made_own c d id reply s ∙ number in
          subst (λ (b : Bool). two b ≡ in_turn (made_of c p + 1) (length (two b))) (sym same)
          (ap (λ (n : ℕ). Begins n ∷ Ends n ∷ rest) number ∙ ap (λ (l : List OwnEvent). Begins (made_of c p + 1) ∷ Ends (made_of c p + 1) ∷ l)
          (later ∙ ap (λ (n : ℕ). in_turn (n + 1) (length rest)) next))
      by later false differ =
          let other : p ≡ id.process → ⊥ = λ e. let t = same_test p in let f : nat_eq p p ≡ false = ap (λ (q : ℕ). nat_eq q p) e ∙ differ in cc in
          subst (λ (b : Bool). two b ≡ in_turn (made_of c p + 1) (length (two b))) (sym differ)
          (later ∙ ap (λ (n : ℕ). in_turn (n + 1) (length rest)) (made_other c d id reply s p other))

  -- each call that begins is its script's
  begun : {c e : Configuration State} {ids : List CallId} (l : Leads Effect scripts c ids e) (id : CallId) (call : Call) → HasBegun (events_of l) id call →
      (0 < id.number) × (slice_get (get_or scripts id.process []) (id.number - 1) ≡ Some call)
  begun none id call h = absurd (in_none (Begin id call) h)
  begun (more {c} {d} {e} {id = first} {ids} reply s l) id call h =
      elim (first_or_rest (Begin first s.call) (Applied (first ∷ []) ∷ End first reply ∷ events_of l) (Begin id call) h) [
        | inl same ↦
            let is : first ≡ id = cc in
            let calls : s.call ≡ call = cc in
            let number = s.number in
            let place : made_of c first.process ≡ first.number - 1 = omega (arith, number) in
            subst (λ (i : CallId). (0 < i.number) × (slice_get (get_or scripts i.process []) (i.number - 1) ≡ Some call)) is
            (omega (arith, number), ap (slice_get (get_or scripts first.process [])) (sym place) ∙ s.listed ∙ ap Some calls)
        | inr later ↦ elim (first_or_rest (Applied (first ∷ [])) (End first reply ∷ events_of l) (Begin id call) later) [
          | inl same ↦ absurd (cc)
          | inr last ↦ elim (first_or_rest (End first reply) (events_of l) (Begin id call) last) [
            | inl same ↦ absurd (cc)
            | inr rest ↦ begun l id call rest
          ]
        ]
      ]

  -- what ended is in the order
  ended : {c e : Configuration State} {ids : List CallId} (l : Leads Effect scripts c ids e) (id : CallId) (reply : Reply) → Contains (events_of l) (End id reply) → Contains ids id
  ended none id reply h = absurd (in_none (End id reply) h)
  ended (more {c} {d} {e} {id = first} {ids} answer s l) id reply h =
      elim (first_or_rest (Begin first s.call) (Applied (first ∷ []) ∷ End first answer ∷ events_of l) (End id reply) h) [
        | inl same ↦ absurd (cc)
        | inr later ↦ elim (first_or_rest (Applied (first ∷ [])) (End first answer ∷ events_of l) (End id reply) later) [
          | inl same ↦ absurd (cc)
          | inr last ↦ elim (first_or_rest (End first answer) (events_of l) (End id reply) last) [
            | inl same ↦ let is : first ≡ id = cc in subst (Contains (first ∷ ids)) is (is_first first ids)
            | inr rest ↦ in_rest first ids id (ended l id reply rest)
          ]
        ]
      ]

  begun_in : {c e : Configuration State} {ids : List CallId} (l : Leads Effect scripts c ids e) (id : CallId) (call : Call) → HasBegun (events_of l) id call → Contains ids id
  begun_in none id call h = absurd (in_none (Begin id call) h)
  begun_in (more {c} {d} {e} {id = first} {ids} answer s l) id call h =
      elim (first_or_rest (Begin first s.call) (Applied (first ∷ []) ∷ End first answer ∷ events_of l) (Begin id call) h) [
        | inl same ↦ let is : first ≡ id = cc in subst (Contains (first ∷ ids)) is (is_first first ids)
        | inr later ↦ elim (first_or_rest (Applied (first ∷ [])) (End first answer ∷ events_of l) (Begin id call) later) [
          | inl same ↦ absurd (cc)
          | inr last ↦ elim (first_or_rest (End first answer) (events_of l) (Begin id call) last) [
            | inl same ↦ absurd (cc)
            | inr rest ↦ in_rest first ids id (begun_in l id call rest)
          ]
        ]
      ]

  -- a call that is yet to come has a number that is not made
  to_come : {c e : Configuration State} {ids : List CallId} (l : Leads Effect scripts c ids e) (id : CallId) → Contains ids id → made_of c id.process < id.number
  to_come none id h = absurd (in_none id h)
  to_come (more {c} {d} {e} {id = first} {ids} reply s l) id h =
      elim (first_or_rest first ids id h) [
        | inl same ↦ let number = s.number in subst (λ (i : CallId). made_of c i.process < i.number) same (omega (arith, number))
        | inr rest ↦
            let r = to_come l id rest in
            elim (cases_eq id.process first.process) [
              | inl own ↦
                  let now : made_of d id.process ≡ first.number = ap (made_of d) own ∙ made_own c d first reply s in
                  let was : made_of c id.process ≡ made_of c first.process = ap (made_of c) own in
                  let number = s.number in
                  omega (arith, r, now, was, number)
              | inr other ↦ let kept = made_other c d first reply s id.process other in omega (arith, r, kept)
            ]
      ]

  -- the call that was just made does not come again
  not_again : (c d : Configuration State) (id : CallId) (reply : Reply) → IsStep Effect scripts c id reply d → {e : Configuration State} {ids : List CallId} → Leads Effect scripts d ids e → Contains ids id → ⊥
  not_again c d id reply s l h = let r = to_come l id h in let now = made_own c d id reply s in omega (arith, r, now)

  once : {c e : Configuration State} {ids : List CallId} → Leads Effect scripts c ids e → NoRepeats ids
  once none = tt
  once (more {c} {d} {e} {id} {ids} reply s l) = (not_again c d id reply s l, once l)

  one_end : {c e : Configuration State} {ids : List CallId} (l : Leads Effect scripts c ids e) (id : CallId) (a b : Reply) → Contains (events_of l) (End id a) → Contains (events_of l) (End id b) → a ≡ b
  one_end none id a b h k = absurd (in_none (End id a) h)
  one_end (more {c} {d} {e} {id = first} {ids} reply s l) id a b h k =
      elim (here_or_later a h) [
        | inl one ↦ elim (here_or_later b k) [
          | inl two ↦ sym one.1 ∙ two.1
          | inr two ↦ absurd (not_again c d first reply s l (subst (Contains ids) (sym one.0) (ended l id b two)))
        ]
        | inr one ↦ elim (here_or_later b k) [
          | inl two ↦ absurd (not_again c d first reply s l (subst (Contains ids) (sym two.0) (ended l id a one)))
          | inr two ↦ one_end l id a b one two
        ]
      ]
    where
      here_or_later : (r : Reply) → Contains (Begin first s.call ∷ Applied (first ∷ []) ∷ End first reply ∷ events_of l) (End id r) → ((first ≡ id) × (reply ≡ r)) ⊎ Contains (events_of l) (End id r)
      here_or_later r there =
          elim (first_or_rest (Begin first s.call) (Applied (first ∷ []) ∷ End first reply ∷ events_of l) (End id r) there) [
            | inl same ↦ absurd (cc)
            | inr later ↦ elim (first_or_rest (Applied (first ∷ [])) (End first reply ∷ events_of l) (End id r) later) [
              | inl same ↦ absurd (cc)
              | inr last ↦ elim (first_or_rest (End first reply) (events_of l) (End id r) last) [
                | inl same ↦ inl ((cc), (cc))
                | inr rest ↦ inr rest
              ]
            ]
          ]

  -- of two calls of the order the later one does not end before the earlier one begins
  in_time : {c e : Configuration State} {ids : List CallId} (l : Leads Effect scripts c ids e) (first second third : List CallId) (a b : CallId) → ids ≡ first ++ a ∷ (second ++ b ∷ third) → ¬ Before (events_of l) b a
  in_time none [] second third a b is h = absurd (cc)
  in_time none (x ∷ first) second third a b is h = absurd (cc)
  in_time (more {c} {d} {e} {id} {ids} reply s l) front second third a b is (before answer call events between last same) = by (λ first others h. in_time l first second third a b others h) front is events same
    where
      -- where the two stand in the rest
      later : (rest : List (Event Call Reply)) → events_of l ≡ rest ++ End b answer ∷ (between ++ Begin a call ∷ last) → Before (events_of l) b a
      later rest e = before answer call rest between last e

      begins_late : (rest : List (Event Call Reply)) → Contains (rest ++ End b answer ∷ (between ++ Begin a call ∷ last)) (Begin a call)
      begins_late rest = behind rest (End b answer ∷ (between ++ Begin a call ∷ last)) (in_rest (End b answer) (between ++ Begin a call ∷ last) (Begin a call) (behind between (Begin a call ∷ last) (is_first (Begin a call) last)))
        where
          behind : (xs ys : List (Event Call Reply)) → Contains ys (Begin a call) → Contains (xs ++ ys) (Begin a call)
          behind [] ys h = h
          behind (x ∷ xs) ys h = in_rest x (xs ++ ys) (Begin a call) (behind xs ys h)

      by : ((first : List CallId) → ids ≡ first ++ a ∷ (second ++ b ∷ third) → Before (events_of l) b a → ⊥) → (first : List CallId) → id ∷ ids ≡ first ++ a ∷ (second ++ b ∷ third) → (events : List (Event Call Reply)) →
          (Begin id s.call ∷ Applied (id ∷ []) ∷ End id reply ∷ events_of l) ≡ events ++ End b answer ∷ (between ++ Begin a call ∷ last) → ⊥
      by again first e [] h = cc
      by again first e (x ∷ []) h = cc
      by again [] e (x ∷ y ∷ []) h =
          let one : id ≡ a = cc in
          let rest : events_of l ≡ between ++ Begin a call ∷ last = cc in
          not_again c d id reply s l (subst (Contains ids) (sym one) (begun_in l a call (subst (λ v. Contains v (Begin a call)) (sym rest) (late between))))
        where
          late : (xs : List (Event Call Reply)) → Contains (xs ++ Begin a call ∷ last) (Begin a call)
          late [] = is_first (Begin a call) last
          late (x ∷ xs) = in_rest x (xs ++ Begin a call ∷ last) (Begin a call) (late xs)
      by again [] e (x ∷ y ∷ z ∷ rest) h =
          let one : id ≡ a = cc in
          let more_events : events_of l ≡ rest ++ End b answer ∷ (between ++ Begin a call ∷ last) = cc in
          not_again c d id reply s l (subst (Contains ids) (sym one) (begun_in l a call (subst (λ v. Contains v (Begin a call)) (sym more_events) (begins_late rest))))
      by again (f ∷ first) e (x ∷ y ∷ []) h =
          let one : id ≡ b = cc in
          let others : ids ≡ first ++ a ∷ (second ++ b ∷ third) = cc in
          not_again c d id reply s l (subst (Contains ids) (sym one) (subst (λ v. Contains v b) (sym others) (far first)))
        where
          near : (xs : List CallId) → Contains (xs ++ b ∷ third) b
          near [] = is_first b third
          near (x ∷ xs) = in_rest x (xs ++ b ∷ third) b (near xs)

          far : (xs : List CallId) → Contains (xs ++ a ∷ (second ++ b ∷ third)) b
          far [] = in_rest a (second ++ b ∷ third) b (near second)
          far (x ∷ xs) = in_rest x (xs ++ a ∷ (second ++ b ∷ third)) b (far xs)
      by again (f ∷ first) e (x ∷ y ∷ z ∷ rest) h =
          let others : ids ≡ first ++ a ∷ (second ++ b ∷ third) = cc in
          let more_events : events_of l ≡ rest ++ End b answer ∷ (between ++ Begin a call ∷ last) = cc in
          again first others (later rest more_events)

  -- each call of the scripts that is made on the way ends
  ends : {c e : Configuration State} {ids : List CallId} (l : Leads Effect scripts c ids e) (p k : ℕ) → made_of c p ≤ k → k < made_of e p → (reply : Reply) × Contains (events_of l) (End (record { process = p; number = k + 1 }) reply)
  ends none p k from to = absurd (omega (arith, from, to))
  ends (more {c} {d} {e} {id} {ids} reply s l) p k from to =
      elim (cases_eq p id.process) [
        | inl own ↦ elim (cases_eq k (made_of c p)) [
          | inl here ↦
              let number : id.number ≡ k + 1 = s.number ∙ ap (λ (q : ℕ). made_of c q + 1) (sym own) ∙ ap (λ (n : ℕ). n + 1) (sym here) in
              let is : id ≡ record { process = p; number = k + 1 } = same_call id (record { process = p; number = k + 1 }) (sym own) number in (
                reply,
                subst (λ (i : CallId). Contains (Begin id s.call ∷ Applied (id ∷ []) ∷ End id reply ∷ events_of l) (End i reply)) is
                    (in_rest (Begin id s.call) (Applied (id ∷ []) ∷ End id reply ∷ events_of l) (End id reply) (in_rest (Applied (id ∷ [])) (End id reply ∷ events_of l) (End id reply) (is_first (End id reply) (events_of l)))),
              )
          | inr past ↦
              let now : made_of d p ≡ id.number = ap (made_of d) own ∙ made_own c d id reply s in
              let number : id.number ≡ made_of c p + 1 = s.number ∙ ap (λ (q : ℕ). made_of c q + 1) (sym own) in
              deeper (ends l p k (omega (arith, from, past, now, number)) to)
        ]
        | inr other ↦ let kept = made_other c d id reply s p other in deeper (ends l p k (omega (arith, from, kept)) to)
      ]
    where
      deeper : (r : Reply) × Contains (events_of l) (End (record { process = p; number = k + 1 }) r) →
          (r : Reply) × Contains (Begin id s.call ∷ Applied (id ∷ []) ∷ End id reply ∷ events_of l) (End (record { process = p; number = k + 1 }) r)
      deeper h =
          let it : Event Call Reply = End (record { process = p; number = k + 1 }) h.0 in
          (h.0, in_rest (Begin id s.call) (Applied (id ∷ []) ∷ End id reply ∷ events_of l) it (in_rest (Applied (id ∷ [])) (End id reply ∷ events_of l) it (in_rest (End id reply) (events_of l) it h.1)))

  module _ (whole : List (Event Call Reply)) (single : (id : CallId) (a b : Reply) → Contains whole (End id a) → Contains whole (End id b) → a ≡ b) where
    one_at_a_time : {c e : Configuration State} {ids : List CallId} (l : Leads Effect scripts c ids e) → ((v : Event Call Reply) → Contains (events_of l) v → Contains whole v) →
        OneAtATime (HasBegun whole) Effect c.state ids (replies_of l) e.state
    one_at_a_time none inside = Legal.none
    one_at_a_time (more {c} {d} {e} {id} {ids} reply s l) inside =
        Legal.more (inside (Begin id s.call) (is_first (Begin id s.call) (Applied (id ∷ []) ∷ End id reply ∷ events_of l))) s.effect
        (one_at_a_time l (λ v h. inside v (in_rest (Begin id s.call) (Applied (id ∷ []) ∷ End id reply ∷ events_of l) v (in_rest (Applied (id ∷ [])) (End id reply ∷ events_of l) v (in_rest (End id reply) (events_of l) v h)))))

    agree : {c e : Configuration State} {ids : List CallId} (l : Leads Effect scripts c ids e) → ((v : Event Call Reply) → Contains (events_of l) v → Contains whole v) → RepliesAgree whole ids (replies_of l)
    agree none inside = Legal.none
    agree (more {c} {d} {e} {id} {ids} reply s l) inside =
        let mine = inside (End id reply) (in_rest (Begin id s.call) (Applied (id ∷ []) ∷ End id reply ∷ events_of l) (End id reply) (in_rest (Applied (id ∷ [])) (End id reply ∷ events_of l) (End id reply) (is_first (End id reply) (events_of l)))) in
        Legal.more (λ other h. single id other reply h mine)
        (agree l (λ v h. inside v (in_rest (Begin id s.call) (Applied (id ∷ []) ∷ End id reply ∷ events_of l) v (in_rest (Applied (id ∷ [])) (End id reply ∷ events_of l) v (in_rest (End id reply) (events_of l) v h)))))

pub are_legal_orders : {State Call Reply : Type 0} (Effect : Call → State → State → Reply → Type 0) (scripts : List (List Call)) (opening : State) → MergesAreLegalOrders Effect scripts opening
are_legal_orders {State} {Call} {Reply} Effect scripts opening order last leads =
    let l = leads in
    let events = events_of Effect scripts l in
    let first = λ (p : ℕ). zeros (length scripts) p in (
      events,
      record {
        run = record {
          whole = λ p. turns Effect scripts l p ∙ ap (λ (n : ℕ). in_turn (n + 1) (length (own_events p events))) (first p);
          begins = begun Effect scripts l;
          ends = λ p k call at.
              let within = slice_get_within (get_or scripts p []) k call at in
              let all = lengths scripts p in
              let none_made = first p in
              ends Effect scripts l p k (omega (arith, none_made)) (omega (arith, within, all));
        };
        alone = one_by_one Effect scripts l;
        legal = record {
          once = once Effect scripts l;
          ended = ended Effect scripts l;
          in_time = in_time Effect scripts l;
          replies = replies_of Effect scripts l;
          made = one_at_a_time Effect scripts events (one_end Effect scripts l) l (λ v h. h);
          agree = agree Effect scripts events (one_end Effect scripts l) l (λ v h. h);
        };
      },
    )
