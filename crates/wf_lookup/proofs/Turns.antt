-- The calls of a history by their numbers: how many of its process began and ended before each.
use Rattle.std.proofs.Common.{◌≡◌, refl, sym, ap, ◌∙◌, subst, ℕ, ◌+◌, ◌-◌, ◌<◌, ◌≤◌, zero, suc, Bool, true, false, cond, List, [], ◌∷◌, ◌++◌, length, take, drop, Some, arith, ◌⊎◌, inl, inr, length-append, append_assoc, eq-eqb}
use Rattle.std.proofs.lemmas.Option.{same_Some}
use Rattle.std.proofs.lemmas.Bool.{cases_eq, ne_eqb}
use Rattle.std.proofs.lemmas.List.{append-nil, take_at, take-append-drop}
use Rattle.std.specs.List.{slice_get, Contains}
use Rattle.std.specs.Prelude.{nat_eq}
use Rattle.wf_history.specs.declared.event.CallId.{CallId}
use Rattle.wf_history.specs.History.{Event, Begin, Applied, End, OwnEvent, Begins, Ends, in_turn, own_event, own_events, own_call, own_calls, own_answer, own_answers, IsHistory, Before, before}
use Rattle.wf_history.specs.Legal.{HasBegun}
use Rattle.wf_history.proofs.Positions.{place_here, place_of, contains_at, split_at, same_call}
use Rattle.wf_history.proofs.Once.{one_begin}

-- how many begin, and how many end
abbrev begun : List OwnEvent → ℕ
begun [] = 0
begun (Begins n ∷ es) = suc (begun es)
begun (Ends n ∷ es) = begun es

abbrev ended : List OwnEvent → ℕ
ended [] = 0
ended (Begins n ∷ es) = ended es
ended (Ends n ∷ es) = suc (ended es)

not_empty : {A : Type 0} (xs ys : List A) (y : A) → xs ++ y ∷ ys ≡ [] → ⊥
not_empty [] ys y h = cc
not_empty (x ∷ xs) ys y h = cc

-- a call begins when all those of its process before it have ended
at_begins : (s m : ℕ) (xs ys : List OwnEvent) (j : ℕ) → xs ++ Begins j ∷ ys ≡ in_turn s m → (begun xs + s ≡ j) × (ended xs + s ≡ j)
at_begins s zero [] ys j h = absurd (cc)
at_begins s zero (x ∷ xs) ys j h = absurd (cc)
at_begins s (suc zero) [] ys j h = let e : j ≡ s = cc in (omega arith, omega arith)
at_begins s (suc zero) (x ∷ xs) ys j h = let e : xs ++ Begins j ∷ ys ≡ [] = cc in absurd (not_empty xs ys (Begins j) e)
at_begins s (suc (suc m)) [] ys j h = let e : j ≡ s = cc in (omega arith, omega arith)
at_begins s (suc (suc m)) (x ∷ []) ys j h = let e : Begins j ≡ Ends s = cc in absurd (cc)
at_begins s (suc (suc m)) (x ∷ y ∷ xs) ys j h =
    let a : x ≡ Begins s = cc in
    let b : y ≡ Ends s = cc in
    let t : xs ++ Begins j ∷ ys ≡ in_turn (s + 1) m = cc in
    let r = at_begins (s + 1) m xs ys j t in
    let c : begun (x ∷ y ∷ xs) ≡ suc (begun xs) = ap (λ (e : OwnEvent). begun (e ∷ y ∷ xs)) a ∙ ap (λ (e : OwnEvent). begun (Begins s ∷ e ∷ xs)) b in
    let d : ended (x ∷ y ∷ xs) ≡ suc (ended xs) = ap (λ (e : OwnEvent). ended (e ∷ y ∷ xs)) a ∙ ap (λ (e : OwnEvent). ended (Begins s ∷ e ∷ xs)) b in
    (omega (arith, r.0, c), omega (arith, r.1, d))

at_ends : (s m : ℕ) (xs ys : List OwnEvent) (j : ℕ) → xs ++ Ends j ∷ ys ≡ in_turn s m → (begun xs + s ≡ suc j) × (ended xs + s ≡ j)
at_ends s zero [] ys j h = absurd (cc)
at_ends s zero (x ∷ xs) ys j h = absurd (cc)
at_ends s (suc zero) [] ys j h = absurd (cc)
at_ends s (suc zero) (x ∷ xs) ys j h = let e : xs ++ Ends j ∷ ys ≡ [] = cc in absurd (not_empty xs ys (Ends j) e)
at_ends s (suc (suc m)) [] ys j h = absurd (cc)
at_ends s (suc (suc m)) (x ∷ []) ys j h =
    let a : x ≡ Begins s = cc in
    let e : j ≡ s = cc in
    let c : begun (x ∷ []) ≡ 1 = ap (λ (e : OwnEvent). begun (e ∷ [])) a in
    let d : ended (x ∷ []) ≡ 0 = ap (λ (e : OwnEvent). ended (e ∷ [])) a in
    (omega (arith, c), omega (arith, d))
at_ends s (suc (suc m)) (x ∷ y ∷ xs) ys j h =
    let a : x ≡ Begins s = cc in
    let b : y ≡ Ends s = cc in
    let t : xs ++ Ends j ∷ ys ≡ in_turn (s + 1) m = cc in
    let r = at_ends (s + 1) m xs ys j t in
    let c : begun (x ∷ y ∷ xs) ≡ suc (begun xs) = ap (λ (e : OwnEvent). begun (e ∷ y ∷ xs)) a ∙ ap (λ (e : OwnEvent). begun (Begins s ∷ e ∷ xs)) b in
    let d : ended (x ∷ y ∷ xs) ≡ suc (ended xs) = ap (λ (e : OwnEvent). ended (e ∷ y ∷ xs)) a ∙ ap (λ (e : OwnEvent). ended (Begins s ∷ e ∷ xs)) b in
    (omega (arith, r.0, c), omega (arith, r.1, d))

-- what begins a row of turns is one
pub front_turn : (s m : ℕ) (xs ys : List OwnEvent) → xs ++ ys ≡ in_turn s m → xs ≡ in_turn s (length xs)
front_turn s m [] ys h = refl
front_turn s zero (x ∷ xs) ys h = absurd (cc)
front_turn s (suc zero) (x ∷ []) ys h = let a : x ≡ Begins s = cc in ap (λ (e : OwnEvent). e ∷ []) a
front_turn s (suc zero) (x ∷ y ∷ xs) ys h = absurd (cc)
front_turn s (suc (suc m)) (x ∷ []) ys h = let a : x ≡ Begins s = cc in ap (λ (e : OwnEvent). e ∷ []) a
front_turn s (suc (suc m)) (x ∷ y ∷ xs) ys h =
    let a : x ≡ Begins s = cc in
    let b : y ≡ Ends s = cc in
    let t : xs ++ ys ≡ in_turn (s + 1) m = cc in
    ap (λ (e : OwnEvent). e ∷ y ∷ xs) a ∙ ap (λ (e : OwnEvent). Begins s ∷ e ∷ xs) b ∙ ap (λ (l : List OwnEvent). Begins s ∷ Ends s ∷ l) (front_turn (s + 1) m xs ys t)

begun-append : (xs ys : List OwnEvent) → begun (xs ++ ys) ≡ begun xs + begun ys
begun-append [] ys = omega arith
begun-append (Begins n ∷ xs) ys = let r = begun-append xs ys in omega (arith, r)
begun-append (Ends n ∷ xs) ys = begun-append xs ys

ended-append : (xs ys : List OwnEvent) → ended (xs ++ ys) ≡ ended xs + ended ys
ended-append [] ys = omega arith
ended-append (Begins n ∷ xs) ys = ended-append xs ys
ended-append (Ends n ∷ xs) ys = let r = ended-append xs ys in omega (arith, r)

pub slice_get_some : {X : Type 0} (xs : List X) (k : ℕ) → k < length xs → (x : X) × (slice_get xs k ≡ Some x)
slice_get_some [] k h = absurd (omega arith)
slice_get_some (x ∷ xs) zero h = (x, refl)
slice_get_some (x ∷ xs) (suc k) h = slice_get_some xs k (omega arith)

-- lists of what each item has
module _ {A X : Type 0} (f : A → List X) where
  abbrev flat : List A → List X
  flat [] = []
  flat (a ∷ as') = f a ++ flat as'

  flat-append : (xs ys : List A) → flat (xs ++ ys) ≡ flat xs ++ flat ys
  flat-append [] ys = refl
  flat-append (x ∷ xs) ys = ap (λ (l : List X). f x ++ l) (flat-append xs ys) ∙ sym (append_assoc (f x) (flat xs) (flat ys))

  abbrev HasAtMostOne : A → Type 0
  HasAtMostOne a = (f a ≡ []) ⊎ ((x : X) × (f a ≡ x ∷ []))

  abbrev IsSplit : List A → ℕ → X → Type 0
  IsSplit items k x = (pre : List A) × (a : A) × (rest : List A) × (items ≡ pre ++ a ∷ rest) × (f a ≡ x ∷ []) × (length (flat pre) ≡ k)

  split_here : (a : A) (items : List A) (k : ℕ) (x y : X) → f a ≡ y ∷ [] → slice_get (y ∷ flat items) k ≡ Some x → ((j : ℕ) → slice_get (flat items) j ≡ Some x → IsSplit items j x) → IsSplit (a ∷ items) k x
  split_here a items zero x y one h more = ([], a, items, refl, one ∙ ap (λ (z : X). z ∷ []) (same_Some y x h), refl)
  split_here a items (suc k) x y one h more =
      let r = more k h in
      (a ∷ r.0, r.1, r.2, ap (λ (l : List A). a ∷ l) r.3, r.4, ap (λ (l : List X). length (l ++ flat r.0)) one ∙ ap suc r.5)

  flat_split : ((a : A) → HasAtMostOne a) → (items : List A) (k : ℕ) (x : X) → slice_get (flat items) k ≡ Some x → IsSplit items k x
  flat_split one [] k x h = absurd (cc)
  flat_split one (a ∷ items) k x h =
      elim (one a) [
        | inl none ↦
            let r = flat_split one items k x (ap (λ (l : List X). slice_get (l ++ flat items) k) (sym none) ∙ h) in
            (a ∷ r.0, r.1, r.2, ap (λ (l : List A). a ∷ l) r.3, r.4, ap (λ (l : List X). length (l ++ flat r.0)) none ∙ r.5)
        | inr some ↦
            split_here a items k x some.0 some.1 (ap (λ (l : List X). slice_get (l ++ flat items) k) (sym some.1) ∙ h) (λ j g. flat_split one items j x g)
      ]

cond_cases : {X : Type 0} (b : Bool) (x : X) → (cond b (x ∷ []) [] ≡ []) ⊎ ((y : X) × (cond b (x ∷ []) [] ≡ y ∷ []))
cond_cases true x = inr (x, refl)
cond_cases false x = inl refl

cond_one : {X : Type 0} (b : Bool) (x y : X) → cond b (x ∷ []) [] ≡ y ∷ [] → (b ≡ true) × (x ≡ y)
cond_one true x y h = (refl, cc)
cond_one false x y h = absurd (cc)

from_test : (a b : ℕ) → nat_eq a b ≡ true → a ≡ b
from_test a b h = elim (cases_eq a b) [ inl e ↦ e | inr ne ↦ let f = ne_eqb a b ne in absurd (cc) ]

begun_cond : {X : Type 0} (b : Bool) (call : X) (n : ℕ) → length (cond b (call ∷ []) []) ≡ begun (cond b (Begins n ∷ []) [])
begun_cond true call n = refl
begun_cond false call n = refl

ended_cond : {X : Type 0} (b : Bool) (answer : X) (n : ℕ) → length (cond b (answer ∷ []) []) ≡ ended (cond b (Ends n ∷ []) [])
ended_cond true call n = refl
ended_cond false call n = refl

none_begun : (b : Bool) (n : ℕ) → 0 ≡ begun (cond b (Ends n ∷ []) [])
none_begun true n = refl
none_begun false n = refl

none_ended : (b : Bool) (n : ℕ) → 0 ≡ ended (cond b (Begins n ∷ []) [])
none_ended true n = refl
none_ended false n = refl

same_test : (p : ℕ) → nat_eq p p ≡ true
same_test p = eq-eqb p p refl

-- the answers of an event that ends a process's own call
pub one_own_answer : (Call : Type 0) {Reply : Type 0} (id : CallId) (reply : Reply) → own_answer {Call = Call} {Reply = Reply} id.process (End id reply) ≡ (id, reply) ∷ []
one_own_answer Call {Reply} id reply = ap (λ (b : Bool). cond b ((id, reply) ∷ []) []) (same_test id.process)

pub one_own_call : {Call : Type 0} (Reply : Type 0) (id : CallId) (call : Call) → own_call {Call = Call} {Reply = Reply} id.process (Begin id call) ≡ call ∷ []
one_own_call {Call} Reply id call = ap (λ (b : Bool). cond b (call ∷ []) []) (same_test id.process)

module _ {Call Reply : Type 0} where
  calls_flat : (p : ℕ) (es : List (Event Call Reply)) → own_calls p es ≡ flat (own_call p) es
  calls_flat p [] = refl
  calls_flat p (e ∷ es) = ap (λ (l : List Call). own_call p e ++ l) (calls_flat p es)

  answers_flat : (p : ℕ) (es : List (Event Call Reply)) → own_answers p es ≡ flat (own_answer p) es
  answers_flat p [] = refl
  answers_flat p (e ∷ es) = ap (λ (l : List (CallId × Reply)). own_answer p e ++ l) (answers_flat p es)

  events_flat : (p : ℕ) (es : List (Event Call Reply)) → own_events p es ≡ flat (own_event p) es
  events_flat p [] = refl
  events_flat p (e ∷ es) = ap (λ (l : List OwnEvent). own_event p e ++ l) (events_flat p es)

  pub own_calls-append : (p : ℕ) (xs ys : List (Event Call Reply)) → own_calls p (xs ++ ys) ≡ own_calls p xs ++ own_calls p ys
  own_calls-append p xs ys = calls_flat p (xs ++ ys) ∙ flat-append (own_call p) xs ys ∙ ap (λ (l : List Call). l ++ flat (own_call p) ys) (sym (calls_flat p xs)) ∙ ap (λ (l : List Call). own_calls p xs ++ l) (sym (calls_flat p ys))

  pub own_answers-append : (p : ℕ) (xs ys : List (Event Call Reply)) → own_answers p (xs ++ ys) ≡ own_answers p xs ++ own_answers p ys
  own_answers-append p xs ys = answers_flat p (xs ++ ys) ∙ flat-append (own_answer p) xs ys ∙ ap (λ (l : List (CallId × Reply)). l ++ flat (own_answer p) ys) (sym (answers_flat p xs)) ∙ ap (λ (l : List (CallId × Reply)). own_answers p xs ++ l) (sym (answers_flat p ys))

  pub own_events-append : (p : ℕ) (xs ys : List (Event Call Reply)) → own_events p (xs ++ ys) ≡ own_events p xs ++ own_events p ys
  own_events-append p xs ys = events_flat p (xs ++ ys) ∙ flat-append (own_event p) xs ys ∙ ap (λ (l : List OwnEvent). l ++ flat (own_event p) ys) (sym (events_flat p xs)) ∙ ap (λ (l : List OwnEvent). own_events p xs ++ l) (sym (events_flat p ys))

  one_call_at : (p : ℕ) (e : Event Call Reply) → HasAtMostOne (own_call p) e
  one_call_at p (Begin id call) = cond_cases (nat_eq id.process p) call
  one_call_at p (Applied ids) = inl refl
  one_call_at p (End id reply) = inl refl

  one_answer_at : (p : ℕ) (e : Event Call Reply) → HasAtMostOne (own_answer p) e
  one_answer_at p (Begin id call) = inl refl
  one_answer_at p (Applied ids) = inl refl
  one_answer_at p (End id reply) = cond_cases (nat_eq id.process p) (id, reply)

  is_begin : (p : ℕ) (e : Event Call Reply) (call : Call) → own_call p e ≡ call ∷ [] → (id : CallId) × (e ≡ Begin id call) × (id.process ≡ p)
  is_begin p (Begin id c) call h =
      let r = cond_one (nat_eq id.process p) c call h in
      (id, ap (λ (x : Call). Begin id x) r.1, from_test id.process p r.0)
  is_begin p (Applied ids) call h = absurd (cc)
  is_begin p (End id reply) call h = absurd (cc)

  is_end : (p : ℕ) (e : Event Call Reply) (answer : CallId × Reply) → own_answer p e ≡ answer ∷ [] → (e ≡ End answer.0 answer.1) × (answer.0.process ≡ p)
  is_end p (Begin id c) answer h = absurd (cc)
  is_end p (Applied ids) answer h = absurd (cc)
  is_end p (End id reply) answer h =
      let r = cond_one (nat_eq id.process p) (id, reply) answer h in
      (ap (λ (x : CallId × Reply). End x.0 x.1) r.1, sym (ap (λ (x : CallId × Reply). x.0.process) r.1) ∙ from_test id.process p r.0)

  begun_one : (p : ℕ) (e : Event Call Reply) → length (own_call p e) ≡ begun (own_event p e)
  begun_one p (Begin id call) = begun_cond (nat_eq id.process p) call id.number
  begun_one p (Applied ids) = refl
  begun_one p (End id reply) = none_begun (nat_eq id.process p) id.number

  ended_one : (p : ℕ) (e : Event Call Reply) → length (own_answer p e) ≡ ended (own_event p e)
  ended_one p (Begin id call) = none_ended (nat_eq id.process p) id.number
  ended_one p (Applied ids) = refl
  ended_one p (End id reply) = ended_cond (nat_eq id.process p) (id, reply) id.number

  begun_all : (p : ℕ) (es : List (Event Call Reply)) → length (own_calls p es) ≡ begun (own_events p es)
  begun_all p [] = refl
  begun_all p (e ∷ es) =
      let a = length-append (own_call p e) (own_calls p es) in
      let b = begun-append (own_event p e) (own_events p es) in
      let c = begun_one p e in
      let d = begun_all p es in
      omega (arith, a, b, c, d)

  ended_all : (p : ℕ) (es : List (Event Call Reply)) → length (own_answers p es) ≡ ended (own_events p es)
  ended_all p [] = refl
  ended_all p (e ∷ es) =
      let a = length-append (own_answer p e) (own_answers p es) in
      let b = ended-append (own_event p e) (own_events p es) in
      let c = ended_one p e in
      let d = ended_all p es in
      omega (arith, a, b, c, d)

  module _ (history : List (Event Call Reply)) (whole : IsHistory history) where
    -- a call is one more than those that its process began before, and they have all ended
    pub begin_number : (pre rest : List (Event Call Reply)) (id : CallId) (call : Call) → history ≡ pre ++ Begin id call ∷ rest →
        (length (own_calls id.process pre) + 1 ≡ id.number) × (length (own_answers id.process pre) + 1 ≡ id.number)
    begin_number pre rest id call h =
        let p = id.process in
        let own : own_event {Call = Call} {Reply = Reply} p (Begin id call) ≡ Begins id.number ∷ [] = ap (λ (b : Bool). cond b (Begins id.number ∷ []) []) (same_test p) in
        let parts : own_events p history ≡ own_events p pre ++ Begins id.number ∷ own_events p rest =
        ap (own_events p) h ∙ own_events-append p pre (Begin id call ∷ rest) ∙ ap (λ (l : List OwnEvent). own_events p pre ++ (l ++ own_events p rest)) own in
        let r = at_begins 1 (length (own_events p history)) (own_events p pre) (own_events p rest) id.number (sym parts ∙ whole p) in
        let b = begun_all p pre in
        let e = ended_all p pre in
        (omega (arith, r.0, b), omega (arith, r.1, e))

    pub end_number : (pre rest : List (Event Call Reply)) (id : CallId) (reply : Reply) → history ≡ pre ++ End id reply ∷ rest →
        (length (own_calls id.process pre) ≡ id.number) × (length (own_answers id.process pre) + 1 ≡ id.number)
    end_number pre rest id reply h =
        let p = id.process in
        let own : own_event {Call = Call} {Reply = Reply} p (End id reply) ≡ Ends id.number ∷ [] = ap (λ (b : Bool). cond b (Ends id.number ∷ []) []) (same_test p) in
        let parts : own_events p history ≡ own_events p pre ++ Ends id.number ∷ own_events p rest =
        ap (own_events p) h ∙ own_events-append p pre (End id reply ∷ rest) ∙ ap (λ (l : List OwnEvent). own_events p pre ++ (l ++ own_events p rest)) own in
        let r = at_ends 1 (length (own_events p history)) (own_events p pre) (own_events p rest) id.number (sym parts ∙ whole p) in
        let b = begun_all p pre in
        let e = ended_all p pre in
        (omega (arith, r.0, b), omega (arith, r.1, e))

    -- a call of a process by its number, and the other way round
    pub begun_at : (p k : ℕ) (call : Call) → slice_get (own_calls p history) k ≡ Some call → HasBegun history (record { process = p; number = k + 1 }) call
    begun_at p k call h =
        let r = flat_split (own_call p) (one_call_at p) history k call (ap (λ (l : List Call). slice_get l k) (sym (calls_flat p history)) ∙ h) in
        let b = is_begin p r.1 call r.4 in
        let split : history ≡ r.0 ++ Begin b.0 call ∷ r.2 = r.3 ∙ ap (λ (e : Event Call Reply). r.0 ++ e ∷ r.2) b.1 in
        let n = begin_number r.0 r.2 b.0 call split in
        let many : length (own_calls b.0.process r.0) ≡ k = ap (λ (q : ℕ). length (own_calls q r.0)) b.2 ∙ ap length (calls_flat p r.0) ∙ r.5 in
        let same : b.0 ≡ record { process = p; number = k + 1 } = same_call b.0 (record { process = p; number = k + 1 }) b.2 (omega (arith, n.0, many)) in
        let here : slice_get history (length r.0) ≡ Some (Begin b.0 call) = ap (λ (l : List (Event Call Reply)). slice_get l (length r.0)) split ∙ place_here r.0 r.2 (Begin b.0 call) in
        contains_at history (length r.0) (Begin (record { process = p; number = k + 1 }) call) (here ∙ ap (λ (i : CallId). Some (Begin i call)) same)

    pub has_begun : (id : CallId) (call : Call) → HasBegun history id call → (0 < id.number) × (slice_get (own_calls id.process history) (id.number - 1) ≡ Some call)
    has_begun id call h =
        let k = place_of history (Begin id call) h in
        let s = split_at history k.0 (Begin id call) k.1 in
        let n = begin_number s.0 s.1 id call s.2 in
        let own : own_call {Call = Call} {Reply = Reply} id.process (Begin id call) ≡ call ∷ [] = ap (λ (b : Bool). cond b (call ∷ []) []) (same_test id.process) in
        let parts : own_calls id.process history ≡ own_calls id.process s.0 ++ call ∷ own_calls id.process s.1 =
        ap (own_calls id.process) s.2 ∙ own_calls-append id.process s.0 (Begin id call ∷ s.1) ∙ ap (λ (l : List Call). own_calls id.process s.0 ++ (l ++ own_calls id.process s.1)) own in
        let at : id.number - 1 ≡ length (own_calls id.process s.0) = omega (arith, n.0) in
        (omega (arith, n.0), ap (slice_get (own_calls id.process history)) at ∙ ap (λ (l : List Call). slice_get l (length (own_calls id.process s.0))) parts ∙ place_here (own_calls id.process s.0) (own_calls id.process s.1) call)

    -- an answer of a process by its number, and the other way round
    answered_split : (p k : ℕ) (answer : CallId × Reply) (events more : List (Event Call Reply)) → history ≡ events ++ more → slice_get (own_answers p events) k ≡ Some answer →
        (pre : List (Event Call Reply)) × (rest : List (Event Call Reply)) × (events ≡ pre ++ End answer.0 answer.1 ∷ rest) × (answer.0 ≡ record { process = p; number = k + 1 })
    answered_split p k answer events more whole_is h =
        let r = flat_split (own_answer p) (one_answer_at p) events k answer (ap (λ (l : List (CallId × Reply)). slice_get l k) (sym (answers_flat p events)) ∙ h) in
        let b = is_end p r.1 answer r.4 in
        let split : events ≡ r.0 ++ End answer.0 answer.1 ∷ r.2 = r.3 ∙ ap (λ (e : Event Call Reply). r.0 ++ e ∷ r.2) b.0 in
        let all : history ≡ r.0 ++ End answer.0 answer.1 ∷ (r.2 ++ more) = whole_is ∙ ap (λ (l : List (Event Call Reply)). l ++ more) split ∙ append_assoc r.0 (End answer.0 answer.1 ∷ r.2) more in
        let n = end_number r.0 (r.2 ++ more) answer.0 answer.1 all in
        let many : length (own_answers answer.0.process r.0) ≡ k = ap (λ (q : ℕ). length (own_answers q r.0)) b.1 ∙ ap length (answers_flat p r.0) ∙ r.5 in
        (r.0, r.2, split, same_call answer.0 (record { process = p; number = k + 1 }) b.1 (omega (arith, n.1, many)))

    pub ended_at : (p k : ℕ) (answer : CallId × Reply) → slice_get (own_answers p history) k ≡ Some answer →
        (answer.0 ≡ record { process = p; number = k + 1 }) × Contains history (End (record { process = p; number = k + 1 }) answer.1)
    ended_at p k answer h =
        let r = answered_split p k answer history [] (sym (append-nil history)) h in
        let here : slice_get history (length r.0) ≡ Some (End answer.0 answer.1) = ap (λ (l : List (Event Call Reply)). slice_get l (length r.0)) r.2 ∙ place_here r.0 r.1 (End answer.0 answer.1) in
        (r.3, contains_at history (length r.0) (End (record { process = p; number = k + 1 }) answer.1) (here ∙ ap (λ (i : CallId). Some (End i answer.1)) r.3))

    pub has_ended : (id : CallId) (reply : Reply) → Contains history (End id reply) → (0 < id.number) × (slice_get (own_answers id.process history) (id.number - 1) ≡ Some (id, reply))
    has_ended id reply h =
        let k = place_of history (End id reply) h in
        let s = split_at history k.0 (End id reply) k.1 in
        let n = end_number s.0 s.1 id reply s.2 in
        let own : own_answer {Call = Call} {Reply = Reply} id.process (End id reply) ≡ (id, reply) ∷ [] = ap (λ (b : Bool). cond b ((id, reply) ∷ []) []) (same_test id.process) in
        let parts : own_answers id.process history ≡ own_answers id.process s.0 ++ (id, reply) ∷ own_answers id.process s.1 =
        ap (own_answers id.process) s.2 ∙ own_answers-append id.process s.0 (End id reply ∷ s.1) ∙ ap (λ (l : List (CallId × Reply)). own_answers id.process s.0 ++ (l ++ own_answers id.process s.1)) own in
        let at : id.number - 1 ≡ length (own_answers id.process s.0) = omega (arith, n.1) in
        (omega (arith, n.1), ap (slice_get (own_answers id.process history)) at ∙ ap (λ (l : List (CallId × Reply)). slice_get l (length (own_answers id.process s.0))) parts ∙ place_here (own_answers id.process s.0) (own_answers id.process s.1) (id, reply))

    -- what ended before a call began, by numbers
    pub before_numbers : (a id : CallId) (call : Call) (pre rest : List (Event Call Reply)) → history ≡ pre ++ Begin id call ∷ rest → Before history a id →
        (0 < a.number) × (a.number ≤ length (own_answers a.process pre))
    before_numbers a id call pre rest split (before reply other first between last other_split) =
        let regrouped : history ≡ (first ++ End a reply ∷ between) ++ Begin id other ∷ last = other_split ∙ sym (append_assoc first (End a reply ∷ between) (Begin id other ∷ last)) in
        let here : slice_get history (length pre) ≡ Some (Begin id call) = ap (λ (l : List (Event Call Reply)). slice_get l (length pre)) split ∙ place_here pre rest (Begin id call) in
        let there : slice_get history (length (first ++ End a reply ∷ between)) ≡ Some (Begin id other) = ap (λ (l : List (Event Call Reply)). slice_get l (length (first ++ End a reply ∷ between))) regrouped ∙ place_here (first ++ End a reply ∷ between) last (Begin id other) in
        let same = one_begin history whole id (length pre) (length (first ++ End a reply ∷ between)) call other here there in
        let front : pre ≡ first ++ End a reply ∷ between =
        sym (take_at pre (Begin id call ∷ rest) (length pre) refl) ∙ ap (take (length pre)) (sym split ∙ regrouped) ∙ take_at (first ++ End a reply ∷ between) (Begin id other ∷ last) (length pre) (sym same) in
        let n = end_number first (between ++ Begin id other ∷ last) a reply other_split in
        let own : own_answer {Call = Call} {Reply = Reply} a.process (End a reply) ≡ (a, reply) ∷ [] = ap (λ (b : Bool). cond b ((a, reply) ∷ []) []) (same_test a.process) in
        let parts : own_answers a.process pre ≡ own_answers a.process first ++ (a, reply) ∷ own_answers a.process between =
        ap (own_answers a.process) front ∙ own_answers-append a.process first (End a reply ∷ between) ∙ ap (λ (l : List (CallId × Reply)). own_answers a.process first ++ (l ++ own_answers a.process between)) own in
        let count : length (own_answers a.process pre) ≡ length (own_answers a.process first) + suc (length (own_answers a.process between)) = ap length parts ∙ length-append (own_answers a.process first) ((a, reply) ∷ own_answers a.process between) in
        (omega (arith, n.1), omega (arith, n.1, count))

    pub numbers_before : (a id : CallId) (call : Call) (pre rest : List (Event Call Reply)) → history ≡ pre ++ Begin id call ∷ rest →
        0 < a.number → a.number ≤ length (own_answers a.process pre) → Before history a id
    numbers_before a id call pre rest split positive within =
        let lt : a.number - 1 < length (own_answers a.process pre) = omega arith in
        let found = slice_get_some (own_answers a.process pre) (a.number - 1) lt in
        let r = answered_split a.process (a.number - 1) found.0 pre (Begin id call ∷ rest) split found.1 in
        let same : found.0.0 ≡ a = r.3 ∙ same_call (record { process = a.process; number = (a.number - 1) + 1 }) a refl (omega arith) in
        let all : history ≡ r.0 ++ End found.0.0 found.0.1 ∷ (r.1 ++ Begin id call ∷ rest) = split ∙ ap (λ (l : List (Event Call Reply)). l ++ Begin id call ∷ rest) r.2 ∙ append_assoc r.0 (End found.0.0 found.0.1 ∷ r.1) (Begin id call ∷ rest) in
        subst (λ (i : CallId). Before history i id) same (before found.0.1 call r.0 r.1 rest all)

-- what begins a history is one
pub front_whole : {Call Reply : Type 0} (xs ys : List (Event Call Reply)) → IsHistory (xs ++ ys) → IsHistory xs
front_whole xs ys whole p = front_turn 1 (length (own_events p (xs ++ ys))) (own_events p xs) (own_events p ys) (sym (own_events-append p xs ys) ∙ whole p)

pub take_whole : {Call Reply : Type 0} (n : ℕ) (history : List (Event Call Reply)) → IsHistory history → IsHistory (take n history)
take_whole {Call} {Reply} n history whole = front_whole (take n history) (drop n history) (subst (λ (l : List (Event Call Reply)). IsHistory l) (sym (take-append-drop n history)) whole)
