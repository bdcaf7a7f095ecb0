-- Events by small numbers and the same events by names: each process does the same in both.
use Rattle.std.proofs.Common.{◌≡◌, ◌≢◌, ◌∙◌, ℕ, ◌<◌, ◌≤◌, zero, suc, Bool, cond, List, [], ◌∷◌, ◌++◌, ◌⊎◌, inl, inr, All, Some, length, get_or, refl, sym, ap, ap₂, subst, arith, eq-eqb}
use Rattle.std.proofs.lemmas.Bool.{cases_eq, ne_eqb}
use Rattle.std.proofs.lemmas.List.Elements.{All-cons, All-head, All-nil, All-tail}
use Rattle.std.proofs.lemmas.Option.{get_or_from_slice_get, slice_get-get_or}
use Rattle.std.proofs.Math.Dec.{eqb}
use Rattle.std.specs.List.{Contains}
use Rattle.ob_interface.specs.Call.{ObjectCall, Reply}
use Rattle.ob_text_reading.specs.HistoryLines.{IsOfOne}
use Rattle.ob_text_reading.specs.Names.{AreApart, AreBelow, IsBelow, named, named_all}
use Rattle.wf_history.specs.History.{Event, Begin, Applied, End, IsHistory, OwnEvent, Begins, Ends, in_turn, own_call, own_calls, own_event, own_events}

abbrev pub Events : Type 0
Events = List (Event ObjectCall Reply)

abbrev pub name_at : List ℕ → ℕ → ℕ
name_at names i = get_or names i 0

contains_first : {X : Type 0} (x : X) (xs : List X) → Contains (x ∷ xs) x
contains_first x xs = (0, omega arith, refl)

contains_more : {X : Type 0} (x y : X) (xs : List X) → Contains xs y → Contains (x ∷ xs) y
contains_more x y xs c = (suc c.0, let below = c.1 in omega (arith, below), c.2)

below_first : (n : ℕ) (e : Event ObjectCall Reply) (es : Events) → AreBelow n (e ∷ es) → IsBelow n e
below_first n e es h = h e (contains_first e es)

below_others : (n : ℕ) (e : Event ObjectCall Reply) (es : Events) → AreBelow n (e ∷ es) → AreBelow n es
below_others n e es h x c = h x (contains_more e x es c)

pub apart_at : (names : List ℕ) → AreApart names → (i j : ℕ) → i < length names → j < length names → name_at names i ≡ name_at names j → i ≡ j
apart_at names apart i j x y e = apart i j (name_at names j) (slice_get-get_or names i 0 x ∙ ap (λ n. Some n) e) (slice_get-get_or names j 0 y)

-- where a process stands among the names, if it does
pub find_name : (names : List ℕ) (q : ℕ) → ((k : ℕ) × (k < length names) × (name_at names k ≡ q)) ⊎ ((k : ℕ) → k < length names → name_at names k ≢ q)
find_name [] q = inr (λ k below e. absurd (omega (arith, below)))
find_name (n ∷ names) q =
    elim (cases_eq n q) [
      | inl same ↦ inl (0, omega arith, same)
      | inr differ ↦ elim (find_name names q) [
        | inl p ↦ inl (suc p.0, (let below = p.1 in omega (arith, below)), p.2)
        | inr none ↦ inr (other differ none)
      ]
    ]
  where
    other : n ≢ q → ((k : ℕ) → k < length names → name_at names k ≢ q) → (k : ℕ) → k < suc (length names) → name_at (n ∷ names) k ≢ q
    other differ none zero below e = differ e
    other differ none (suc k) below e = none k (omega (arith, below)) e

pub low_or_not : (m n : ℕ) → (m < n) ⊎ (n ≤ m)
low_or_not m zero = inr (omega arith)
low_or_not zero (suc n) = inl (omega arith)
low_or_not (suc m) (suc n) = elim (low_or_not m n) [ inl a ↦ inl (omega (arith, a)) | inr b ↦ inr (omega (arith, b)) ]

module _ (names : List ℕ) where
  -- nor does a number that is none of a process
  event_past : (e : Event ObjectCall Reply) → IsBelow (length names) e → (i : ℕ) → length names ≤ i → own_event i e ≡ []
  event_past (Begin id call) low i past = ap (λ (b : Bool). cond b (Begins id.number ∷ []) []) (ne_eqb id.process i (λ e. omega (arith, e, low, past)))
  event_past (Applied ids) low i past = refl
  event_past (End id reply) low i past = ap (λ (b : Bool). cond b (Ends id.number ∷ []) []) (ne_eqb id.process i (λ e. omega (arith, e, low, past)))

  events_past : (es : Events) → AreBelow (length names) es → (i : ℕ) → length names ≤ i → own_events i es ≡ []
  events_past [] below i past = refl
  events_past (e ∷ es) below i past = ap₂ (λ xs ys. xs ++ ys) (event_past e (below_first (length names) e es below) i past) (events_past es (below_others (length names) e es below) i past)

  -- a process that has no name does nothing
  event_none : (e : Event ObjectCall Reply) → IsBelow (length names) e → (q : ℕ) → ((k : ℕ) → k < length names → name_at names k ≢ q) → own_event q (named names e) ≡ []
  event_none (Begin id call) below q none = ap (λ (b : Bool). cond b (Begins id.number ∷ []) []) (ne_eqb (name_at names id.process) q (none id.process below))
  event_none (Applied ids) below q none = refl
  event_none (End id reply) below q none = ap (λ (b : Bool). cond b (Ends id.number ∷ []) []) (ne_eqb (name_at names id.process) q (none id.process below))

  call_none : (e : Event ObjectCall Reply) → IsBelow (length names) e → (q : ℕ) → ((k : ℕ) → k < length names → name_at names k ≢ q) → own_call q (named names e) ≡ []
  call_none (Begin id call) below q none = ap (λ (b : Bool). cond b (call ∷ []) []) (ne_eqb (name_at names id.process) q (none id.process below))
  call_none (Applied ids) below q none = refl
  call_none (End id reply) below q none = refl

  pub events_none : (es : Events) → AreBelow (length names) es → (q : ℕ) → ((k : ℕ) → k < length names → name_at names k ≢ q) → own_events q (named_all names es) ≡ []
  events_none [] below q none = refl
  events_none (e ∷ es) below q none = ap₂ (λ xs ys. xs ++ ys) (event_none e (below_first (length names) e es below) q none) (events_none es (below_others (length names) e es below) q none)

  pub calls_none : (es : Events) → AreBelow (length names) es → (q : ℕ) → ((k : ℕ) → k < length names → name_at names k ≢ q) → own_calls q (named_all names es) ≡ []
  calls_none [] below q none = refl
  calls_none (e ∷ es) below q none = ap₂ (λ xs ys. xs ++ ys) (call_none e (below_first (length names) e es below) q none) (calls_none es (below_others (length names) e es below) q none)

  -- each event's process is one of the names
  of_one : (e : Event ObjectCall Reply) → IsBelow (length names) e → IsOfOne names (named names e)
  of_one (Begin id call) below = (id.process, below, at_default names id.process _ below)
    where
      at_default : (xs : List ℕ) (k d : ℕ) → k < length xs → get_or xs k d ≡ get_or xs k 0
      at_default xs k d within = get_or_from_slice_get xs k (get_or xs k 0) d (slice_get-get_or xs k 0 within)
  of_one (Applied ids) below = tt
  of_one (End id reply) below = (id.process, below, at_default names id.process _ below)
    where
      at_default : (xs : List ℕ) (k d : ℕ) → k < length xs → get_or xs k d ≡ get_or xs k 0
      at_default xs k d within = get_or_from_slice_get xs k (get_or xs k 0) d (slice_get-get_or xs k 0 within)

  pub all_of_one : (es : Events) → AreBelow (length names) es → All (IsOfOne names) (named_all names es)
  all_of_one [] below = All-nil (IsOfOne names)
  all_of_one (e ∷ es) below = All-cons (IsOfOne names) (named names e) (named_all names es) (of_one e (below_first (length names) e es below)) (all_of_one es (below_others (length names) e es below))

  -- a process that has begun a call is among those that some list has
  pub begun_of_one : (ys : List ℕ) (es : Events) → All (IsOfOne ys) (named_all names es) → (i : ℕ) → (own_events i es ≡ [] → ⊥) → Contains ys (name_at names i)
  begun_of_one ys [] all i some = absurd (some refl)
  begun_of_one ys (e ∷ es) all i some =
      by_event (begun_of_one ys es (All-tail (IsOfOne ys) (named names e) (named_all names es) all) i) e
      (All-head (IsOfOne ys) (named names e) (named_all names es) all) some
    where
      by_event : ((own_events i es ≡ [] → ⊥) → Contains ys (name_at names i)) → (e : Event ObjectCall Reply) → IsOfOne ys (named names e) →
          (own_event i e ++ own_events i es ≡ [] → ⊥) → Contains ys (name_at names i)
      by_event others (Begin id call) one some =
          elim (cases_eq id.process i) [
            | inl same ↦ subst (λ (p : ℕ). Contains ys (name_at names p)) same one
            | inr differ ↦ others (λ none. some (ap₂ (λ (b : Bool) (xs : List OwnEvent). cond b (Begins id.number ∷ []) [] ++ xs) (ne_eqb id.process i differ) none))
          ]
      by_event others (Applied ids) one some = others some
      by_event others (End id reply) one some =
          elim (cases_eq id.process i) [
            | inl same ↦ subst (λ (p : ℕ). Contains ys (name_at names p)) same one
            | inr differ ↦ others (λ none. some (ap₂ (λ (b : Bool) (xs : List OwnEvent). cond b (Ends id.number ∷ []) [] ++ xs) (ne_eqb id.process i differ) none))
          ]

  module _ (apart : AreApart names) where
    name_eq : (p i : ℕ) → p < length names → i < length names → eqb (name_at names p) (name_at names i) ≡ eqb p i
    name_eq p i x y =
        elim (cases_eq p i) [
          | inl same ↦ eq-eqb (name_at names p) (name_at names i) (ap (name_at names) same) ∙ sym (eq-eqb p i same)
          | inr differ ↦ ne_eqb (name_at names p) (name_at names i) (λ e. differ (apart_at names apart p i x y e)) ∙ sym (ne_eqb p i differ)
        ]

    event_own : (e : Event ObjectCall Reply) → IsBelow (length names) e → (i : ℕ) → i < length names → own_event (name_at names i) (named names e) ≡ own_event i e
    event_own (Begin id call) below i within = ap (λ (b : Bool). cond b (Begins id.number ∷ []) []) (name_eq id.process i below within)
    event_own (Applied ids) below i within = refl
    event_own (End id reply) below i within = ap (λ (b : Bool). cond b (Ends id.number ∷ []) []) (name_eq id.process i below within)

    call_own : (e : Event ObjectCall Reply) → IsBelow (length names) e → (i : ℕ) → i < length names → own_call (name_at names i) (named names e) ≡ own_call i e
    call_own (Begin id call) below i within = ap (λ (b : Bool). cond b (call ∷ []) []) (name_eq id.process i below within)
    call_own (Applied ids) below i within = refl
    call_own (End id reply) below i within = refl

    pub events_own : (es : Events) → AreBelow (length names) es → (i : ℕ) → i < length names → own_events (name_at names i) (named_all names es) ≡ own_events i es
    events_own [] below i within = refl
    events_own (e ∷ es) below i within = ap₂ (λ xs ys. xs ++ ys) (event_own e (below_first (length names) e es below) i within) (events_own es (below_others (length names) e es below) i within)

    pub calls_own : (es : Events) → AreBelow (length names) es → (i : ℕ) → i < length names → own_calls (name_at names i) (named_all names es) ≡ own_calls i es
    calls_own [] below i within = refl
    calls_own (e ∷ es) below i within = ap₂ (λ xs ys. xs ++ ys) (call_own e (below_first (length names) e es below) i within) (calls_own es (below_others (length names) e es below) i within)

    -- so the one is a history where the other is
    pub named_history : (es : Events) → AreBelow (length names) es → IsHistory es → IsHistory (named_all names es)
    named_history es below h q =
        elim (find_name names q) [
          | inl p ↦
              let own : own_events q (named_all names es) ≡ own_events p.0 es = ap (λ n. own_events n (named_all names es)) (sym p.2) ∙ events_own es below p.0 p.1 in
              own ∙ h p.0 ∙ ap (λ (xs : List OwnEvent). in_turn 1 (length xs)) (sym own)
          | inr none ↦
              let own = events_none es below q none in
              own ∙ ap (λ (xs : List OwnEvent). in_turn 1 (length xs)) (sym own)
        ]

    pub numbered_history : (es : Events) → AreBelow (length names) es → IsHistory (named_all names es) → IsHistory es
    numbered_history es below h i = by_place (low_or_not i (length names))
      where
        by_place : (i < length names) ⊎ (length names ≤ i) → own_events i es ≡ in_turn 1 (length (own_events i es))
        by_place (inl within) =
            let own = events_own es below i within in
            sym own ∙ h (name_at names i) ∙ ap (λ (xs : List OwnEvent). in_turn 1 (length xs)) own
        by_place (inr past) =
            let own = events_past es below i past in
            own ∙ ap (λ (xs : List OwnEvent). in_turn 1 (length xs)) (sym own)
