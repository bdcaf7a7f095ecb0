-- One event more, of a process that has a name already or gets one.
use Rattle.std.proofs.Common.{◌≡◌, ◌≢◌, ◌∙◌, ℕ, ◌+◌, ◌-◌, ◌<◌, ◌≤◌, zero, suc, Bool, cond, List, [], ◌∷◌, ◌++◌, ◌⊎◌, inl, inr, All, Option, Some, None, MatchOption, length, get_or, slice_get, refl, sym, ap, ap₂, subst, arith, eq-eqb}
use Rattle.std.proofs.lemmas.Bool.{cases_eq, ne_eqb}
use Rattle.std.proofs.lemmas.List.{length_push, map-append}
use Rattle.std.proofs.lemmas.List.Elements.{Contains-push_cases}
use Rattle.std.proofs.lemmas.Option.{get_or_from_slice_get, slice_get-get_or, slice_get_within}
use Rattle.std.proofs.Math.Dec.{eqb}
use Rattle.std.specs.List.{Contains}
use Rattle.indexmap.proofs.IndexTableLemmas.Probe.{pigeonhole}
use Rattle.ob_interface.specs.Call.{ObjectCall, Reply}
use Rattle.ob_text_reading.specs.HistoryLines.{HasFewProcesses, IsOfOne, most_different}
use Rattle.ob_text_reading.specs.Names.{AreApart, AreBelow, AreNamed, HasNoPlace, IsBelow, IsPlaceOf, MayCome, MayEnd, Naming, events_of, known, named, named_all, new}
use Rattle.ob_text_reading.proofs.Naming.{Events, all_of_one, apart_at, begun_of_one, calls_none, calls_own, events_none, name_at, named_history, numbered_history}
use Rattle.ob_text_reading.proofs.Seating.{idle_ends}
use Rattle.ob_text_reading.specs.Seats.{EndsCall}
use Rattle.wf_history.proofs.Positions.{place_here, place_left, place_push}
use Rattle.wf_history.proofs.Turns.{own_events-push}
use Rattle.wf_history.specs.declared.event.CallId.{CallId}
use Rattle.wf_history.specs.History.{Event, Begin, Applied, End, IsHistory, OwnEvent, Begins, own_calls, own_event, own_events}

pub below_weaker : {m n : ℕ} (e : Event ObjectCall Reply) → m ≤ n → IsBelow m e → IsBelow n e
below_weaker (Begin id call) le h = omega (arith, le, h)
below_weaker (Applied ids) le h = tt
below_weaker (End id reply) le h = omega (arith, le, h)

-- ---- the names with one process more, if it is new

pub data Grown (names : List ℕ) (process place : ℕ) : List ℕ → Type 0 where
  as_before : slice_get names place ≡ Some process → Grown names process place names
  longer : place ≡ length names → ¬ Contains names process → Grown names process place (names ++ process ∷ [])

pub record IsGrown (names : List ℕ) (process place : ℕ) (next : List ℕ) : Type 0 where
  pub apart : AreApart next
  pub within : place < length next
  pub name : name_at next place ≡ process
  pub no_less : length names ≤ length next
  pub no_more : length next ≤ length names + 1
  pub same : (k : ℕ) → k < length names → name_at next k ≡ name_at names k
  pub others : (k : ℕ) → k < length next → (k < length names) ⊎ (k ≡ place)

not_there : (names : List ℕ) (process : ℕ) → ¬ Contains names process → (k : ℕ) → slice_get names k ≡ Some process → ⊥
not_there names process none k at = none (k, slice_get_within names k process at, get_or_from_slice_get names k process process at)

pub grown : {names next : List ℕ} {process place : ℕ} → AreApart names → Grown names process place next → IsGrown names process place next
grown {names} {process = process} {place = place} apart (as_before at) =
    record {
      apart = apart;
      within = slice_get_within names place process at;
      name = get_or_from_slice_get names place process 0 at;
      no_less = omega arith;
      no_more = omega arith;
      same = λ k below. refl;
      others = λ k below. inl below;
    }
grown {names} {process = process} {place = place} apart (longer is none) =
    let long = length_push names process in
    record {
      apart = λ i j name x y.
          elim (place_push names process i name x) [
            | inl a ↦ elim (place_push names process j name y) [
              | inl b ↦ apart i j name a b
              | inr b ↦ absurd (not_there names process none i (a ∙ ap (λ n. Some n) (sym b.1)))
            ]
            | inr a ↦ elim (place_push names process j name y) [
              | inl b ↦ absurd (not_there names process none j (b ∙ ap (λ n. Some n) (sym a.1)))
              | inr b ↦ a.0 ∙ sym b.0
            ]
          ];
      within = omega (arith, is, long);
      name = get_or_from_slice_get (names ++ process ∷ []) place process 0 (ap (slice_get (names ++ process ∷ [])) is ∙ place_here names [] process);
      no_less = omega (arith, long);
      no_more = omega (arith, long);
      same = λ k below. get_or_from_slice_get (names ++ process ∷ []) k (name_at names k) 0 (place_left names (process ∷ []) k (name_at names k) (slice_get-get_or names k 0 below));
      others = λ k below. by_place k (cases_eq k (length names)) (omega (arith, below, long));
    }
  where
    by_place : (k : ℕ) → (k ≡ length names) ⊎ (k ≢ length names) → k < length names + 1 → (k < length names) ⊎ (k ≡ place)
    by_place k (inl e) below = inr (e ∙ sym is)
    by_place k (inr ne) below = inl (omega (arith, ne, below))

pub grows : {names : List ℕ} {process place : ℕ} → IsPlaceOf names process place → (next : List ℕ) × Grown names process place next
grows {names} (known at) = (names, as_before at)
grows {names} {process} (new is below none) = (names ++ process ∷ [], longer is none)

module _ (names next : List ℕ) (process place : ℕ) (g : IsGrown names process place next) where
  named_same : (e : Event ObjectCall Reply) → IsBelow (length names) e → named next e ≡ named names e
  named_same (Begin id call) below = ap (λ (p : ℕ). Begin (record { process = p; number = id.number }) call) (g.same id.process below)
  named_same (Applied ids) below = refl
  named_same (End id reply) below = ap (λ (p : ℕ). End (record { process = p; number = id.number }) reply) (g.same id.process below)

  all_same : (es : Events) → AreBelow (length names) es → named_all next es ≡ named_all names es
  all_same [] below = refl
  all_same (e ∷ es) below =
      ap₂ (λ x xs. x ∷ xs) (named_same e (below e (0, omega arith, refl))) (all_same es (λ x c. below x (suc c.0, (let within = c.1 in omega (arith, within)), c.2)))

  -- the event of a process as the text names it, and by its small number
  record IsNamedSo (numbered text : Event ObjectCall Reply) : Type 0 where
    named_so : named next numbered ≡ text
    low : IsBelow (length next) numbered

  begin_so : (number : ℕ) (call : ObjectCall) → IsNamedSo (Begin (record { process = place; number = number }) call) (Begin (record { process = process; number = number }) call)
  begin_so number call = record { named_so = ap (λ (p : ℕ). Begin (record { process = p; number = number }) call) g.name; low = g.within }

  end_so : (number : ℕ) (reply : Reply) → IsNamedSo (End (record { process = place; number = number }) reply) (End (record { process = process; number = number }) reply)
  end_so number reply = record { named_so = ap (λ (p : ℕ). End (record { process = p; number = number }) reply) g.name; low = g.within }

  module _ (es : Events) (below : AreBelow (length names) es) (e text : Event ObjectCall Reply) (so : IsNamedSo e text) where
    below_all : AreBelow (length next) (es ++ e ∷ [])
    below_all x c = elim (Contains-push_cases es e x c) [ inl old ↦ below_weaker x g.no_less (below x old) | inr same ↦ subst (λ (y : Event ObjectCall Reply). IsBelow (length next) y) same so.low ]

    text_all : named_all next (es ++ e ∷ []) ≡ named_all names es ++ text ∷ []
    text_all = map-append (named next) es (e ∷ []) ∙ ap₂ (λ (xs : Events) (y : Event ObjectCall Reply). xs ++ y ∷ []) (all_same es below) so.named_so

    turn_named : IsHistory (es ++ e ∷ []) → IsHistory (named_all names es ++ text ∷ [])
    turn_named h = subst (λ (xs : Events). IsHistory xs) text_all (named_history next g.apart (es ++ e ∷ []) below_all h)

    turn_numbered : IsHistory (named_all names es ++ text ∷ []) → IsHistory (es ++ e ∷ [])
    turn_numbered h = numbered_history next g.apart (es ++ e ∷ []) below_all (subst (λ (xs : Events). IsHistory xs) (sym text_all) h)

    few_named : length next ≤ most_different → HasFewProcesses (named_all names es ++ text ∷ [])
    few_named few =
        record { names = next; few = few; each = subst (λ (xs : Events). All (IsOfOne next) xs) text_all (all_of_one next (es ++ e ∷ []) below_all) }

-- ---- too many processes

-- where something stands in a list
place_in : List ℕ → ℕ → ℕ
place_in [] x = 0
place_in (y ∷ ys) x = cond (eqb y x) 0 (suc (place_in ys x))

placed : (ys : List ℕ) (x : ℕ) → Contains ys x → (place_in ys x < length ys) × (get_or ys (place_in ys x) 0 ≡ x)
unfolding place_in
placed [] x c = absurd (let below = c.1 in omega (arith, below))
placed (y ∷ ys) x c = by_first (placed ys x) (cases_eq y x)
  where
    rest : y ≢ x → (k : ℕ) → k < suc (length ys) → get_or (y ∷ ys) k x ≡ x → Contains ys x
    rest differ zero below at = absurd (differ at)
    rest differ (suc k) below at = (k, omega (arith, below), at)

    by_first : (Contains ys x → (place_in ys x < length ys) × (get_or ys (place_in ys x) 0 ≡ x)) → (y ≡ x) ⊎ (y ≢ x) →
        (place_in (y ∷ ys) x < length (y ∷ ys)) × (get_or (y ∷ ys) (place_in (y ∷ ys) x) 0 ≡ x)
    by_first others (inl same) = rw (eq-eqb y x same) (omega arith, same)
    by_first others (inr differ) = let p = others (rest differ c.0 c.1 c.2) in rw (ne_eqb y x differ) ((let below = p.0 in omega (arith, below)), p.1)

no_more_apart : (xs ys : List ℕ) → AreApart xs → ((i : ℕ) → i < length xs → Contains ys (name_at xs i)) → length xs ≤ length ys
no_more_apart xs ys apart each =
    pigeonhole (length xs) (length ys) (λ i. place_in ys (name_at xs i))
    (λ i below. (placed ys (name_at xs i) (each i below)).0)
    (λ i j x y e.
    apart_at xs apart i j x y
    (sym (placed ys (name_at xs i) (each i x)).1 ∙ ap (λ k. get_or ys k 0) e ∙ (placed ys (name_at xs j) (each j y)).1))

last_of_one : (ys : List ℕ) (xs : Events) (i : CallId) (call : ObjectCall) → All (IsOfOne ys) (xs ++ Begin i call ∷ []) → Contains ys i.process
last_of_one ys [] i call h = h 0 (Begin i call) (omega arith)
last_of_one ys (x ∷ xs) i call h = last_of_one ys xs i call (λ k d within. h (suc k) d (omega (arith, within)))

first_of_one : (ys : List ℕ) (xs zs : Events) → All (IsOfOne ys) (xs ++ zs) → All (IsOfOne ys) xs
first_of_one ys [] zs h k d within = absurd (omega (arith, within))
first_of_one ys (x ∷ xs) zs h zero d within = h 0 d (omega arith)
first_of_one ys (x ∷ xs) zs h (suc k) d within = first_of_one ys xs zs (λ m f below. h (suc m) f (omega (arith, below))) k d (omega (arith, within))

module _ (n : Naming) (a : AreNamed n) where
  -- a new process is one too many
  pub one_too_many : (i : CallId) (call : ObjectCall) → HasNoPlace n.names i.process → HasFewProcesses (events_of n ++ Begin i call ∷ []) → ⊥
  one_too_many i call full few =
      let more : Grown n.names i.process (length n.names) (n.names ++ i.process ∷ []) = longer refl full.new in
      let g = grown a.apart more in
      let each : (k : ℕ) → k < length (n.names ++ i.process ∷ []) → Contains few.names (name_at (n.names ++ i.process ∷ []) k) =
      λ k below. elim (g.others k below) [
        | inl old ↦
            subst (λ (x : ℕ). Contains few.names x) (sym (g.same k old))
            (begun_of_one n.names few.names n.numbered (first_of_one few.names (events_of n) (Begin i call ∷ []) few.each) k (a.begun k old))
        | inr last ↦
            subst (λ (x : ℕ). Contains few.names x) (sym (ap (name_at (n.names ++ i.process ∷ [])) last ∙ g.name))
            (last_of_one few.names (events_of n) i call few.each)
      ] in
      let all = no_more_apart (n.names ++ i.process ∷ []) few.names g.apart each in
      let long = length_push n.names i.process in
      let most = few.few in
      let many = full.full in
      absurd (omega (arith, all, long, most, many))

  -- ---- a call that begins

  room : {process place : ℕ} {next : List ℕ} → IsPlaceOf n.names process place → IsGrown n.names process place next → Grown n.names process place next → length next ≤ most_different
  room (known at) g (as_before same) = a.few
  room (known at) g (longer is none) = absurd (not_there n.names _ none _ at)
  room (new is low none) g h = let more = g.no_more in omega (arith, is, low, more)

  module _ (process place number : ℕ) (p : IsPlaceOf n.names process place) (call : ObjectCall) where
    pub may_begin : IsHistory (n.numbered ++ Begin (record { process = place; number = number }) call ∷ []) → MayCome (events_of n) (Begin (record { process = process; number = number }) call)
    may_begin h =
        let next = grows p in
        let g = grown a.apart next.1 in
        let so = begin_so n.names next.0 process place g number call in
        record {
          turn = turn_named n.names next.0 process place g n.numbered a.below _ _ so h;
          few = few_named n.names next.0 process place g n.numbered a.below _ _ so (room p g next.1);
        }

    pub begins_so : IsHistory (events_of n ++ Begin (record { process = process; number = number }) call ∷ []) → IsHistory (n.numbered ++ Begin (record { process = place; number = number }) call ∷ [])
    begins_so h =
        let next = grows p in
        let g = grown a.apart next.1 in
        turn_numbered n.names next.0 process place g n.numbered a.below _ _ (begin_so n.names next.0 process place g number call) h

  -- ---- a call that ends

  module _ (process place number : ℕ) (at : slice_get n.names place ≡ Some process) where
    known_so : IsGrown n.names process place n.names
    known_so = grown a.apart (as_before at)

    pub ends_named : (reply : Reply) → IsHistory (n.numbered ++ End (record { process = place; number = number }) reply ∷ []) → IsHistory (events_of n ++ End (record { process = process; number = number }) reply ∷ [])
    ends_named reply h = turn_named n.names n.names process place known_so n.numbered a.below _ _ (end_so n.names n.names process place known_so number reply) h

    pub ends_numbered : (reply : Reply) → IsHistory (events_of n ++ End (record { process = process; number = number }) reply ∷ []) → IsHistory (n.numbered ++ End (record { process = place; number = number }) reply ∷ [])
    ends_numbered reply h = turn_numbered n.names n.names process place known_so n.numbered a.below _ _ (end_so n.names n.names process place known_so number reply) h

    same_calls : own_calls process (events_of n) ≡ own_calls place n.numbered
    same_calls =
        ap (λ q. own_calls q (events_of n)) (sym known_so.name) ∙ calls_own n.names a.apart n.numbered a.below place known_so.within

    pub may_end : (export : ℕ) → EndsCall n.numbered (record { process = place; number = number }) export → MayEnd (events_of n) (record { process = process; number = number }) export
    may_end export e =
        record {
          ends = record {
            call = e.call;
            begun = ap (λ (calls : List ObjectCall). slice_get calls (number - 1)) same_calls ∙ e.begun;
            of_export = e.of_export;
            next = λ reply. ends_named reply (e.next reply);
          };
          few = λ reply. few_named n.names n.names process place known_so n.numbered a.below _ _ (end_so n.names n.names process place known_so number reply) a.few;
        }

    pub export_named_so : (found : Option ℕ) →
        MatchOption found ((reply : Reply) → IsHistory (n.numbered ++ End (record { process = place; number = number }) reply ∷ []) → ⊥)
        (λ export. EndsCall n.numbered (record { process = place; number = number }) export) →
        MatchOption found ((reply : Reply) → IsHistory (events_of n ++ End (record { process = process; number = number }) reply ∷ []) → ⊥)
        (λ export. MayEnd (events_of n) (record { process = process; number = number }) export)
    export_named_so None h = λ reply whole. h reply (ends_numbered reply whole)
    export_named_so (Some export) h = may_end export h

  -- a process without a name has no call that ends
  pub unknown_ends : (i : CallId) (reply : Reply) → ¬ Contains n.names i.process → IsHistory (events_of n ++ End i reply ∷ []) → ⊥
  unknown_ends i reply none h =
      let never : (k : ℕ) → k < length n.names → name_at n.names k ≢ i.process =
      λ k below e. not_there n.names i.process none k (slice_get-get_or n.names k 0 below ∙ ap (λ x. Some x) e) in
      idle_ends (events_of n) i reply 0
      (record { turns = events_none n.names n.numbered a.below i.process never; calls = ap length (calls_none n.names n.numbered a.below i.process never) }) h

-- ---- the names behind an event

begun_push : (es : Events) (e : Event ObjectCall Reply) (p : ℕ) → (own_events p es ≡ [] → ⊥) → own_events p (es ++ e ∷ []) ≡ [] → ⊥
begun_push es e p some none = some (first_nil (own_events p es) (own_event p e) (sym (own_events-push p es e) ∙ none))
  where
    first_nil : (xs ys : List OwnEvent) → xs ++ ys ≡ [] → xs ≡ []
    first_nil [] ys e = refl
    first_nil (x ∷ xs) ys e = absurd (cc)

begun_here : (es : Events) (i : CallId) (call : ObjectCall) → own_events i.process (es ++ Begin i call ∷ []) ≡ [] → ⊥
begun_here es i call none =
    let own : own_event {Reply = Reply} i.process (Begin i call) ≡ Begins i.number ∷ [] = ap (λ (b : Bool). cond b (Begins i.number ∷ []) []) (eq-eqb i.process i.process refl) in
    some_nil (own_events i.process es) (Begins i.number) (ap (λ (xs : List OwnEvent). own_events i.process es ++ xs) (sym own) ∙ sym (own_events-push i.process es (Begin i call)) ∙ none)
  where
    some_nil : (xs : List OwnEvent) (y : OwnEvent) → xs ++ y ∷ [] ≡ [] → ⊥
    some_nil [] y e = cc
    some_nil (x ∷ xs) y e = cc

module _ (n : Naming) (a : AreNamed n) (process place number : ℕ) (next : List ℕ) (h : Grown n.names process place next) (few : length next ≤ most_different) (call : ObjectCall) where
  g_next : IsGrown n.names process place next
  g_next = grown a.apart h

  pub named_more : IsHistory (n.numbered ++ Begin (record { process = place; number = number }) call ∷ []) →
      AreNamed (record { names = next; numbered = n.numbered ++ Begin (record { process = place; number = number }) call ∷ [] })
  named_more whole =
      record {
        whole = whole;
        apart = g_next.apart;
        few = few;
        below = below_all n.names next process place g_next n.numbered a.below _ _ (begin_so n.names next process place g_next number call);
        begun = λ p within none. elim (g_next.others p within) [
          | inl old ↦ begun_push n.numbered _ p (a.begun p old) none
          | inr last ↦ begun_here n.numbered (record { process = place; number = number }) call (subst (λ (q : ℕ). own_events q (n.numbered ++ Begin (record { process = place; number = number }) call ∷ []) ≡ []) last none)
        ];
      }

  pub events_more : named_all next (n.numbered ++ Begin (record { process = place; number = number }) call ∷ []) ≡ events_of n ++ Begin (record { process = process; number = number }) call ∷ []
  events_more = text_all n.names next process place g_next n.numbered a.below _ _ (begin_so n.names next process place g_next number call)

module _ (n : Naming) (a : AreNamed n) (process place number : ℕ) (at : slice_get n.names place ≡ Some process) (reply : Reply) where
  g_same : IsGrown n.names process place n.names
  g_same = grown a.apart (as_before at)

  pub named_end : IsHistory (n.numbered ++ End (record { process = place; number = number }) reply ∷ []) →
      AreNamed (record { names = n.names; numbered = n.numbered ++ End (record { process = place; number = number }) reply ∷ [] })
  named_end whole =
      record {
        whole = whole;
        apart = a.apart;
        few = a.few;
        below = below_all n.names n.names process place g_same n.numbered a.below _ _ (end_so n.names n.names process place g_same number reply);
        begun = λ p within none. begun_push n.numbered _ p (a.begun p within) none;
      }

  pub events_end : named_all n.names (n.numbered ++ End (record { process = place; number = number }) reply ∷ []) ≡ events_of n ++ End (record { process = process; number = number }) reply ∷ []
  events_end = text_all n.names n.names process place g_same n.numbered a.below _ _ (end_so n.names n.names process place g_same number reply)
