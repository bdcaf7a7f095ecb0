-- What a search has found, one step on.
use Rattle.std.proofs.Common.{◌≡◌, refl, sym, ap, ◌∙◌, subst, ℕ, ◌+◌, ◌<◌, ◌≤◌, zero, suc, List, [], ◌∷◌, ◌++◌, length, take, Bool, true, false, Some, arith, ◌⊎◌, inl, inr, append_assoc, length-set}
use Rattle.std.proofs.lemmas.Bool.{cases_lt}
use Rattle.std.proofs.lemmas.List.{append-nil, length-append, map-append, take_at, take-append-le}
use Rattle.std.proofs.lemmas.List.Elements.{Contains-append_left, Contains-append_cases, Contains-push, Contains-push_cases}
use Rattle.std.proofs.lemmas.Option.{same_Some, slice_get_within}
use Rattle.std.specs.List.{slice_get, Contains}
use Rattle.ob_interface.specs.Call.{ObjectCall, Reply}
use Rattle.wf_history.specs.declared.event.CallId.{CallId}
use Rattle.wf_history.specs.History.{Event, Begin, End, IsHistory}
use Rattle.wf_history.specs.Legal.{IsLegal}
use Rattle.wf_history.proofs.Positions.{place_push, place_left, place_here, place_of, contains_at, one_item}
use Rattle.wf_order.specs.declared.kept_rows.Rows.{Rows}
use Rattle.wf_order.specs.declared.search.Frame.{Frame}
use Rattle.wf_order.specs.Rows.{AreRows}
use Rattle.wf_order.specs.Steps.{Configuration, IsLimit, IsStep, Leads, none, more, IsDone, start_at}
use Rattle.wf_order.specs.Verdict.{HasLegal}
use Rattle.wf_order.specs.Rules.{ComesFirst, ends, open_ones, IsOpen, IsBehind, IsAnswered, IsMet, IsReading, Passes, none_passed, one_passed}
use Rattle.wf_order.specs.Search.{ids_of, IsLed, IsSearch, LeadsOn}
use Rattle.wf_order.specs.Turns.{BeginsFrom}
use Rattle.wf_order.proofs.Exchange.{IsHopeful, hope_more, silent_first, alike_first, passes_first, without_idle}
use Rattle.wf_order.proofs.Soundness.{sound}
use Rattle.wf_order.proofs.StandingFor.{standing_hope, stands_grown}
use Rattle.wf_order.proofs.Completeness.{complete, none_taken}

-- what stands in the one list or in the other
append_place : {A : Type 0} (xs ys : List A) (k : ℕ) (x : A) → slice_get (xs ++ ys) k ≡ Some x → (slice_get xs k ≡ Some x) ⊎ Contains ys x
append_place [] ys k x e = inr (contains_at ys k x e)
append_place (a ∷ xs) ys zero x e = inl e
append_place (a ∷ xs) ys (suc k) x e = append_place xs ys k x e

-- how late a call comes: by its end, and behind all ends where it is open
module _ {Call Reply : Type 0} (history : List (Event Call Reply)) where
  pub data IsRank (id : CallId) : ℕ → Type 0 where
    ended : {place : ℕ} (reply : Reply) → slice_get history place ≡ Some (End id reply) → IsRank id place
    opened : {rank : ℕ} → IsOpen history id → rank ≡ length history + id.process → IsRank id rank

  ranked : (a b : CallId) → ComesFirst history a b → (s : ℕ) × IsRank a s
  ranked a b (ends f) = (f.place, ended f.reply f.at)
  ranked a b (open_ones over _ _) = (length history + a.process, opened over refl)

  -- what comes first has the lower rank
  lower : (a b : CallId) → ComesFirst history a b → (r : ℕ) → IsRank b r → (s : ℕ) × IsRank a s × (s < r)
  lower a b (ends f) r (ended reply at) = (f.place, ended f.reply f.at, f.later r reply at)
  lower a b (ends f) r (opened over is) = let lt = slice_get_within history f.place (End a f.reply) f.at in (f.place, ended f.reply f.at, omega (arith, lt, is))
  lower a b (open_ones _ over _) r (ended reply at) = absurd (over reply (contains_at history r (End b reply) at))
  lower a b (open_ones over _ less) r (opened _ is) = (length history + a.process, opened over refl, omega (arith, less, is))

module _ {State Call Reply : Type 0} (Effect : Call → State → State → Reply → Type 0) (history : List (Event Call Reply)) where
  pub leads_none : (c : Configuration State) → Leads Effect history c [] c
  leads_none c = none

  pub passes_size : {c d : Configuration State} {ids : List CallId} → Passes Effect history c ids d → length d.counts ≡ length c.counts
  passes_size none_passed = refl
  passes_size (one_passed {c} {d} {e} {id} {ids} s reads p) = passes_size p ∙ ap length s.counts ∙ length-set c.counts id.process id.number

  pub passes_push : {c d e : Configuration State} {id : CallId} {ids : List CallId} → Passes Effect history c ids d → IsStep Effect history d id e → IsReading Effect history id → Passes Effect history c (ids ++ id ∷ []) e
  passes_push none_passed s reads = one_passed s reads none_passed
  passes_push (one_passed t own p) s reads = one_passed t own (passes_push p s reads)

  pub leads_push : {c d e : Configuration State} {id : CallId} {ids : List CallId} → Leads Effect history c ids d → IsStep Effect history d id e → Leads Effect history c (ids ++ id ∷ []) e
  leads_push none s = more s none
  leads_push (more t l) s = more t (leads_push l s)

  pub led_on : (exact : Bool) (start : Configuration State) → LeadsOn Effect history (IsLed Effect history exact start)
  led_on true start ids c d id l s = leads_push l s
  led_on false start ids c d id l s = (l.0 ++ id ∷ [], leads_push l.1 s)

  first_of : (n : ℕ) {c e : Configuration State} {ids : List CallId} → Leads Effect history c ids e → length ids ≡ suc n → IsDone Effect history e →
      (id : CallId) × (d : Configuration State) × IsStep Effect history c id d × IsHopeful Effect history n d
  first_of n none size done = absurd (cc)
  first_of n (more {c} {d} {e} {id} {ids} s l) size done = (id, d, s, record { ids = ids; last = e; path = l; done = done; size = omega (arith, size) })

  -- where each step from what was found is answered, and nothing that was found is done, steps lead to nothing that is done
  module _ (whole : IsHistory history)
      (determined : (call : Call) (before after other : State) (reply answer : Reply) → Effect call before after reply → Effect call before other answer → (after ≡ other) × (reply ≡ answer))
      (found : List (Configuration State)) (closed : (c d : Configuration State) (id : CallId) → Contains found c → IsStep Effect history c id d → IsAnswered Effect history found c id d)
      (not_done : (c : Configuration State) → Contains found c → ¬ IsDone Effect history c) where
    abbrev AreHopeless : ℕ → Type 0
    AreHopeless n = (m : ℕ) → m ≤ n → (c : Configuration State) → Contains found c → IsHopeful Effect history m c → ⊥

    -- the same of what stands before a place
    abbrev AreHopelessBefore : ℕ → ℕ → Type 0
    AreHopelessBefore n place = (m : ℕ) → m ≤ n → (c : Configuration State) (k : ℕ) → slice_get found k ≡ Some c → k < place → IsHopeful Effect history m c → ⊥

    module _ (n : ℕ) (shorter : AreHopeless n) (c : Configuration State) (place : ℕ) (at : slice_get found place ≡ Some c) (before : AreHopelessBefore (suc n) place) where
      -- what leads by calls that only read to what was found, or is stood for
      met_hopeless : (d : Configuration State) → IsMet Effect history found c d → IsHopeful Effect history n d → ⊥
      met_hopeless d met h =
          let r = passes_first Effect history n met.2 h in
          elim met.3 [
            | inl there ↦ shorter r.0 r.1 met.1 there r.2
            | inr stood_for ↦
                let first = standing_hope Effect history whole found c met.1 stood_for r.0 r.2 in
                let size = first.1 in
                let le = r.1 in
                let stands = stood_for.stands in
                before first.0 (omega (arith, size, le)) stood_for.first stands.place stands.at (stands.before place at) first.2
          ]

      in_found : Contains found c
      in_found = contains_at found place c at

      by_cases : (d : Configuration State) (id : CallId) → IsStep Effect history c id d → IsHopeful Effect history n d →
          ((behind : IsBehind Effect history c id) → IsHopeful Effect history n behind.to → ⊥) → ⊥
      by_cases d id s h go =
          elim (closed c d id in_found s) [
            | inl seen ↦ met_hopeless d seen h
            | inr rules ↦ elim rules [
              | inl forced ↦ met_hopeless forced.to forced.there (silent_first Effect history forced.id forced.silent n c forced.to (hope_more Effect history n c d id s h) forced.step)
              | inr others ↦ elim others [
                | inl behind ↦ go behind (alike_first Effect history whole determined n c behind.to d id s h behind.sooner behind.call behind.step behind.same behind.own behind.first)
                | inr idle ↦ shorter n (omega arith) c in_found (without_idle Effect history whole n c d id s idle h)
              ]
            ]
          ]

      -- by the rank of the call
      among : (bound : ℕ) (d : Configuration State) (id : CallId) → IsStep Effect history c id d → IsHopeful Effect history n d → (rank : ℕ) → IsRank history id rank → rank < bound → ⊥
      among zero d id s h rank is lt = omega arith
      among (suc bound) d id s h rank is lt =
          by_cases d id s h
          (λ behind hope. let low = lower history behind.sooner id behind.first rank is in
          among bound behind.to behind.sooner behind.step hope low.0 low.1 (let less = low.2 in omega (arith, lt, less)))

      one_hopeless : IsHopeful Effect history (suc n) c → ⊥
      one_hopeless h =
          let r = first_of n h.path h.size h.done in
          by_cases r.1 r.0 r.2 r.3
          (λ behind hope. let own = ranked history behind.sooner r.0 behind.first in
          among (suc own.0) behind.to behind.sooner behind.step hope own.0 own.1 (omega arith))

    at_end : {c e : Configuration State} {ids : List CallId} → Leads Effect history c ids e → length ids ≡ 0 → Contains found c → IsDone Effect history e → ⊥
    at_end (none {c}) size in_found done = not_done c in_found done
    at_end (more s l) size in_found done = absurd (cc)

    -- by its place among what was found
    placed : (n : ℕ) → AreHopeless n → (bound : ℕ) → AreHopelessBefore (suc n) bound
    placed n shorter zero m le c k at lt h = omega (arith, lt)
    placed n shorter (suc bound) zero le c k at lt h = at_end h.path h.size (contains_at found k c at) h.done
    placed n shorter (suc bound) (suc m) le c k at lt h =
        one_hopeless m (λ x less d there hope. shorter x (omega (arith, le, less)) d there hope) c k at
        (λ x less d other there early hope. placed n shorter bound x (omega (arith, le, less)) d other there (omega (arith, lt, early)) hope) h

    all_hopeless : (n : ℕ) → AreHopeless n
    all_hopeless zero zero le c in_found h = at_end h.path h.size in_found h.done
    all_hopeless zero (suc m) le c in_found h = absurd (omega (arith, le))
    all_hopeless (suc n) m le c in_found h =
        let k = place_of found c in_found in
        placed n (all_hopeless n) (suc k.0) m le c k.0 k.1 (omega arith) h

    pub hopeless : (n : ℕ) (c : Configuration State) → Contains found c → IsHopeful Effect history n c → ⊥
    hopeless n c in_found h = all_hopeless n n (omega arith) c in_found h

module _ {State Call Reply : Type 0} (Effect : Call → State → State → Reply → Type 0) (history : List (Event Call Reply)) (processes : ℕ)
    (Led : List CallId → Configuration State → Type 0) (leads_on : LeadsOn Effect history Led) (start : Configuration State) where
  -- what was met stays so, where more is found
  met_grown : (found later : List (Configuration State)) (c d : Configuration State) → IsMet Effect history found c d → IsMet Effect history (found ++ later) c d
  met_grown found later c d h = (
    h.0,
    h.1,
    h.2,
    elim h.3 [
      | inl there ↦ inl (Contains-append_left found later h.1 there)
      | inr other ↦ inr (record { first = other.first; stands = stands_grown found later other.first c other.stands; id = other.id; last = other.last; step = other.step; counts = other.counts; so = other.so })
    ],
  )

  -- what was answered stays so, where more is found
  pub answered_grown : (found later : List (Configuration State)) (c : Configuration State) (id : CallId) (e : Configuration State) → IsAnswered Effect history found c id e → IsAnswered Effect history (found ++ later) c id e
  answered_grown found later c id e h =
      elim h [
        | inl seen ↦ inl (met_grown found later c e seen)
        | inr rules ↦ elim rules [
          | inl forced ↦ inr (inl (record { id = forced.id; to = forced.to; step = forced.step; silent = forced.silent; there = met_grown found later c forced.to forced.there }))
          | inr others ↦ inr (inr others)
        ]
      ]

  abbrev IsLedTo : List (Configuration State) → List CallId → Frame → Type 0
  IsLedTo found ids f = (c : Configuration State) × (slice_get found f.place ≡ Some c) × Led ids c × IsLimit history c.counts f.limit

  abbrev AreLed : List (Configuration State) → List Frame → Type 0
  AreLed found stack = (k : ℕ) (f : Frame) → slice_get stack k ≡ Some f → f.next < length history → IsLedTo found (ids_of (take k stack)) f

  led_front : (found : List (Configuration State)) (xs ys : List Frame) → AreLed found (xs ++ ys) → AreLed found xs
  led_front found xs ys h k f at live =
      let lt = slice_get_within xs k f at in
      subst (λ (l : List Frame). IsLedTo found (ids_of l) f) (take-append-le k xs ys (omega arith)) (h k f (place_left xs ys k f at) live)

  led_last : (found : List (Configuration State)) (xs : List Frame) (f : Frame) → AreLed found (xs ++ f ∷ []) → f.next < length history → IsLedTo found (ids_of xs) f
  led_last found xs f h live =
      subst (λ (l : List Frame). IsLedTo found (ids_of l) f) (take_at xs (f ∷ []) (length xs) refl) (h (length xs) f (place_here xs [] f) live)

  led_more : (found : List (Configuration State)) (xs : List Frame) (f : Frame) → AreLed found xs → (f.next < length history → IsLedTo found (ids_of xs) f) → AreLed found (xs ++ f ∷ [])
  led_more found xs f h last k g at live =
      elim (place_push xs f k g at) [
        | inl old ↦
            let lt = slice_get_within xs k g old in
            subst (λ (l : List Frame). IsLedTo found (ids_of l) g) (sym (take-append-le k xs (f ∷ []) (omega arith))) (h k g old live)
        | inr new ↦
            subst (λ (l : List Frame). IsLedTo found (ids_of l) g) (sym (take_at xs (f ∷ []) k (sym new.0)))
            (subst (λ (x : Frame). IsLedTo found (ids_of xs) x) new.1 (last (subst (λ (x : Frame). x.next < length history) (sym new.1) live)))
      ]

  -- frames from which nothing is to be tried
  led_past : (found : List (Configuration State)) (xs ys : List Frame) → AreLed found xs → ((f : Frame) → Contains ys f → length history ≤ f.next) → AreLed found (xs ++ ys)
  led_past found xs ys h past k f at live =
      elim (append_place xs ys k f at) [
        | inl old ↦
            let lt = slice_get_within xs k f old in
            subst (λ (l : List Frame). IsLedTo found (ids_of l) f) (sym (take-append-le k xs ys (omega arith))) (h k f old live)
        | inr new ↦ let le = past f new in absurd (omega (arith, le, live))
      ]

  led_grown : (found : List (Configuration State)) (d : Configuration State) (xs : List Frame) → AreLed found xs → AreLed (found ++ d ∷ []) xs
  led_grown found d xs h k f at live = let r = h k f at live in (r.0, place_left found (d ∷ []) f.place r.0 r.1, r.2, r.3)

  -- the configuration of the frame on top
  pub top_led : (found : List (Configuration State)) (xs : List Frame) (f : Frame) → IsSearch Effect history processes Led start found (xs ++ f ∷ []) → f.next < length history →
      (c : Configuration State) × (slice_get found f.place ≡ Some c) × Led (ids_of xs) c × IsLimit history c.counts f.limit
  top_led found xs f h live = led_last found xs f h.led live

  -- its place
  pub top_within : (found : List (Configuration State)) (xs : List Frame) (f : Frame) → IsSearch Effect history processes Led start found (xs ++ f ∷ []) → f.place < length found
  top_within found xs f h = h.places f (Contains-push xs f)

  pub places_within : (found : List (Configuration State)) (xs : List Frame) → IsSearch Effect history processes Led start found xs → (k : ℕ) (f : Frame) → slice_get xs k ≡ Some f → f.place < length found
  places_within found xs h k f at = h.places f (contains_at xs k f at)

  -- each step is still to be tried by a frame that begins
  from_start : (f : Frame) → f.next ≡ 0 → (id : CallId) (d c : Configuration State) → IsStep Effect history c id d → BeginsFrom history f.next id
  from_start f next id d c s = let p = place_of history (Begin id s.call) s.begun in record { call = s.call; place = p.0; at = p.1; behind = omega (arith, next) }

  pub begun_search : Led [] start → length start.counts ≡ processes → ¬ IsDone Effect history start → (f : Frame) → f.place ≡ 0 → f.next ≡ 0 → IsLimit history start.counts f.limit → IsSearch Effect history processes Led start (start ∷ []) (f ∷ [])
  begun_search here size undone f place next limit = record {
    start_found = contains_at (start ∷ []) 0 start refl;
    sizes = λ c h. subst (λ (x : Configuration State). length x.counts ≡ processes) (only c h) size;
    places = λ g there. subst (λ (x : Frame). x.place < 1) (only_frame g there) (omega (arith, place));
    led = led_more (start ∷ []) [] f (λ k g at live. absurd (cc)) (λ live. (start, ap (slice_get (start ∷ [])) place, here, limit));
    reached = λ c h. ([], subst (λ (x : Configuration State). Led [] x) (only c h) here);
    not_done = λ c h. subst (λ (x : Configuration State). ¬ IsDone Effect history x) (only c h) undone;
    next = λ c d id h s. inr (f, contains_at (f ∷ []) 0 f refl, ap (slice_get (start ∷ [])) place ∙ ap Some (only c h), from_start f next id d c s);
  }
    where
      only_frame : (g : Frame) → Contains (f ∷ []) g → f ≡ g
      only_frame g there = only_frame_at (place_of (f ∷ []) g there).0 g (place_of (f ∷ []) g there).1
        where
          only_frame_at : (k : ℕ) (g : Frame) → slice_get (f ∷ []) k ≡ Some g → f ≡ g
          only_frame_at zero g e = same_Some f g e
          only_frame_at (suc k) g e = absurd (cc)

      only : (c : Configuration State) → Contains (start ∷ []) c → start ≡ c
      only c h = only_at (place_of (start ∷ []) c h).0 c (place_of (start ∷ []) c h).1
        where
          only_at : (k : ℕ) (c : Configuration State) → slice_get (start ∷ []) k ≡ Some c → start ≡ c
          only_at zero c e = same_Some start c e
          only_at (suc k) c e = absurd (cc)

  -- all that the frame had to try was tried, or need not be
  pub popped_answered : (found : List (Configuration State)) (xs : List Frame) (f : Frame) → IsSearch Effect history processes Led start found (xs ++ f ∷ []) →
      ((c d : Configuration State) (id : CallId) → slice_get found f.place ≡ Some c → IsStep Effect history c id d → BeginsFrom history f.next id → IsAnswered Effect history found c id d) →
      IsSearch Effect history processes Led start found xs
  popped_answered found xs f h all = record {
    start_found = h.start_found;
    sizes = h.sizes;
    places = λ g there. h.places g (Contains-append_left xs (f ∷ []) g there);
    led = led_front found xs (f ∷ []) h.led;
    reached = h.reached;
    not_done = h.not_done;
    next = λ c d id in_found s.
        elim (h.next c d id in_found s) [
          | inl seen ↦ inl seen
          | inr undone ↦
              elim (Contains-push_cases xs f undone.0 undone.1) [
                | inl old ↦ inr (undone.0, old, undone.2, undone.3)
                | inr same ↦
                    inl (all c d id (ap (λ (x : Frame). slice_get found x.place) same ∙ undone.2) s
                    (subst (λ (n : ℕ). BeginsFrom history n id) (sym (ap (λ (x : Frame). x.next) same)) undone.3))
              ]
        ];
  }

  -- a frame from which nothing is to be tried
  pub past_answered : (found : List (Configuration State)) (f : Frame) → length history ≤ f.next → (c d : Configuration State) (id : CallId) → BeginsFrom history f.next id → IsAnswered Effect history found c id d
  past_answered found f past c d id begins =
      let lt = slice_get_within history begins.place (Begin id begins.call) begins.at in
      let le = begins.behind in
      absurd (omega (arith, lt, le, past))

  -- calls that only read lead on
  pub led_passed : {c d : Configuration State} {rest : List CallId} (ids : List CallId) → Led ids c → Passes Effect history c rest d → Led (ids ++ rest) d
  led_passed ids l (none_passed {c}) = subst (λ (x : List CallId). Led x c) (sym (append-nil ids)) l
  led_passed ids l (one_passed {c} {d} {e} {id} {ids = rest} s reads p) =
      subst (λ (x : List CallId). Led x e) (append_assoc ids (id ∷ []) rest) (led_passed (ids ++ id ∷ []) (leads_on ids c d id l s) p)

  module _ (found : List (Configuration State)) (xs : List Frame) (f g : Frame) (h : IsSearch Effect history processes Led start found (xs ++ f ∷ []))
      (c : Configuration State) (at : slice_get found f.place ≡ Some c) (place : g.place ≡ f.place) (limit : g.limit ≡ f.limit) (live : f.next < length history) where
    top_same : (x : Configuration State) (o : Frame) → f ≡ o → slice_get found o.place ≡ Some x → c ≡ x
    top_same x o same there = one_item found f.place c x at (ap (λ (y : Frame). slice_get found y.place) same ∙ there)

    led_to : Led (ids_of xs) c
    led_to =
        let r = led_last found xs f h.led live in
        subst (λ (x : Configuration State). Led (ids_of xs) x) (one_item found f.place r.0 c r.1 at) r.2

    limit_here : IsLimit history c.counts g.limit
    limit_here =
        let r = led_last found xs f h.led live in
        subst (λ (n : ℕ). IsLimit history c.counts n) (sym limit) (subst (λ (x : Configuration State). IsLimit history x.counts f.limit) (one_item found f.place r.0 c r.1 at) r.3)

    led_tried : AreLed found (xs ++ g ∷ [])
    led_tried = led_more found xs g (led_front found xs (f ∷ []) h.led) (λ still. (c, ap (slice_get found) place ∙ at, led_to, limit_here))

    places_tried : (x : Frame) → Contains (xs ++ g ∷ []) x → x.place < length found
    places_tried x there = elim (Contains-push_cases xs g x there) [
      | inl old ↦ h.places x (Contains-append_left xs (f ∷ []) x old)
      | inr same ↦ let lt = slice_get_within found f.place c at in let e : g.place ≡ x.place = ap (λ (y : Frame). y.place) same in omega (arith, lt, e, place)
    ]

    -- the next turn of the frame was tried, and leads to nothing new
    pub advanced : ((id : CallId) (d : Configuration State) (call : Call) (begun : ℕ) → slice_get history begun ≡ Some (Begin id call) → f.next ≤ begun → begun < g.next → IsStep Effect history c id d → IsAnswered Effect history found c id d) → IsSearch Effect history processes Led start found (xs ++ g ∷ [])
    advanced old_ones = record {
      start_found = h.start_found;
      sizes = h.sizes;
      places = places_tried;
      led = led_tried;
      reached = h.reached;
      not_done = h.not_done;
      next = λ x d id in_found s.
          elim (h.next x d id in_found s) [
            | inl seen ↦ inl seen
            | inr undone ↦
                elim (Contains-push_cases xs f undone.0 undone.1) [
                  | inl old ↦ inr (undone.0, Contains-append_left xs (g ∷ []) undone.0 old, undone.2, undone.3)
                  | inr same ↦
                      let is = top_same x undone.0 same undone.2 in
                      let top : f.next ≡ undone.0.next = ap (λ (y : Frame). y.next) same in
                      let begins = undone.3 in
                      let le = begins.behind in
                      elim (cases_lt begins.place g.next) [
                        | inl lt ↦ inl (subst (λ (y : Configuration State). IsAnswered Effect history found y id d) is
                            (old_ones id d begins.call begins.place begins.at (omega (arith, le, top)) lt (subst (λ (y : Configuration State). IsStep Effect history y id d) (sym is) s)))
                        | inr ge ↦ inr (g, Contains-push xs g, ap (slice_get found) place ∙ at ∙ ap Some is, record { call = begins.call; place = begins.place; at = begins.at; behind = ge })
                      ]
                ]
          ];
    }

    -- of frames from which nothing is to be tried
    module _ (ps : List Frame) (past : (p : Frame) → Contains ps p → (p.place ≡ f.place) × (length history ≤ p.next)) where
      pub places_past : (x : Frame) → Contains ((xs ++ g ∷ []) ++ ps) x → x.place < length found
      places_past x there = elim (Contains-append_cases (xs ++ g ∷ []) ps x there) [
        | inl old ↦ places_tried x old
        | inr new ↦ let e = (past x new).0 in let lt = slice_get_within found f.place c at in omega (arith, e, lt)
      ]

      led_beyond : AreLed found ((xs ++ g ∷ []) ++ ps)
      led_beyond = led_past found (xs ++ g ∷ []) ps led_tried (λ p there. (past p there).1)

      -- the next turn of the frame was tried, and leads by calls that only read to nothing new
      pub advanced_past : ((id : CallId) (d : Configuration State) (call : Call) (begun : ℕ) → slice_get history begun ≡ Some (Begin id call) → f.next ≤ begun → begun < g.next → IsStep Effect history c id d → IsAnswered Effect history found c id d) →
          IsSearch Effect history processes Led start found ((xs ++ g ∷ []) ++ ps)
      advanced_past old_ones =
          let s = advanced old_ones in
          record {
            start_found = s.start_found;
            sizes = s.sizes;
            places = places_past;
            led = led_beyond;
            reached = s.reached;
            not_done = s.not_done;
            next = λ x y id in_found t.
                elim (s.next x y id in_found t) [
                  | inl seen ↦ inl seen
                  | inr undone ↦ inr (undone.0, Contains-append_left (xs ++ g ∷ []) ps undone.0 undone.1, undone.2, undone.3)
                ];
          }

      module _ (d0 d : Configuration State) (step : IsStep Effect history c g.id d0) (passes : Passes Effect history d0 (ids_of ps) d) where
        -- the calls of the frames lead there
        pub led_there : Led (ids_of ((xs ++ g ∷ []) ++ ps)) d
        led_there =
            subst (λ (l : List CallId). Led l d) (sym (map-append (λ y. y.id) (xs ++ g ∷ []) ps))
            (led_passed (ids_of (xs ++ g ∷ [])) (subst (λ (l : List CallId). Led l d0) (sym (map-append (λ y. y.id) xs (g ∷ []))) (leads_on (ids_of xs) c d0 g.id led_to step)) passes)

        size_there : length d.counts ≡ processes
        size_there = passes_size Effect history passes ∙ ap length step.counts ∙ length-set c.counts g.id.process g.id.number ∙ h.sizes c (contains_at found f.place c at)

        -- the next turn of the frame was tried, and leads by calls that only read to one that is new
        pub pushed : ((id : CallId) (y : Configuration State) (call : Call) (begun : ℕ) → slice_get history begun ≡ Some (Begin id call) → f.next ≤ begun → begun < g.next → IsStep Effect history c id y → IsAnswered Effect history (found ++ d ∷ []) c id y) →
            ¬ IsDone Effect history d → (new : Frame) → new.place ≡ length found → new.next ≡ 0 → IsLimit history d.counts new.limit →
            IsSearch Effect history processes Led start (found ++ d ∷ []) (((xs ++ g ∷ []) ++ ps) ++ new ∷ [])
        pushed covers undone new new_place new_next new_limit = record {
          start_found = Contains-append_left found (d ∷ []) start h.start_found;
          sizes = λ x in_found. elim (Contains-push_cases found d x in_found) [
            | inl old ↦ h.sizes x old
            | inr same ↦ subst (λ (y : Configuration State). length y.counts ≡ processes) same size_there
          ];
          places = λ x there.
              let more = length-append found (d ∷ []) in
              elim (Contains-push_cases ((xs ++ g ∷ []) ++ ps) new x there) [
                | inl old ↦ let lt = places_past x old in omega (arith, lt, more)
                | inr same ↦ let e : new.place ≡ x.place = ap (λ (y : Frame). y.place) same in omega (arith, e, new_place, more)
              ];
          led = led_more (found ++ d ∷ []) ((xs ++ g ∷ []) ++ ps) new (led_grown found d ((xs ++ g ∷ []) ++ ps) led_beyond)
              (λ live. (d, ap (slice_get (found ++ d ∷ [])) new_place ∙ place_here found [] d, led_there, new_limit));
          reached = λ x in_found. elim (Contains-push_cases found d x in_found) [
            | inl old ↦ h.reached x old
            | inr same ↦ (ids_of ((xs ++ g ∷ []) ++ ps), subst (λ (y : Configuration State). Led (ids_of ((xs ++ g ∷ []) ++ ps)) y) same led_there)
          ];
          not_done = λ x in_found. elim (Contains-push_cases found d x in_found) [
            | inl old ↦ h.not_done x old
            | inr same ↦ subst (λ (y : Configuration State). ¬ IsDone Effect history y) same undone
          ];
          next = λ x y id in_found s. elim (Contains-push_cases found d x in_found) [
            | inl old ↦
                elim (h.next x y id old s) [
                  | inl seen ↦ inl (answered_grown found (d ∷ []) x id y seen)
                  | inr still ↦
                      elim (Contains-push_cases xs f still.0 still.1) [
                        | inl below ↦ inr (still.0, in_all still.0 (Contains-append_left xs (g ∷ []) still.0 below) new, place_left found (d ∷ []) still.0.place x still.2, still.3)
                        | inr same ↦
                            let is = top_same x still.0 same still.2 in
                            let top : f.next ≡ still.0.next = ap (λ (z : Frame). z.next) same in
                            let begins = still.3 in
                            let le = begins.behind in
                            elim (cases_lt begins.place g.next) [
                              | inl lt ↦ inl (subst (λ (z : Configuration State). IsAnswered Effect history (found ++ d ∷ []) z id y) is
                                  (covers id y begins.call begins.place begins.at (omega (arith, le, top)) lt (subst (λ (z : Configuration State). IsStep Effect history z id y) (sym is) s)))
                              | inr ge ↦ inr (g, in_all g (Contains-push xs g) new, place_left found (d ∷ []) g.place x (ap (slice_get found) place ∙ at ∙ ap Some is), record { call = begins.call; place = begins.place; at = begins.at; behind = ge })
                            ]
                      ]
                ]
            | inr same ↦ inr (new, Contains-push ((xs ++ g ∷ []) ++ ps) new, ap (slice_get (found ++ d ∷ [])) new_place ∙ place_here found [] d ∙ ap Some same, from_start new new_next id y x s)
          ];
        }
          where
            in_all : (x : Frame) → Contains (xs ++ g ∷ []) x → (new : Frame) → Contains (((xs ++ g ∷ []) ++ ps) ++ new ∷ []) x
            in_all x there new = Contains-append_left ((xs ++ g ∷ []) ++ ps) (new ∷ []) x (Contains-append_left (xs ++ g ∷ []) ps x there)

module _ {M : Type 0} (Effect : ObjectCall → M → M → Reply → Type 0) (history : List (Event ObjectCall Reply)) (processes : ℕ) (rows : Rows) (are : AreRows history processes rows) (opening : M) where
  -- nothing is left to be tried
  pub none_legal : (Led : List CallId → Configuration M → Type 0) (determined : (call : ObjectCall) (before after other : M) (reply answer : Reply) → Effect call before after reply → Effect call before other answer → (after ≡ other) × (reply ≡ answer))
      (found : List (Configuration M)) → IsSearch Effect history processes Led (start_at processes opening) found [] → ¬ HasLegal Effect opening history
  none_legal Led determined found h some =
      let order = some.0 in
      let r = complete Effect history are.whole processes (λ id call begun. (are.every_begun id call begun).0) opening some.1 order some.2 in
      hopeless Effect history are.whole determined found
      (λ c d id in_found s. elim (h.next c d id in_found s) [ inl seen ↦ seen | inr undone ↦ let p = place_of [] undone.0 undone.1 in let e = p.1 in absurd (cc) ])
      h.not_done (length order) (start_at processes opening) h.start_found
      (record { ids = order; last = r.0; path = r.1; done = r.2; size = refl })

  -- there is nothing to be done
  pub empty_legal : IsDone Effect history (start_at processes opening) → IsLegal Effect opening history [] opening
  empty_legal done = sound Effect history (none {c = (start_at processes opening)}) (none_taken processes) done
