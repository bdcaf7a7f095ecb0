-- Legal orders of the beginnings of a history.
use Rattle.std.proofs.Common.{◌≡◌, sym, ap, ◌∙◌, subst, ℕ, ◌+◌, ◌<◌, suc, List, [], ◌∷◌, ◌++◌, length, take, drop, Some, arith, inl, inr, append_assoc}
use Rattle.std.proofs.lemmas.List.{take-append-drop}
use Rattle.std.proofs.lemmas.Option.{slice_get_within}
use Rattle.std.proofs.lemmas.List.Elements.{Contains-append_left, Contains-append_cases, Contains-push_cases}
use Rattle.std.specs.List.{slice_get, Contains}
use Rattle.ob_interface.specs.Call.{ObjectCall, Reply}
use Rattle.wf_history.specs.declared.event.CallId.{CallId}
use Rattle.wf_history.specs.History.{Event, Begin, Applied, End, IsHistory, Before, before}
use Rattle.wf_history.specs.Legal.{HasBegun}
use Rattle.wf_history.proofs.Positions.{place_of, place_left, place_push, place_behind, place_take, contains_at, take_next}
use Rattle.wf_history.proofs.Once.{one_begin}
use Rattle.wf_lookup.specs.Beginnings.{AreOfProcesses}
use Rattle.wf_order.specs.Steps.{Configuration, IsLimit, IsStep, Leads, none, more, IsDone, start_at}
use Rattle.wf_order.specs.Verdict.{HasLegal, IsLastLegal}
use Rattle.wf_order.proofs.Completeness.{complete, none_taken}
use Rattle.wf_order.proofs.Places.{before_at, places_before}
use Rattle.wf_order.proofs.Soundness.{sound}
use Rattle.wf_lookup.proofs.Turns.{front_whole, take_whole, slice_get_some}

module _ {State Call Reply : Type 0} (Effect : Call → State → State → Reply → Type 0) where
  module _ (xs ys : List (Event Call Reply)) where
    before_front : {a b : CallId} → Before xs a b → Before (xs ++ ys) a b
    before_front (before {a} {b} reply call first between last h) =
        before reply call first between (last ++ ys)
        (ap (λ (l : List (Event Call Reply)). l ++ ys) h ∙ append_assoc first (End a reply ∷ (between ++ Begin b call ∷ last)) ys
        ∙ ap (λ (l : List (Event Call Reply)). first ++ End a reply ∷ l) (append_assoc between (Begin b call ∷ last) ys))

    -- what ended in the front is before what begins behind it
    before_across : (a b : CallId) (reply : Reply) (call : Call) → Contains xs (End a reply) → Contains ys (Begin b call) → Before (xs ++ ys) a b
    before_across a b reply call h g =
        let i = place_of xs (End a reply) h in
        let j = place_of ys (Begin b call) g in
        let lt = slice_get_within xs i.0 (End a reply) i.1 in
        before_at (xs ++ ys) a b reply call i.0 (length xs + j.0) (omega (arith, lt)) (place_left xs ys i.0 (End a reply) i.1) (place_behind xs ys j.0 ∙ j.1)

    -- steps of a history, as far as the calls have begun in the front, are steps of the front, and lead as far as is to be
    steps_front : {c e : Configuration State} {ids : List CallId} → Leads Effect (xs ++ ys) c ids e → IsDone Effect xs e →
        (front : List CallId) × (d : Configuration State) × Leads Effect xs c front d × IsDone Effect xs d
    steps_front (none {c}) done = ([], c, none, done)
    steps_front (more {c} {d} {e} {id} {ids} s l) done =
        elim (Contains-append_cases xs ys (Begin id s.call) s.begun) [
          | inl early ↦
              let r = steps_front l done in
              let step : IsStep Effect xs c id d =
              record {
                call = s.call;
                begun = early;
                process = s.process;
                number = s.number;
                earlier = λ a bef. s.earlier a (before_front bef);
                reply = s.reply;
                effect = s.effect;
                agrees = λ other ended. s.agrees other (Contains-append_left xs ys (End id other) ended);
                counts = s.counts;
              } in
              (id ∷ r.0, r.1, more step r.2, r.3)
          | inr late ↦ ([], c, none, λ a reply ended. s.earlier a (before_across a id reply s.call ended late))
        ]

    -- Law: where a history has a legal order, so has each of its beginnings.
    pub legal_front : (whole : IsHistory (xs ++ ys)) (processes : ℕ) (few : (id : CallId) (call : Call) → HasBegun (xs ++ ys) id call → id.process < processes) (opening : State) →
        HasLegal Effect opening (xs ++ ys) → HasLegal Effect opening xs
    legal_front whole processes few opening h =
        let r = complete Effect (xs ++ ys) whole processes few opening h.1 h.0 h.2 in
        let f = steps_front r.1 (λ id reply ended. r.2 id reply (Contains-append_left xs ys (End id reply) ended)) in
        (f.0, f.1.state, sound Effect xs f.2 (none_taken processes) f.3)

  -- what all that ends before a place leads to is a legal order of the events before it
  pub legal_before : (history : List (Event Call Reply)) (processes : ℕ) (opening : State) (ids : List CallId) (c : Configuration State) (limit : ℕ) →
      Leads Effect history (start_at processes opening) ids c → IsLimit history c.counts limit → HasLegal Effect opening (take limit history)
  legal_before history processes opening ids c limit l is =
      let parts = take-append-drop limit history in
      let all = subst (λ (es : List (Event Call Reply)). Leads Effect es (start_at processes opening) ids c) (sym parts) l in
      let done : IsDone Effect (take limit history) c = λ id reply ended.
      let k = place_of (take limit history) (End id reply) ended in
      let p = place_take limit history k.0 (End id reply) k.1 in
      is.taken id reply k.0 p.0 p.1 in
      let f = steps_front (take limit history) (drop limit history) all done in
      (f.0, f.1.state, sound Effect (take limit history) f.2 (none_taken processes) f.3)

  -- where one more event is no end, steps stay steps
  module _ (xs : List (Event Call Reply)) (event : Event Call Reply) (whole : IsHistory (xs ++ event ∷ [])) (no_end : (id : CallId) (reply : Reply) → event ≡ End id reply → ⊥) where
    end_kept : (id : CallId) (reply : Reply) → Contains (xs ++ event ∷ []) (End id reply) → Contains xs (End id reply)
    end_kept id reply h = elim (Contains-push_cases xs event (End id reply) h) [ inl old ↦ old | inr same ↦ absurd (no_end id reply same) ]

    before_kept : (a b : CallId) (call : Call) → HasBegun xs b call → Before (xs ++ event ∷ []) a b → Before xs a b
    before_kept a b call begun bef =
        let p = places_before (xs ++ event ∷ []) bef in
        let k = place_of xs (Begin b call) begun in
        let same = one_begin (xs ++ event ∷ []) whole b p.3 k.0 p.1 call p.6 (place_left xs (event ∷ []) k.0 (Begin b call) k.1) in
        elim (place_push xs event p.2 (End a p.0) p.5) [
          | inl old ↦ let lt = p.4 in before_at xs a b p.0 call p.2 k.0 (omega (arith, lt, same)) old k.1
          | inr last ↦ absurd (no_end a p.0 last.1)
        ]

    steps_kept : {c e : Configuration State} {ids : List CallId} → Leads Effect xs c ids e → Leads Effect (xs ++ event ∷ []) c ids e
    steps_kept none = none
    steps_kept (more {c} {d} {e} {id} {ids} s l) =
        more
        (record {
          call = s.call;
          begun = Contains-append_left xs (event ∷ []) (Begin id s.call) s.begun;
          process = s.process;
          number = s.number;
          earlier = λ a bef. s.earlier a (before_kept a id s.call s.begun bef);
          reply = s.reply;
          effect = s.effect;
          agrees = λ other ended. s.agrees other (end_kept id other ended);
          counts = s.counts;
        })
        (steps_kept l)

    -- Law: an event that is no end takes no legal order away.
    pub legal_kept : (processes : ℕ) (few : (id : CallId) (call : Call) → HasBegun xs id call → id.process < processes) (opening : State) → HasLegal Effect opening xs → HasLegal Effect opening (xs ++ event ∷ [])
    legal_kept processes few opening h =
        let r = complete Effect xs (front_whole xs (event ∷ []) whole) processes few opening h.1 h.0 h.2 in
        (h.0, r.0.state, sound Effect (xs ++ event ∷ []) (steps_kept r.1) (none_taken processes) (λ id reply ended. r.2 id reply (end_kept id reply ended)))

module _ {M : Type 0} (Effect : ObjectCall → M → M → Reply → Type 0) (history : List (Event ObjectCall Reply)) (whole : IsHistory history)
    (processes : ℕ) (few : AreOfProcesses processes history) (opening : M) where
  begun_few : (id : CallId) (call : ObjectCall) → HasBegun history id call → id.process < processes
  begun_few id call h = few (Begin id call) h

  pub taken_few : (n : ℕ) → AreOfProcesses processes (take n history)
  taken_few n event h =
      let k = place_of (take n history) event h in
      let at = place_take n history k.0 event k.1 in
      few event (contains_at history k.0 event at.0)

  -- where all the events have a legal order, so have the first ones
  pub legal_taken : (n : ℕ) → HasLegal Effect opening history → HasLegal Effect opening (take n history)
  legal_taken n h =
      legal_front Effect (take n history) (drop n history) (subst (λ (l : List (Event ObjectCall Reply)). IsHistory l) (sym (take-append-drop n history)) whole) processes
      (λ id call begun. begun_few id call (subst (λ (l : List (Event ObjectCall Reply)). HasBegun l id call) (take-append-drop n history) begun)) opening
      (subst (λ (l : List (Event ObjectCall Reply)). HasLegal Effect opening l) (sym (take-append-drop n history)) h)

  -- the event with which a beginning ceases to have one is an end
  pub last_legal_is : (n : ℕ) → n < length history → HasLegal Effect opening (take n history) → ¬ HasLegal Effect opening (take (n + 1) history) → IsLastLegal Effect opening history n
  last_legal_is n lt legal gone =
      let found = slice_get_some history n lt in
      let one_more : n + 1 ≡ suc n = omega arith in
      let next : take (n + 1) history ≡ take n history ++ found.0 ∷ [] = ap (λ (k : ℕ). take k history) one_more ∙ take_next history n found.0 found.1 in
      by found.0 found.1 next
    where
      kept : (event : Event ObjectCall Reply) → take (n + 1) history ≡ take n history ++ event ∷ [] → ((id : CallId) (reply : Reply) → event ≡ End id reply → ⊥) → ⊥
      kept event next no_end =
          gone (subst (λ (l : List (Event ObjectCall Reply)). HasLegal Effect opening l) (sym next)
          (legal_kept Effect (take n history) event (subst (λ (l : List (Event ObjectCall Reply)). IsHistory l) next (take_whole (n + 1) history whole)) no_end processes
          (λ id call begun. taken_few n (Begin id call) begun) opening legal))

      by : (event : Event ObjectCall Reply) → slice_get history n ≡ Some event → take (n + 1) history ≡ take n history ++ event ∷ [] → IsLastLegal Effect opening history n
      by (Begin id call) at next = absurd (kept (Begin id call) next (λ i r e. cc))
      by (Applied ids) at next = absurd (kept (Applied ids) next (λ i r e. cc))
      by (End id reply) at next = record { id = id; reply = reply; end = at; legal = legal; none = gone }

-- no events have a legal order
pub nothing_legal : {M : Type 0} (Effect : ObjectCall → M → M → Reply → Type 0) (opening : M) → HasLegal Effect opening []
nothing_legal Effect opening = ([], opening, sound Effect [] (none {c = start_at 0 opening}) (none_taken 0) (λ id reply h. let p = place_of [] (End id reply) h in let e = p.1 in absurd (cc)))
