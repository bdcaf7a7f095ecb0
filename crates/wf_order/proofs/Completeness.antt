-- The calls of each legal order are the calls of steps.
use Rattle.std.proofs.Common.{◌≡◌, refl, sym, ap, ◌∙◌, subst, ℕ, ◌+◌, ◌<◌, zero, suc, List, [], ◌∷◌, ◌++◌, length, get_or, set, replicate, Some, arith, inl, inr, append_assoc, length-set}
use Rattle.std.proofs.lemmas.List.{append-nil, length-replicate}
use Rattle.std.proofs.lemmas.List.Elements.{Contains-append_left, Contains-append_cases, Contains-push, Contains-push_cases}
use Rattle.std.proofs.lemmas.Option.{same_Some, slice_get_within}
use Rattle.std.proofs.lemmas.Bool.{cases_eq, cases_lt}
use Rattle.std.specs.List.{slice_get, Contains}
use Rattle.wf_history.specs.declared.event.CallId.{CallId}
use Rattle.wf_history.specs.History.{Event, Begin, End, Before, before, IsHistory}
use Rattle.wf_history.specs.Legal.{NoRepeats, HasBegun, OneAtATime, RepliesAgree, IsLegal}
use Rattle.wf_history.specs.Legal as legal
use Rattle.wf_history.proofs.Positions.{place_of, contains_at, place_here, place_left, split_at, one_place}
use Rattle.wf_order.specs.Steps.{Configuration, IsTaken, IsStep, Leads, none, more, IsDone}
use Rattle.wf_lookup.proofs.Turns.{begin_number, before_numbers, numbers_before, has_begun}
use Rattle.wf_order.proofs.Soundness.{taken_more, taken_now, taken_back}

module _ {Call Reply : Type 0} (history : List (Event Call Reply)) where
  pub ends_before : {a b : CallId} → Before history a b → (reply : Reply) × Contains history (End a reply)
  ends_before (before {a} reply call first between last h) =
      (reply, contains_at history (length first) (End a reply) (ap (λ (l : List (Event Call Reply)). slice_get l (length first)) h ∙ place_here first (between ++ Begin _ call ∷ last) (End a reply)))

  module _ (whole : IsHistory history) where
    split_of : (id : CallId) (call : Call) → HasBegun history id call → (pre : List (Event Call Reply)) × (rest : List (Event Call Reply)) × (history ≡ pre ++ Begin id call ∷ rest)
    split_of id call h =
        let k = place_of history (Begin id call) h in
        let s = split_at history k.0 (Begin id call) k.1 in
        (s.0, s.1, s.2)

    -- no call is before itself
    not_before_itself : (id : CallId) (call : Call) → HasBegun history id call → Before history id id → ⊥
    not_before_itself id call h bef =
        let s = split_of id call h in
        let n = begin_number history whole s.0 s.1 id call s.2 in
        let b = before_numbers history whole id id call s.0 s.1 s.2 bef in
        omega (arith, n.1, b.1)

    -- the calls of a process stand one behind the other
    pub before_own : (id : CallId) (call : Call) (k : ℕ) → HasBegun history id call → 0 < k → k < id.number → Before history (record { process = id.process; number = k }) id
    before_own id call k h positive less =
        let s = split_of id call h in
        let n = begin_number history whole s.0 s.1 id call s.2 in
        numbers_before history whole (record { process = id.process; number = k }) id call s.0 s.1 s.2 positive (omega (arith, n.1))

-- the calls of an order from a place on
module _ {State Call Reply : Type 0} (Effect : Call → State → State → Reply → Type 0) (history : List (Event Call Reply)) (whole : IsHistory history)
    (processes : ℕ) (few : (id : CallId) (call : Call) → HasBegun history id call → id.process < processes)
    (order : List CallId) (once : NoRepeats order)
    (ended : (id : CallId) (reply : Reply) → Contains history (End id reply) → Contains order id)
    (in_time : (first second third : List CallId) (a b : CallId) → order ≡ first ++ a ∷ (second ++ b ∷ third) → ¬ Before history b a) where
  not_before : (first ids : List CallId) (id : CallId) → order ≡ first ++ id ∷ ids → Contains first id → ⊥
  not_before first ids id h c =
      let p = place_of first id c in
      let at : slice_get order p.0 ≡ Some id = ap (λ (l : List CallId). slice_get l p.0) h ∙ place_left first (id ∷ ids) p.0 id p.1 in
      let here : slice_get order (length first) ≡ Some id = ap (λ (l : List CallId). slice_get l (length first)) h ∙ place_here first ids id in
      one_place order p.0 (length first) id once (slice_get_within first p.0 id p.1) at here

  -- what ended before a call of the order began stands before it
  stands_before : (first ids : List CallId) (id : CallId) (call : Call) → HasBegun history id call → order ≡ first ++ id ∷ ids → (a : CallId) → Before history a id → Contains first a
  stands_before first ids id call begun h a bef =
      let e = ends_before history bef in
      let listed = subst (λ (l : List CallId). Contains l a) h (ended a e.0 e.1) in
      elim (Contains-append_cases first (id ∷ ids) a listed) [
        | inl c ↦ c
        | inr c ↦ elim (Contains-append_cases (id ∷ []) ids a c) [
          | inl only ↦
              let p = place_of (id ∷ []) a only in
              let same : id ≡ a = one_of_one id a p.0 p.1 in
              absurd (not_before_itself history whole id call begun (subst (λ (i : CallId). Before history i id) (sym same) bef))
          | inr later ↦
              let p = place_of ids a later in
              let s = split_at ids p.0 a p.1 in
              absurd (in_time first s.0 s.1 id a (h ∙ ap (λ (l : List CallId). first ++ id ∷ l) s.2) bef)
        ]
      ]
    where
      one_of_one : (x y : CallId) (k : ℕ) → slice_get (x ∷ []) k ≡ Some y → x ≡ y
      one_of_one x y zero e = same_Some x y e
      one_of_one x y (suc k) e = absurd (cc)

  -- the configuration's calls are those of the front
  pub record AreFront (counts : List ℕ) (first : List CallId) : Type 0 where
    pub taken : (a : CallId) → IsTaken counts a → Contains first a
    pub all : (a : CallId) → Contains first a → IsTaken counts a

  next_number : (counts : List ℕ) (first ids : List CallId) (id : CallId) (call : Call) → HasBegun history id call → order ≡ first ++ id ∷ ids → AreFront counts first → id.number ≡ get_or counts id.process 0 + 1
  next_number counts first ids id call begun h front =
      let positive = (has_begun history whole id call begun).0 in
      let above : get_or counts id.process 0 < id.number =
      elim (cases_lt (get_or counts id.process 0) id.number) [
        | inl lt ↦ lt
        | inr le ↦ absurd (not_before first ids id h (front.taken id (positive, le)))
      ] in
      elim (cases_eq id.number (get_or counts id.process 0 + 1)) [
        | inl e ↦ e
        | inr ne ↦
            let k = get_or counts id.process 0 + 1 in
            let bef = before_own history whole id call k begun (omega arith) (omega arith) in
            let t = front.all (record { process = id.process; number = k }) (stands_before first ids id call begun h (record { process = id.process; number = k }) bef) in
            absurd (omega (arith, t.1))
      ]

  steps_along : (rest : List CallId) {s last : State} {replies : List Reply} (first : List CallId) (counts : List ℕ) → order ≡ first ++ rest → length counts ≡ processes → AreFront counts first →
      OneAtATime (HasBegun history) Effect s rest replies last → RepliesAgree history rest replies →
      (e : Configuration State) × Leads Effect history (record { counts = counts; state = s }) rest e × (e.state ≡ last) × AreFront e.counts order
  steps_along [] {s} first counts h size front legal.OneAtATime.none agree =
      (record { counts = counts; state = s }, none, refl, subst (λ (l : List CallId). AreFront counts l) (sym (h ∙ append-nil first)) front)
  steps_along (id ∷ ids) {s} {last} first counts h size front (legal.OneAtATime.more {between} {call} {answer} begun effect tail) (legal.RepliesAgree.more agrees agree) =
      let number = next_number counts first ids id call begun h front in
      let within : id.process < length counts = let f = few id call begun in omega arith in
      let step : IsStep Effect history (record { counts = counts; state = s }) id (record { counts = set counts id.process id.number; state = between }) =
      record {
        call = call;
        begun = begun;
        process = within;
        number = number;
        earlier = λ a bef. front.all a (stands_before first ids id call begun h a bef);
        reply = answer;
        effect = effect;
        agrees = agrees;
        counts = refl;
      } in
      let h' : order ≡ (first ++ id ∷ []) ++ ids = h ∙ sym (append_assoc first (id ∷ []) ids) in
      let front' : AreFront (set counts id.process id.number) (first ++ id ∷ []) =
      record {
        taken = λ a t. elim (taken_back counts id within number a t) [
          | inl old ↦ Contains-append_left first (id ∷ []) a (front.taken a old)
          | inr same ↦ subst (λ (i : CallId). Contains (first ++ id ∷ []) i) same (Contains-push first id)
        ];
        all = λ a c. elim (Contains-push_cases first id a c) [
          | inl old ↦ taken_more counts id within number a (front.all a old)
          | inr same ↦ subst (λ (i : CallId). IsTaken (set counts id.process id.number) i) same (taken_now counts id within number)
        ];
      } in
      let r = steps_along ids (first ++ id ∷ []) (set counts id.process id.number) h' (length-set counts id.process id.number ∙ size) front' tail agree in
      (r.0, more step r.1, r.2, r.3)

-- no call is taken
pub none_taken : (n : ℕ) (a : CallId) → IsTaken (replicate n 0) a → ⊥
none_taken n a h = let z = zeros n a.process in omega (arith, h.0, h.1, z)
  where
    zeros : (n k : ℕ) → ◌≡◌ {A = ℕ} (get_or (replicate n 0) k 0) 0
    zeros zero k = refl
    zeros (suc n) zero = refl
    zeros (suc n) (suc k) = zeros n k

pub complete : {State Call Reply : Type 0} (Effect : Call → State → State → Reply → Type 0) (history : List (Event Call Reply)) (whole : IsHistory history)
    (processes : ℕ) (few : (id : CallId) (call : Call) → HasBegun history id call → id.process < processes) (opening last : State) (order : List CallId) →
    IsLegal Effect opening history order last →
    (e : Configuration State) × Leads Effect history (record { counts = replicate processes 0; state = opening }) order e × IsDone Effect history e
complete Effect history whole processes few opening last order h =
    let r = steps_along Effect history whole processes few order h.once h.ended h.in_time order [] (replicate processes 0) refl (length-replicate processes 0)
    (record { taken = λ a t. absurd (none_taken processes a t); all = λ a c. let p = place_of [] a c in let e = p.1 in absurd (cc) }) h.made h.agree in
    (r.0, r.1, λ id reply ended. r.3.all id (h.ended id reply ended))
