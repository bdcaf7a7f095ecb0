-- The events of a part, with one event more of the history.
use Rattle.std.proofs.Common.{◌≡◌, ◌∙◌, refl, sym, ap, subst, ℕ, ◌-◌, ◌<◌, ◌≤◌, zero, suc, List, [], ◌∷◌, ◌++◌, length, get_or, Some, arith, ◌⊎◌, inl, inr, ap₂, append-nil, length-append}
use Rattle.std.proofs.lemmas.Bool.{cases_eq}
use Rattle.std.specs.List.{Contains}
use Rattle.ob_interface.specs.Call.{ObjectCall, Reply}
use Rattle.ob_interface.specs.declared.scalar.Scalar.{Scalar}
use Rattle.ob_interface.specs.declared.scalar.Scalar.TheVariants.{Int, Bool as Truth}
use Rattle.std.specs.Prelude.{pos, negsuc, true, false}
use Rattle.wf_history.proofs.Once.{one_call}
use Rattle.wf_history.proofs.Positions.{contains_at, place_of, same_call}
use Rattle.wf_history.specs.declared.event.CallId.{CallId}
use Rattle.wf_history.specs.History.{Event, Begin, Applied, End, IsHistory}
use Rattle.wf_order.specs.Rows.{row_of}
use Rattle.wf_parts.specs.Label.{label_of}
use Rattle.wf_parts.specs.Numbering.{HasNumber, IsNumbered, whole_event, whole_events, whole_id}
use Rattle.wf_parts.specs.Parts.{ArePicked, BringValues, Events, IsOwn, IsWith, argument_at, none, own, other, quiet, known, new}
use Rattle.wf_parts.specs.Split.{AreLonger}

-- scalars with the same number are the same
pub same_label : (s t : Scalar) → label_of s ≡ label_of t → s ≡ t
same_label (Int (pos n)) (Int (pos m)) h = ap (λ (k : ℕ). Int (pos k)) (omega (arith, h))
same_label (Int (pos n)) (Int (negsuc m)) h = absurd (omega (arith, h))
same_label (Int (pos n)) (Truth true) h = absurd (omega (arith, h))
same_label (Int (pos n)) (Truth false) h = absurd (omega (arith, h))
same_label (Int (negsuc n)) (Int (pos m)) h = absurd (omega (arith, h))
same_label (Int (negsuc n)) (Int (negsuc m)) h = ap (λ (k : ℕ). Int (negsuc k)) (omega (arith, h))
same_label (Int (negsuc n)) (Truth true) h = absurd (omega (arith, h))
same_label (Int (negsuc n)) (Truth false) h = absurd (omega (arith, h))
same_label (Truth true) (Int (pos m)) h = absurd (omega (arith, h))
same_label (Truth true) (Int (negsuc m)) h = absurd (omega (arith, h))
same_label (Truth true) (Truth true) h = refl
same_label (Truth true) (Truth false) h = absurd (omega (arith, h))
same_label (Truth false) (Int (pos m)) h = absurd (omega (arith, h))
same_label (Truth false) (Int (negsuc m)) h = absurd (omega (arith, h))
same_label (Truth false) (Truth true) h = absurd (omega (arith, h))
same_label (Truth false) (Truth false) h = refl

-- one event more
module _ (all : Events) (by : ℕ) (value : Scalar) where
  pub picked_own : (es part : Events) (e : Event ObjectCall Reply) → IsOwn all by value e → ArePicked all by value es part → ArePicked all by value (es ++ e ∷ []) (part ++ e ∷ [])
  picked_own es part e is none = own is none
  picked_own es part e is (own {es = rest} {part = more} first picked) = own first (picked_own rest more e is picked)
  picked_own es part e is (other {es = rest} {part = more} first picked) = other first (picked_own rest more e is picked)

  pub picked_other : (es part : Events) (e : Event ObjectCall Reply) → ¬ IsOwn all by value e → ArePicked all by value es part → ArePicked all by value (es ++ e ∷ []) part
  picked_other es part e is none = other is none
  picked_other es part e is (own {es = rest} {part = more} first picked) = own first (picked_other rest more e is picked)
  picked_other es part e is (other {es = rest} {part = more} first picked) = other first (picked_other rest more e is picked)

-- a call has one value
pub one_value : (all : Events) (by : ℕ) (v w : Scalar) (id : CallId) → IsHistory all → IsWith all by v id → IsWith all by w id → v ≡ w
one_value all by v w id whole h g =
    let call = one_call all whole id h.call g.call h.begun g.begun in
    let same = sym h.argument ∙ ap (argument_at by) call ∙ g.argument in
    cc

-- one event more, and the values
module _ (by : ℕ) where
  pub values_quiet : (vs ws : List Scalar) (es : Events) (e : Event ObjectCall Reply) → ((id : CallId) (call : ObjectCall) → e ≡ Begin id call → ⊥) → BringValues by vs es ws → BringValues by vs (es ++ e ∷ []) ws
  values_quiet vs ws es e is none = quiet is none
  values_quiet vs ws es e is (quiet {es = rest} first more) = quiet first (values_quiet vs ws rest e is more)
  values_quiet vs ws es e is (known {es = rest} v at there more) = known v at there (values_quiet vs ws rest e is more)
  values_quiet vs ws es e is (new {es = rest} v at there more) = new v at there (values_quiet (vs ++ v ∷ []) ws rest e is more)

  pub values_known : (vs ws : List Scalar) (es : Events) (id : CallId) (call : ObjectCall) (v : Scalar) → argument_at by call ≡ Some v → Contains ws v → BringValues by vs es ws →
      BringValues by vs (es ++ Begin id call ∷ []) ws
  values_known vs ws es id call v at there none = known v at there none
  values_known vs ws es id call v at there (quiet {es = rest} first more) = quiet first (values_known vs ws rest id call v at there more)
  values_known vs ws es id call v at there (known {es = rest} w of here more) = known w of here (values_known vs ws rest id call v at there more)
  values_known vs ws es id call v at there (new {es = rest} w of here more) = new w of here (values_known (vs ++ w ∷ []) ws rest id call v at there more)

  pub values_new : (vs ws : List Scalar) (es : Events) (id : CallId) (call : ObjectCall) (v : Scalar) → argument_at by call ≡ Some v → ¬ Contains ws v → BringValues by vs es ws →
      BringValues by vs (es ++ Begin id call ∷ []) (ws ++ v ∷ [])
  values_new vs ws es id call v at there none = new v at there none
  values_new vs ws es id call v at there (quiet {es = rest} first more) = quiet first (values_new vs ws rest id call v at there more)
  values_new vs ws es id call v at there (known {es = rest} w of here more) = known w of here (values_new vs ws rest id call v at there more)
  values_new vs ws es id call v at there (new {es = rest} w of here more) = new w of here (values_new (vs ++ w ∷ []) ws rest id call v at there more)

-- rows with a number more name the calls so far as before

get_left : (xs ys : List ℕ) (k : ℕ) → k < length xs → get_or (xs ++ ys) k 0 ≡ get_or xs k 0
get_left [] ys k lt = absurd (omega (arith, lt))
get_left (x ∷ xs) ys zero lt = refl
get_left (x ∷ xs) ys (suc k) lt = get_left xs ys k (omega (arith, lt))

module _ (old new : List (List ℕ)) (id : CallId) (longer : AreLonger old new id) where
  -- each row is the old one or goes on with a number
  pub row_more : (q : ℕ) → (more : List ℕ) × (row_of new q ≡ row_of old q ++ more)
  row_more q = by_process (cases_eq q id.process)
    where
      by_process : (q ≡ id.process) ⊎ (q ≡ id.process → ⊥) → (more : List ℕ) × (row_of new q ≡ row_of old q ++ more)
      by_process (inl same) = (id.number ∷ [], subst (λ (p : ℕ). row_of new p ≡ row_of old p ++ id.number ∷ []) (sym same) longer.own)
      by_process (inr apart) = ([], longer.others q apart ∙ sym (append-nil (row_of old q)))

  same_id : (i : CallId) → HasNumber old i → whole_id new i ≡ whole_id old i
  same_id i h =
      let more = row_more i.process in
      let low = h.0 in
      let high = h.1 in
      same_call (whole_id new i) (whole_id old i) refl
      (ap (λ (row : List ℕ). get_or row (i.number - 1) 0) more.1 ∙ get_left (row_of old i.process) more.0 (i.number - 1) (omega (arith, low, high)))

  same_event : (e : Event ObjectCall Reply) → IsNumbered old e → whole_event new e ≡ whole_event old e
  same_event (Begin i call) h = ap (λ (x : CallId). Begin x call) (same_id i h)
  same_event (Applied ids) h = refl
  same_event (End i reply) h = ap (λ (x : CallId). End x reply) (same_id i h)

  pub same_whole : (es : Events) → ((e : Event ObjectCall Reply) → Contains es e → IsNumbered old e) → whole_events new es ≡ whole_events old es
  same_whole [] h = refl
  same_whole (e ∷ es) h =
      ap₂ (λ (x : Event ObjectCall Reply) (xs : Events). x ∷ xs) (same_event e (h e (contains_at (e ∷ es) 0 e refl)))
      (same_whole es (λ x c. let p = place_of es x c in h x (contains_at (e ∷ es) (suc p.0) x p.1)))

  length_more : (q : ℕ) → length (row_of old q) ≤ length (row_of new q)
  length_more q =
      let more = row_more q in
      let size = ap length more.1 ∙ length-append (row_of old q) more.0 in
      omega (arith, size)

  has_more : (i : CallId) → HasNumber old i → HasNumber new i
  has_more i h = let high = h.1 in let more = length_more i.process in (h.0, omega (arith, high, more))

  pub numbered_more : (e : Event ObjectCall Reply) → IsNumbered old e → IsNumbered new e
  numbered_more (Begin i call) h = has_more i h
  numbered_more (Applied ids) h = tt
  numbered_more (End i reply) h = has_more i h
