-- Places of calls and sets of calls, one event or one id more.
use Rattle.std.proofs.Common.{◌≡◌, refl, sym, ap, ◌∙◌, subst, ℕ, ◌+◌, ◌<◌, ◌≤◌, Bool, true, false, not, cond, ◌↔◌, List, [], ◌∷◌, ◌++◌, length, get_or, map, take, option_map, Option, Some, None, arith, ◌⊎◌, inl, inr, eq-eqb, add-one}
use Rattle.std.proofs.lemmas.Bool.{cases_eq, cases_lt, ne_eqb}
use Rattle.std.proofs.lemmas.List.Elements.{Contains-push, Contains-push_cases, Contains-append_left}
use Rattle.std.proofs.lemmas.Option.{slice_get_within, slice_get-map, slice_get_read, MatchOption-at_none, MatchOption-at_some}
use Rattle.std.specs.Prelude.{slice_get, IsTrue, Contains, ◌&&◌, nat_eq}
use Rattle.wf_history.specs.declared.event.CallId.{CallId}
use Rattle.ob_object_run.specs.declared.event_places.Placed.{Placed}
use Rattle.ob_object_run.specs.declared.event_places.Places.{Places}
use Rattle.ob_object_run.specs.PlacedCalls.{place_in, placed_all, placed_at}
use Rattle.wf_history.specs.History.{Event, Begin, Applied, End}
use Rattle.wf_history.specs.Legal.{HasBegun}
use Rattle.ob_object_run.specs.OrderFaults.{IsUnknown, IsNowhere}
use Rattle.ob_object_run.specs.Places.{same_id, begin_noted, end_noted, BeginsAt, EndsAt, IsPlaceOf, IsPlaced, ArePlaced, ArePlaces}
use Rattle.wf_history.proofs.Positions.{place_push, place_left, place_here, place_of, contains_at, same_call, one_item, take_next}

-- the test of two names says whether they are of one call
pub is_same_id : (a b : CallId) → ((same_id a b ≡ true) × (a ≡ b)) ⊎ ((same_id a b ≡ false) × (a ≡ b → ⊥))
is_same_id a b =
    elim (cases_eq a.process b.process) [
      | inl e ↦ elim (cases_eq a.number b.number) [
        | inl f ↦ inl (ap (λ (x : Bool). x && nat_eq a.number b.number) (eq-eqb a.process b.process e) ∙ eq-eqb a.number b.number f, same_call a b e f)
        | inr ne ↦ inr (ap (λ (x : Bool). x && nat_eq a.number b.number) (eq-eqb a.process b.process e) ∙ ne_eqb a.number b.number ne, λ same. ne (ap (λ (c : CallId). c.number) same))
      ]
      | inr ne ↦ inr (ap (λ (x : Bool). x && nat_eq a.number b.number) (ne_eqb a.process b.process ne), λ same. ne (ap (λ (c : CallId). c.process) same))
    ]

place_kept : (Fact More : ℕ → Type 0) (o : Option ℕ) → ((k : ℕ) → Fact k → More k) → ((k : ℕ) → More k → Fact k) → IsPlaceOf Fact o → IsPlaceOf More o
place_kept Fact More None up down h = λ k f. h k (down k f)
place_kept Fact More (Some k) up down h = up k h

module _ {Call Reply : Type 0} (history : List (Event Call Reply)) (event : Event Call Reply) where
  begin_kept : (id : CallId) (o : Option ℕ) → ((call : Call) → event ≡ Begin id call → ⊥) → IsPlaceOf (BeginsAt history id) o → IsPlaceOf (BeginsAt (history ++ event ∷ []) id) o
  begin_kept id o other h =
      place_kept (BeginsAt history id) (BeginsAt (history ++ event ∷ []) id) o
      (λ k b. (b.0, place_left history (event ∷ []) k (Begin id b.0) b.1))
      (λ k b. elim (place_push history event k (Begin id b.0) b.1) [ inl at ↦ (b.0, at) | inr last ↦ absurd (other b.0 last.1) ])
      h

  end_kept : (id : CallId) (o : Option ℕ) → ((reply : Reply) → event ≡ End id reply → ⊥) → IsPlaceOf (EndsAt history id) o → IsPlaceOf (EndsAt (history ++ event ∷ []) id) o
  end_kept id o other h =
      place_kept (EndsAt history id) (EndsAt (history ++ event ∷ []) id) o
      (λ k b. (b.0, place_left history (event ∷ []) k (End id b.0) b.1))
      (λ k b. elim (place_push history event k (End id b.0) b.1) [ inl at ↦ (b.0, at) | inr last ↦ absurd (other b.0 last.1) ])
      h

module _ {Call Reply : Type 0} (history : List (Event Call Reply)) where
  begin_more : (event : Event Call Reply) (id : CallId) (o : Option ℕ) → IsPlaceOf (BeginsAt history id) o → IsPlaceOf (BeginsAt (history ++ event ∷ []) id) (begin_noted (length history) event id o)
  begin_more (Begin b call) id o h =
      elim (is_same_id b id) [
        | inl same ↦ subst (λ (x : Bool). IsPlaceOf (BeginsAt (history ++ Begin b call ∷ []) id) (cond x (Some (length history)) o)) (sym same.0)
            (call, place_here history [] (Begin b call) ∙ ap (λ (i : CallId). Some (Begin i call)) same.1)
        | inr other ↦ subst (λ (x : Bool). IsPlaceOf (BeginsAt (history ++ Begin b call ∷ []) id) (cond x (Some (length history)) o)) (sym other.0)
            (begin_kept history (Begin b call) id o (λ c e. let ids : b ≡ id = cc in other.1 ids) h)
      ]
  begin_more (Applied ids) id o h = begin_kept history (Applied ids) id o (λ c e. absurd (cc)) h
  begin_more (End b reply) id o h = begin_kept history (End b reply) id o (λ c e. absurd (cc)) h

  end_more : (event : Event Call Reply) (id : CallId) (o : Option ℕ) → IsPlaceOf (EndsAt history id) o → IsPlaceOf (EndsAt (history ++ event ∷ []) id) (end_noted (length history) event id o)
  end_more (End b reply) id o h =
      elim (is_same_id b id) [
        | inl same ↦ subst (λ (x : Bool). IsPlaceOf (EndsAt (history ++ End b reply ∷ []) id) (cond x (Some (length history)) o)) (sym same.0)
            (reply, place_here history [] (End b reply) ∙ ap (λ (i : CallId). Some (End i reply)) same.1)
        | inr other ↦ subst (λ (x : Bool). IsPlaceOf (EndsAt (history ++ End b reply ∷ []) id) (cond x (Some (length history)) o)) (sym other.0)
            (end_kept history (End b reply) id o (λ c e. let ids : b ≡ id = cc in other.1 ids) h)
      ]
  end_more (Applied ids) id o h = end_kept history (Applied ids) id o (λ c e. absurd (cc)) h
  end_more (Begin b call) id o h = end_kept history (Begin b call) id o (λ c e. absurd (cc)) h

  -- the places, with one event more
  pub places_more : (event : Event Call Reply) (begins ends new_begins new_ends : CallId → Option ℕ) → ArePlaces history begins ends →
      ((q : CallId) → new_begins q ≡ begin_noted (length history) event q (begins q)) →
      ((q : CallId) → new_ends q ≡ end_noted (length history) event q (ends q)) →
      ArePlaces (history ++ event ∷ []) new_begins new_ends
  places_more event begins ends new_begins new_ends h b e = record {
    begin = λ id. subst (λ (o : Option ℕ). IsPlaceOf (BeginsAt (history ++ event ∷ []) id) o) (sym (b id)) (begin_more event id (begins id) (h.begin id));
    end = λ id. subst (λ (o : Option ℕ). IsPlaceOf (EndsAt (history ++ event ∷ []) id) o) (sym (e id)) (end_more event id (ends id) (h.end id));
  }

-- a set of calls, with one more
pub set_more : (has new_has : CallId → Bool) (ids : List CallId) (id : CallId) → ((q : CallId) → IsTrue (has q) ↔ Contains ids q) → ((q : CallId) → new_has q ≡ cond (same_id id q) true (has q)) →
    (q : CallId) → IsTrue (new_has q) ↔ Contains (ids ++ id ∷ []) q
set_more has new_has ids id h new q =
    subst (λ (b : Bool). IsTrue b ↔ Contains (ids ++ id ∷ []) q) (sym (new q))
    (elim (is_same_id id q) [
      | inl same ↦ subst (λ (b : Bool). IsTrue (cond b true (has q)) ↔ Contains (ids ++ id ∷ []) q) (sym same.0)
          ((λ t. subst (λ (i : CallId). Contains (ids ++ id ∷ []) i) same.1 (Contains-push ids id)), λ c. refl)
      | inr other ↦ subst (λ (b : Bool). IsTrue (cond b true (has q)) ↔ Contains (ids ++ id ∷ []) q) (sym other.0) (
        (λ t. Contains-append_left ids (id ∷ []) q ((h q).0 t)),
        λ c. elim (Contains-push_cases ids id q c) [ inl in' ↦ (h q).1 in' | inr e ↦ absurd (other.1 e) ],
      )
    ])

-- the item that a loop reads, in a list of what the items stand for
pub item_of : {A B : Type 0} (f : A → B) (xs : List A) (i : ℕ) (x : A) → i < length xs → x ≡ get_or xs i x → slice_get (map f xs) i ≡ Some (f x)
item_of f xs i x lt at = slice_get-map f xs i ∙ ap (option_map f) (slice_get_read xs (length xs) i x refl lt at)

pub take_item : {A B : Type 0} (f : A → B) (xs : List A) (i : ℕ) (x : A) → i < length xs → x ≡ get_or xs i x → take (i + 1) (map f xs) ≡ take i (map f xs) ++ f x ∷ []
take_item f xs i x lt at = rw add-one (take_next (map f xs) i (f x) (item_of f xs i x lt at))

module _ {Call Reply : Type 0} (history : List (Event Call Reply)) (begins ends : CallId → Option ℕ) (places : ArePlaces history begins ends) where
  never_begun : (id : CallId) → None ≡ begins id → (call : Call) → ¬ HasBegun history id call
  never_begun id e call begun =
      let p = place_of history (Begin id call) begun in
      MatchOption-at_none ((k : ℕ) → ¬ BeginsAt history id k) (BeginsAt history id) (sym e) (places.begin id) p.0 (call, p.1)

  begin_at : (id : CallId) (k : ℕ) → Some k ≡ begins id → BeginsAt history id k
  begin_at id k e = MatchOption-at_some ((m : ℕ) → ¬ BeginsAt history id m) (BeginsAt history id) k (sym e) (places.begin id)

  -- an id without a place is unknown
  pub unknown_here : (order : List CallId) (k : ℕ) (id : CallId) → None ≡ begins id → IsUnknown history order k id
  unknown_here order k id e = inl (never_begun id e)

  -- and one with a place that doesn't stand before is known
  pub known_here : (order : List CallId) (k begin : ℕ) (id : CallId) → Some begin ≡ begins id → ¬ Contains (take k order) id → ¬ IsUnknown history order k id
  known_here order k begin id e fresh unknown =
      elim unknown [
        | inl never ↦ let b = begin_at id begin e in never b.0 (contains_at history begin (Begin id b.0) b.1)
        | inr before ↦ fresh before
      ]

  pub placed_more : (items more : List Placed) (x : Placed) → more ≡ items ++ x ∷ [] → ArePlaced history items →
      Some x.begin ≡ begins x.id → x.end ≡ ends x.id → ArePlaced history more
  placed_more items more x grows h b e =
      subst (λ (ps : List Placed). ArePlaced history ps) (sym grows) (λ k y at.
      elim (place_push items x k y at) [
        | inl before ↦ h k y before
        | inr last ↦ subst (λ (p : Placed). IsPlaced history p) last.1 (record {
          begins = begin_at x.id x.begin b;
          ends = subst (λ (o : Option ℕ). IsPlaceOf (EndsAt history x.id) o) (sym e) (places.end x.id);
        })
      ])

pub begun_at : (o : Option ℕ) (k : ℕ) → Some k ≡ o → Some (place_in o) ≡ o
begun_at o k e = subst (λ (p : Option ℕ). Some (place_in p) ≡ p) e refl

-- the calls of a list have their names
pub ids_of : (places : Places) (order : List CallId) → map (λ (x : Placed). x.id) (placed_all places order) ≡ order
ids_of places [] = refl
ids_of places (id ∷ order) = ap (λ (ids : List CallId). id ∷ ids) (ids_of places order)

-- a call of a list, and the name there
pub call_of_list : (places : Places) (order : List CallId) (i : ℕ) (id : CallId) (x : Placed) → slice_get order i ≡ Some id → x ≡ placed_at places id →
    (slice_get (placed_all places order) i ≡ Some x) × (slice_get order i ≡ Some x.id)
call_of_list places order i id x here is = (
  slice_get-map (placed_at places) order i ∙ ap (option_map (placed_at places)) here ∙ ap (λ (p : Placed). Some p) (sym is),
  here ∙ ap (λ (p : Placed). Some p.id) (sym is),
)

module _ {A : Type 0} (Fact : ℕ → A → Type 0) (items : List A) where
  -- nowhere so far, and not here
  pub nowhere_more : (i : ℕ) (x : A) → slice_get items i ≡ Some x → ((k : ℕ) (other : A) → k < i → slice_get items k ≡ Some other → ¬ Fact k other) → ¬ Fact i x →
      (k : ℕ) (other : A) → k < i + 1 → slice_get items k ≡ Some other → ¬ Fact k other
  nowhere_more i x here before not k other lt at fact =
      elim (cases_lt k i) [
        | inl less ↦ before k other less at fact
        | inr ge ↦ let same : k ≡ i = omega arith in
            let item = one_item items i other x (subst (λ (n : ℕ). slice_get items n ≡ Some other) same at) here in
            not (subst (λ (y : A). Fact i y) item (subst (λ (n : ℕ). Fact n other) same fact))
      ]

  pub nowhere_all : (i : ℕ) → length items ≤ i → ((k : ℕ) (other : A) → k < i → slice_get items k ≡ Some other → ¬ Fact k other) → IsNowhere Fact items
  nowhere_all i all before k other at = let lt = slice_get_within items k other at in before k other (omega arith) at

module _ {Call Reply : Type 0} (history : List (Event Call Reply)) where
  -- the call that was read where an id begins, and the reply where it ends
  pub begun_here : (id other : CallId) (k : ℕ) (call : Call) → BeginsAt history id k → slice_get history k ≡ Some (Begin other call) → HasBegun history id call
  begun_here id other k call begins read =
      let e : ◌≡◌ {A = Event Call Reply} (Begin id begins.0) (Begin other call) = one_item history k (Begin id begins.0) (Begin other call) begins.1 read in
      let same : other ≡ id = cc in
      subst (λ (i : CallId). HasBegun history i call) same (contains_at history k (Begin other call) read)

  pub ended_here : (id other : CallId) (k : ℕ) (reply : Reply) → EndsAt history id k → slice_get history k ≡ Some (End other reply) → Contains history (End id reply)
  ended_here id other k reply ends read =
      let e : ◌≡◌ {A = Event Call Reply} (End id ends.0) (End other reply) = one_item history k (End id ends.0) (End other reply) ends.1 read in
      let same : other ≡ id = cc in
      subst (λ (i : CallId). Contains history (End i reply)) same (contains_at history k (End other reply) read)

  pub not_ended : (id : CallId) (end : Option ℕ) → end ≡ None → IsPlaceOf (EndsAt history id) end → (reply : Reply) → Contains history (End id reply) → ⊥
  not_ended id end e h reply c =
      let p = place_of history (End id reply) c in
      MatchOption-at_none ((k : ℕ) → ¬ EndsAt history id k) (EndsAt history id) e h p.0 (reply, p.1)

  pub end_at : (id : CallId) (end : Option ℕ) (k : ℕ) → end ≡ Some k → IsPlaceOf (EndsAt history id) end → EndsAt history id k
  end_at id end k e h = MatchOption-at_some ((m : ℕ) → ¬ EndsAt history id m) (EndsAt history id) k e h
