-- The places of Begins, one event more.
use Rattle.std.proofs.Common.{◌≡◌, ◌∙◌, ℕ, Bool, cond, List, [], ◌∷◌, ◌++◌, length, Option, Some, None, ap, sym, slice_get, subst, inl, inr}
use Rattle.std.proofs.lemmas.Option.{MatchOption-at_none, MatchOption-at_some}
use Rattle.ob_object_run.specs.Places.{BeginsAt, IsPlaceOf, begin_noted}
use Rattle.ob_object_calls.proofs.SameNames.{is_same_id}
use Rattle.ob_object_calls.specs.Begins.{AreBegins}
use Rattle.wf_history.proofs.Positions.{contains_at, one_item, place_here, place_left, place_of, place_push}
use Rattle.wf_history.specs.History.{Event, Begin, Applied, End}
use Rattle.wf_history.specs.Legal.{HasBegun}
use Rattle.wf_history.specs.declared.event.CallId.{CallId}

place_kept : (Fact More : ℕ → Type 0) (o : Option ℕ) → ((k : ℕ) → Fact k → More k) → ((k : ℕ) → More k → Fact k) → IsPlaceOf Fact o → IsPlaceOf More o
place_kept Fact More None up down h = λ k f. h k (down k f)
place_kept Fact More (Some k) up down h = up k h

module _ {Call Reply : Type 0} (history : List (Event Call Reply)) where
  kept : (event : Event Call Reply) (id : CallId) (o : Option ℕ) → ((call : Call) → event ≡ Begin id call → ⊥) → IsPlaceOf (BeginsAt history id) o → IsPlaceOf (BeginsAt (history ++ event ∷ []) id) o
  kept event id o other h =
      place_kept (BeginsAt history id) (BeginsAt (history ++ event ∷ []) id) o
      (λ k b. (b.0, place_left history (event ∷ []) k (Begin id b.0) b.1))
      (λ k b. elim (place_push history event k (Begin id b.0) b.1) [ inl at ↦ (b.0, at) | inr last ↦ absurd (other b.0 last.1) ])
      h

  noted : (event : Event Call Reply) (id : CallId) (o : Option ℕ) → IsPlaceOf (BeginsAt history id) o → IsPlaceOf (BeginsAt (history ++ event ∷ []) id) (begin_noted (length history) event id o)
  noted (Begin b call) id o h =
      elim (is_same_id b id) [
        | inl same ↦ subst (λ (x : Bool). IsPlaceOf (BeginsAt (history ++ Begin b call ∷ []) id) (cond x (Some (length history)) o)) (sym same.0)
            (call, place_here history [] (Begin b call) ∙ ap (λ (i : CallId). Some (Begin i call)) same.1)
        | inr other ↦ subst (λ (x : Bool). IsPlaceOf (BeginsAt (history ++ Begin b call ∷ []) id) (cond x (Some (length history)) o)) (sym other.0)
            (kept (Begin b call) id o (λ c e. let ids : b ≡ id = cc in other.1 ids) h)
      ]
  noted (Applied ids) id o h = kept (Applied ids) id o (λ c e. absurd (cc)) h
  noted (End b reply) id o h = kept (End b reply) id o (λ c e. absurd (cc)) h

  -- with one event more
  pub begins_more : (event : Event Call Reply) (begins new : CallId → Option ℕ) → AreBegins history begins →
      ((q : CallId) → new q ≡ begin_noted (length history) event q (begins q)) → AreBegins (history ++ event ∷ []) new
  begins_more event begins new h is id =
      subst (λ (o : Option ℕ). IsPlaceOf (BeginsAt (history ++ event ∷ []) id) o) (sym (is id)) (noted event id (begins id) (h id))

  -- a call with no place never began
  pub never_begun : (begins : CallId → Option ℕ) → AreBegins history begins → (id : CallId) → None ≡ begins id → (call : Call) → ¬ HasBegun history id call
  never_begun begins h id e call begun =
      let p = place_of history (Begin id call) begun in
      MatchOption-at_none ((k : ℕ) → ¬ BeginsAt history id k) (BeginsAt history id) (sym e) (h id) p.0 (call, p.1)

  -- the Begin of a call with a place stands there
  pub begin_at : (begins : CallId → Option ℕ) → AreBegins history begins → (id : CallId) (k : ℕ) → Some k ≡ begins id → BeginsAt history id k
  begin_at begins h id k e = MatchOption-at_some ((m : ℕ) → ¬ BeginsAt history id m) (BeginsAt history id) k (sym e) (h id)

  -- the call that was read where an id begins
  pub begun_here : (id other : CallId) (k : ℕ) (call : Call) → BeginsAt history id k → slice_get history k ≡ Some (Begin other call) → HasBegun history id call
  begun_here id other k call begins read =
      let e : ◌≡◌ {A = Event Call Reply} (Begin id begins.0) (Begin other call) = one_item history k (Begin id begins.0) (Begin other call) begins.1 read in
      let same : other ≡ id = cc in
      subst (λ (i : CallId). HasBegun history i call) same (contains_at history k (Begin other call) read)
