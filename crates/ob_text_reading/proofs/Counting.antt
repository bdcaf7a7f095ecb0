-- What the program's set of names and calls tells of the events by names.
use Rattle.std.proofs.Common.{◌≡◌, ◌↔◌, ◌∙◌, ℕ, ◌<◌, Bool, [], ◌∷◌, ◌++◌, IsTrue, Option, Some, None, MatchOption, length, slice_get, refl, sym, ap, arith}
use Rattle.std.proofs.Math.Dec.{eqb}
use Rattle.std.specs.List.{position}
use Rattle.ob_interface.specs.Call.{ObjectCall, Reply}
use Rattle.ob_text_reading.specs.HistoryLines.{most_different}
use Rattle.ob_text_reading.specs.Names.{AreNamed, HasNoPlace, IsPlaceOf, MayCome, MayEnd, Naming, events_of, known, new}
use Rattle.ob_text_reading.proofs.Growing.{as_before, begins_so, export_named_so, grown, may_begin, one_too_many, unknown_ends}
use Rattle.ob_text_reading.proofs.HistoryPlaces.{known_place, unknown_place}
use Rattle.ob_text_reading.specs.Seats.{EndsCall}
use Rattle.wf_history.specs.declared.event.CallId.{CallId}
use Rattle.wf_history.specs.History.{Begin, End, IsHistory}

-- nothing has begun
pub no_names : (n : Naming) → n.names ≡ [] → n.numbered ≡ [] → AreNamed n
no_names n a b =
    record {
      whole = λ q. rw b refl;
      apart = λ i j name x y. absurd (nowhere i name (sym (ap (λ xs. slice_get xs i) a) ∙ x));
      few = rw a (omega arith);
      below = λ e c. absurd (let within = c.1 in let none = ap length b in omega (arith, within, none));
      begun = λ p within none. absurd (let none_named = ap length a in omega (arith, within, none_named));
    }
  where
    nowhere : (i name : ℕ) → slice_get [] i ≡ Some name → ⊥
    nowhere i name e = cc

module _ (n : Naming) (a : AreNamed n) where
  pub place_low : {process place : ℕ} → IsPlaceOf n.names process place → place < most_different
  place_low (known at) = let within = (grown a.apart (as_before at)).within in let few = a.few in omega (arith, within, few)
  place_low (new is low none) = low

  -- a call may begin where the call by a small number may
  pub may_begin_as : (i : CallId) (place : ℕ) (t : Bool) → IsPlaceOf n.names i.process place →
      ((call : ObjectCall) → IsTrue t ↔ IsHistory (n.numbered ++ Begin (record { process = place; number = i.number }) call ∷ [])) →
      (call : ObjectCall) → IsTrue t ↔ MayCome (events_of n) (Begin i call)
  may_begin_as i place t p f call = (
    λ h. may_begin n a i.process place i.number p call ((f call).0 h),
    λ m. (f call).1 (begins_so n a i.process place i.number p call m.turn),
  )

  -- where there is no place for it, none may
  pub never_begins : (i : CallId) (call : ObjectCall) → HasNoPlace n.names i.process → MayCome (events_of n) (Begin i call) → ⊥
  never_begins i call full m = one_too_many n a i call full m.few

  pub export_as : (i : CallId) (place : ℕ) (found : Option ℕ) → position (eqb i.process) n.names ≡ Some place →
      MatchOption found ((reply : Reply) → IsHistory (n.numbered ++ End (record { process = place; number = i.number }) reply ∷ []) → ⊥)
      (λ export. EndsCall n.numbered (record { process = place; number = i.number }) export) →
      MatchOption found ((reply : Reply) → IsHistory (events_of n ++ End i reply ∷ []) → ⊥) (λ export. MayEnd (events_of n) i export)
  export_as i place found at h = export_named_so n a i.process place i.number (known_place n.names i.process place at) found h

  pub export_none : (i : CallId) → position (eqb i.process) n.names ≡ None → (reply : Reply) → IsHistory (events_of n ++ End i reply ∷ []) → ⊥
  export_none i at reply h = unknown_ends n a i reply (unknown_place n.names i.process at) h
