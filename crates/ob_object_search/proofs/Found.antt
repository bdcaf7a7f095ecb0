-- What a search of a part comes to by small numbers, as what is answered by names.
use Rattle.std.proofs.Common.{◌≡◌, ◌∙◌, ◌≤◌, ℕ, List, [], ◌∷◌, ◌++◌, Vec, Global, length, map, take, slice_get, Some, sym, ap, subst, inl, inr, refl, arith}
use Rattle.std.proofs.lemmas.List.{length-map, map-append}
use Rattle.std.proofs.lemmas.Option.{slice_get_within}
use Rattle.ob_interface.specs.declared.scalar.Scalar.{Scalar}
use Rattle.ob_object_run.specs.LegalOrder.{CallEnds}
use Rattle.ob_object_search.proofs.Verdicts as Searches
use Rattle.ob_object_search.specs.Found.{IsEnoughHere}
use Rattle.ob_object_search.proofs.Renumbered.{has_back, last_here, legal_here, needed_here}
use Rattle.ob_object_search.specs.NumberedParts.{AreOrdersHere, IsFaultHere, IsFoundHere, IsPartFault, IsPartHere, named_call}
use Rattle.ob_object_search.specs.Parted.{PartOrder}
use Rattle.ob_object_search.specs.Parted as Parted
use Rattle.ob_object_search.specs.declared.fault.PartsFault.{PartsFault}
use Rattle.ob_object_search.specs.declared.fault.PartsFault.TheVariants as Faults
use Rattle.ob_meaning.specs.ByPositionStore.{Activation}
use Rattle.ob_text_reading.specs.Names.{AreApart}
use Rattle.ob_typing.specs.Program.{Program}
use Rattle.wf_history.proofs.Positions.{place_in_take, place_push}
use Rattle.wf_history.specs.Legal.{IsLegal}
use Rattle.wf_history.specs.declared.event.CallId.{CallId}
use Rattle.wf_needed.specs.Needed.{NoneIsNeedless}
use Rattle.wf_lookup.proofs.Turns.{slice_get_some}
use Rattle.wf_lookup.specs.Beginnings.{AreOfProcesses}
use Rattle.wf_order.specs.Verdict.{IsVerdict, enough}
use Rattle.wf_order.specs.declared.find.Verdict.{Verdict}
use Rattle.wf_order.specs.declared.find.Verdict.TheVariants as Verdicts
use Rattle.wf_parts.specs.Numbering.{PartView, value_of}

module _ (program : Program) (budget : ℕ) (opening : Activation) (names : List ℕ) (most : ℕ) where
  module _ (apart : AreApart names) (p : PartView) (here : IsPartHere names p) where
    -- the order that is found, before open calls are left out
    pub legal_found : (verdict : Verdict) → IsVerdict (CallEnds program budget) opening p.events most verdict → (order : Vec CallId Global) → verdict ≡ Verdicts.Legal order →
        (last : Activation) × IsLegal (CallEnds program budget) opening p.events order.items last
    legal_found verdict h order is = subst (λ (x : Verdict). IsVerdict (CallEnds program budget) opening p.events most x) is h

    pub order_here : (order : List CallId) → (last : Activation) × IsLegal (CallEnds program budget) opening p.events order last → NoneIsNeedless (CallEnds program budget) opening p.events order →
        (named : List CallId) → named ≡ map (named_call names p.rows) order → IsFoundHere program budget opening names p named
    order_here order h needed named same =
        subst (λ (l : List CallId). IsFoundHere program budget opening names p l) (sym same) (
          (h.0, legal_here names apart p here (CallEnds program budget) opening h.0 order h.1),
          needed_here names apart p here (CallEnds program budget) opening h.0 order h.1 needed,
        )

    pub none_here : (verdict : Verdict) → IsVerdict (CallEnds program budget) opening p.events most verdict → (id : CallId) (place : ℕ) → verdict ≡ Verdicts.Illegal id place →
        (named : CallId) → named ≡ named_call names p.rows id → IsPartFault program budget opening names most p (Faults.Illegal named p.value)
    none_here verdict h id place is named same =
        let v = subst (λ (x : Verdict). IsVerdict (CallEnds program budget) opening p.events most x) is h in
        let m = last_here names apart p here (CallEnds program budget) opening place v.0 in (
          refl,
          record {
            place = place;
            last = m.0;
            is = m.1 ∙ ap (named_call names p.rows) v.1 ∙ sym same;
            none = λ legal. v.2 (has_back names apart p here (CallEnds program budget) opening legal);
          },
        )

    pub many_here : (verdict : Verdict) → IsVerdict (CallEnds program budget) opening p.events most verdict → verdict ≡ Verdicts.TooMany → IsPartFault program budget opening names most p Faults.TooMany
    many_here verdict h is = subst (λ (x : Verdict). IsVerdict (CallEnds program budget) opening p.events most x) is h

    pub never_many : (verdict : Verdict) → ((processes : ℕ) → AreOfProcesses processes p.events → enough processes (length p.events) ≤ most → ¬ (verdict ≡ Verdicts.TooMany)) →
        verdict ≡ Verdicts.TooMany → IsEnoughHere p.events names most → ⊥
    never_many = Searches.never_many program budget opening p.events names most apart here.below

  -- one more part
  pub one_more : (parts : List PartView) (found : List PartOrder) (p : PartView) (o : PartOrder) → o.value ≡ p.value → IsFoundHere program budget opening names p o.order →
      AreOrdersHere program budget opening names parts found → AreOrdersHere program budget opening names (parts ++ p ∷ []) (found ++ o ∷ [])
  one_more parts found p o value order h = record {
    values = map-append Parted.value_of found (o ∷ []) ∙ ap (λ (vs : List Scalar). vs ++ o.value ∷ []) h.values ∙ ap (λ (v : Scalar). map value_of parts ++ v ∷ []) value
        ∙ sym (map-append value_of parts (p ∷ []));
    each = λ k q x at also.
        elim (place_push parts p k q at) [
          | inl early ↦ elim (place_push found o k x also) [
            | inl other ↦ h.each k q x early other
            | inr end ↦
                let same = sizes in
                let within = slice_get_within parts k q early in
                let place = end.0 in
                absurd (omega (arith, same, within, place))
          ]
          | inr last ↦ elim (place_push found o k x also) [
            | inl other ↦
                let same = sizes in
                let within = slice_get_within found k x other in
                let place = last.0 in
                absurd (omega (arith, same, within, place))
            | inr end ↦ subst (λ (y : PartView). IsFoundHere program budget opening names y x.order) last.1 (subst (λ (y : PartOrder). IsFoundHere program budget opening names p y.order) end.1 order)
          ]
        ];
  }
    where
      sizes : length found ≡ length parts
      sizes = sym (length-map found Parted.value_of) ∙ ap length h.values ∙ length-map parts value_of

  -- the part that has none is the first one
  pub first_fault : (parts : List PartView) (found : List PartOrder) (place : ℕ) (p : PartView) (e : PartsFault) → slice_get parts place ≡ Some p → AreOrdersHere program budget opening names (take place parts) found →
      IsPartFault program budget opening names most p e → IsFaultHere program budget opening names most parts e
  first_fault parts found place p e at h fault = inr (record {
    place = place;
    part = p;
    at = at;
    earlier = λ k q lt here.
        let early = place_in_take place parts k q here lt in
        let within = slice_get_within (take place parts) k q early in
        let size : length found ≡ length (take place parts) = sym (length-map found Parted.value_of) ∙ ap length h.values ∙ length-map (take place parts) value_of in
        let o = slice_get_some found k (omega (arith, within, size)) in
        (o.0.order, (h.each k q o.0 early o.1).0);
    fault = fault;
  })
