-- What a search comes to by small numbers, as what is answered by names.
use Rattle.std.proofs.Common.{◌≡◌, ◌∙◌, ◌≤◌, ℕ, List, Vec, Global, length, map, sym, ap, subst, inl, inr, refl}
use Rattle.ob_interface.specs.Call.{ObjectCall, Reply}
use Rattle.ob_object_run.specs.LegalOrder.{CallEnds}
use Rattle.ob_object_search.proofs.Renamed.{has_unnamed, last_named, legal_named, needless_named}
use Rattle.ob_object_search.specs.Found.{HasOrderHere, IsEnoughHere, IsFaultHere, IsNeededHere}
use Rattle.ob_object_search.specs.SearchFaults.{TellsMemoryApart}
use Rattle.ob_object_search.specs.declared.searching.SearchFault.{SearchFault}
use Rattle.ob_object_search.specs.declared.searching.SearchFault.TheVariants as Faults
use Rattle.ob_meaning.specs.ByPositionStore.{Activation}
use Rattle.ob_text_reading.specs.Names.{AreApart, AreBelow, IsBelow, named_all, named_id}
use Rattle.ob_typing.specs.Program.{Program}
use Rattle.wf_history.specs.History.{Event, Begin, Applied, End}
use Rattle.wf_history.specs.Legal.{IsLegal}
use Rattle.wf_history.specs.declared.event.CallId.{CallId}
use Rattle.wf_needed.specs.Needed.{NoneIsNeedless}
use Rattle.wf_lookup.specs.Beginnings.{AreOfProcesses, IsOfProcesses}
use Rattle.wf_order.specs.Verdict.{IsVerdict, enough}
use Rattle.wf_order.specs.declared.find.Verdict.{Verdict}
use Rattle.wf_order.specs.declared.find.Verdict.TheVariants as Verdicts

below_is : (n : ℕ) (e : Event ObjectCall Reply) → IsBelow n e → IsOfProcesses n e
below_is n (Begin id call) h = h
below_is n (Applied ids) h = tt
below_is n (End id reply) h = h

module _ (program : Program) (budget : ℕ) (opening : Activation) (history : List (Event ObjectCall Reply)) (names : List ℕ) (most : ℕ) (apart : AreApart names) (below : AreBelow (length names) history) where
  -- the order that is found, before open calls are left out
  pub legal_found : (verdict : Verdict) → IsVerdict (CallEnds program budget) opening history most verdict → (order : Vec CallId Global) → verdict ≡ Verdicts.Legal order →
      (last : Activation) × IsLegal (CallEnds program budget) opening history order.items last
  legal_found verdict h order is = subst (λ (x : Verdict). IsVerdict (CallEnds program budget) opening history most x) is h

  pub order_named : (order : List CallId) → (last : Activation) × IsLegal (CallEnds program budget) opening history order last → (named : List CallId) → named ≡ map (named_id names) order →
      HasOrderHere program budget opening history names named
  order_named order h named same =
      (h.0, subst (λ (l : List CallId). IsLegal (CallEnds program budget) opening (named_all names history) l h.0) (sym same) (legal_named names apart history below (CallEnds program budget) opening h.0 order h.1))

  pub needed_named : (order : List CallId) → (last : Activation) × IsLegal (CallEnds program budget) opening history order last → NoneIsNeedless (CallEnds program budget) opening history order →
      (named : List CallId) → named ≡ map (named_id names) order → IsNeededHere program budget opening history names named
  needed_named order h needed named same =
      subst (λ (l : List CallId). NoneIsNeedless (CallEnds program budget) opening (named_all names history) l) (sym same)
      (needless_named names apart history below (CallEnds program budget) opening h.0 order h.1 needed)

  pub none_named : (verdict : Verdict) → IsVerdict (CallEnds program budget) opening history most verdict → (id : CallId) (place : ℕ) → verdict ≡ Verdicts.Illegal id place →
      (named : CallId) → named ≡ named_id names id → IsFaultHere program budget opening history names most (Faults.Illegal named)
  none_named verdict h id place is named same =
      let v = subst (λ (x : Verdict). IsVerdict (CallEnds program budget) opening history most x) is h in
      let m = last_named names apart history below (CallEnds program budget) opening place v.0 in
      record {
        place = place;
        last = m.0;
        is = m.1 ∙ ap (named_id names) v.1 ∙ sym same;
        none = λ legal. v.2 (has_unnamed names apart history below (CallEnds program budget) opening legal);
      }

  pub many_named : (verdict : Verdict) → IsVerdict (CallEnds program budget) opening history most verdict → verdict ≡ Verdicts.TooMany → IsFaultHere program budget opening history names most Faults.TooMany
  many_named verdict h is = subst (λ (x : Verdict). IsVerdict (CallEnds program budget) opening history most x) is h

  pub never_many : (verdict : Verdict) → ((processes : ℕ) → AreOfProcesses processes history → enough processes (length history) ≤ most → ¬ (verdict ≡ Verdicts.TooMany)) →
      verdict ≡ Verdicts.TooMany → IsEnoughHere history names most → ⊥
  never_many verdict decided is many = decided (length names) (λ e h. below_is (length names) e (below e h)) many is

-- what is found of a history here is want of memory or has a number
pub found_apart : (program : Program) (budget : ℕ) (opening : Activation) (history : List (Event ObjectCall Reply)) (names : List ℕ) (most : ℕ) (e : SearchFault) → IsFaultHere program budget opening history names most e → TellsMemoryApart e
found_apart program budget opening history names most (Faults.Text e) h = absurd h
found_apart program budget opening history names most (Faults.Form line) h = absurd h
found_apart program budget opening history names most (Faults.Open e) h = absurd h
found_apart program budget opening history names most (Faults.Illegal id) h = inr tt
found_apart program budget opening history names most Faults.TooMany h = inr tt
found_apart program budget opening history names most Faults.NoMemory h = inl refl
