-- What searches come to, as the part of a history that is shown.
use Rattle.std.proofs.Common.{◌≡◌, ◌∙◌, ℕ, ◌+◌, ◌≤◌, List, [], Vec, Global, Some, None, arith, length, map, refl, subst, sym, take}
use Rattle.std.proofs.lemmas.List.{length-map}
use Rattle.std.proofs.lemmas.Option.{slice_get_within}
use Rattle.std.specs.List.{slice_get}
use Rattle.ob_checked.specs.CheckedModule.{program_in}
use Rattle.ob_interface.specs.Call.{ObjectCall, Reply}
use Rattle.ob_object_search.proofs.Renamed.{last_named, legal_named}
use Rattle.ob_object_search.specs.declared.instance.ModuleObject.{ModuleObject}
use Rattle.ob_object_search.specs.declared.searching.SearchFault.{SearchFault}
use Rattle.ob_object_search.specs.declared.searching.SearchFault.TheVariants as Faults
use Rattle.ob_object_draw.specs.Parts.{IsFaultIn, IsLegalIn, IsShown, effect_in, opening_in}
use Rattle.ob_object_search.proofs.Fronts.{below_front, fault_front, named_front}
use Rattle.ob_text_reading.specs.Names.{AreApart, AreBelow, named, named_all, named_id}
use Rattle.wf_history.specs.History.{Event, End, IsHistory}
use Rattle.wf_history.specs.Legal.{IsLegal}
use Rattle.wf_history.specs.declared.event.CallId.{CallId}
use Rattle.wf_order.specs.Verdict.{HasLegal, IsLastLegal, IsVerdict}
use Rattle.wf_order.specs.declared.find.Verdict.{Verdict}
use Rattle.wf_order.specs.declared.find.Verdict.TheVariants as Verdicts

abbrev Events : Type 0
Events = List (Event ObjectCall Reply)

-- a verdict

module _ (o : ModuleObject) (history : Events) (most : ℕ) (verdict : Verdict) (h : IsVerdict (effect_in o) (opening_in o) history most verdict) where
  pub legal_by : (order : Vec CallId Global) → verdict ≡ Verdicts.Legal order → IsLegalIn o history order.items
  legal_by order is = subst (λ (x : Verdict). IsVerdict (effect_in o) (opening_in o) history most x) is h

  pub illegal_by : (id : CallId) (place : ℕ) → verdict ≡ Verdicts.Illegal id place →
      (last : IsLastLegal (effect_in o) (opening_in o) history place) × (last.id ≡ id) × ¬ HasLegal (effect_in o) (opening_in o) history
  illegal_by id place is = subst (λ (x : Verdict). IsVerdict (effect_in o) (opening_in o) history most x) is h

  pub many_by : (names : List ℕ) → verdict ≡ Verdicts.TooMany → IsFaultIn o history names most Faults.TooMany
  many_by names is = (subst (λ (x : Verdict). IsVerdict (effect_in o) (opening_in o) history most x) is h, λ id same. cc)

pub no_memory_in : (o : ModuleObject) (history : Events) (names : List ℕ) (most : ℕ) → IsFaultIn o history names most Faults.NoMemory
no_memory_in o history names most = (tt, λ id same. cc)

-- the place of an end is one of the history
pub end_within : (o : ModuleObject) (history : Events) (place : ℕ) → IsLastLegal (effect_in o) (opening_in o) history place → place + 1 ≤ length history
end_within o history place last = let within = slice_get_within history place (End last.id last.reply) last.end in omega (arith, within)

-- by the names of processes

module _ (o : ModuleObject) (names : List ℕ) (apart : AreApart names) (history : Events) (below : AreBelow (length names) history) where
  abbrev all : Events
  all = named_all names history

  pub all_shown : (order : List CallId) → IsLegalIn o history order → (count : ℕ) → count ≡ length history → (given : List CallId) → given ≡ map (named_id names) order →
      IsShown (effect_in o) (opening_in o) all count given None
  all_shown order l count is given same = (
    l.0,
    subst (λ (ids : List CallId). IsLegal (effect_in o) (opening_in o) all ids l.0) (sym same) (legal_named names apart history below (effect_in o) (opening_in o) l.0 order l.1),
    is ∙ sym (length-map history (named names)),
  )

  pub front_shown : (place : ℕ) (last : IsLastLegal (effect_in o) (opening_in o) history place) (order : List CallId) → IsLegalIn o (take place history) order →
      (count : ℕ) → count ≡ place + 1 → (given : List CallId) → given ≡ map (named_id names) order → (id : CallId) → id ≡ named_id names last.id →
      IsShown (effect_in o) (opening_in o) all count given (Some id)
  front_shown place last order l count is given same id called =
      let m = last_named names apart history below (effect_in o) (opening_in o) place last in
      record {
        place = place;
        reply = m.0.reply;
        ends = subst (λ (i : CallId). slice_get all place ≡ Some (End i m.0.reply)) (m.1 ∙ sym called) m.0.end;
        behind = is;
        last = l.0;
        legal = subst (λ (es : Events). IsLegal (effect_in o) (opening_in o) es given l.0) (sym (named_front names history place))
            (subst (λ (ids : List CallId). IsLegal (effect_in o) (opening_in o) (named_all names (take place history)) ids l.0) (sym same)
            (legal_named names apart (take place history) (below_front names history below place) (effect_in o) (opening_in o) l.0 order l.1));
        none = m.0.none;
      }

  -- a fault of the first events is one of all
  pub fault_of_front : IsHistory history → (place most : ℕ) (e : SearchFault) → IsFaultIn o (take place history) [] most e → IsFaultIn o history names most e
  fault_of_front whole place most (Faults.Text e) h = absurd h.0
  fault_of_front whole place most (Faults.Form line) h = absurd h.0
  fault_of_front whole place most (Faults.Open e) h = absurd h.0
  fault_of_front whole place most (Faults.Illegal id) h = absurd (h.1 id refl)
  fault_of_front whole place most Faults.TooMany h =
      (fault_front (program_in o.checked.now) o.budget (opening_in o) names apart history below whole place most Faults.TooMany h.0, h.1)
  fault_of_front whole place most Faults.NoMemory h = h
