-- What is found of a module's text and of a history of its program's object, as what is answered of both texts.
use Rattle.std.proofs.Common.{◌≡◌, ◌≢◌, List, ◌++◌, ℕ, Option, Result, Ok, Err, IfErr, ◌⊎◌, inl, inr, refl, subst}
use Rattle.ob_check.specs.CheckedText.{IsNumberedText, IsTextFault, TellsTextMemoryApart}
use Rattle.ob_check.specs.declared.module_text.TextFault.{TextFault}
use Rattle.ob_check.specs.declared.module_text.TextFault.TheVariants as Text
use Rattle.ob_object_run.specs.LegalOrder.{CallEnds}
use Rattle.ob_object_search.proofs.Crossing.{fault_named, order_named, order_placed}
use Rattle.ob_object_search.specs.Searched.{HasEnough, HasNoneNeedless, HasOpen, HasOrder, IsEnough, IsLegalOrder, IsOpenCall, NoneIsNeedless}
use Rattle.ob_object_search.specs.SearchFaults.{HasSearchFault, IsFaultOfHistory, IsSearchFault, IsUndecided, TellsMemoryApart, of_text}
use Rattle.ob_object_search.specs.declared.searching.SearchFault.{SearchFault}
use Rattle.ob_object_search.specs.declared.searching.SearchFault.TheVariants as Faults
use Rattle.ob_object_calls.proofs.Openings.{module_resolved}
use Rattle.ob_object_calls.specs.Beginnings.{BeginsPlaced, TrapsPlaced}
use Rattle.ob_typing.specs.ModuleText.{IsModule}
use Rattle.ob_typing.specs.Program.{Program}
use Rattle.wf_history.specs.declared.event.CallId.{CallId}

-- a fault of a text is told as want of memory or has a number
told : (e : TextFault) → TellsTextMemoryApart e → (of_text e ≡ Faults.NoMemory) ⊎ IsNumberedText e
told (Text.Scan e) apart = inr (refl, apart)
told (Text.Parse e) apart = inr (refl, apart)
told (Text.Check e) apart = inr (refl, apart)
told Text.NoMemory apart = inl refl

pub apart_told : (e : TextFault) → TellsTextMemoryApart e → TellsMemoryApart (of_text e)
apart_told (Text.Scan e) apart = inr (refl, apart)
apart_told (Text.Parse e) apart = inr (refl, apart)
apart_told (Text.Check e) apart = inr (refl, apart)
apart_told Text.NoMemory apart = inl refl

pub text_decided : (e : TextFault) → of_text e ≢ Faults.TooMany
text_decided (Text.Scan e) same = cc
text_decided (Text.Parse e) same = cc
text_decided (Text.Check e) same = cc
text_decided Text.NoMemory same = cc

-- where a legal order leaves no more than two answers, with another one there is none
pub none_by : {X A : Type 0} {Has : A → Type 0} (r : Result X SearchFault) → ((a : A) → Has a → IfErr r IsUndecided) → IfErr r (λ e. ¬ IsUndecided e → (a : A) → ¬ Has a)
none_by (Ok x) lawful = tt
none_by (Err e) lawful = λ decided a has. decided (lawful a has)

module _ (module_text history_text : List ℕ) (asked : Option ℕ) (most : ℕ) where
  pub text_told : (e : TextFault) → IsTextFault module_text e → IsSearchFault module_text history_text asked most (of_text e)
  text_told (Text.Scan e) h = h
  text_told (Text.Parse e) h = h
  text_told (Text.Check e) h = h
  text_told Text.NoMemory h = tt

  -- of a module's text only want of memory is told
  pub text_lawful : (e : TextFault) → (IsNumberedText e → (program : Program) → IsModule module_text program → ⊥) → TellsTextMemoryApart e →
      (order : List CallId) → IsLegalOrder module_text history_text asked order → IsUndecided (of_text e)
  text_lawful e none apart order r = elim (told e apart) [ inl same ↦ inr same | inr numbered ↦ absurd (none numbered r.program r.is_module) ]

  module _ (program : Program) (is_module : IsModule module_text program) (alone : (other : Program) → IsModule module_text other → other ≡ program) where
    pub order_by : (order : List CallId) → HasOrder BeginsPlaced CallEnds program history_text asked order → IsLegalOrder module_text history_text asked order
    order_by order r =
        record {
          program = program;
          is_module = is_module;
          has_order = order_named program (module_resolved module_text program is_module) history_text asked order r;
        }

    pub order_in : (order : List CallId) → IsLegalOrder module_text history_text asked order → HasOrder BeginsPlaced CallEnds program history_text asked order
    order_in order r =
        subst (λ (p : Program). HasOrder BeginsPlaced CallEnds p history_text asked order) (alone r.program r.is_module)
        (order_placed r.program (module_resolved module_text r.program r.is_module) history_text asked order r.has_order)

    open_in : (id : CallId) → IsOpenCall module_text history_text id → HasOpen program history_text id
    open_in id r = subst (λ (p : Program). HasOpen p history_text id) (alone r.program r.is_module) r.has_open

    pub needed_by : (order : List CallId) → HasNoneNeedless BeginsPlaced CallEnds program history_text asked order → NoneIsNeedless module_text history_text asked order
    needed_by order needed first rest id parts opens legal = needed first rest id parts (open_in id opens) (order_in (first ++ rest) legal)

    pub enough_in : IsEnough module_text history_text most → HasEnough program history_text most
    enough_in r = subst (λ (p : Program). HasEnough p history_text most) (alone r.program r.is_module) r.has_enough

    fault_of : (fault : SearchFault) → HasSearchFault BeginsPlaced TrapsPlaced CallEnds program history_text asked most fault → IsFaultOfHistory module_text history_text asked most fault
    fault_of fault f =
        record {
          program = program;
          is_module = is_module;
          fails = fault_named program (module_resolved module_text program is_module) history_text asked most fault f;
        }

    pub told_of : (fault : SearchFault) → HasSearchFault BeginsPlaced TrapsPlaced CallEnds program history_text asked most fault → IsSearchFault module_text history_text asked most fault
    told_of (Faults.Text e) f = absurd f
    told_of (Faults.Form line) f = fault_of (Faults.Form line) f
    told_of (Faults.Open e) f = fault_of (Faults.Open e) f
    told_of (Faults.Illegal id) f = fault_of (Faults.Illegal id) f
    told_of Faults.TooMany f = fault_of Faults.TooMany f
    told_of Faults.NoMemory f = tt
