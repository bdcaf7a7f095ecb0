-- What is shown of what is heard of a text.
use Rattle.std.proofs.Common.{◌≡◌, ◌∙◌, ℕ, ◌≤◌, List, Option, ap, inl, inr, length, refl, subst}
use Rattle.ob_checked.specs.CheckedModule.{program_in}
use Rattle.ob_interface.specs.Call.{ObjectCall, Reply}
use Rattle.ob_interface.specs.Processes.{most_processes}
use Rattle.ob_object_run.specs.LegalOrder.{CallEnds}
use Rattle.ob_object_search.specs.declared.instance.ModuleObject.{ModuleObject}
use Rattle.ob_object_search.specs.SearchFaults.{HasSearchFault, TellsMemoryApart}
use Rattle.ob_object_search.specs.declared.searching.SearchFault.{SearchFault}
use Rattle.ob_object_search.specs.declared.searching.SearchFault.TheVariants as Search
use Rattle.ob_object_draw.specs.DrawHistoryFaults.{HasDrawFault}
use Rattle.ob_object_draw.specs.Parts.{IsFaultIn, IsNoX1, IsShown, Shows, effect_in, opening_in}
use Rattle.ob_object_draw.specs.declared.picture_faults.DrawHistoryFault.TheVariants as Faults
use Rattle.ob_object_draw.specs.declared.shown_history.Shown.{Shown}
use Rattle.ob_object_search.proofs.Recorded.{fault_found}
use Rattle.ob_object_search.specs.Heard.{IsHeard}
use Rattle.ob_object_search.specs.declared.order_recording.Heard as Rust
use Rattle.ob_object_calls.specs.Beginnings.{BeginsPlaced, TrapsPlaced}
use Rattle.ob_meaning.specs.ByPositionStore.{Activation}
use Rattle.ob_store.specs.View.{state_of}
use Rattle.ob_text_reading.specs.Names.{named_all}
use Rattle.ob_text_reading.specs.HistoryContents.{told_of}
use Rattle.ob_picture_chart.specs.declared.charts.CallRange.{CallRange}
use Rattle.ob_typing.specs.Program.{Program}
use Rattle.wf_lookup.specs.Beginnings.{process_count}
use Rattle.wf_history.specs.History.{Event}
use Rattle.wf_history.specs.declared.event.CallId.{CallId}

-- want of memory says nothing of the text
pub memory_heard : (program : Program) (text : List ℕ) (asked : Option ℕ) (most : ℕ) (calls : Option CallRange) →
    HasDrawFault BeginsPlaced TrapsPlaced CallEnds program text asked most calls (Faults.Search Search.NoMemory)
memory_heard program text asked most calls = (tt, λ id same. cc)

-- and is told by its own variant
pub fault_apart : (o : ModuleObject) (history : List (Event ObjectCall Reply)) (names : List ℕ) (most : ℕ) (e : SearchFault) → IsFaultIn o history names most e → TellsMemoryApart e
fault_apart o history names most (Search.Text e) h = absurd h.0
fault_apart o history names most (Search.Form line) h = absurd h.0
fault_apart o history names most (Search.Open e) h = absurd h.0
fault_apart o history names most (Search.Illegal id) h = inr tt
fault_apart o history names most Search.TooMany h = inr tt
fault_apart o history names most Search.NoMemory h = inl refl

-- before an order is looked for, there is no X1
pub fault_read : (program : Program) (text : List ℕ) (asked : Option ℕ) (most : ℕ) (calls : Option CallRange) (e : SearchFault) →
    HasSearchFault BeginsPlaced TrapsPlaced CallEnds program text asked most e → IsNoX1 e → HasDrawFault BeginsPlaced TrapsPlaced CallEnds program text asked most calls (Faults.Search e)
fault_read program text asked most calls e fails unsearched = (fails, unsearched)

module _ (program : Program) (text : List ℕ) (asked : Option ℕ) (h : Rust.Heard) (heard : IsHeard program text asked h) (o : ModuleObject) (names : List ℕ)
    (same_program : program_in o.checked.now ≡ program) (same_budget : o.budget ≡ h.budget) (same_opening : opening_in o ≡ state_of h.opening) (same_names : names ≡ h.read.processes.items) where
  -- by what calls of the object do
  shown_there : (count : ℕ) (order : List CallId) (ceases : Option CallId) → IsShown (effect_in o) (opening_in o) (named_all names h.read.history) count order ceases →
      IsShown (CallEnds program h.budget) (state_of h.opening) (told_of h.read).events count order ceases
  shown_there count order ceases s =
      subst (λ (p : Program). IsShown (CallEnds p h.budget) (state_of h.opening) (told_of h.read).events count order ceases) same_program
      (subst (λ (b : ℕ). IsShown (CallEnds (program_in o.checked.now) b) (state_of h.opening) (told_of h.read).events count order ceases) same_budget
      (subst (λ (a : Activation). IsShown (effect_in o) a (told_of h.read).events count order ceases) same_opening
      (subst (λ (ns : List ℕ). IsShown (effect_in o) (opening_in o) (named_all ns h.read.history) count order ceases) same_names s)))

  pub shows_heard : (s : Shown) → s.events ≡ named_all names h.read.history → s.processes ≡ process_count s.events → s.processes ≤ most_processes → s.part.count ≤ length s.events →
      IsShown (effect_in o) (opening_in o) (named_all names h.read.history) s.part.count s.part.order.items s.part.ceases → Shows program text asked s
  shows_heard s events processes few within shown =
      let same : s.events ≡ (told_of h.read).events = events ∙ ap (λ (ns : List ℕ). named_all ns h.read.history) same_names in
      record {
        part = record {
          start = record { tells = told_of h.read; is_history = heard.history; opening = state_of h.opening; begins = heard.begins };
          few = subst (λ (n : ℕ). n ≤ most_processes) (processes ∙ ap process_count same) few;
          shown = subst (λ (b : ℕ). IsShown (CallEnds program b) (state_of h.opening) (told_of h.read).events s.part.count s.part.order.items s.part.ceases) heard.budget
              (shown_there s.part.count s.part.order.items s.part.ceases shown);
        };
        events = same;
        processes = processes;
        few = few;
        within = within;
      }

  pub fault_heard : (most : ℕ) (calls : Option CallRange) (e : SearchFault) → IsFaultIn o h.read.history names most e →
      HasDrawFault BeginsPlaced TrapsPlaced CallEnds program text asked most calls (Faults.Search e)
  fault_heard most calls e f = (fault_found program text asked h heard _ _ _ _ same_program same_budget same_opening same_names most e f.0, f.1)
