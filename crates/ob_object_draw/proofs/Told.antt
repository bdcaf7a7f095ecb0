-- What is drawn of a module's text and of a history of its program's object, as what is answered of both texts.
use Rattle.std.proofs.Common.{◌≡◌, ◌∙◌, ℕ, List, Option, ap, arith, inl, inr, refl, subst, take}
use Rattle.ob_check.specs.CheckedText.{IsNumberedText, TellsTextMemoryApart}
use Rattle.ob_check.specs.declared.module_text.TextFault.{TextFault}
use Rattle.ob_check.specs.declared.module_text.TextFault.TheVariants as Text
use Rattle.ob_code_correct.specs.Named.{CallMeans}
use Rattle.ob_meaning.specs.Resolved.{IsResolved}
use Rattle.ob_mean.specs.declared.openings.OpenFault.TheVariants as Open
use Rattle.ob_interface.specs.Call.{ObjectCall, Reply}
use Rattle.ob_object_draw.proofs.NoPicture.{not_shown}
use Rattle.ob_object_run.specs.LegalOrder.{CallEnds}
use Rattle.ob_object_search.proofs.Texts as Texts
use Rattle.ob_object_search.specs.SearchFaults.{IsUndecided, of_text}
use Rattle.ob_object_search.specs.declared.searching.SearchFault.TheVariants as Search
use Rattle.ob_object_draw.proofs.Alone.{same_begun, same_count}
use Rattle.ob_object_draw.proofs.Crossed.{part_placed, picture_named, range_named}
use Rattle.ob_object_draw.specs.DrawHistoryFaults.{HasDrawFault, IsDrawHistoryFault, RulesOut}
use Rattle.ob_object_draw.specs.HistoryPictures.{HasNoPicture, HasPicture, IsHistoryPicture, begun_with}
use Rattle.ob_object_draw.specs.declared.picture_faults.DrawHistoryFault.{DrawHistoryFault}
use Rattle.ob_object_draw.specs.declared.picture_faults.DrawHistoryFault.TheVariants as Faults
use Rattle.ob_object_search.proofs.Recordings as Recordings
use Rattle.ob_object_search.specs.declared.order_recording.RecordingFault.TheVariants as Recording
use Rattle.ob_object_calls.proofs.Beginnings.{beginning_placed, no_trap}
use Rattle.ob_object_calls.proofs.Openings.{module_resolved}
use Rattle.ob_object_calls.specs.Beginnings.{BeginsNamed, BeginsPlaced, TrapsPlaced}
use Rattle.ob_text_reading.proofs.Whole.{one_told}
use Rattle.ob_text_reading.specs.HistoryLines.{HistoryTold}
use Rattle.ob_picture_chart.specs.Faults.{MayBeShown}
use Rattle.ob_picture_chart.specs.declared.charts.CallRange.{CallRange}
use Rattle.ob_typing.specs.ModuleText.{IsModule}
use Rattle.ob_typing.specs.Program.{Program}
use Rattle.wf_lookup.specs.Beginnings.{process_count}
use Rattle.wf_history.specs.History.{Event}

-- a text with a fault that is no want of memory is no module
pub no_module : (module_text : List ℕ) (e : TextFault) → (IsNumberedText e → (program : Program) → IsModule module_text program → ⊥) → TellsTextMemoryApart e →
    ¬ IsUndecided (of_text e) → (program : Program) → IsModule module_text program → ⊥
no_module module_text (Text.Scan e) none apart decided = none (refl, apart)
no_module module_text (Text.Parse e) none apart decided = none (refl, apart)
no_module module_text (Text.Check e) none apart decided = none (refl, apart)
no_module module_text Text.NoMemory none apart decided = absurd (decided (inr refl))

-- where the text has one of these faults, there is no picture of it
module _ (program : Program) (good : IsResolved program) (text : List ℕ) (asked : Option ℕ) (most : ℕ) (calls : Option CallRange) (output : List ℕ)
    (p : HasPicture BeginsNamed CallMeans program text asked calls output) where
  no_picture : (e : DrawHistoryFault) → HasDrawFault BeginsPlaced TrapsPlaced CallEnds program text asked most calls e → ¬ RulesOut e
  no_picture (Faults.Search (Search.Text e)) h out = h.0
  no_picture (Faults.Search (Search.Form line)) h out = h.0.none tt p.part.start.tells p.part.start.is_history
  no_picture (Faults.Search (Search.Open (Open.Trap k))) h out =
      let b = beginning_placed program good p.part.start.tells.carried p.part.start.opening p.part.start.begins in
      let same = one_told program p.part.start.is_history h.0.is_history in
      no_trap program h.0.tells.carried b.0 k (subst (λ (t : HistoryTold). BeginsPlaced program t.carried b.0) same b.1) h.0.traps
  no_picture (Faults.Search (Search.Open Open.NoMemory)) h out = h.0
  no_picture (Faults.Search (Search.Illegal id)) h out = h.1 id refl
  no_picture (Faults.Search Search.TooMany) h out = out (inl refl)
  no_picture (Faults.Search Search.NoMemory) h out = out (inr refl)
  no_picture Faults.Processes h out =
      let same = ap (λ (t : HistoryTold). process_count t.events) (one_told program p.part.start.is_history h.start.is_history) in
      let few = p.part.few in
      let many = h.many in
      omega (arith, same, few, many)
  no_picture (Faults.Calls e) h out =
      let same = ap (λ (t : HistoryTold). t.events) (one_told program p.part.start.is_history h.part.start.is_history) in
      let count = same_count program text asked p.count h.count p.order h.order p.ceases h.ceases (part_placed program good text asked p.count p.order p.ceases p.part) h.part in
      let events = ap (λ (n : ℕ). take n p.part.start.tells.events) count ∙ ap (λ (es : List (Event ObjectCall Reply)). take h.count es) same in
      let begins = ap (λ (es : List (Event ObjectCall Reply)). begun_with es p.order) events ∙ same_begun (take h.count h.part.start.tells.events) p.order h.order in
      not_shown (begun_with (take h.count h.part.start.tells.events) h.order) calls e out h.fails (subst (λ (n : ℕ). MayBeShown n calls) begins p.drawn.2.within)

module _ (module_text history_text : List ℕ) (asked : Option ℕ) (most : ℕ) (calls : Option CallRange) (program : Program) (is_module : IsModule module_text program)
    (alone : (other : Program) → IsModule module_text other → other ≡ program) where
  pub picture_by : (output : List ℕ) → HasPicture BeginsPlaced CallEnds program history_text asked calls output → IsHistoryPicture module_text history_text asked calls output
  picture_by output p =
      record { program = program; is_module = is_module; has_picture = picture_named program (module_resolved module_text program is_module) history_text asked calls output p }

  pub fault_by : (e : DrawHistoryFault) → HasDrawFault BeginsPlaced TrapsPlaced CallEnds program history_text asked most calls e → IsDrawHistoryFault module_text history_text asked most calls e
  fault_by (Faults.Search e) h = (Texts.told_of module_text history_text asked most program is_module alone e h.0, h.1)
  fault_by Faults.Processes h = Recordings.fault_by module_text history_text asked most program is_module alone Recording.Processes h
  fault_by (Faults.Calls e) h =
      record { program = program; is_module = is_module; has_fault = range_named program (module_resolved module_text program is_module) history_text asked calls e h }

  pub none_by : (e : DrawHistoryFault) → HasDrawFault BeginsPlaced TrapsPlaced CallEnds program history_text asked most calls e → RulesOut e →
      HasNoPicture module_text history_text asked calls
  none_by e h out output p =
      no_picture program (module_resolved module_text program is_module) history_text asked most calls output
      (subst (λ (q : Program). HasPicture BeginsNamed CallMeans q history_text asked calls output) (alone p.program p.is_module) p.has_picture) e h out
