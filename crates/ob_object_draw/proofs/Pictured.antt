-- What is drawn of what is shown, by positions.
use Rattle.std.proofs.Common.{◌≡◌, ◌∙◌, ℕ, List, Option, ap, subst, take}
use Rattle.ob_checked.specs.Exports.{signatures}
use Rattle.ob_interface.specs.Call.{ObjectCall, Reply}
use Rattle.ob_interface.specs.Export.{Signature}
use Rattle.ob_object_run.specs.LegalOrder.{CallEnds}
use Rattle.ob_object_draw.proofs.Seen.{memory_heard}
use Rattle.ob_object_draw.specs.DrawHistoryFaults.{HasDrawFault, of_picture}
use Rattle.ob_object_draw.specs.HistoryPictures.{AreDrawnMarked, HasPicture, HasRangeFault, begun_with}
use Rattle.ob_object_draw.specs.Parts.{Shows}
use Rattle.ob_object_draw.specs.declared.shown_history.Shown.{Shown}
use Rattle.ob_object_calls.specs.Beginnings.{BeginsPlaced, TrapsPlaced}
use Rattle.ob_picture_chart.specs.Faults.{IsRangeFault}
use Rattle.ob_picture_chart.specs.declared.charts.CallRange.{CallRange}
use Rattle.ob_picture_chart.specs.declared.fault.PictureFault.{PictureFault}
use Rattle.ob_picture_chart.specs.declared.fault.PictureFault.TheVariants as Pictures
use Rattle.ob_typing.specs.Program.{Program}
use Rattle.wf_lookup.specs.Beginnings.{process_count}
use Rattle.wf_history.specs.History.{Event}

abbrev Events : Type 0
Events = List (Event ObjectCall Reply)

module _ (program : Program) (text : List ℕ) (asked : Option ℕ) (calls : Option CallRange) (s : Shown) (shows : Shows program text asked s) where
  pub pictured : (names : List Signature) (output : List ℕ) → names ≡ signatures program →
      AreDrawnMarked names s.processes (take s.part.count s.events) s.part.order.items s.part.ceases calls output → HasPicture BeginsPlaced CallEnds program text asked calls output
  pictured names output same drawn =
      let Drawn : List Signature → ℕ → Events → Type 0 = λ (ns : List Signature) (n : ℕ) (es : Events). AreDrawnMarked ns n (take s.part.count es) s.part.order.items s.part.ceases calls output in
      record {
        count = s.part.count;
        order = s.part.order.items;
        ceases = s.part.ceases;
        part = shows.part;
        drawn =
            subst (λ (ns : List Signature). Drawn ns (process_count shows.part.start.tells.events) shows.part.start.tells.events) same
            (subst (λ (n : ℕ). Drawn names n shows.part.start.tells.events) (shows.processes ∙ ap (λ (es : Events). process_count es) shows.events)
            (subst (λ (es : Events). Drawn names s.processes es) shows.events drawn));
      }

  out_of_range : (e : PictureFault) → IsRangeFault (begun_with (take s.part.count s.events) s.part.order.items) calls e → HasRangeFault BeginsPlaced CallEnds program text asked calls e
  out_of_range e h =
      record {
        count = s.part.count;
        order = s.part.order.items;
        ceases = s.part.ceases;
        part = shows.part;
        fails = subst (λ (es : Events). IsRangeFault (begun_with (take s.part.count es) s.part.order.items) calls e) shows.events h;
      }

  pub range_fault : (most : ℕ) (e : PictureFault) → IsRangeFault (begun_with (take s.part.count s.events) s.part.order.items) calls e →
      HasDrawFault BeginsPlaced TrapsPlaced CallEnds program text asked most calls (of_picture e)
  range_fault most (Pictures.NoCalls all) h = out_of_range (Pictures.NoCalls all) h
  range_fault most (Pictures.TooMany number) h = out_of_range (Pictures.TooMany number) h
  range_fault most Pictures.NoMemory h = memory_heard program text asked most calls
