-- What is drawn of a record, with its mark.
use Rattle.std.proofs.Common.{◌≡◌, ◌∙◌, ap, sym, refl, ℕ, List, Option, Some, None, length, option_map}
use Rattle.ob_interface.specs.Export.{Signature}
use Rattle.ob_object_draw.specs.Marks.{IsCallMarked, id_of, marks_of}
use Rattle.ob_object_draw.specs.RecordPictures.{IsDrawn, moments_of}
use Rattle.ob_object_draw.specs.declared.marking.Marked.{Marked}
use Rattle.ob_picture.specs.Shapes.{picture_text}
use Rattle.ob_picture_chart.specs.Charts.{Chart, Mark, begun, chart_of_calls, marked}
use Rattle.ob_picture_chart.specs.Faults.{MayBeShown}
use Rattle.ob_picture_chart.specs.Moments.{Moment}
use Rattle.ob_picture_chart.specs.declared.charts.CallRange.{CallRange}
use Rattle.ob_text_reading.specs.RecordLines.{Told}

pub drawn : (names given : List Signature) (tells : Told) (mark : Option Mark) (calls : Option CallRange) (seen : List Moment) (chart : Chart) (output : List ℕ) →
    given ≡ names → seen ≡ moments_of tells → chart ≡ chart_of_calls tells.processes seen tells.order calls → MayBeShown (length (begun seen)) calls →
    output ≡ picture_text given (marked mark chart) → IsDrawn names tells mark calls output
drawn names given tells mark calls seen chart output named same charted shown printed =
    record {
      within = rw same at shown;
      printed =
          printed
          ∙ ap (λ (ns : List Signature). picture_text ns (marked mark chart)) named
          ∙ ap (λ (c : Chart). picture_text names (marked mark c)) (charted ∙ ap (λ (ms : List Moment). chart_of_calls tells.processes ms tells.order calls) same);
    }

-- the call of a mark
pub same_call : (found : Option Marked) → option_map id_of found ≡ option_map (λ (m : Mark). m.id) (marks_of found)
same_call None = refl
same_call (Some found) = refl

pub marked_here : (module_text record_text : List ℕ) (found : Option Marked) (mark : Option Mark) → mark ≡ marks_of found → IsCallMarked module_text record_text (option_map id_of found) →
    IsCallMarked module_text record_text (option_map (λ (m : Mark). m.id) mark)
marked_here module_text record_text found mark same is = rw (same, ← same_call found) is
