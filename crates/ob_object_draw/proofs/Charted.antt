-- The picture of a chart of events, with a mark.
use Rattle.std.proofs.Common.{◌≡◌, ◌∙◌, ℕ, List, Option, ap, length, subst}
use Rattle.ob_interface.specs.Call.{ObjectCall, Reply}
use Rattle.ob_interface.specs.Export.{Signature}
use Rattle.ob_object_draw.specs.HistoryPictures.{AreDrawn}
use Rattle.ob_picture.specs.Shapes.{picture_text}
use Rattle.ob_picture_chart.specs.Charts.{Chart, Mark, begun, chart_of_calls, marked}
use Rattle.ob_picture_chart.specs.Faults.{MayBeShown}
use Rattle.ob_picture_chart.specs.Moments.{Moment, placed_from}
use Rattle.ob_picture_chart.specs.declared.charts.CallRange.{CallRange}
use Rattle.wf_history.specs.History.{Event}
use Rattle.wf_history.specs.declared.event.CallId.{CallId}

module _ (names : List Signature) (processes : ℕ) (events : List (Event ObjectCall Reply)) (order : List CallId) (calls : Option CallRange) where
  pub charted : (mark : Option Mark) (seen : List Moment) (chart : Chart) (output : List ℕ) → seen ≡ placed_from order 0 events → chart ≡ chart_of_calls processes seen order calls →
      MayBeShown (length (begun seen)) calls → output ≡ picture_text names (marked mark chart) → AreDrawn names processes events order mark calls output
  charted mark seen chart output same is shown printed =
      record {
        within = subst (λ (ms : List Moment). MayBeShown (length (begun ms)) calls) same shown;
        printed =
            printed
            ∙ ap (λ (c : Chart). picture_text names (marked mark c)) (is ∙ ap (λ (ms : List Moment). chart_of_calls processes ms order calls) same);
      }
