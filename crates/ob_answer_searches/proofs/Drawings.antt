-- A history of which no picture is printed, with the beginning of a module.
use Rattle.std.proofs.Common.{◌≡◌, ◌≢◌, ◌<◌, ◌++◌, ℕ, List, Result, Ok, Err, Option, IfOk, ap, length, codes, subst, sym}
use Rattle.ob_answer_explained.proofs.AtOnce.{no_module, too_long_scan}
use Rattle.ob_answer_explained.proofs.Beginnings.{beginning, of_whole_or_long}
use Rattle.ob_answer_files.specs.Printed.{IsRefused, refused}
use Rattle.ob_answer_files.specs.declared.answered.Answer.{Answer}
use Rattle.ob_answer_searches.proofs.Refused.{numbered_search}
use Rattle.ob_answer_searches.specs.HistoryPictureAnswers.{IsHistoryPictureAnswer, IsNumberedDrawing}
use Rattle.ob_object_draw.specs.DrawHistoryFaults as Drawn
use Rattle.ob_object_draw.specs.DrawHistoryFaults.{IsDrawHistoryFault, RulesOut}
use Rattle.ob_object_draw.specs.HistoryPictures.{HasNoPicture}
use Rattle.ob_object_draw.specs.declared.picture_faults.DrawHistoryFault.{DrawHistoryFault}
use Rattle.ob_object_draw.specs.declared.picture_faults.DrawHistoryFault.TheVariants as Drawings
use Rattle.ob_fault_lines.specs.HistoryFaultLines.{draw_history_fault_line}
use Rattle.ob_picture_chart.specs.declared.charts.CallRange.{CallRange}

numbered_drawing : (e : DrawHistoryFault) → e ≢ Drawn.no_memory → Drawn.TellsMemoryApart e → IsNumberedDrawing e
numbered_drawing (Drawings.Search e) known apart = numbered_search e (λ is. known (ap Drawings.Search is)) apart
numbered_drawing Drawings.Processes known apart = tt
numbered_drawing (Drawings.Calls e) known apart = apart

pub picture_refused_made : {E : Type 0} (part text : List ℕ) (budget : Option ℕ) (most : ℕ) (calls : Option CallRange) (e : DrawHistoryFault) (result : Result Answer E)
    → IfOk result (λ a. IsRefused a 1 (draw_history_fault_line e ++ codes "\n")) → IfOk result (λ _. e ≢ Drawn.no_memory)
    → IsDrawHistoryFault part text budget most calls e → Drawn.TellsMemoryApart e → (RulesOut e → HasNoPicture part text budget calls)
    → (65536 < length part → e ≡ Drawn.too_long)
    → IfOk result (λ a. (whole : List ℕ) → part ≡ beginning whole → IsHistoryPictureAnswer calls whole text budget most a)
picture_refused_made part text budget most calls e (Ok a) told known stands apart none too_long =
    λ whole is.
    refused e (record {
      says = of_whole_or_long (λ t. IsDrawHistoryFault t text budget most calls e) part whole is
          (λ long longer. subst (λ (x : DrawHistoryFault). IsDrawHistoryFault whole text budget most calls x) (sym (too_long long)) (too_long_scan whole longer, λ id same. cc)) stands;
      none = of_whole_or_long (λ t. RulesOut e → HasNoPicture t text budget calls) part whole is
          (λ long longer of output p. no_module whole longer p.program p.is_module) none;
      numbered = numbered_drawing e known apart;
    }) told
picture_refused_made part text budget most calls e (Err x) told known stands apart none too_long = tt
