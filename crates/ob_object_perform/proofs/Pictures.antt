-- What is drawn of a run with its makers, and the faults of its range.
use Rattle.std.proofs.Common.{◌≡◌, ℕ, List, Option, length, true, false}
use Rattle.ob_checked.specs.Exports.{signatures}
use Rattle.ob_interface.specs.Export.{Signature}
use Rattle.ob_object_compile.specs.Compilation.{IsShort}
use Rattle.ob_object_perform.specs.Performance.{IsRefusal}
use Rattle.ob_object_perform.specs.Pictured.{IsDrawFault, IsDrawRefusal, IsPicturePrinted, IsWithMakers, SaysNoRun, TellsMemoryApart, moments_of, of_picture}
use Rattle.ob_object_perform.specs.Texts.{Texts}
use Rattle.ob_object_perform.specs.declared.drawing.DrawFault.TheVariants as Draw
use Rattle.ob_object_perform.specs.declared.performing.PerformFault.{PerformFault}
use Rattle.ob_text_record.specs.Record.{Record}
use Rattle.ob_picture.specs.Shapes.{picture_text}
use Rattle.ob_picture_chart.specs.Charts.{begun, chart_of, range_of}
use Rattle.ob_picture_chart.specs.Faults.{IsRangeFault, MayBeShown}
use Rattle.ob_picture_chart.specs.Moments.{Moment}
use Rattle.ob_picture_chart.specs.declared.charts.CallRange.{CallRange}
use Rattle.ob_picture_chart.specs.declared.fault.PictureFault.{PictureFault}
use Rattle.ob_picture_chart.specs.declared.fault.PictureFault.TheVariants as Pictures
use Rattle.ob_typing.specs.Program.{Program}
use Rattle.wf_history.specs.declared.event.CallId.{CallId}

module _ (t : Texts) (calls : Option CallRange) where
  -- with a fault of the run
  pub run_refuses : (e : PerformFault) → IsRefusal IsShort t e → IsDrawRefusal t calls (Draw.Run e)
  run_refuses e h = record { says = h.says; none = h.none; memory = h.memory }

  -- a fault of a range is none of the run
  says_none : (e : PictureFault) → SaysNoRun t (of_picture e)
  says_none (Pictures.NoCalls total) = tt
  says_none (Pictures.TooMany number) = tt
  says_none Pictures.NoMemory = λ numbered. let bad : true ≡ false = numbered.0 in cc

  module _ (program : Program) (r : Record) (makers : List ℕ) (is : IsWithMakers t program r makers) (seen : List Moment) (same : seen ≡ moments_of r makers) where
    range_fails : (e : PictureFault) → IsRangeFault (length (begun seen)) calls e → IsDrawFault t calls (of_picture e)
    range_fails (Pictures.NoCalls total) fails =
        record { run = record { program = program; shown = r; makers = makers; is = is }; fails = rw same at fails }
    range_fails (Pictures.TooMany number) fails =
        record { run = record { program = program; shown = r; makers = makers; is = is }; fails = rw same at fails }
    range_fails Pictures.NoMemory fails = tt

    range_memory : (e : PictureFault) → TellsMemoryApart (of_picture e)
    range_memory (Pictures.NoCalls total) = λ bad. cc
    range_memory (Pictures.TooMany number) = λ bad. cc
    range_memory Pictures.NoMemory = tt

    pub range_refuses : (e : PictureFault) → IsRangeFault (length (begun seen)) calls e → IsDrawRefusal t calls (of_picture e)
    range_refuses e fails = record { says = range_fails e fails; none = says_none e; memory = range_memory e }

    pub drawn : (names : List Signature) (order : List CallId) (output : List ℕ) → names ≡ signatures program → order ≡ r.order → MayBeShown (length (begun seen)) calls →
        output ≡ picture_text names (chart_of t.asked.processes seen order (range_of (length (begun seen)) calls)) → IsPicturePrinted t calls output
    drawn names order output named ordered shown printed =
        record {
          run = record { program = program; shown = r; makers = makers; is = is };
          within = rw same at shown;
          printed = rw (← named, ← ordered, ← same) printed;
        }
