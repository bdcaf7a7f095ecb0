-- The same of pictures and of workers.
use Rattle.std.proofs.Common.{◌<◌, ℕ, List, Option, length}
use Rattle.ob_desk_serve.specs.PromisesOfServeTexts.{IsUngatedRefusal, calls_texts}
use Rattle.ob_desk_serve.specs.declared.serving_texts.ServeTextFault.TheVariants as Serve
use Rattle.ob_object_compile.specs.Asked.{Asked}
use Rattle.ob_object_compile.specs.Compilation as Compiles
use Rattle.ob_object_compile.specs.declared.compiling.CompileFault.{CompileFault}
use Rattle.ob_object_perform.specs.Pictured.{IsDrawRefusal}
use Rattle.ob_object_perform.specs.Texts.{Texts}
use Rattle.ob_object_perform.specs.declared.drawing.DrawFault.TheVariants as Draw
use Rattle.ob_object_perform.specs.declared.performing.PerformFault.TheVariants as Perform
use Rattle.ob_picture_chart.specs.declared.charts.CallRange.{CallRange}
use Rattle.ob_answer_explained.proofs.AtOnce.{IsAtOnce, run_refused}

pub picture_refused : (t : Texts) (calls : Option CallRange) (c : CompileFault) → 65536 < length t.asked.text → IsAtOnce t.asked c
    → IsDrawRefusal t calls (Draw.Run (Perform.Compile c))
picture_refused t calls c longer at_once =
    let run = run_refused Compiles.IsShort t c longer at_once in
    record { says = run.says; none = run.none; memory = run.memory }

pub workers_refused : (a : Asked) (script : List ℕ) (c : CompileFault) → 65536 < length a.text → IsAtOnce a c
    → IsUngatedRefusal a script (Serve.Texts (Perform.Compile c))
workers_refused a script c longer at_once =
    let run = run_refused Compiles.IsShort (calls_texts a script) c longer at_once in
    record { says = run.says; unread = run.unread; memory = (run.memory, λ is. let bad = is in cc) }
