-- What a run over a module's tree has to do with runs over its code.
use Rattle.std.specs.Prelude.{◌≡◌, ℕ, List}
use Rattle.ob_object_compile.specs.Compilation.{IsShort}
use Rattle.ob_object_perform.specs.Performance.{IsPerformance}
use Rattle.ob_object_perform.specs.Printed.{IsRecordPrinted}
use Rattle.ob_object_perform.specs.Texts.{Texts}
use Rattle.ob_text_record.specs.Record.{Record}
use Rattle.ob_text_record.specs.RecordText.{record_text}
use Rattle.ob_typing.specs.ModuleText.{IsModule}
use Rattle.ob_typing.specs.Program.{Program}

module _ (t : Texts) where
  -- where the module's code is not too long, the record is one of a run over that code
  abbrev pub IsOfCode : Record → Type 0
  IsOfCode r = (program : Program) → IsModule t.asked.text program → IsShort program → IsPerformance t r

  -- each run over code has a record with the same text
  abbrev pub HasTextOfCode : Record → Type 0
  HasTextOfCode r = (other : Record) → (p : IsPerformance t other) → record_text p.object.program other ≡ record_text p.object.program r

  -- what is printed of a run over code are these bytes
  abbrev pub IsPrintedOfCode : List ℕ → Type 0
  IsPrintedOfCode output = (other : List ℕ) → IsRecordPrinted t other → other ≡ output
