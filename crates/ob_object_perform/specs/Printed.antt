-- What is printed of a run from texts.
use Rattle.std.specs.Prelude.{◌≡◌, ℕ, ◌<◌, ◌^◌, List, length}
use Rattle.ob_object_compile.specs.Compilation.{IsShort}
use Rattle.ob_object_perform.specs.Performance.{IsPerformance, IsRunOf}
use Rattle.ob_object_perform.specs.Texts.{Texts}
use Rattle.ob_text_record.specs.Record.{Record}
use Rattle.ob_text_record.specs.RecordText.{record_text}
use Rattle.ob_typing.specs.Program.{Program}

-- the texts have a run
abbrev pub HasPerformance : Texts → Type 0
HasPerformance t = (r : Record) × IsPerformance t r

-- the bytes are the text of the record of a run of the object that is asked for, which has fewer than 2^64 events; where an object is
-- asked for of certain programs alone
pub record IsPrintedOf (Allowed : Program → Type 0) (t : Texts) (output : List ℕ) : Type 0 where
  pub shown : Record
  pub performs : IsRunOf Allowed t shown
  pub events : length shown.history < 2 ^ 64
  pub printed : output ≡ record_text performs.object.program shown

abbrev pub IsRecordPrinted : Texts → (output : List ℕ) → Type 0
IsRecordPrinted = IsPrintedOf IsShort
