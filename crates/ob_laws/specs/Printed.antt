-- Records of runs from texts, by a schedule or by workers: they are writable, and what is printed of them is verified.
use Rattle.std.specs.Prelude.{ℕ, ◌<◌, ◌^◌, List, length}
use Rattle.ob_desk_serve.specs.PromisesOfServe.{IsRecordOf}
use Rattle.ob_desk_serve.specs.PromisesOfServeTexts.{AreReadCalls, IsServedPrinted}
use Rattle.ob_object_compile.specs.Asked.{Asked}
use Rattle.ob_object_compile.specs.Compilation.{ObjectParts}
use Rattle.ob_object_perform.specs.Performance.{IsRunOf}
use Rattle.ob_object_perform.specs.Printed.{IsPrintedOf}
use Rattle.ob_object_perform.specs.Texts.{Texts}
use Rattle.ob_text_record.specs.Record.{Record}
use Rattle.ob_object_calls.specs.Verified.{IsVerified}
use Rattle.ob_laws.specs.Writable.{IsWritable}
use Rattle.ob_text_words.specs.ScriptCalls.{ScriptCall}
use Rattle.ob_typing.specs.Program.{Program}

-- of runs by a schedule, where an object is asked for of certain programs alone
module _ (Allowed : Program → Type 0) where
  -- the record of a run, with fewer than 2^64 events, fits the run's module, however the object begins
  abbrev pub PerformedIsWritable : Type 0
  PerformedIsWritable =
      (t : Texts) (r : Record) (performs : IsRunOf Allowed t r) → length r.history < 2 ^ 64 → ∥ IsWritable performs.object.program r ∥₁

  -- so what is printed of a run is verified: it is a record, and its order is a legal order of what it tells, from the state with which
  -- the object begins
  abbrev pub PrintedIsVerified : Type 0
  PrintedIsVerified = (t : Texts) (output : List ℕ) → IsPrintedOf Allowed t output → ∥ IsVerified t.asked.text output ∥₁

-- so does the record of workers, who made the calls of scripts on the object of a text
abbrev pub ServedIsWritable : Type 0
ServedIsWritable =
    (a : Asked) (scripts : List ℕ) (o : ObjectParts) (calls : List ScriptCall) (r : Record) → AreReadCalls a scripts o calls →
    IsRecordOf o calls r → length r.history < 2 ^ 64 → ∥ IsWritable o.program r ∥₁

-- and what is printed of them is verified
abbrev pub ServedIsVerified : Type 0
ServedIsVerified = (a : Asked) (scripts output : List ℕ) → IsServedPrinted a scripts output → ∥ IsVerified a.text output ∥₁
