-- A reader or a writer of the standard library as a device.
use Rattle.std.specs.Prelude.{ℕ, Option}
use Rattle.std.specs.declared.io.ErrorKind.{ErrorKind}

-- the reader or the writer, how often it has failed, and what was said of the last failure
pub record Counting (T : Type 0) : Type 0 where
  pub inner : T
  pub failures : ℕ
  pub reason : Option ErrorKind
