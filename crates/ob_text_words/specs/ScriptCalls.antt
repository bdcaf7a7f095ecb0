-- The calls that scripts say, and what each asks of the object.
use Rattle.std.specs.Prelude.{ℕ, List}
use Rattle.ob_interface.specs.Call.{ObjectCall}
use Rattle.ob_interface.specs.declared.scalar.Scalar.{Scalar}
use Rattle.ob_text_words.specs.declared.script_call.ScriptCall as Declared

-- a call by a process: the number of the export, and the value arguments in text order
pub record ScriptCall : Type 0 where
  pub process : ℕ
  pub export : ℕ
  pub arguments : List Scalar

-- the one that a value of the program stands for
abbrev pub script_call_of : Declared.ScriptCall → ScriptCall
script_call_of c = record { process = c.process; export = c.proc; arguments = c.args.items }

-- what a script's call asks of the object
abbrev pub object_call : ScriptCall → ObjectCall
object_call c = record { export = c.export; arguments = c.arguments }
