-- What each process calls, by the lines of a script.
use Rattle.std.specs.Prelude.{ℕ, zero, suc, List, [], ◌∷◌, ◌++◌, nat_eq, if◌then◌else◌}
use Rattle.ob_interface.specs.Call.{ObjectCall}
use Rattle.ob_text_words.specs.ScriptCalls.{ScriptCall, object_call}

-- the calls of one process, in line order
abbrev pub calls_by : ℕ → List ScriptCall → List ObjectCall
calls_by process [] = []
calls_by process (c ∷ calls) = if nat_eq c.process process then object_call c ∷ calls_by process calls else calls_by process calls

-- those of each of so many processes
abbrev pub scripts_by : (processes : ℕ) → List ScriptCall → List (List ObjectCall)
scripts_by zero calls = []
scripts_by (suc process) calls = scripts_by process calls ++ calls_by process calls ∷ []
