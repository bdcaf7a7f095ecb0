-- What one line of a script says, and what a fault says of it.
use Rattle.std.specs.Prelude.{◌≡◌, ℕ, List, Option, MatchOption}
use Rattle.ob_interface.specs.Export.{Signature}
use Rattle.ob_text_words.specs.ScriptCalls.{script_call_of}
use Rattle.ob_text_words.specs.Words.{Word}
use Rattle.ob_text_words.specs.declared.script_call.ScriptCall.{ScriptCall}
use Rattle.ob_text_scripts.specs.Script.{HasNoForm, HasNoExport, HasBadArguments, HasNoProcess, IsSkipped, Makes}
use Rattle.ob_text_scripts.specs.declared.script.ScriptFault.{ScriptFault}
use Rattle.ob_text_scripts.specs.declared.script.ScriptFault.TheVariants as Faults

-- the line makes this call, or has nothing to say
abbrev pub MakesOrSkips : List Signature → ℕ → List Word → Option ScriptCall → Type 0
MakesOrSkips signatures processes line made = MatchOption made (IsSkipped line) (λ call. Makes signatures processes line (script_call_of call))

-- a line of this number has the fault, and the fault tells the number; nothing is said where memory wanted
abbrev pub HasFault : List Signature → ℕ → List Word → ℕ → ScriptFault → Type 0
HasFault signatures processes line number (Faults.Form told) = (told ≡ number) × HasNoForm signatures processes line
HasFault signatures processes line number (Faults.Procedure told) = (told ≡ number) × HasNoExport signatures processes line
HasFault signatures processes line number (Faults.Arguments told) = (told ≡ number) × HasBadArguments signatures processes line
HasFault signatures processes line number (Faults.Process told) = (told ≡ number) × HasNoProcess signatures processes line
HasFault signatures processes line number Faults.NoMemory = Unit {0}
