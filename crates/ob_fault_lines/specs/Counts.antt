-- How many calls a script makes, and of how many a record tells that they begin, and that they end.
use Rattle.std.specs.Prelude.{◌≡◌, ℕ, ◌-◌, ◌==◌, not, Bool, true, false, List, [], ◌∷◌, ◌++◌, codes, count_by, decimal, length, map}
use Rattle.ob_interface.specs.Call.{ObjectCall, Reply}
use Rattle.ob_interface.specs.Export.{Signature}
use Rattle.ob_text_reading.specs.RecordLines.{IsRecord, Line, Told}
use Rattle.ob_text_scripts.specs.Script.{IsScript}
use Rattle.ob_text_words.specs.ScriptCalls.{ScriptCall}
use Rattle.ob_text_words.specs.Words.{lines, words}
use Rattle.ob_typing.specs.Program.{Program}
use Rattle.wf_history.specs.History.{Event, Applied, Begin, End}

-- a line of a script makes a call where it has words, of which the first begins with no #
abbrev pub makes_call : Line → Bool
makes_call [] = false
makes_call ([] ∷ ws) = true
makes_call ((b ∷ more) ∷ ws) = not (b == 35)

abbrev pub script_calls : List ℕ → ℕ
script_calls text = count_by makes_call (map words (lines text))

-- so many calls the text makes, of whichever exports and processes it is a script
abbrev pub CountsCalls : (script : List ℕ) → ℕ → Type 0
CountsCalls script count = (signatures : List Signature) (processes : ℕ) (calls : List ScriptCall) → IsScript signatures processes script calls → length calls ≡ count

-- the first byte of a line is this letter
abbrev pub begins_with : (letter : ℕ) → Line → Bool
begins_with letter [] = false
begins_with letter ([] ∷ ws) = false
begins_with letter ((b ∷ more) ∷ ws) = b == letter

abbrev pub is_begin : Event ObjectCall Reply → Bool
is_begin (Begin id call) = true
is_begin (Applied ids) = false
is_begin (End id reply) = false

abbrev pub is_end : Event ObjectCall Reply → Bool
is_end (Begin id call) = false
is_end (Applied ids) = false
is_end (End id reply) = true

-- so many events of a kind the text tells, of whichever program it is a record
abbrev pub CountsEvents : (Event ObjectCall Reply → Bool) → (record_text : List ℕ) → ℕ → Type 0
CountsEvents is_of_kind record_text count = (program : Program) (told : Told) → IsRecord program record_text told → count_by is_of_kind told.events ≡ count

-- a number, and words behind it
abbrev pub part : ℕ → List ℕ → List ℕ
part number behind = decimal number ++ behind

abbrev pub counts_line : (ended calls unbegun : ℕ) → List ℕ
counts_line ended calls unbegun = (part ended (codes " of ") ++ part calls (codes " calls ended, ")) ++ part unbegun (codes " never began\n")

-- What is said of so many calls by the text of a record: how many of them end, as it tells, and how many there are besides those that
-- begin, as it tells.
pub record IsCountsLine (calls : ℕ) (record_text line : List ℕ) : Type 0 where
  pub ended : ℕ
  pub begun : ℕ
  pub end : CountsEvents is_end record_text ended
  pub begin : CountsEvents is_begin record_text begun
  pub says : line ≡ counts_line ended calls (calls - begun)
