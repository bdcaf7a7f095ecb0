-- In which line of a script each of its calls stands.
use Rattle.std.specs.Prelude.{◌≡◌, ℕ, suc, ◌==◌, Bool, true, false, List, [], ◌∷◌, length, map, if◌then◌else◌}
use Rattle.ob_interface.specs.Export.{Signature}
use Rattle.ob_text_scripts.specs.Script.{IsScript}
use Rattle.ob_text_words.specs.ScriptCalls.{ScriptCall}
use Rattle.ob_text_words.specs.Words.{Word, lines, words}

-- a line that makes no call: it has no word, or its first one begins with `#`
abbrev pub is_silent : List Word → Bool
is_silent [] = true
is_silent ([] ∷ others) = false
is_silent ((b ∷ word) ∷ others) = b == 35

-- the numbers of the lines that make calls, where the first line has this number
abbrev pub lines_from : ℕ → List (List Word) → List ℕ
lines_from number [] = []
lines_from number (line ∷ rest) = if is_silent line then lines_from (suc number) rest else number ∷ lines_from (suc number) rest

-- the line of each call, from 1
abbrev pub call_lines : (script : List ℕ) → List ℕ
call_lines script = lines_from 1 (map words (lines script))

-- each call of a script of these processes, for these exports, has a line
abbrev pub EachCallHasALine : (signatures : List Signature) (processes : ℕ) → Type 0
EachCallHasALine signatures processes =
    (script : List ℕ) (calls : List ScriptCall)
    → IsScript signatures processes script calls
    → length (call_lines script) ≡ length calls
