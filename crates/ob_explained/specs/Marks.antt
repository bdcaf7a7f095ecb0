-- At which word of a script a mark stands, by what stands between line feeds and between blanks.
use Rattle.std.specs.Prelude.{◌≡◌, ◌≤◌, ◌+◌, ◌-◌, ℕ, List, [], ◌∷◌, ◌++◌, Some, false, drop, length, slice_get, take}
use Rattle.ob_text_scripts.specs.declared.script.ScriptFault.{ScriptFault}
use Rattle.ob_text_scripts.specs.declared.script.ScriptFault.TheVariants as Script
use Rattle.ob_text_words.specs.Words.{IsProcess, Word, is_blank, lines, words}

-- A place in a line at which its word of a number begins, counted from 0: the words before it stand up to there, and it and the
-- others from there on. Where the line has fewer words it is its end.
pub record BeginsWord (line : List ℕ) (number place : ℕ) : Type 0 where
  pub before : words (take place line) ≡ take number (words line)
  pub behind : words (drop place line) ≡ drop number (words line)
  pub no_blank : (b : ℕ) → slice_get line place ≡ Some b → is_blank b ≡ false
  pub within : place ≤ length line

-- A place in a text, at a place in its line of a number, counted from 1: up to there stand the lines before it, and then its beginning.
abbrev pub IsInLine : (text : List ℕ) (number : ℕ) (line : List ℕ) (at place : ℕ) → Type 0
IsInLine text number line at place = lines (take place text) ≡ take (number - 1) (lines text) ++ take at line ∷ []

-- in the line of a number, which begins there in the text: each place in it, its end too
abbrev pub AreInLine : (text : List ℕ) (number begin : ℕ) → Type 0
AreInLine text number begin =
    (line : List ℕ) (at : ℕ) → slice_get (lines text) (number - 1) ≡ Some line → at ≤ length line → IsInLine text number line at (begin + at)

-- a place in a text at which a word of a line begins
abbrev pub MarksWord : (text : List ℕ) (number word place : ℕ) → Type 0
MarksWord text number word place =
    (line : List ℕ) → slice_get (lines text) (number - 1) ≡ Some line → (at : ℕ) × BeginsWord line word at × IsInLine text number line at place

-- the first word of a line is a process
abbrev pub HasProcess : List ℕ → Type 0
HasProcess line = (first : Word) × (p : ℕ) × (slice_get (words line) 0 ≡ Some first) × IsProcess first p

-- the word by which a line is no call: the second one, where the first is a process
pub record MarksForm (text : List ℕ) (number place : ℕ) : Type 0 where
  pub name : (line : List ℕ) → slice_get (lines text) (number - 1) ≡ Some line → HasProcess line → MarksWord text number 1 place
  pub process : (line : List ℕ) → slice_get (lines text) (number - 1) ≡ Some line → (HasProcess line → ⊥) → MarksWord text number 0 place

-- the word that the rule is about: the process, or the procedure's name
abbrev pub IsMark : (script : List ℕ) → ScriptFault → (place : ℕ) → Type 0
IsMark script (Script.Form number) place = MarksForm script number place
IsMark script (Script.Procedure number) place = MarksWord script number 1 place
IsMark script (Script.Arguments number) place = MarksWord script number 1 place
IsMark script (Script.Process number) place = MarksWord script number 0 place
IsMark script Script.NoMemory place = ⊥

-- a place in a text at which a word of a line begins behind its process: the procedure's name, or a value
abbrev pub MarksBehindProcess : (text : List ℕ) (number place : ℕ) → Type 0
MarksBehindProcess text number place = (word : ℕ) × (1 ≤ word) × MarksWord text number word place

-- the word that is told where the exports are known: of values that don't fit the procedure's name or one of them, and else as above
abbrev pub IsToldMark : (script : List ℕ) → ScriptFault → (place : ℕ) → Type 0
IsToldMark script (Script.Procedure number) place = MarksBehindProcess script number place
IsToldMark script (Script.Arguments number) place = MarksBehindProcess script number place
IsToldMark script fault place = IsMark script fault place
