-- What is shown of a fault of a module and a history: its place, and of a line whose words are the cause what is said of them.
use Rattle.std.specs.Prelude.{◌≡◌, ◌≤◌, ◌<◌, ◌-◌, ℕ, List, ◌∷◌, Option, None, Some, MatchOption, codes, slice_get}
use Rattle.ob_explain_sentences.specs.Remarks.{Remark}
use Rattle.ob_explained.specs.Explained.{IsTextExplanation}
use Rattle.ob_explained_records.specs.HistoryForms.{IsHistoryFormRemark, Marks}
use Rattle.ob_explained.specs.Sources.{Source, shown_in}
use Rattle.ob_object_search.specs.declared.searching.SearchFault.{SearchFault}
use Rattle.ob_object_search.specs.declared.searching.SearchFault.TheVariants as Faults
use Rattle.ob_text_reading.specs.HistoryLines.{process_numbers}
use Rattle.ob_text_reading.specs.RecordLines.{IsId}
use Rattle.ob_text_words.specs.Words.{Word, lines, words}
use Rattle.ob_explained.specs.Openings.{IsOpenExplanation}
use Rattle.wf_history.specs.declared.event.CallId.{CallId}

-- the first word names the call, as words of histories do
abbrev pub NamesFirst : CallId → List Word → Type 0
NamesFirst id ws = (word : Word) × (rest : List Word) × (ws ≡ word ∷ rest) × IsId process_numbers word id

-- a line says that a call ends: E, and its name
abbrev pub SaysEnd : CallId → List Word → Type 0
SaysEnd id ws = (rest : List Word) × (ws ≡ codes "E" ∷ rest) × NamesFirst id rest

module _ (ls : List (List ℕ)) (id : CallId) where
  abbrev pub HasNoEnd : Type 0
  HasNoEnd = (k : ℕ) (line : List ℕ) → slice_get ls k ≡ Some line → ¬ SaysEnd id (words line)

  -- the line of this number, from 1, says that the call ends, and none before it does
  pub record IsFirstEnd (number : ℕ) : Type 0 where
    pub line : List ℕ
    pub counted : 1 ≤ number
    pub here : slice_get ls (number - 1) ≡ Some line
    pub says : SaysEnd id (words line)
    pub earlier : (k : ℕ) (other : List ℕ) → k < number - 1 → slice_get ls k ≡ Some other → ¬ SaysEnd id (words other)

-- the number of the first line of a text in which the call ends, where there is one
abbrev pub IsEndLine : (text : List ℕ) → CallId → Option ℕ → Type 0
IsEndLine text id number = MatchOption number (HasNoEnd (lines text) id) (IsFirstEnd (lines text) id)

-- a remark at the name of a call in the line of its end
abbrev pub IsEndRemark : (text : List ℕ) → CallId → Option Remark → Type 0
IsEndRemark text id remark = (line : Option ℕ) × IsEndLine text id line × MatchOption line (remark ≡ None) (λ number. Marks text number 1 remark)

-- Of the module's faults what is shown of them anywhere. Of F1 the line, and in it the word that is the cause, or the first one; of X1 the line of the call's end; X2 has no place.
abbrev pub IsHistoryExplanation : (object history_file : Source) → SearchFault → Option (List ℕ) → Type 0
IsHistoryExplanation object history_file (Faults.Text e) shown = IsTextExplanation object.name object.text e shown
IsHistoryExplanation object history_file (Faults.Form number) shown =
    (remark : Option Remark) × IsHistoryFormRemark object.text history_file.text number remark × (shown ≡ shown_in history_file remark)
IsHistoryExplanation object history_file (Faults.Open e) shown = IsOpenExplanation object.name object.text e shown
IsHistoryExplanation object history_file (Faults.Illegal id) shown =
    (remark : Option Remark) × IsEndRemark history_file.text id remark × (shown ≡ shown_in history_file remark)
IsHistoryExplanation object history_file Faults.TooMany shown = (sentence : List ℕ) × (shown ≡ Some sentence)
IsHistoryExplanation object history_file Faults.NoMemory shown = shown ≡ None
