-- What a line of a history that is missing, or can't stand there, says to people. Where its own words are no cause, no sentence is promised.
use Rattle.std.specs.Prelude.{◌≡◌, ℕ, Bool, true, false, List, Option, None, Some}
use Rattle.ob_checked.specs.Exports.{signatures}
use Rattle.ob_explained.specs.Marks.{MarksWord}
use Rattle.ob_explained.specs.ScriptPlaces.{in_line, word_place}
use Rattle.ob_explained_lines.specs.Causes.{Cause, IsHistoryLineCause, words_before}
use Rattle.ob_explained_lines.specs.Lines.{IsLine}
use Rattle.ob_explained_lines.specs.declared.record_line.Wanted.TheVariants as Wants
use Rattle.ob_explained_records.specs.FormRemarks.{is_behind}
use Rattle.ob_explain_sentences.specs.Remarks.{Remark, at}
use Rattle.ob_typing.specs.ModuleText.{IsModule}
use Rattle.ob_typing.specs.Program.{Program}

-- a remark that stands at a word of a line
abbrev pub Marks : (text : List ℕ) → (number word : ℕ) → Option Remark → Type 0
Marks text number word None = ⊥
Marks text number word (Some remark) = MarksWord text number word remark.place

-- why the words of a line of a history of a module's object can't stand there; no text but a module has exports
pub data IsEventsCause (object text : List ℕ) (number : ℕ) : Option Cause → Type 0 where
  of_module : (program : Program) → IsModule object program → {cause : Option Cause} →
      IsHistoryLineCause (record { text = object; exports = signatures program }) text number cause → IsEventsCause object text number cause
  of_none : ((program : Program) → IsModule object program → ⊥) → IsEventsCause object text number None

-- behind an order no words of a line are looked at
abbrev pub IsHistoryCause : (behind_order : Bool) → (object text : List ℕ) → (number : ℕ) → Option Cause → Type 0
IsHistoryCause true object text number cause = cause ≡ None
IsHistoryCause false object text number cause = IsEventsCause object text number cause

-- what is told at the word that is the cause
pub record IsToldCause (text : List ℕ) (number : ℕ) (cause : Cause) (remark : Option Remark) : Type 0 where
  pub marked : Marks text number (words_before cause.spot) remark
  pub says : remark ≡ at (in_line (word_place (words_before cause.spot)) text number) cause.sentence

-- at the word that is the cause, or else at the line's first word
abbrev pub IsHistoryTold : (text : List ℕ) → (number : ℕ) → Option Cause → Option Remark → Type 0
IsHistoryTold text number None remark = Marks text number 0 remark
IsHistoryTold text number (Some cause) remark = IsToldCause text number cause remark

-- of the line of a history of a module's object
pub record IsHistoryFormRemark (object text : List ℕ) (number : ℕ) (remark : Option Remark) : Type 0 where
  pub order : Option ℕ
  pub is_order : IsLine text Wants.Order order
  pub cause : Option Cause
  pub is_cause : IsHistoryCause (is_behind order number) object text number cause
  pub says : IsHistoryTold text number cause remark
