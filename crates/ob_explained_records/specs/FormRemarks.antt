-- What a line of a record that is missing, or can't stand there, says to people.
use Rattle.std.specs.Prelude.{◌≡◌, ℕ, ◌-◌, ◌++◌, ◌==◌, ◌&&◌, ◌||◌, nat_le, nat_lt, Bool, true, false, List, Option, None, Some, codes, drop, if◌then◌else◌, length, map, slice_get}
use Rattle.ob_explain_sentences.specs.Places.{line_from}
use Rattle.ob_explain_sentences.specs.Remarks.{Remark, at}
use Rattle.ob_explain_arguments.specs.Records.{title_sentence}
use Rattle.ob_explain_sentences.specs.Words.{begins_with}
use Rattle.ob_checked.specs.Exports.{signatures}
use Rattle.ob_explained.specs.ScriptPlaces.{first_place, in_line, line_begin, word_place}
use Rattle.ob_explained_lines.specs.Causes.{Cause, IsLineCause, Object, cause_at, has_budget, has_openings, head_words, words_before}
use Rattle.ob_explained_lines.specs.Lines.{IsLine}
use Rattle.ob_explained_lines.specs.declared.line_cause.Spot.TheVariants as Spots
use Rattle.ob_explained_lines.specs.declared.record_line.Wanted.TheVariants as Wants
use Rattle.ob_text_values_reading.specs.Comments.{said_number}
use Rattle.ob_text_words.specs.Words.{lines, words}
use Rattle.ob_typing.specs.ModuleText.{IsModule}
use Rattle.ob_typing.specs.Program.{Name, Program}

-- by the first byte of the line's first word: none, B, E, A, O, b, I
abbrev pub letter_sentence : List ℕ → List ℕ
letter_sentence from =
    if length from == 0 then codes "here a line is missing or empty: an event stands here (B, A, E), or behind all events the order, as O 0.1"
    else if begins_with from 66
    then codes "behind B stand a process's next call, as 0.1, a procedure that the module exports, and its arguments, as B 0.1 Add 3"
    else if begins_with from 69
    then codes "behind E stand a call that has begun and not ended, as 0.1, and done and its values, or trap and 1 to 5, as E 0.1 done 3"
    else if begins_with from 65 || begins_with from 79 then codes "behind A and O stand calls, as 0.1, of processes that there are"
    else if begins_with from 98 then codes "the third line of versions 2 and 3 is b and the budget, 0 to 1000000, and no other line is"
    else if begins_with from 73 then codes "I lines stand in version 3 alone, behind the third line, one for each variable of the module"
    else codes "here stands an event (B, A, E) or the order (O)"

-- a line behind the order, where there is one
abbrev pub is_behind : (other : Option ℕ) → (number : ℕ) → Bool
is_behind None number = false
is_behind (Some other) number = nat_lt other number

abbrev pub form_sentence : (number : ℕ) → (behind_order : Bool) → (from : List ℕ) → List ℕ
form_sentence number behind_order from =
    if number == 1 then title_sentence from
    else if number == 2 then codes "the second line is n and how many processes there are, 1 to 16, as n 2"
    else if behind_order then codes "behind the order stand S and V lines alone"
    else letter_sentence from

-- the number of a line among those of its text that are no remarks
abbrev pub own_number : List ℕ → (number : ℕ) → ℕ
own_number text number = said_number (map words (lines text)) number

-- the line of a number, from 1
abbrev pub line_at : List ℕ → ℕ → List ℕ
line_at text number = line_from text (line_begin text number)

-- what it has from its first word on
abbrev pub from_word : List ℕ → List ℕ
from_word line = drop (first_place line) line

-- the variable whose value stands in the line of a number, behind the budget; remarks don't count here
abbrev pub opened_at : (openings : Bool) → (variables : List Name) → (number : ℕ) → Option Name
opened_at openings variables number = if openings then slice_get variables (number - 4) else None

abbrev pub opening_cause : Name → Option Cause
opening_cause name = cause_at (Spots.Word 0) (codes "here stands I, the variable " ++ name ++ codes " of the module and a value of its type, with which the object began")

-- of a line behind the budget: what a variable began with, an event or the order
abbrev pub IsPlacedCause : Option Name → (object : Object) → (text : List ℕ) → (number : ℕ) → Option Cause → Type 0
IsPlacedCause None object text number cause = IsLineCause object text number cause
IsPlacedCause (Some name) object text number cause = cause ≡ opening_cause name

-- why a line of a record of a module's object can't stand where it does, behind the head; no text but a module has variables and exports
pub data IsModuleCause (object text : List ℕ) (number : ℕ) : Option Cause → Type 0 where
  of_module : (program : Program) → IsModule object program → {cause : Option Cause} →
      IsPlacedCause (opened_at (has_openings (head_words text 1)) (map (λ v. v.name) program.variables) (own_number text number)) (record { text = object; exports = signatures program }) text number cause →
      IsModuleCause object text number cause
  of_none : ((program : Program) → IsModule object program → ⊥) → IsModuleCause object text number None

-- the third line where the record has a budget
abbrev pub is_budget_line : (number : ℕ) → (budget : Bool) → Bool
is_budget_line number budget = (number == 3) && budget

abbrev pub budget_cause : Option Cause
budget_cause = cause_at (Spots.Word 0) (codes "the third line of a record of version 2 or 3 is b and how many turns each call has, 0 to 1000000, as b 100000")

-- of a line behind the first two, the one of the budget or any other
abbrev pub IsBodyCause : (budget : Bool) → (object text : List ℕ) → (number : ℕ) → Option Cause → Type 0
IsBodyCause true object text number cause = cause ≡ budget_cause
IsBodyCause false object text number cause = IsModuleCause object text number cause

-- a line of the head, or one behind the order
abbrev pub is_apart : (number : ℕ) → (behind_order : Bool) → Bool
is_apart number behind_order = nat_le number 2 || behind_order

-- of such a line, or of any other
abbrev pub IsFormCause : (apart : Bool) → (object text : List ℕ) → (number : ℕ) → Option Cause → Type 0
IsFormCause true object text number cause = cause ≡ None
IsFormCause false object text number cause = IsBodyCause (is_budget_line (own_number text number) (has_budget (head_words text 1))) object text number cause

-- at the word that is the cause, or else at the line's first word, by what the line begins with
abbrev pub told_form : List ℕ → (number : ℕ) → (behind_order : Bool) → Option Cause → Option Remark
told_form text number behind_order None = at (in_line first_place text number) (form_sentence (own_number text number) behind_order (from_word (line_at text number)))
told_form text number behind_order (Some cause) = at (in_line (word_place (words_before cause.spot)) text number) cause.sentence

-- of the line of a record of a module's object
pub record IsFormRemark (object text : List ℕ) (number : ℕ) (remark : Option Remark) : Type 0 where
  pub order : Option ℕ
  pub is_order : IsLine text Wants.Order order
  pub cause : Option Cause
  pub is_cause : IsFormCause (is_apart (own_number text number) (is_behind order number)) object text number cause
  pub says : remark ≡ told_form text number (is_behind order number) cause
