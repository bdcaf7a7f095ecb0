-- Why a line of a record or of a history can't stand where it does, by the lines before it and by the exports of the module.
use Rattle.std.specs.Prelude.{◌≡◌, ◌≢◌, ◌⊎◌, ◌<◌, ◌^◌, ◌+◌, ◌-◌, ◌==◌, ◌||◌, ℕ, suc, Bool, false, List, [], ◌∷◌, ◌++◌, Option, None, Some, MatchOption, codes}
use Rattle.std.specs.Prelude.{decimal, if◌then◌else◌, length, map, option_and_then, option_map, slice_get, string_bytes, unwrap_or}
use Rattle.std.specs.Option.{option_map_or}
use Rattle.std.specs.Str.{bytes_eq}
use Rattle.ob_explain_arguments.specs.Calls.{IsToldOf, Told}
use Rattle.ob_explain_arguments.specs.Misfits.{TellsMisfit}
use Rattle.ob_explain_arguments.specs.Sentences.{done_sentence, value_sentence}
use Rattle.ob_explain_arguments.specs.declared.misfit.Misfit.{Misfit}
use Rattle.ob_explain_arguments.specs.declared.misfit.Misfit.TheVariants.{Count, Value}
use Rattle.ob_explained_lines.specs.CallPlaces.{IsBeginPlace, IsCallWithin, IsLineBefore, NamesNoCall, ended_text, not_begun_text}
use Rattle.ob_explained_lines.specs.declared.line_cause.Cause as Declared
use Rattle.ob_explained_lines.specs.declared.line_cause.Letter.{Letter}
use Rattle.ob_explained_lines.specs.declared.line_cause.Letter.TheVariants as Letters
use Rattle.ob_explained_lines.specs.declared.line_cause.Object as Rust
use Rattle.ob_explained_lines.specs.declared.line_cause.Outcome.{Outcome}
use Rattle.ob_explained_lines.specs.declared.line_cause.Outcome.TheVariants as Outcomes
use Rattle.ob_explained_lines.specs.declared.line_cause.Spot.{Spot}
use Rattle.ob_explained_lines.specs.declared.line_cause.Spot.TheVariants as Spots
use Rattle.ob_explained_lines.specs.declared.record_line.Wanted.TheVariants as Wants
use Rattle.ob_interface.specs.Export.{Signature, var_types}
use Rattle.ob_interface.specs.View.{signature_of}
use Rattle.ob_interface.specs.declared.scalar.ScalarType.{ScalarType}
use Rattle.ob_text_reading.specs.HistoryLines.{process_numbers}
use Rattle.ob_text_words.specs.ExportNames.{export_named}
use Rattle.ob_text_values_reading.specs.Comments.{line_number}
use Rattle.ob_text_words.specs.Words.{IsNumeral, Word, lines, words}
use Rattle.wf_history.specs.declared.event.CallId.{CallId}

-- a sentence on a word of a line
pub record Cause : Type 0 where
  pub spot : Spot
  pub sentence : List ℕ

abbrev pub cause_of : Declared.Cause → Cause
cause_of c = record { spot = c.spot; sentence = string_bytes c.sentence }

abbrev pub cause_at : Spot → (sentence : List ℕ) → Option Cause
cause_at spot sentence = Some (record { spot = spot; sentence = sentence })

-- how many words stand before it: so many, or the first three and so many values
abbrev pub words_before : Spot → ℕ
words_before (Spots.Word number) = number
words_before (Spots.Value number) = suc (suc (suc number))

-- the words of the line of a number, from 1
abbrev pub line_words : List ℕ → (number : ℕ) → List Word
line_words text number = words (unwrap_or (slice_get (lines text) (number - 1)) [])

-- those of the line that has a number among the lines that are no remarks
abbrev pub head_words : List ℕ → (own : ℕ) → List Word
head_words text own = line_words text (line_number (map words (lines text)) own)

-- the title of a record says version 2 or 3, which have a budget
abbrev pub has_budget : (title : List Word) → Bool
has_budget title = option_map_or (λ version. bytes_eq version (codes "2") || bytes_eq version (codes "3")) (slice_get title 2) false

-- the title says version 3, which has the values that the object began with
abbrev pub has_openings : (title : List Word) → Bool
has_openings title = option_map_or (λ version. bytes_eq version (codes "3")) (slice_get title 2) false

-- how many processes there are, by the words of the second line of the head
abbrev pub IsProcessCount : List Word → Option ℕ → Type 0
IsProcessCount ws count =
    MatchOption count ((word : Word) (n : ℕ) → slice_get ws 1 ≡ Some word → IsNumeral word n → n < 2 ^ 64 → ⊥)
    (λ n. (word : Word) × (slice_get ws 1 ≡ Some word) × IsNumeral word n)

-- how calls are named of so many processes as the n line says
abbrev pub counted_sentence : (processes : ℕ) → List ℕ
counted_sentence processes =
    codes "a call is named by its process, a dot and its number, as 0.1, and by the n line "
    ++ (if processes == 1 then codes "there is process 0 alone" else (codes "the processes are 0 to " ++ decimal (processes - 1)))

-- how calls are named, and which processes there are: of a history all numbers that a process may have
abbrev pub id_sentence : (processes : ℕ) → List ℕ
id_sentence processes =
    if processes == process_numbers
    then codes "a call is named by its process, a dot and its number, as 0.1, and a process has at most nine digits"
    else counted_sentence processes

abbrev pub reply_sentence : List ℕ
reply_sentence = codes "behind a call that ends stands done and the values of its parameters with VAR, or trap and 1 to 5"

abbrev pub trap_sentence : List ℕ
trap_sentence =
    codes "behind trap stands what trapped: a number out of range (1), an index (2), a divisor (3), too many calls within one another (4) or no turn left (5)"

-- the first word that names no call of so many processes
module _ (processes : ℕ) (ws : List Word) where
  pub record IsFirstStranger (place : ℕ) : Type 0 where
    pub word : Word
    pub here : slice_get ws place ≡ Some word
    pub names_none : NamesNoCall processes word
    pub earlier : (k : ℕ) (other : Word) → k < place → slice_get ws k ≡ Some other → ¬ NamesNoCall processes other

  abbrev pub IsStranger : Option ℕ → Type 0
  IsStranger place = MatchOption place ((k : ℕ) (word : Word) → slice_get ws k ≡ Some word → ¬ NamesNoCall processes word) IsFirstStranger

-- behind an A or an O stand names of calls
pub record IsCallsCause (processes : ℕ) (ws : List Word) (cause : Option Cause) : Type 0 where
  pub place : Option ℕ
  pub stranger : IsStranger processes ws place
  pub says : cause ≡ option_and_then (λ k. cause_at (Spots.Word (k + 1)) (id_sentence processes)) place

-- what a line tells by its first word: that a call begins, that one ends, or calls
abbrev pub IsLetter : Word → Letter → Type 0
IsLetter word Letters.Begin = word ≡ codes "B"
IsLetter word Letters.End = word ≡ codes "E"
IsLetter word Letters.Calls = (word ≡ codes "A") ⊎ (word ≡ codes "O")
IsLetter word Letters.Other = (word ≢ codes "B") × (word ≢ codes "E") × (word ≢ codes "A") × (word ≢ codes "O")

-- what a word says of the end of a call: that it is done, or that it trapped
abbrev pub IsOutcome : Word → Outcome → Type 0
IsOutcome word Outcomes.Done = word ≡ codes "done"
IsOutcome word Outcomes.Trap = word ≡ codes "trap"
IsOutcome word Outcomes.Other = (word ≢ codes "done") × (word ≢ codes "trap")

-- the word of a line that is told of: the name of the procedure, behind B and the call, or a value behind that
abbrev pub told_spot : Option ℕ → Spot
told_spot None = Spots.Word 2
told_spot (Some number) = Spots.Value number

abbrev pub begin_told : Told → Cause
begin_told told = record { spot = told_spot told.value; sentence = told.sentence }

-- what doesn't fit of values behind done: their number, or one of them
abbrev pub done_told : List ScalarType → (values : ℕ) → Option Misfit → Option Cause
done_told types values None = None
done_told types values (Some Count) = cause_at (Spots.Word 2) (done_sentence values types)
done_told types values (Some (Value number type)) = cause_at (Spots.Value number) (value_sentence type)

pub record IsDoneTold (types : List ScalarType) (values : List Word) (cause : Option Cause) : Type 0 where
  pub misfit : Option Misfit
  pub fails : TellsMisfit types values misfit
  pub says : cause ≡ done_told types (length values) misfit

-- of the procedure that was called, where it is known
abbrev pub IsDoneCause : Option Signature → (values : List Word) → Option Cause → Type 0
IsDoneCause None values cause = cause ≡ None
IsDoneCause (Some signature) values cause = IsDoneTold (var_types signature.formals) values cause

-- the text of a module, and its exports
pub record Object : Type 0 where
  pub text : List ℕ
  pub exports : List Signature

abbrev pub object_of : Rust.Object → Object
object_of o = record { text = o.text.now; exports = map signature_of o.exports.now }

module _ (object : Object) where
  -- why a call of these words can't begin, by what is said of its place
  abbrev pub IsPlacedBegin : List Word → (said : Option (List ℕ)) → Option Cause → Type 0
  IsPlacedBegin ws (Some sentence) cause = cause ≡ cause_at (Spots.Word 1) sentence
  IsPlacedBegin ws None cause = (told : Option Told) × IsToldOf object.text object.exports ws told × (cause ≡ option_map begin_told told)

  -- the procedure that a line calls
  abbrev pub called_by : List Word → Option Signature
  called_by ws = option_map (λ e. e.1) (option_and_then (export_named object.exports) (slice_get ws 2))

  -- why a call that begins in this line can't have this outcome
  abbrev pub IsOutcomeCause : (text : List ℕ) (line : ℕ) → (values : List Word) → Outcome → Option Cause → Type 0
  IsOutcomeCause text line values Outcomes.Done cause = IsDoneCause (called_by (line_words text line)) values cause
  IsOutcomeCause text line values Outcomes.Trap cause = cause ≡ cause_at (Spots.Value 0) trap_sentence
  IsOutcomeCause text line values Outcomes.Other cause = cause ≡ cause_at (Spots.Word 2) reply_sentence

  abbrev pub IsReplyCause : (text : List ℕ) (line : ℕ) → List Word → Option Cause → Type 0
  IsReplyCause text line [] cause = cause ≡ cause_at (Spots.Word 2) reply_sentence
  IsReplyCause text line (word ∷ values) cause = (outcome : Outcome) × IsOutcome word outcome × IsOutcomeCause text line values outcome cause

  -- why a call can't end, by the lines in which it begins and ends before
  abbrev pub IsPlacedEnd : (text : List ℕ) → CallId → List Word → (begin end : Option ℕ) → Option Cause → Type 0
  IsPlacedEnd text id rest None end cause = cause ≡ cause_at (Spots.Word 1) (not_begun_text id)
  IsPlacedEnd text id rest (Some line) (Some other) cause = cause ≡ cause_at (Spots.Word 1) (ended_text id other)
  IsPlacedEnd text id rest (Some line) None cause = IsReplyCause text line rest cause

  -- the line of a number of a record
  module _ (text : List ℕ) (number : ℕ) where
    abbrev pub IsSaidBegin : CallId → List Word → Option Cause → Type 0
    IsSaidBegin id ws cause = (said : Option (List ℕ)) × IsBeginPlace text number id said × IsPlacedBegin ws said cause

    abbrev pub IsSaidEnd : CallId → List Word → Option Cause → Type 0
    IsSaidEnd id rest cause =
        (begin : Option ℕ) × IsLineBefore text number (Wants.Begin id) begin
        × (end : Option ℕ) × IsLineBefore text number (Wants.End id) end × IsPlacedEnd text id rest begin end cause

  -- the same where there are so many processes
  module _ (text : List ℕ) (number processes : ℕ) where
    abbrev pub IsNamedBegin : List Word → Option CallId → Option Cause → Type 0
    IsNamedBegin ws None cause = cause ≡ cause_at (Spots.Word 1) (id_sentence processes)
    IsNamedBegin ws (Some id) cause = IsSaidBegin text number id ws cause

    -- behind a B stand the name of a call and the call
    abbrev pub IsBeginCause : List Word → Option Cause → Type 0
    IsBeginCause [] cause = cause ≡ None
    IsBeginCause (word ∷ rest) cause = (id : Option CallId) × IsCallWithin processes word id × IsNamedBegin (word ∷ rest) id cause

    abbrev pub IsNamedEnd : List Word → Option CallId → Option Cause → Type 0
    IsNamedEnd rest None cause = cause ≡ cause_at (Spots.Word 1) (id_sentence processes)
    IsNamedEnd rest (Some id) cause = IsSaidEnd text number id rest cause

    -- behind an E stand the name of a call and its reply
    abbrev pub IsEndCause : List Word → Option Cause → Type 0
    IsEndCause [] cause = cause ≡ None
    IsEndCause (word ∷ rest) cause = (id : Option CallId) × IsCallWithin processes word id × IsNamedEnd rest id cause

    abbrev pub IsLetterCause : Letter → List Word → Option Cause → Type 0
    IsLetterCause Letters.Begin ws cause = IsBeginCause ws cause
    IsLetterCause Letters.End ws cause = IsEndCause ws cause
    IsLetterCause Letters.Calls ws cause = IsCallsCause processes ws cause
    IsLetterCause Letters.Other ws cause = cause ≡ None

    abbrev pub IsWordsCause : List Word → Option Cause → Type 0
    IsWordsCause [] cause = cause ≡ None
    IsWordsCause (word ∷ rest) cause = (letter : Letter) × IsLetter word letter × IsLetterCause letter rest cause

  -- with the number of processes that the second line of the head says
  abbrev pub IsCountedCause : (text : List ℕ) (number : ℕ) → (processes : Option ℕ) → Option Cause → Type 0
  IsCountedCause text number None cause = cause ≡ None
  IsCountedCause text number (Some processes) cause = IsWordsCause text number processes (line_words text number) cause

  -- Why the line of a number, from 1, can't stand behind the head of a record, where it is an event or the order; none of all others.
  pub record IsLineCause (text : List ℕ) (number : ℕ) (cause : Option Cause) : Type 0 where
    pub processes : Option ℕ
    pub counted : IsProcessCount (head_words text 2) processes
    pub says : IsCountedCause text number processes cause

  -- the same of a line of a history, whose processes are any numbers
  abbrev pub IsHistoryLineCause : (text : List ℕ) (number : ℕ) → Option Cause → Type 0
  IsHistoryLineCause text number cause = IsCountedCause text number (Some process_numbers) cause
