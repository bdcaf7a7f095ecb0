-- What each fault of a module says to people.
use Rattle.std.specs.Prelude.{◌≡◌, ◌⊎◌, ℕ, List, [], drop, Option, Some, None}
use Rattle.ob_scan.specs.declared.fault.ScanFault.{ScanFault}
use Rattle.ob_scan.specs.declared.fault.ScanFault.TheVariants as Scan
use Rattle.ob_scan.specs.Limits.{longest_text}
use Rattle.ob_parser.specs.declared.parser.ParseFault.{ParseFault}
use Rattle.ob_parser.specs.declared.parser.ParseFault.TheVariants as Parse
use Rattle.ob_scopes.specs.declared.fault.CheckFault.{CheckFault}
use Rattle.ob_scopes.specs.declared.fault.CheckFault.TheVariants as Check
use Rattle.ob_typing.specs.declared.rule.Rule.{Rule}
use Rattle.ob_typing.specs.declared.rule.Rule.TheVariants as Rules
use Rattle.ob_evidence.specs.Evidence.{IsTrueOf}
use Rattle.ob_evidence.specs.Sites.{IsScene, Scene, here, kind_of, last, next, second}
use Rattle.ob_explain_words.specs.Declaring.{Declares}
use Rattle.ob_explain_sentences.specs.Places.{shown_place}
use Rattle.ob_explain_sentences.specs.Remarks.{Remark}
use Rattle.ob_explain_sentences.specs.Said.{Evidence, hint_text, sentence_text}
use Rattle.ob_explain_sentences.specs.declared.matcher.View.{View}
use Rattle.ob_explain_sentences.specs.declared.table_rows.Number.{Number}
use Rattle.ob_explain_sentences.specs.declared.table_rows.Number.TheVariants as Numbers

-- where a place is shown: the end, at which a token is missing, behind the last byte that is no blank
abbrev pub shown_at : Number → (text : List ℕ) → (place : ℕ) → ℕ
shown_at Numbers.P1 text place = shown_place text place
shown_at other text place = place

-- a word is no name that the text declares
abbrev pub IsUndeclared : Scene → (word : List ℕ) → Type 0
IsUndeclared s word = (word ≡ []) ⊎ ¬ Declares s.text s.tokens word

-- What may be seen at a place: the tokens around it, its bytes, and what could stand there. The words that are looked for among those of
-- other languages and among keywords in small letters are no names that the text declares.
pub record Sees (s : Scene) (view : View) (evidence : Evidence) : Type 0 where
  pub here : view.here ≡ kind_of (here s)
  pub last : view.last ≡ kind_of (last s)
  pub second : view.second ≡ kind_of (second s)
  pub next : view.next ≡ kind_of (next s)
  pub from : view.from.now ≡ drop s.place s.text
  pub could : view.could.now ≡ evidence.could
  pub word : IsUndeclared s view.word.now
  pub word_before : IsUndeclared s view.word_before.now
  pub called : IsUndeclared s view.called.now

-- A remark on a fault of this number: its place is shown; its sentence and its hint, if there is one, are rows of the tables for this
-- number, which hold of what may be seen there, filled with what is known of the fault and true.
pub record Tells (s : Scene) (number : Number) (remark : Remark) : Type 0 where
  pub view : View
  pub evidence : Evidence
  pub numbered : view.number ≡ number
  pub sees : Sees s view evidence
  pub is_true : IsTrueOf number s view.facts.now evidence
  pub placed : remark.place ≡ shown_at number s.text s.place
  pub says : remark.sentence ≡ sentence_text view evidence
  pub hints : remark.hint ≡ hint_text view evidence

-- at this place of a text
pub record IsRemark (text : List ℕ) (number : Number) (place : ℕ) (remark : Remark) : Type 0 where
  pub scene : Scene
  pub is_scene : IsScene text place scene
  pub tells : Tells scene number remark

abbrev pub IsRemarkAt : (text : List ℕ) → Number → (place : ℕ) → Option Remark → Type 0
IsRemarkAt text number place None = ⊥
IsRemarkAt text number place (Some remark) = IsRemark text number place remark

-- each fault has its number and its place; of want of memory nothing is told
abbrev pub IsScanRemark : List ℕ → ScanFault → Option Remark → Type 0
IsScanRemark text (Scan.StrayByte place) remark = IsRemarkAt text Numbers.S1 place remark
IsScanRemark text (Scan.NumberTooLarge place) remark = IsRemarkAt text Numbers.S2 place remark
IsScanRemark text (Scan.OpenComment place) remark = IsRemarkAt text Numbers.S3 place remark
IsScanRemark text (Scan.NameTooLong place) remark = IsRemarkAt text Numbers.S4 place remark
IsScanRemark text Scan.TooLong remark = IsRemarkAt text Numbers.S5 longest_text remark
IsScanRemark text Scan.NoMemory remark = remark ≡ None

abbrev pub IsParseRemark : List ℕ → ParseFault → Option Remark → Type 0
IsParseRemark text (Parse.Unexpected place) remark = IsRemarkAt text Numbers.P1 place remark
IsParseRemark text (Parse.TooDeep place) remark = IsRemarkAt text Numbers.P2 place remark
IsParseRemark text (Parse.NameDiffers place) remark = IsRemarkAt text Numbers.P3 place remark
IsParseRemark text Parse.NoMemory remark = remark ≡ None

-- the number of a rule
abbrev pub number_of : Rule → Number
number_of Rules.UnknownName = Numbers.C1
number_of Rules.DeclaredTwice = Numbers.C2
number_of Rules.WrongKind = Numbers.C3
number_of Rules.TypesDiffer = Numbers.C4
number_of Rules.BadConstant = Numbers.C5
number_of Rules.BadLength = Numbers.C6
number_of Rules.BadActuals = Numbers.C7
number_of Rules.WrongLevel = Numbers.C8
number_of Rules.PassesLimit = Numbers.C9
number_of Rules.BadExport = Numbers.C10

abbrev pub IsCheckRemark : List ℕ → CheckFault → Option Remark → Type 0
IsCheckRemark text (Check.Broken broken) remark = IsRemarkAt text (number_of broken.rule) broken.place remark
IsCheckRemark text Check.NoMemory remark = remark ≡ None
