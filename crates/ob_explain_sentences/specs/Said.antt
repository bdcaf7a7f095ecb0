-- The sentence of a fault and the hint on it: those of the tables, with what is known in their slots.
use Rattle.std.specs.Prelude.{ℕ, ◌==◌, ◌++◌, List, [], map, find, flat_map, codes, Option, Some, None, option_map, if◌then◌else◌}
use Rattle.std.specs.Fmt.{decimal}
use denote.Enum.Bare.{sameb}
use Rattle.ob_scan.specs.declared.token.Kind.{Kind}
use Rattle.ob_explain_sentences.specs.Groups.{groups, listed, phrases}
use Rattle.ob_explain_sentences.specs.Kinds.{kind_name, sample}
use Rattle.ob_explain_sentences.specs.Rows.{Piece, end_of, hint_of, sentence_of}
use Rattle.ob_explain_sentences.specs.Shown.{shown_byte}
use Rattle.ob_explain_sentences.specs.contracts.table_rows.Type.{the_type}
use Rattle.ob_explain_sentences.specs.declared.matcher.View.{View}
use Rattle.ob_explain_sentences.specs.declared.said.Evidence.{Evidence as EvidenceOf}
use Rattle.ob_explain_sentences.specs.declared.said.TheConstants.{MAKINGS, TYPES}
use Rattle.ob_explain_sentences.specs.declared.table_rows.PieceOf.TheVariants as piece
use Rattle.ob_explain_sentences.specs.declared.table_rows.Type.{«Type»}

-- ---- types

abbrev pub text_or : Option («Type» × List ℕ) → List ℕ
text_or None = []
text_or (Some t) = t.1

abbrev pub type_in : List («Type» × List ℕ) → «Type» → List ℕ
type_in types named = text_or (find (λ t. sameb the_type t.0 named) types)

-- how a type is told
unfoldable pub type_text : «Type» → List ℕ
type_text = type_in (map (λ t. (t.0, t.1.now)) TYPES.now)

-- how a value of a type is made of one of another type
unfoldable pub making_text : «Type» → List ℕ
making_text = type_in (map (λ t. (t.0, t.1.now)) MAKINGS.now)

-- ---- slots

-- what is known of a fault, without where it lies in memory
pub record Evidence : Type 0 where
  pub name : List ℕ
  pub first : List ℕ
  pub second : List ℕ
  pub could : List Kind
  pub opening : Kind
  pub keyword : Kind
  pub line : ℕ
  pub other_line : ℕ
  pub lone : List ℕ
  pub lone_line : ℕ
  pub count : ℕ
  pub most : ℕ
  pub wanted : «Type»
  pub found : «Type»

abbrev pub evidence_of : EvidenceOf → Evidence
evidence_of e = record {
  name = e.name.now;
  first = e.first.now;
  second = e.second.now;
  could = e.could.now;
  opening = e.opening;
  keyword = e.keyword;
  line = e.line;
  other_line = e.other_line;
  lone = e.lone.now;
  lone_line = e.lone_line;
  count = e.count;
  most = e.most;
  wanted = e.wanted;
  found = e.found;
}

abbrev pub plural : ℕ → List ℕ
plural count = if count == 1 then [] else codes "s"

abbrev pub spelled : Evidence → Piece → List ℕ
spelled e (piece.Text said) = said
spelled e piece.Name = map shown_byte e.name
spelled e piece.First = map shown_byte e.first
spelled e piece.Second = map shown_byte e.second
spelled e piece.Could = listed (phrases groups e.could)
spelled e piece.Opening = sample e.opening
spelled e piece.Keyword = kind_name e.keyword
spelled e piece.Line = decimal e.line
spelled e piece.OtherLine = decimal e.other_line
spelled e piece.Lone = map shown_byte e.lone
spelled e piece.LoneLine = decimal e.lone_line
spelled e piece.Count = decimal e.count
spelled e piece.CountEnd = plural e.count
spelled e piece.Most = decimal e.most
spelled e piece.MostEnd = plural e.most
spelled e piece.Wanted = type_text e.wanted
spelled e piece.Found = type_text e.found
spelled e piece.Made = making_text e.wanted

-- ---- sentences

-- with its slots filled
abbrev pub filled : Evidence → List Piece → List ℕ
filled e pieces = flat_map (spelled e) pieces

abbrev pub filled_or : Evidence → Option (List Piece) → List ℕ
filled_or e None = []
filled_or e (Some pieces) = filled e pieces

-- the first row of the fault's tables that holds, and its end
abbrev pub sentence_text : View → Evidence → List ℕ
sentence_text view e = filled_or e (sentence_of view) ++ filled_or e (end_of view)

abbrev pub hint_text : View → Evidence → Option (List ℕ)
hint_text view e = option_map (filled e) (hint_of view)
