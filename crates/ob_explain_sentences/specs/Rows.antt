-- Which row of a table is given at a place.
use Rattle.std.specs.Prelude.{ℕ, ◌||◌, Bool, false, not, List, map, find, nat_eq, Option, Some, None, option_map}
use Rattle.std.specs.List.{list_all, list_any, starts_with}
use denote.Bor.{Bor}
use denote.Enum.Bare.{sameb}
use Rattle.ob_scan.specs.declared.token.Kind.{Kind}
use Rattle.ob_scan.specs.contracts.token.Kind as scanned
use Rattle.ob_explain_sentences.specs.Words.{is_same_in_any_case}
use Rattle.ob_explain_sentences.specs.contracts.table_rows.Fact as facts
use Rattle.ob_explain_sentences.specs.contracts.table_rows.Number as numbers
use Rattle.ob_explain_sentences.specs.declared.matcher.View.{View}
use Rattle.ob_explain_sentences.specs.declared.table_rows.Fact.{Fact}
use Rattle.ob_explain_sentences.specs.declared.table_rows.Number.{Number}
use Rattle.ob_explain_sentences.specs.declared.table_rows.Number.TheVariants as number
use Rattle.ob_explain_sentences.specs.declared.table_rows.PieceOf.{PieceOf}
use Rattle.ob_explain_sentences.specs.declared.table_rows.PieceOf.TheVariants as piece
use Rattle.ob_explain_sentences.specs.declared.table_rows.RowOf.{RowOf}
use Rattle.ob_explain_sentences.specs.declared.table_rows.WhenOf.{WhenOf}
use Rattle.ob_explain_sentences.specs.declared.table_rows.WhenOf.TheVariants as when
use Rattle.ob_explain_sentences.specs.declared.construct_rows.TheConstants.{CONSTRUCT_ROWS, MISSING_ROWS}
use Rattle.ob_explain_sentences.specs.declared.function_rows.TheConstants.{FUNCTION_ROWS}
use Rattle.ob_explain_sentences.specs.declared.sentence_rows.TheConstants.{END_ROWS, LIMIT_ROWS, SENTENCE_ROWS, TYPE_ROWS}
use Rattle.ob_explain_sentences.specs.declared.token_rows.TheConstants.{DECLARATION_ROWS, RULE_ROWS, SECTION_ROWS, SEPARATOR_ROWS, SIGN_ROWS, STATEMENT_ROWS, SYMBOL_ROWS, TYPE_TOKEN_ROWS}
use Rattle.ob_explain_sentences.specs.declared.word_rows.TheConstants.{BYTE_ROWS, NAME_ROWS, PLACED_WORD_ROWS, STATEMENT_WORD_ROWS, WORD_ROWS}

-- ---- rows, without where their texts and lists lie in memory

abbrev pub When : Type 0
When = WhenOf (List ℕ) (List (List ℕ)) (List Kind)

abbrev pub Piece : Type 0
Piece = PieceOf (List ℕ)

abbrev pub Row : Type 0
Row = RowOf (List When) (List Piece)

abbrev pub when_by : {Text Texts Kinds : Type 0} → (Text → List ℕ) → (Texts → List (List ℕ)) → (Kinds → List Kind) → WhenOf Text Texts Kinds → When
when_by text texts kinds (when.On number) = when.On number
when_by text texts kinds (when.Here ks) = when.Here (kinds ks)
when_by text texts kinds (when.Last ks) = when.Last (kinds ks)
when_by text texts kinds (when.Second ks) = when.Second (kinds ks)
when_by text texts kinds (when.Next ks) = when.Next (kinds ks)
when_by text texts kinds (when.Could ks) = when.Could (kinds ks)
when_by text texts kinds (when.Never ks) = when.Never (kinds ks)
when_by text texts kinds (when.Sign sign) = when.Sign (text sign)
when_by text texts kinds (when.Word ws) = when.Word (texts ws)
when_by text texts kinds (when.Is fact) = when.Is fact
when_by text texts kinds (when.Not fact) = when.Not fact

abbrev pub piece_by : {Text : Type 0} → (Text → List ℕ) → PieceOf Text → Piece
piece_by text (piece.Text said) = piece.Text (text said)
piece_by text piece.Name = piece.Name
piece_by text piece.First = piece.First
piece_by text piece.Second = piece.Second
piece_by text piece.Could = piece.Could
piece_by text piece.Opening = piece.Opening
piece_by text piece.Keyword = piece.Keyword
piece_by text piece.Line = piece.Line
piece_by text piece.OtherLine = piece.OtherLine
piece_by text piece.Lone = piece.Lone
piece_by text piece.LoneLine = piece.LoneLine
piece_by text piece.Count = piece.Count
piece_by text piece.CountEnd = piece.CountEnd
piece_by text piece.Most = piece.Most
piece_by text piece.MostEnd = piece.MostEnd
piece_by text piece.Wanted = piece.Wanted
piece_by text piece.Found = piece.Found
piece_by text piece.Made = piece.Made

-- those that the code has
abbrev pub when_of : WhenOf (Bor (List ℕ)) (Bor (List (Bor (List ℕ)))) (Bor (List Kind)) → When
when_of = when_by (λ text. text.now) (λ texts. map (λ text. text.now) texts.now) (λ kinds. kinds.now)

abbrev pub piece_of : PieceOf (Bor (List ℕ)) → Piece
piece_of = piece_by (λ text. text.now)

abbrev pub pieces_of : Bor (List (PieceOf (Bor (List ℕ)))) → List Piece
pieces_of pieces = map piece_of pieces.now

abbrev pub row_of : RowOf (Bor (List (WhenOf (Bor (List ℕ)) (Bor (List (Bor (List ℕ)))) (Bor (List Kind))))) (Bor (List (PieceOf (Bor (List ℕ))))) → Row
row_of row = record { when = map when_of row.when.now; said = pieces_of row.said }

-- ---- the tables

unfoldable pub byte_rows : List Row
byte_rows = map (λ row. record {
  when = map (λ w. when_by (λ text. text.now) (λ texts. map (λ text. text.now) texts.now) (λ kinds. kinds.now) w) row.when.now;
  said = map (λ p. piece_by (λ text. text.now) p) row.said.now;
}) BYTE_ROWS.now

unfoldable pub function_rows : List Row
function_rows = map (λ row. record {
  when = map (λ w. when_by (λ text. text.now) (λ texts. map (λ text. text.now) texts.now) (λ kinds. kinds.now) w) row.when.now;
  said = map (λ p. piece_by (λ text. text.now) p) row.said.now;
}) FUNCTION_ROWS.now

unfoldable pub sign_rows : List Row
sign_rows = map (λ row. record {
  when = map (λ w. when_by (λ text. text.now) (λ texts. map (λ text. text.now) texts.now) (λ kinds. kinds.now) w) row.when.now;
  said = map (λ p. piece_by (λ text. text.now) p) row.said.now;
}) SIGN_ROWS.now

unfoldable pub symbol_rows : List Row
symbol_rows = map (λ row. record {
  when = map (λ w. when_by (λ text. text.now) (λ texts. map (λ text. text.now) texts.now) (λ kinds. kinds.now) w) row.when.now;
  said = map (λ p. piece_by (λ text. text.now) p) row.said.now;
}) SYMBOL_ROWS.now

unfoldable pub statement_rows : List Row
statement_rows = map (λ row. record {
  when = map (λ w. when_by (λ text. text.now) (λ texts. map (λ text. text.now) texts.now) (λ kinds. kinds.now) w) row.when.now;
  said = map (λ p. piece_by (λ text. text.now) p) row.said.now;
}) STATEMENT_ROWS.now

unfoldable pub separator_rows : List Row
separator_rows = map (λ row. record {
  when = map (λ w. when_by (λ text. text.now) (λ texts. map (λ text. text.now) texts.now) (λ kinds. kinds.now) w) row.when.now;
  said = map (λ p. piece_by (λ text. text.now) p) row.said.now;
}) SEPARATOR_ROWS.now

unfoldable pub type_token_rows : List Row
type_token_rows = map (λ row. record {
  when = map (λ w. when_by (λ text. text.now) (λ texts. map (λ text. text.now) texts.now) (λ kinds. kinds.now) w) row.when.now;
  said = map (λ p. piece_by (λ text. text.now) p) row.said.now;
}) TYPE_TOKEN_ROWS.now

unfoldable pub declaration_rows : List Row
declaration_rows = map (λ row. record {
  when = map (λ w. when_by (λ text. text.now) (λ texts. map (λ text. text.now) texts.now) (λ kinds. kinds.now) w) row.when.now;
  said = map (λ p. piece_by (λ text. text.now) p) row.said.now;
}) DECLARATION_ROWS.now

unfoldable pub section_rows : List Row
section_rows = map (λ row. record {
  when = map (λ w. when_by (λ text. text.now) (λ texts. map (λ text. text.now) texts.now) (λ kinds. kinds.now) w) row.when.now;
  said = map (λ p. piece_by (λ text. text.now) p) row.said.now;
}) SECTION_ROWS.now

unfoldable pub rule_rows : List Row
rule_rows = map (λ row. record {
  when = map (λ w. when_by (λ text. text.now) (λ texts. map (λ text. text.now) texts.now) (λ kinds. kinds.now) w) row.when.now;
  said = map (λ p. piece_by (λ text. text.now) p) row.said.now;
}) RULE_ROWS.now

unfoldable pub construct_rows : List Row
construct_rows = map (λ row. record {
  when = map (λ w. when_by (λ text. text.now) (λ texts. map (λ text. text.now) texts.now) (λ kinds. kinds.now) w) row.when.now;
  said = map (λ p. piece_by (λ text. text.now) p) row.said.now;
}) CONSTRUCT_ROWS.now

unfoldable pub missing_rows : List Row
missing_rows = map (λ row. record {
  when = map (λ w. when_by (λ text. text.now) (λ texts. map (λ text. text.now) texts.now) (λ kinds. kinds.now) w) row.when.now;
  said = map (λ p. piece_by (λ text. text.now) p) row.said.now;
}) MISSING_ROWS.now

unfoldable pub word_rows : List Row
word_rows = map (λ row. record {
  when = map (λ w. when_by (λ text. text.now) (λ texts. map (λ text. text.now) texts.now) (λ kinds. kinds.now) w) row.when.now;
  said = map (λ p. piece_by (λ text. text.now) p) row.said.now;
}) WORD_ROWS.now

unfoldable pub placed_word_rows : List Row
placed_word_rows = map (λ row. record {
  when = map (λ w. when_by (λ text. text.now) (λ texts. map (λ text. text.now) texts.now) (λ kinds. kinds.now) w) row.when.now;
  said = map (λ p. piece_by (λ text. text.now) p) row.said.now;
}) PLACED_WORD_ROWS.now

unfoldable pub statement_word_rows : List Row
statement_word_rows = map (λ row. record {
  when = map (λ w. when_by (λ text. text.now) (λ texts. map (λ text. text.now) texts.now) (λ kinds. kinds.now) w) row.when.now;
  said = map (λ p. piece_by (λ text. text.now) p) row.said.now;
}) STATEMENT_WORD_ROWS.now

unfoldable pub name_rows : List Row
name_rows = map (λ row. record {
  when = map (λ w. when_by (λ text. text.now) (λ texts. map (λ text. text.now) texts.now) (λ kinds. kinds.now) w) row.when.now;
  said = map (λ p. piece_by (λ text. text.now) p) row.said.now;
}) NAME_ROWS.now

unfoldable pub sentence_rows : List Row
sentence_rows = map (λ row. record {
  when = map (λ w. when_by (λ text. text.now) (λ texts. map (λ text. text.now) texts.now) (λ kinds. kinds.now) w) row.when.now;
  said = map (λ p. piece_by (λ text. text.now) p) row.said.now;
}) SENTENCE_ROWS.now

unfoldable pub limit_rows : List Row
limit_rows = map (λ row. record {
  when = map (λ w. when_by (λ text. text.now) (λ texts. map (λ text. text.now) texts.now) (λ kinds. kinds.now) w) row.when.now;
  said = map (λ p. piece_by (λ text. text.now) p) row.said.now;
}) LIMIT_ROWS.now

unfoldable pub type_rows : List Row
type_rows = map (λ row. record {
  when = map (λ w. when_by (λ text. text.now) (λ texts. map (λ text. text.now) texts.now) (λ kinds. kinds.now) w) row.when.now;
  said = map (λ p. piece_by (λ text. text.now) p) row.said.now;
}) TYPE_ROWS.now

unfoldable pub end_rows : List Row
end_rows = map (λ row. record {
  when = map (λ w. when_by (λ text. text.now) (λ texts. map (λ text. text.now) texts.now) (λ kinds. kinds.now) w) row.when.now;
  said = map (λ p. piece_by (λ text. text.now) p) row.said.now;
}) END_ROWS.now

-- ---- which row holds

abbrev pub has : List Kind → Kind → Bool
has all kind = list_any (λ k. sameb scanned.the_type k kind) all

abbrev pub is_one : List Kind → Option Kind → Bool
is_one all None = false
is_one all (Some token) = has all token

abbrev pub has_fact : View → Fact → Bool
has_fact view fact = list_any (λ f. sameb facts.the_type f fact) view.facts.now

-- there, before it, or as the name of the call that ends there
abbrev pub is_word : View → List ℕ → Bool
is_word view word =
    is_same_in_any_case view.word.now word || (is_same_in_any_case view.word_before.now word || is_same_in_any_case view.called.now word)

abbrev pub has_word : View → List (List ℕ) → Bool
has_word view words = list_any (is_word view) words

abbrev pub is_seen : View → When → Bool
is_seen view (when.On n) = sameb numbers.the_type view.number n
is_seen view (when.Here all) = is_one all view.here
is_seen view (when.Last all) = is_one all view.last
is_seen view (when.Second all) = is_one all view.second
is_seen view (when.Next all) = is_one all view.next
is_seen view (when.Could all) = list_all (has view.could.now) all
is_seen view (when.Never all) = not (list_any (has view.could.now) all)
is_seen view (when.Sign sign) = starts_with nat_eq view.from.now sign
is_seen view (when.Word words) = has_word view words
is_seen view (when.Is fact) = has_fact view fact
is_seen view (when.Not fact) = not (has_fact view fact)

abbrev pub holds : View → List When → Bool
holds view conditions = list_all (is_seen view) conditions

-- what the first row says all of whose conditions hold
abbrev pub first : View → List Row → Option (List Piece)
first view rows = option_map (λ row. row.said) (find (λ row. holds view row.when) rows)

abbrev pub option_or : {A : Type 0} → Option A → Option A → Option A
option_or None other = other
option_or (Some it) other = Some it

-- ---- which tables are those of a fault

abbrev pub sentence_by : Number → View → Option (List Piece)
sentence_by number.C4 view = first view type_rows
sentence_by other view = option_or (first view sentence_rows) (first view limit_rows)

abbrev pub sentence_of : View → Option (List Piece)
sentence_of view = sentence_by view.number view

-- by the tokens around a place
abbrev pub of_tokens : View → Option (List Piece)
of_tokens view =
    option_or (option_or (first view sign_rows) (first view symbol_rows))
    (option_or (option_or (first view statement_rows) (first view separator_rows))
    (option_or (first view type_token_rows) (option_or (first view declaration_rows) (first view section_rows))))

-- by a word of another language and the tokens around it
abbrev pub placed_hint : View → Option (List Piece)
placed_hint view = option_or (first view placed_word_rows) (first view statement_word_rows)

abbrev pub token_hint : View → Option (List Piece)
token_hint view =
    option_or (first view function_rows)
    (option_or (of_tokens view)
    (option_or (first view construct_rows)
    (option_or (option_or (placed_hint view) (first view word_rows)) (first view missing_rows))))

abbrev pub hint_by : Number → View → Option (List Piece)
hint_by number.S1 view = first view byte_rows
hint_by number.S2 view = first view byte_rows
hint_by number.P1 view = token_hint view
hint_by number.P3 view = first view construct_rows
hint_by number.C1 view = option_or (first view name_rows) (first view word_rows)
hint_by number.C3 view = first view rule_rows
hint_by number.C4 view = first view rule_rows
hint_by number.C7 view = first view rule_rows
hint_by number.C10 view = first view rule_rows
hint_by other view = None

abbrev pub hint_of : View → Option (List Piece)
hint_of view = hint_by view.number view

-- the other where there is none
abbrev pub unless : {A : Type 0} → Option A → Option A → Option A
unless None other = other
unless (Some it) other = None

-- the end of a sentence: that of a name that is not there tells another name only where no hint is given
abbrev pub end_by : Number → View → Option (List Piece)
end_by number.C1 view = unless (hint_of view) (first view end_rows)
end_by other view = first view end_rows

abbrev pub end_of : View → Option (List Piece)
end_of view = end_by view.number view
