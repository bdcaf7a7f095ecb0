-- What has to be true of what is known of a fault, by its number: of the slots that its sentences have, and of the facts by which a
-- sentence is chosen.
use Rattle.std.specs.Prelude.{◌≡◌, ◌⊎◌, Bool, List, [], ◌∷◌, Option, None}
use Rattle.ob_scan.specs.declared.token.Kind.TheVariants as Kinds
use Rattle.ob_scan.specs.declared.token.Token.{Token}
use Rattle.ob_explain_words.specs.Distance.{bytes_of}
use Rattle.ob_explain_names.specs.Declarations.{is_there}
use Rattle.ob_explain_tokens.specs.Actuals.{actual_count}
use Rattle.ob_explain_tokens.specs.Open.{IsInRecord, IsOpenConstruct}
use Rattle.ob_explain_tokens.specs.Parens.{is_in_parens}
use Rattle.ob_explain_parts.specs.FieldNames.{fields_at, listed_fields}
use Rattle.ob_explain_parts.specs.Parameters.{called_name}
use Rattle.ob_explain_sentences.specs.Said.{Evidence}
use Rattle.ob_explain_sentences.specs.declared.table_rows.Fact.{Fact}
use Rattle.ob_explain_sentences.specs.declared.table_rows.Fact.TheVariants as Facts
use Rattle.ob_explain_sentences.specs.declared.table_rows.Number.{Number}
use Rattle.ob_explain_sentences.specs.declared.table_rows.Number.TheVariants as Numbers
use Rattle.ob_evidence.specs.Constructs.{AreShown, IsOpen, inner_of, opening_of}
use Rattle.ob_explain_names.specs.Expected.{AreExpected}
use Rattle.ob_evidence.specs.Facts.{facts_in, with_fact}
use Rattle.ob_evidence.specs.Keywords.{IsAsked}
use Rattle.ob_evidence.specs.Lone.{AreLone}
use Rattle.ob_evidence.specs.Names.{declared, declared_line, end_name, is_near, near_name, parameters, sort_facts, sort_there}
use Rattle.ob_evidence.specs.Numbers.{first_operand, is_known, length_there, second_operand, written}
use Rattle.ob_evidence.specs.Sites.{Scene, here, is_kind, is_token, kind_or_name, last, line_of, rest_of, word_of}
use Rattle.ob_evidence.specs.Types.{form_ended, types_there, with_whole}
use Rattle.ob_evidence.specs.Words.{are_told, is_counted, is_in_procedure, told_words, words_there}
use Rattle.ob_evidence.specs.declared.constructs.Shown.{Shown}

-- P1: what could stand there are the kinds of token with which the text before it goes on; the name is the word just before it; the
-- keyword and the lines are those of a construct that is open there or that the END before it closes, and of an IF in it. The keyword that
-- a hint asks about is one that a name there is meant to be. The lone name stands before the place as a whole statement. Of the facts, by
-- which a hint is chosen, nothing is promised.
pub record IsUnexpected (s : Scene) (e : Evidence) : Type 0 where
  pub shown : Option Shown
  pub are_shown : AreShown s shown
  pub expected : AreExpected s.text s.place e.could
  pub name : e.name ≡ word_of s.text (last s)
  pub keyword : e.opening ≡ kind_or_name (opening_of shown)
  pub line : e.line ≡ line_of s.text (opening_of shown)
  pub other_line : e.other_line ≡ line_of s.text (inner_of shown)
  pub lone : Option Token
  pub are_lone : AreLone s lone
  pub lone_name : e.lone ≡ word_of s.text lone
  pub lone_line : e.lone_line ≡ line_of s.text lone
  pub asked : (e.keyword ≡ Kinds.Ident) ⊎ IsAsked s e.keyword

-- P3: the name is that of what the END before it closes; the construct that is still open is the one that this END closes. The lone name
-- stands before the place as a whole statement. That the heading is meant to have another name is a hint, of which nothing is promised.
pub record IsOtherName (s : Scene) (facts : List Fact) (e : Evidence) : Type 0 where
  pub renamed : Bool
  pub opening : Option Token
  pub name : e.name ≡ word_of s.text (end_name s)
  pub is_open : IsOpen (rest_of s.before) opening None
  pub keyword : e.opening ≡ kind_or_name opening
  pub line : e.line ≡ line_of s.text opening
  pub lone : Option Token
  pub are_lone : AreLone s lone
  pub lone_name : e.lone ≡ word_of s.text lone
  pub lone_line : e.lone_line ≡ line_of s.text lone
  pub noted : facts ≡ facts_in (
      (is_token (end_name s), Facts.Named) ∷ (is_token opening, Facts.StillOpen) ∷ (is_kind opening Kinds.Repeat, Facts.OpenRepeat)
      ∷ (is_token lone, Facts.Lone) ∷ (renamed, Facts.Renamed) ∷ [])

-- C1: the name is the nearest one; of a record the first fields are told. The other facts are hints on the word, of which nothing is
-- promised.
pub record IsUnknownName (s : Scene) (facts : List Fact) (e : Evidence) : Type 0 where
  pub further_down : Bool
  pub field : Bool
  pub elsewhere : Bool
  pub number_type : Bool
  pub own_type : Bool
  pub own_name : Bool
  pub has_fields : Bool
  pub name : e.name ≡ bytes_of s.text (near_name s).named
  pub first : e.first ≡ listed_fields s.text (fields_at s.text s.known s.tokens s.place)
  pub noted : facts ≡ facts_in (
      (is_near (near_name s), Facts.Near) ∷ (further_down, Facts.FurtherDown) ∷ (field, Facts.Field)
      ∷ (elsewhere, Facts.Elsewhere) ∷ (number_type, Facts.NumberType) ∷ (own_type, Facts.OwnType)
      ∷ (own_name, Facts.OwnName) ∷ (has_fields, Facts.First) ∷ [])

-- C2: the line is that of the declaration before.
pub record IsDeclaredTwice (s : Scene) (facts : List Fact) (e : Evidence) : Type 0 where
  pub in_record : Bool
  pub within : IsInRecord s.before in_record
  pub line : e.line ≡ declared_line s.text (declared s)
  pub noted : facts ≡ facts_in ((in_record, Facts.InRecord) ∷ (is_there (declared s), Facts.Before) ∷ [])

-- C3: what a name stands for is what it is declared as; a whole array or a whole record before the place is what stands there.
abbrev pub IsOtherSort : Scene → List Fact → Type 0
IsOtherSort s facts = facts ≡ with_whole (sort_facts (sort_there s)) (form_ended s)

-- C4: the types are those beside an operator, or of an expression and of what it is assigned to or stands for; the line is that of the
-- heading of the procedure that is called there. Of the facts, by which a sentence is chosen, nothing is promised.
pub record IsOtherType (s : Scene) (e : Evidence) : Type 0 where
  pub wanted : e.wanted ≡ (types_there s).wanted
  pub found : e.found ≡ (types_there s).found
  pub line : e.line ≡ declared_line s.text (called_name s.text s.known s.before)

-- C5: the operands are those beside the operator, which is the one at the place.
pub record IsNoConstant (s : Scene) (facts : List Fact) (e : Evidence) : Type 0 where
  pub first : e.first ≡ written s.text (first_operand s)
  pub operator : e.opening ≡ kind_or_name (here s)
  pub second : e.second ≡ written s.text (second_operand s)
  pub noted : facts ≡ facts_in ((is_known (first_operand s), Facts.First) ∷ (is_known (second_operand s), Facts.Second) ∷ [])

-- C6: the length is the one at the place.
pub record IsNoLength (s : Scene) (facts : List Fact) (e : Evidence) : Type 0 where
  pub first : e.first ≡ written s.text (length_there s)
  pub noted : facts ≡ facts_in ((is_known (length_there s), Facts.First) ∷ [])

-- C7: the actuals are those of the call, the parameters those of the procedure, which is declared in the line; the other line is that of
-- the procedure that is called where an actual stands.
pub record AreOtherActuals (s : Scene) (facts : List Fact) (e : Evidence) : Type 0 where
  pub count : e.count ≡ actual_count s.behind
  pub most : e.most ≡ parameters (sort_there s)
  pub line : e.line ≡ declared_line s.text (declared s)
  pub other_line : e.other_line ≡ declared_line s.text (called_name s.text s.known s.before)
  pub noted : facts ≡ with_fact (sort_facts (sort_there s)) (is_there (called_name s.text s.known s.before)) Facts.Before

-- C9: the words are those of the type, or of the variables.
pub record IsBeyondLimit (s : Scene) (facts : List Fact) (e : Evidence) : Type 0 where
  pub count : e.count ≡ told_words (words_there s)
  pub noted : facts ≡ facts_in (
      (is_in_parens s.before, Facts.InParens) ∷ (is_in_procedure s, Facts.InProcedure) ∷ (is_counted s, Facts.Counted)
      ∷ (are_told (words_there s), Facts.Words) ∷ [])

-- C10: the PROCEDURE before the name stands within another procedure, or not.
pub record IsNoExport (s : Scene) (facts : List Fact) : Type 0 where
  pub outside : Option Token
  pub around : IsOpenConstruct (rest_of s.before) outside
  pub noted : facts ≡ facts_in ((is_kind outside Kinds.Procedure, Facts.InProcedure) ∷ [])

-- What is known of a fault of this number is true of the module. S1 to S5, P2 and C8 have no slots.
abbrev pub IsTrueOf : Number → Scene → List Fact → Evidence → Type 0
IsTrueOf Numbers.P1 s facts e = IsUnexpected s e
IsTrueOf Numbers.P3 s facts e = IsOtherName s facts e
IsTrueOf Numbers.C1 s facts e = IsUnknownName s facts e
IsTrueOf Numbers.C2 s facts e = IsDeclaredTwice s facts e
IsTrueOf Numbers.C3 s facts e = IsOtherSort s facts
IsTrueOf Numbers.C4 s facts e = IsOtherType s e
IsTrueOf Numbers.C5 s facts e = IsNoConstant s facts e
IsTrueOf Numbers.C6 s facts e = IsNoLength s facts e
IsTrueOf Numbers.C7 s facts e = AreOtherActuals s facts e
IsTrueOf Numbers.C9 s facts e = IsBeyondLimit s facts e
IsTrueOf Numbers.C10 s facts e = IsNoExport s facts
IsTrueOf other s facts e = Unit {0}

-- nothing has to be true of a fault of this number
abbrev pub AsksNothing : Number → Type 0
AsksNothing number = (s : Scene) → (facts : List Fact) → (e : Evidence) → IsTrueOf number s facts e
