-- Names: the nearest one, what a name is declared as and where, and the name that stands behind an END.
use Rattle.std.specs.Prelude.{ℕ, ◌==◌, Bool, true, false, not, List, [], ◌∷◌, Option, Some, None, if◌then◌else◌}
use Rattle.ob_scan.specs.declared.token.Kind.{Kind}
use Rattle.ob_scan.specs.declared.token.Kind.TheVariants as Kinds
use Rattle.ob_scan.specs.declared.token.Token.{Token}
use Rattle.ob_explain_names.specs.Lookup.{sort_of}
use Rattle.ob_explain_names.specs.declared.known.Known.{Known}
use Rattle.ob_explain_names.specs.declared.known.Sort.{Sort}
use Rattle.ob_explain_names.specs.declared.known.Sort.TheVariants as Sorts
use Rattle.ob_explain_words.specs.Nearest.{nearest, nearest_token}
use Rattle.ob_explain_words.specs.declared.need.Need.{Need}
use Rattle.ob_explain_words.specs.declared.need.Need.TheVariants as Needs
use Rattle.ob_explain_words.specs.declared.distance.Candidate.{Candidate}
use Rattle.ob_explain_names.specs.Declarations.{declared_as}
use Rattle.ob_explain_parts.specs.FieldNames.{fields_at}
use Rattle.ob_explain_tokens.specs.ClosedConstructs.{name_of_end}
use Rattle.ob_explain_sentences.specs.Places.{place_in}
use Rattle.ob_explain_sentences.specs.declared.table_rows.Fact.{Fact}
use Rattle.ob_explain_sentences.specs.declared.table_rows.Fact.TheVariants as Facts
use Rattle.ob_evidence.specs.Sites.{Scene, is_kind, kind_of, last, next, word}

abbrev pub leads_to_statement : Kind → Bool
leads_to_statement Kinds.Semicolon = true
leads_to_statement Kinds.Begin = true
leads_to_statement Kinds.Then = true
leads_to_statement Kinds.Else = true
leads_to_statement Kinds.Do = true
leads_to_statement Kinds.Repeat = true
leads_to_statement _ = false

-- a statement begins with the variable that it assigns, or with the procedure that it calls
abbrev pub needed_first : (next : Option Kind) → Need
needed_first None = Needs.Any
needed_first (Some Kinds.Assign) = Needs.Variable
needed_first (Some Kinds.LeftBracket) = Needs.Variable
needed_first (Some Kinds.Dot) = Needs.Variable
needed_first (Some other) = Needs.Procedure

abbrev pub needed_behind : Kind → (next : Option Kind) → Need
needed_behind Kinds.Colon next = Needs.TypeName
needed_behind Kinds.Of next = Needs.TypeName
needed_behind Kinds.Equal next = Needs.NoProcedure
needed_behind last next = if leads_to_statement last then needed_first next else Needs.Value

-- What a name has to stand for between these tokens: behind `:` and OF a type; behind `=`, which also stands before a type, no procedure;
-- and within a statement a constant or a variable.
abbrev pub needed : (last next : Option Kind) → Need
needed None next = Needs.Any
needed (Some last) next = needed_behind last next

-- The name nearest to the word at the place: behind a `.` of the fields of the record before it, and else of the language's own names and
-- of those that are visible, of those that stand for what is needed there.
abbrev pub near_name : Scene → Candidate
near_name s =
    if is_kind (last s) Kinds.Dot then nearest_token s.text (fields_at s.text s.known s.tokens s.place) (word s)
    else nearest s.text (needed (kind_of (last s)) (kind_of (next s))) s.known (word s)

-- at a distance of 3 none is near
abbrev pub is_near : Candidate → Bool
is_near near = not (near.distance == 3)

-- the last of the visible names that is the word at the place
abbrev pub declared : Scene → Option Known
declared s = declared_as s.text s.known (word s)

-- the line in which a name is declared; 0 where none is
abbrev pub declared_line : (text : List ℕ) → Option Known → ℕ
declared_line text None = 0
declared_line text (Some name) = (place_in text name.place).line

-- what the word at the place is declared as
abbrev pub sort_there : Scene → Option Sort
sort_there s = sort_of s.text s.known (word s)

abbrev pub sort_fact : Sort → Fact
sort_fact Sorts.Constant = Facts.Constant
sort_fact Sorts.TypeName = Facts.TypeName
sort_fact Sorts.Variable = Facts.Variable
sort_fact (Sorts.Procedure parameters) = Facts.Procedure

-- a name stands for this
abbrev pub sort_facts : Option Sort → List Fact
sort_facts None = []
sort_facts (Some sort) = Facts.Named ∷ sort_fact sort ∷ []

-- those of a procedure
abbrev pub parameters : Option Sort → ℕ
parameters (Some (Sorts.Procedure count)) = count
parameters _ = 0

-- the name of what the END before the place closes
abbrev pub end_name : Scene → Option Token
end_name s = name_of_end 0 None s.before
