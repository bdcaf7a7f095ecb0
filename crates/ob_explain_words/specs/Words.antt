-- The words of the type at a place, and those of the variables of a scope up to one.
use Rattle.std.specs.Prelude.{ℕ, ◌-◌, nat_lt, Bool, true, false, List, [], ◌∷◌, ◌++◌, drop, filter, find, reverse, Option, Some, None, if◌then◌else◌}
use Rattle.std.specs.List.{fold}
use Rattle.ob_scan.specs.declared.token.Token.{Token}
use Rattle.ob_explain_names.specs.declared.known.Known.{Known}
use Rattle.ob_explain_names.specs.declared.known.Sort.{Sort}
use Rattle.ob_explain_names.specs.declared.known.Sort.TheVariants as Sorts
use Rattle.ob_explain_tokens.specs.Around as Tokens
use Rattle.ob_explain_words.specs.Counts.{sum_of}
use Rattle.ob_explain_words.specs.Kinds.{is_var}
use Rattle.ob_explain_words.specs.Scopes.{Scope}
use Rattle.ob_explain_words.specs.Types.{list_words, type_words}
use Rattle.ob_explain_words.specs.declared.type_lists.Reading.TheVariants.{Names}
use Rattle.ob_explain_words.specs.declared.named_types.NamedType.{NamedType}

-- types within more than so many others are not told; the rules have none
abbrev pub deepest : ℕ
deepest = 100

abbrev pub is_type : Sort → Bool
is_type Sorts.TypeName = true
is_type _ = false

-- the names that are declared before a place
abbrev pub earlier : (place : ℕ) → List Known → List Known
earlier place known = filter (λ name. nat_lt name.place place) known

-- a type that is declared at a place: its words by the names that are declared before it, of the tokens behind the `=` that follows it
abbrev pub named_type : (text : List ℕ) → List Token → List Known → List NamedType → (place : ℕ) → NamedType
named_type text tokens known types place = record {
  place = place;
  words = type_words (record { text = text; tokens = tokens; known = earlier place known; types = types }) deepest (drop 1 (Tokens.behind place tokens));
}

-- with one name more, where it is a type
unfoldable pub with_type : (text : List ℕ) → List Token → List Known → List NamedType → Known → List NamedType
with_type text tokens known types name =
    if is_type name.sort then types ++ named_type text tokens known types name.place ∷ [] else types

-- the types of names, in the order in which they are declared: none of them has itself in it, or one that is declared further down
unfoldable pub types_of : (text : List ℕ) → List Token → List Known → List NamedType
types_of text tokens known = fold (with_type text tokens known) [] known

abbrev pub scope_at : (text : List ℕ) → List Token → List Known → Scope
scope_at text tokens known = record { text = text; tokens = tokens; known = known; types = types_of text tokens known }

-- the words of the type that begins at a place of a text with these tokens, before which these names are visible
unfoldable pub words_of_type : (text : List ℕ) → List Token → List Known → (place : ℕ) → Option ℕ
words_of_type text tokens known place = type_words (scope_at text tokens known) deepest (Tokens.behind (place - 1) tokens)

abbrev pub is_var_token : Token → Bool
is_var_token t = is_var t.kind

-- the tokens behind one, where it is there
abbrev pub behind_one : List Token → Option Token → List Token
behind_one tokens None = []
behind_one tokens (Some t) = Tokens.behind t.start tokens

-- before a place behind a VAR the variables of its scope are listed from the last VAR on, since a scope has one before its procedures
abbrev pub variables_before : List Token → (place : ℕ) → List Token
variables_before tokens place = behind_one tokens (find is_var_token (Tokens.before place tokens))

abbrev pub is_procedure : Sort → Bool
is_procedure (Sorts.Procedure parameters) = true
is_procedure _ = false

abbrev pub is_procedure_name : Known → Bool
is_procedure_name name = is_procedure name.sort

abbrev pub parameters_by : Sort → ℕ
parameters_by (Sorts.Procedure parameters) = parameters
parameters_by _ = 0

abbrev pub parameters_in : Option Known → ℕ
parameters_in None = 0
parameters_in (Some name) = parameters_by name.sort

-- Of the procedure in whose variables a place stands the parameters, of one word each: it is the last procedure that is declared before
-- the place, and before the variables of the module there is none.
abbrev pub parameters_of : List Known → ℕ
parameters_of known = parameters_in (find is_procedure_name (reverse known))

-- the words of the variables of a scope up to the one at a place and with it, and of its parameters
unfoldable pub words_with : (text : List ℕ) → List Token → List Known → (place : ℕ) → Option ℕ
words_with text tokens known place =
    sum_of (Some (parameters_of known))
    (list_words (type_words (scope_at text tokens known) deepest) place 0 (Names 0) (variables_before tokens place))
