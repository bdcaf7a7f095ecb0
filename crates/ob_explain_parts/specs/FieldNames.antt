-- The fields of the record of which a place selects one.
use Rattle.std.specs.Prelude.{ℕ, nat_lt, ◌++◌, List, [], ◌∷◌, codes, drop, filter, flat_map, take, Option, Some, None}
use Rattle.ob_scan.specs.declared.token.Token.{Token}
use Rattle.ob_explain_names.specs.Lookup.{name_at}
use Rattle.ob_explain_names.specs.declared.known.Known.{Known}
use Rattle.ob_explain_names.specs.declared.known.Sort.{Sort}
use Rattle.ob_explain_names.specs.declared.known.Sort.TheVariants as Sorts
use Rattle.ob_explain_tokens.specs.Around as Tokens
use Rattle.ob_explain_names.specs.Declarations.{declared_as}
use Rattle.ob_explain_parts.specs.Parts.{operand_start, selected}
use Rattle.ob_explain_parts.specs.Types.{declared_type, fields_of, meant}
use Rattle.ob_explain_parts.specs.declared.variable_parts.Selecting.TheVariants.{Part}
use Rattle.ob_explain_parts.specs.declared.declared_types.Standing.{Standing}

-- the tokens behind a name, up to a place
abbrev pub between : List Token → (used place : ℕ) → List Token
between tokens used place = filter (λ t. nat_lt t.start place) (Tokens.behind used tokens)

abbrev pub fields_of_part : (text : List ℕ) → List Known → List Token → Option Standing → List Token
fields_of_part text known tokens None = []
fields_of_part text known tokens (Some type) = fields_of tokens (meant text known tokens type)

-- of a variable that is declared at a place and used at another one, with its selectors before the place
abbrev pub fields_by : Sort → (text : List ℕ) → List Known → List Token → (declared used place : ℕ) → List Token
fields_by Sorts.Variable text known tokens declared used place =
    fields_of_part text known tokens (selected text known tokens Part (declared_type tokens declared) (between tokens used place)).part
fields_by _ text known tokens declared used place = []

abbrev pub fields_of_name : (text : List ℕ) → List Known → List Token → Option Known → (used place : ℕ) → List Token
fields_of_name text known tokens None used place = []
fields_of_name text known tokens (Some name) used place = fields_by name.sort text known tokens name.place used place

abbrev pub fields_from : (text : List ℕ) → List Known → List Token → Option Token → (place : ℕ) → List Token
fields_from text known tokens None place = []
fields_from text known tokens (Some t) place = fields_of_name text known tokens (declared_as text known (name_at text t.start)) t.start place

-- a dot stands before the place, and before that the variable with selectors
abbrev pub fields_at : (text : List ℕ) → List Known → List Token → (place : ℕ) → List Token
fields_at text known tokens place = fields_from text known tokens (operand_start 0 None (drop 1 (Tokens.before place tokens))) place

-- a comma and the name of a field
abbrev pub behind_comma : (text : List ℕ) → Token → List ℕ
behind_comma text t = codes ", " ++ name_at text t.start

abbrev pub further : (text : List ℕ) → List Token → List ℕ
further text fields = flat_map (behind_comma text) fields

-- the names of fields, with commas between them
abbrev pub listed : (text : List ℕ) → List Token → List ℕ
listed text [] = []
listed text (t ∷ rest) = name_at text t.start ++ further text rest

-- of six of them at most
abbrev pub listed_fields : (text : List ℕ) → List Token → List ℕ
listed_fields text fields = listed text (take 6 fields)
