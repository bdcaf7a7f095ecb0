-- Types as they stand in the declarations of a text: what the name of one stands for, and the types of the parts of arrays and records.
use Rattle.std.specs.Prelude.{ℕ, nat_lt, ◌&&◌, Bool, true, false, List, [], ◌∷◌, bytes_eq, find, reverse, Option, Some, None, if◌then◌else◌}
use Rattle.std.specs.List.{fold}
use Rattle.ob_scan.specs.declared.token.Token.{Token}
use Rattle.ob_explain_names.specs.Lookup.{name_at}
use Rattle.ob_explain_names.specs.declared.known.Known.{Known}
use Rattle.ob_explain_names.specs.declared.known.Sort.{Sort}
use Rattle.ob_explain_names.specs.declared.known.Sort.TheVariants as Sorts
use Rattle.ob_explain_tokens.specs.Around as Tokens
use Rattle.ob_explain_names.specs.Declarations.{behind_token, is_named, type_token}
use Rattle.ob_explain_parts.specs.Fields.{fields_behind}
use Rattle.ob_explain_tokens.specs.Kinds.{is_array, is_of, is_record}
use Rattle.ob_explain_parts.specs.declared.fields.Listing.TheVariants.{Names}
use Rattle.ob_explain_parts.specs.declared.declared_types.Standing.{Standing}

-- what is declared at a place has the type that begins with a token
abbrev pub type_from : (place : ℕ) → Option Token → Option Standing
type_from place None = None
type_from place (Some t) = Some (record { place = place; first = t })

-- of a variable or a parameter that is declared at a place
abbrev pub declared_type : List Token → (place : ℕ) → Option Standing
declared_type tokens place = type_from place (type_token tokens place)

-- ---- names of types

abbrev pub second_of : List Token → Option Token
second_of (equal ∷ t ∷ rest) = Some t
second_of _ = None

-- what the name of a type that is declared at a place stands for, behind the `=`
abbrev pub named_type : List Token → (place : ℕ) → Option Standing
named_type tokens place = type_from place (second_of (Tokens.behind place tokens))

abbrev pub is_type : Sort → Bool
is_type Sorts.TypeName = true
is_type _ = false

-- the type is the name of one that is declared there, before what has the type
abbrev pub is_name_of : (text : List ℕ) → Standing → Known → Bool
is_name_of text type name = (is_type name.sort && nat_lt name.place type.place) && is_named text (name_at text type.first.start) name

abbrev pub or_this : Standing → Option Standing → Standing
or_this type None = type
or_this type (Some other) = other

abbrev pub followed : (text : List ℕ) → List Token → Standing → Known → Standing
followed text tokens type name = if is_name_of text type name then or_this type (named_type tokens name.place) else type

-- The type for which a type stands: the name of a type leads on to its declaration, and that may be a name again. A type is declared
-- behind those whose names stand in it, so the names of a text are asked from the last one to the first.
unfoldable pub meant : (text : List ℕ) → List Known → List Token → Standing → Standing
meant text known tokens type = fold (followed text tokens) type (reverse known)

-- ---- parts of types that are no names

abbrev pub is_of_token : Token → Bool
is_of_token t = is_of t.kind

-- the type of the elements of an array stands behind its OF, before which there is no other one
abbrev pub element_of : List Token → Standing → Option Standing
element_of tokens type =
    if is_array type.first.kind
    then type_from type.place (behind_token tokens (find is_of_token (Tokens.behind type.first.start tokens))) else None

-- the names of the fields of a record
abbrev pub fields_of : List Token → Standing → List Token
fields_of tokens type = if is_record type.first.kind then fields_behind [] Names (Tokens.behind type.first.start tokens) else []

abbrev pub is_word : (text word : List ℕ) → Token → Bool
is_word text word t = bytes_eq (name_at text t.start) word

abbrev pub type_behind : List Token → Option Token → Option Token
type_behind tokens None = None
type_behind tokens (Some t) = type_token tokens t.start

-- the type of the field of a name
abbrev pub field_of : (text : List ℕ) → List Token → Standing → (word : List ℕ) → Option Standing
field_of text tokens type word = type_from type.place (type_behind tokens (find (is_word text word) (fields_of tokens type)))
