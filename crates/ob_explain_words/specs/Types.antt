-- The words of the type that tokens begin with.
use Rattle.std.specs.Prelude.{ℕ, zero, suc, ◌+◌, ◌-◌, ◌==◌, ◌&&◌, not, nat_le, Bool, false, List, [], ◌∷◌, drop, length, Option, Some, None}
use Rattle.std.specs.Prelude.{option_and_then, if◌then◌else◌}
use Rattle.ob_scan.specs.declared.token.Kind.{Kind}
use Rattle.ob_scan.specs.declared.token.Token.{Token}
use Rattle.ob_explain_names.specs.Lookup.{name_at}
use Rattle.ob_explain_tokens.specs.Kinds.{is_array, is_colon, is_end, is_name, is_record, is_semicolon}
use Rattle.ob_explain_words.specs.Counts.{at_least_one, product_of, sum_of}
use Rattle.ob_explain_words.specs.Kinds.{is_listed}
use Rattle.ob_explain_words.specs.Lengths.{length_behind}
use Rattle.ob_explain_words.specs.Named.{named_words}
use Rattle.ob_explain_words.specs.Scopes.{Scope}
use Rattle.ob_explain_words.specs.declared.type_lists.Reading.{Reading}
use Rattle.ob_explain_words.specs.declared.type_lists.Reading.TheVariants.{Names, Within}

-- ---- lists of names with their types: the fields of a record, or variables

-- nothing of the lists stands there: they have ended, or what stands around them ends
abbrev pub ends_lists : Reading → Kind → Bool
ends_lists (Names counted) kind = not (is_listed kind)
ends_lists (Within zero) kind = is_end kind
ends_lists (Within (suc records)) kind = false

-- how many names are counted, or records opened
abbrev pub size_of : Reading → ℕ
size_of (Names names) = names
size_of (Within records) = records

-- names up to a place are counted
abbrev pub counted : (last : ℕ) → Token → ℕ
counted last t = if is_name t.kind && nat_le t.start last then 1 else 0

abbrev pub behind_name : (last : ℕ) → (names : ℕ) → Token → Reading
behind_name last names t =
    if is_colon t.kind then Within 0
    else if is_semicolon t.kind then Names 0
    else Names (names + counted last t)

abbrev pub behind_part : (records : ℕ) → Token → Reading
behind_part records t =
    if is_semicolon t.kind && (records == 0) then Names 0
    else if is_record t.kind then Within (records + 1)
    else if is_end t.kind then Within (records - 1)
    else Within records

-- behind a token
abbrev pub reading_behind : (last : ℕ) → Reading → Token → Reading
reading_behind last (Names names) t = behind_name last names t
reading_behind last (Within records) t = behind_part records t

-- the type of a list begins there, and some of its names are counted
abbrev pub begins_type : Reading → Kind → Bool
begins_type (Names names) kind = is_colon kind && not (names == 0)
begins_type (Within records) kind = false

abbrev pub names_of : Reading → ℕ
names_of (Names names) = names
names_of (Within records) = 0

-- with the words of a list whose type begins behind a token: those of its type, for each of its names
abbrev pub with_list : (words : List Token → Option ℕ) → (total : ℕ) → Reading → Kind → (behind : List Token) → Option ℕ
with_list words total reading kind behind =
    if begins_type reading kind then sum_of (Some total) (product_of (Some (names_of reading)) (words behind)) else Some total

-- The words of the names of lists up to a place, behind a total of so many, where `words` tells those of the type that tokens begin with.
unfoldable pub list_words : (words : List Token → Option ℕ) → (last total : ℕ) → Reading → List Token → Option ℕ
list_words words last total reading [] = None
list_words words last total reading (t ∷ rest) =
    if ends_lists reading t.kind then Some total
    else option_and_then (λ more. list_words words last more (reading_behind last reading t) rest) (with_list words total reading t.kind rest)

-- ---- types

-- a type that is a name
abbrev pub simple_words : Scope → Token → Option ℕ
simple_words s t = if is_name t.kind then named_words s.text s.types (name_at s.text t.start) else None

-- An array has those of its elements, a record those of its fields, of which each has a place within the text. What stands within more
-- than so many others is not told.
unfoldable pub type_words : Scope → (deep : ℕ) → List Token → Option ℕ
type_words s deep [] = None
type_words s zero (t ∷ rest) = simple_words s t
type_words s (suc deep) (t ∷ rest) =
    if is_array t.kind then product_of (length_behind s rest) (type_words s deep (drop 2 rest))
    else if is_record t.kind then at_least_one (list_words (type_words s deep) (length s.text) 0 (Names 0) rest)
    else simple_words s t
