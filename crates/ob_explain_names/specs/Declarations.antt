-- The declarations of names, by the tokens of a text and the names that are visible at a place.
use Rattle.std.specs.Prelude.{ℕ, ◌-◌, Bool, true, false, List, [], ◌∷◌, bytes_eq, drop, find, reverse, take, Option, Some, None}
use Rattle.ob_scan.specs.declared.token.Token.{Token}
use Rattle.ob_explain_names.specs.Lookup.{name_at}
use Rattle.ob_explain_names.specs.declared.known.Known.{Known}
use Rattle.ob_explain_tokens.specs.Around as Tokens
use Rattle.ob_explain_tokens.specs.Kinds.{is_colon}

-- the bytes of a token
abbrev pub token_bytes : (text : List ℕ) → Token → List ℕ
token_bytes text t = take (t.end - t.start) (drop t.start text)

abbrev pub is_named : (text word : List ℕ) → Known → Bool
is_named text word name = bytes_eq (name_at text name.place) word

-- the last of the visible names that a word is
unfoldable pub declared_as : (text : List ℕ) → List Known → (word : List ℕ) → Option Known
declared_as text known word = find (is_named text word) (reverse known)

abbrev pub is_there : Option Known → Bool
is_there None = false
is_there (Some name) = true

abbrev pub first_of : List Token → Option Token
first_of [] = None
first_of (t ∷ rest) = Some t

abbrev pub is_colon_token : Token → Bool
is_colon_token t = is_colon t.kind

abbrev pub behind_token : List Token → Option Token → Option Token
behind_token tokens None = None
behind_token tokens (Some t) = first_of (Tokens.behind t.start tokens)

-- The token with which the type of a variable or a parameter begins that is declared at a place: behind the `:` that follows it, since
-- only names and commas stand between.
unfoldable pub type_token : List Token → (place : ℕ) → Option Token
type_token tokens place = behind_token tokens (find is_colon_token (Tokens.behind place tokens))
