-- The words of types that have a name.
use Rattle.std.specs.Prelude.{ℕ, ◌||◌, Bool, List, bytes_eq, codes, find, reverse, Option, Some, None, if◌then◌else◌}
use Rattle.ob_explain_names.specs.Lookup.{name_at}
use Rattle.ob_explain_words.specs.declared.named_types.NamedType.{NamedType}

abbrev pub is_named : (text word : List ℕ) → NamedType → Bool
is_named text word type = bytes_eq (name_at text type.place) word

-- the language's own types
abbrev pub own_words : (word : List ℕ) → Option ℕ
own_words word = if bytes_eq word (codes "INTEGER") || bytes_eq word (codes "BOOLEAN") then Some 1 else None

abbrev pub words_by : (word : List ℕ) → Option NamedType → Option ℕ
words_by word None = own_words word
words_by word (Some type) = type.words

-- of the types of a text that are declared, the last one that a word is
unfoldable pub named_words : (text : List ℕ) → List NamedType → (word : List ℕ) → Option ℕ
named_words text types word = words_by word (find (is_named text word) (reverse types))
