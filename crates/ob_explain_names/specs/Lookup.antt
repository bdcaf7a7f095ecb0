-- What words are declared as.
use Rattle.std.specs.Prelude.{ℕ, ◌||◌, List, drop, codes, bytes_eq, Option, Some, None, if◌then◌else◌}
use Rattle.std.specs.List.{fold}
use Rattle.ob_explain_sentences.specs.Words.{word_at}
use Rattle.ob_explain_names.specs.declared.known.Known.{Known}
use Rattle.ob_explain_names.specs.declared.known.Sort.{Sort}
use Rattle.ob_explain_names.specs.declared.known.Sort.TheVariants.{Constant, TypeName}

-- the name that stands at a place of a text
abbrev pub name_at : List ℕ → ℕ → List ℕ
name_at text place = word_at (drop place text)

-- the language's own names
abbrev pub own_sort : List ℕ → Option Sort
own_sort word =
    if bytes_eq word (codes "INTEGER") || bytes_eq word (codes "BOOLEAN") then Some TypeName
    else if bytes_eq word (codes "TRUE") || bytes_eq word (codes "FALSE") then Some Constant
    else None

-- behind a name, where before it this was known of the word
abbrev pub sort_behind : (text word : List ℕ) → Option Sort → Known → Option Sort
sort_behind text word sort name = if bytes_eq (name_at text name.place) word then Some name.sort else sort

-- As the last of the visible names that the word is, since a name in a procedure stands behind those that it hides; and else one of the
-- language's own.
unfoldable pub sort_of : (text : List ℕ) → List Known → (word : List ℕ) → Option Sort
sort_of text known word = fold (sort_behind text word) (own_sort word) known
