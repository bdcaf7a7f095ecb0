-- Bytes that stand in a word.
use Rattle.std.specs.Prelude.{ℕ, ◌==◌, ◌||◌, Bool, List, [], ◌∷◌, codes, nat_eq}
use Rattle.std.specs.List.{list_any, starts_with}

-- a byte stands in the word
abbrev pub has : (byte : ℕ) → List ℕ → Bool
has byte word = list_any (λ b. b == byte) word

-- the word begins with these bytes
abbrev pub begins : (bytes word : List ℕ) → Bool
begins bytes word = starts_with nat_eq word bytes

-- the three bytes of a byte order mark
abbrev pub byte_order_mark : List ℕ
byte_order_mark = 239 ∷ 187 ∷ 191 ∷ []

-- what is said of one
abbrev pub order_mark_sentence : List ℕ
order_mark_sentence = codes "a byte order mark stands here, which no editor shows; save the file without it"

-- a comment as other languages have them, or as modules have
abbrev pub begins_comment : List ℕ → Bool
begins_comment word = begins (codes "//") word || (begins (codes "(*") word || begins (codes "--") word)
