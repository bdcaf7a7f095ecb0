-- An activation in words, from which it can be read back.
use Rattle.std.specs.Prelude.{ℕ, zero, suc, pos, negsuc, ◌+◌, ◌*◌, List, [], ◌∷◌, ◌++◌, length, if◌then◌else◌}
use Rattle.ob_interface.specs.declared.scalar.Scalar.{Scalar}
use Rattle.ob_interface.specs.declared.scalar.Scalar.TheVariants.{Int, Bool as Truth}
use Rattle.ob_meaning.specs.ByPositionStore.{Activation, Held, Holds, Refers}
use Rattle.ob_meaning.specs.ByPositionValue as Values

-- A word that begins something tells by its rest modulo 8 what that is: 0 an INTEGER that is not negative, 1 a negative one,
-- 2 a BOOLEAN, 3 parts, 4 a place of others. A scalar is that one word.
abbrev pub word_of : Scalar → ℕ
word_of (Int (pos n)) = 8 * n
word_of (Int (negsuc n)) = 8 * n + 1
word_of (Truth b) = if b then 10 else 2

-- how many parts there are
abbrev pub count_of : Values.Values → ℕ
count_of Values.no_part = zero
count_of (Values.part first rest) = suc (count_of rest)

-- before parts stands how many they are
abbrev mutual
  pub value_words : Values.Value → List ℕ
  value_words (Values.Single s) = word_of s ∷ []
  value_words (Values.Parts parts) = 3 ∷ count_of parts ∷ parts_words parts

  pub parts_words : Values.Values → List ℕ
  parts_words Values.no_part = []
  parts_words (Values.part first rest) = value_words first ++ parts_words rest

-- before the positions of a place stands how many they are
abbrev pub held_words : Held → List ℕ
held_words (Holds value) = value_words value
held_words (Refers place) = 4 ∷ place.activation ∷ place.position ∷ length place.path ∷ place.path

abbrev pub words_of : Activation → List ℕ
words_of [] = []
words_of (held ∷ rest) = held_words held ++ words_of rest
