-- Words: not empty, with no blank and no line feed in them.
use Rattle.std.proofs.Common.{◌≡◌, ℕ, ◌≤◌, ◌==◌, false, List, [], ◌∷◌, ◌++◌, All, arith, length, length-append}
use Rattle.std.proofs.lemmas.List.Elements.{All-nil, All-cons, All-append}
use Rattle.ob_text_words.specs.Words.{Word, is_blank}

-- bytes with no blank and no line feed among them
pub record IsClean (bytes : List ℕ) : Type 0 where
  pub no_blank : All (λ b. is_blank b ≡ false) bytes
  pub no_feed : All (λ b. (b == 10) ≡ false) bytes

pub record IsWord (word : Word) : Type 0 where
  pub some : 1 ≤ length word
  pub clean : IsClean word

pub clean_none : IsClean []
clean_none = record { no_blank = All-nil _; no_feed = All-nil _ }

pub clean_more : (c : ℕ) (bytes : List ℕ) → is_blank c ≡ false → (c == 10) ≡ false → IsClean bytes → IsClean (c ∷ bytes)
clean_more c bytes b f h = record {
  no_blank = All-cons (λ x. is_blank x ≡ false) c bytes b h.no_blank;
  no_feed = All-cons (λ x. (x == 10) ≡ false) c bytes f h.no_feed;
}

pub clean_joined : (v w : List ℕ) → IsClean v → IsClean w → IsClean (v ++ w)
clean_joined v w h k = record {
  no_blank = All-append (λ b. is_blank b ≡ false) v w h.no_blank k.no_blank;
  no_feed = All-append (λ b. (b == 10) ≡ false) v w h.no_feed k.no_feed;
}

pub words_joined : (v w : Word) → IsWord v → IsWord w → IsWord (v ++ w)
words_joined v w h k = record { some = omega (arith, length-append v w, h.some); clean = clean_joined v w h.clean k.clean }

-- behind a byte that is no blank and no line feed
pub word_behind : (c : ℕ) (bytes : List ℕ) → is_blank c ≡ false → (c == 10) ≡ false → IsClean bytes → IsWord (c ∷ bytes)
word_behind c bytes b f h = record { some = omega arith; clean = clean_more c bytes b f h }

pub byte_word : (c : ℕ) → is_blank c ≡ false → (c == 10) ≡ false → IsWord (c ∷ [])
byte_word c b f = word_behind c [] b f clean_none

pub word_more : (c : ℕ) (w : Word) → is_blank c ≡ false → (c == 10) ≡ false → IsWord w → IsWord (c ∷ w)
word_more c w b f h = word_behind c w b f h.clean
