-- What the lines of a schedule say, line by line.
use Rattle.std.proofs.Common.{◌≡◌, ◌+◌, ◌<◌, ℕ, true, false, List, [], ◌∷◌, ◌++◌, length, take, get_or, refl, sym, ◌∙◌, ap}
use Rattle.std.specs.List.{flat_map}
use Rattle.std.proofs.lemmas.List.{flat_map_more, take_more}
use Rattle.ob_text_words.specs.Words.{Word, words}
use Rattle.ob_text_words.specs.Schedule.{is_comment, line_items}

pub said : (line : List ℕ) → is_comment (words line) ≡ false → line_items line ≡ words line
said line is = rw is refl

pub silent : (line : List ℕ) → is_comment (words line) ≡ true → line_items line ≡ []
silent line is = rw is refl

-- one more line
pub lines_more : (parts : List (List ℕ)) (n : ℕ) (line : List ℕ) (so_far : List Word) → n < length parts → line ≡ get_or parts n line
    → so_far ≡ flat_map line_items (take n parts) → so_far ++ line_items line ≡ flat_map line_items (take (n + 1) parts)
lines_more parts n line so_far within at is =
    ap (λ (ws : List Word). ws ++ line_items line) is
    ∙ flat_map_more line_items [] (take n parts) line
    ∙ ap (flat_map line_items) (ap (λ (l : List ℕ). take n parts ++ l ∷ []) at ∙ sym (take_more parts n line within))
