-- The words of a schedule that goes on behind a line feed.
use Rattle.std.proofs.Common.{◌≡◌, ◌<◌, ◌==◌, ◌||◌, ℕ, Bool, cond, not, true, false, List, [], ◌∷◌, ◌++◌, All, length, filter, refl, sym, ap, ◌∙◌, append-nil, arith, ne_eqb}
use Rattle.std.specs.List.{flat_map, onto_first, slice_split}
use Rattle.std.proofs.lemmas.Bool.{false≢true}
use Rattle.std.proofs.lemmas.List.Concat.{flat_map-append}
use Rattle.std.proofs.lemmas.List.Elements.{All-head}
use Rattle.std.proofs.lemmas.List.Splits.{length-slice_split, slice_split-cons_no, slice_split-cons_yes, slice_split_none}
use Rattle.ob_text_words.specs.Words.{Word, is_blank, lines, words}
use Rattle.ob_text_words.specs.Schedule.{AreItems, is_comment, item_words, line_items, more, none}
use Rattle.ob_text_words.specs.declared.item.Item.{Item}

-- ---- parts behind a separator

onto_behind : (x : ℕ) (parts others : List Word) → 0 < length parts → onto_first x (parts ++ others) ≡ onto_first x parts ++ others
onto_behind x [] others some = absurd (omega arith)
onto_behind x (part ∷ parts) others some = refl

has_part : (p : ℕ → Bool) (xs : List ℕ) → 0 < length (slice_split p xs)
has_part p xs = rw length-slice_split (omega arith)

module _ (p : ℕ → Bool) (y : ℕ) (ys : List ℕ) (parts : p y ≡ true) where
  abbrev SplitsBehind : List ℕ → Type 0
  SplitsBehind xs = slice_split p (xs ++ y ∷ ys) ≡ slice_split p xs ++ slice_split p ys

  split_on : (x : ℕ) (xs : List ℕ) (t : Bool) → p x ≡ t → SplitsBehind xs → SplitsBehind (x ∷ xs)
  split_on x xs true is later =
      slice_split-cons_yes p x (xs ++ y ∷ ys) is ∙ ap (λ (ws : List Word). [] ∷ ws) later
      ∙ sym (ap (λ (ws : List Word). ws ++ slice_split p ys) (slice_split-cons_yes p x xs is))
  split_on x xs false is later =
      slice_split-cons_no p x (xs ++ y ∷ ys) is ∙ ap (onto_first x) later ∙ onto_behind x (slice_split p xs) (slice_split p ys) (has_part p xs)
      ∙ sym (ap (λ (ws : List Word). ws ++ slice_split p ys) (slice_split-cons_no p x xs is))

  split_behind : (xs : List ℕ) → SplitsBehind xs
  split_behind [] = slice_split-cons_yes p y ys parts
  split_behind (x ∷ xs) = split_on x xs (p x) refl (split_behind xs)

words_behind : (xs ys : List ℕ) → item_words (xs ++ 10 ∷ ys) ≡ item_words xs ++ item_words ys
words_behind xs ys = ap (flat_map line_items) (split_behind (λ b. b == 10) 10 ys refl xs) ∙ flat_map-append line_items (lines xs) (lines ys)

-- ---- a word on a line of its own

-- what parts words or lines, or begins a comment
abbrev pub is_mark : ℕ → Bool
is_mark b = is_blank b || ((b == 10) || (b == 35))

abbrev pub HasNoMark : List ℕ → Type 0
HasNoMark w = All (λ b. is_mark b ≡ false) w

neither : (a b : Bool) → (a || b) ≡ false → (a ≡ false) × (b ≡ false)
neither true b h = absurd (false≢true (sym h))
neither false b h = (refl, h)

kept_word : (w : Word) → 0 < length w → filter (λ v. not (length v == 0)) (w ∷ []) ≡ w ∷ []
kept_word w some = ap (λ (b : Bool). cond (not b) (w ∷ []) []) (ne_eqb (length w) 0 (λ e. omega (arith, e, some)))

only_word : (w : Word) → HasNoMark w → 0 < length w → words w ≡ w ∷ []
only_word w whole some =
    ap (filter (λ (v : Word). not (length v == 0))) (slice_split_none is_blank w (λ k d h. (neither _ _ (whole k d h)).0)) ∙ kept_word w some

only_line : (w : Word) → HasNoMark w → lines w ≡ w ∷ []
only_line w whole = slice_split_none (λ b. b == 10) w (λ k d h. (neither _ _ (neither _ _ (whole k d h)).1).0)

no_comment : (w : Word) → HasNoMark w → is_comment (w ∷ []) ≡ false
no_comment [] whole = refl
no_comment (b ∷ bs) whole = (neither _ _ (neither (is_blank b) _ (All-head (λ c. is_mark c ≡ false) b bs whole)).1).1

own_items : (w : Word) → HasNoMark w → 0 < length w → line_items w ≡ w ∷ []
own_items w whole some = rw (only_word w whole some, no_comment w whole) refl

one_word : (w : Word) → HasNoMark w → 0 < length w → item_words w ≡ w ∷ []
one_word w whole some = ap (flat_map line_items) (only_line w whole) ∙ append-nil (line_items w) ∙ own_items w whole some

pub word_behind : (xs : List ℕ) (w : Word) → HasNoMark w → 0 < length w → item_words (xs ++ 10 ∷ w) ≡ item_words xs ++ w ∷ []
word_behind xs w whole some = words_behind xs w ∙ ap (λ (ws : List Word). item_words xs ++ ws) (one_word w whole some)

-- ---- items behind items

pub items_behind : (processes : ℕ) (ws vs : List Word) (xs ys : List Item) → AreItems processes ws xs → AreItems processes vs ys
    → AreItems processes (ws ++ vs) (xs ++ ys)
items_behind processes ws vs xs ys none h = h
items_behind processes ws vs xs ys (more {ws = ws'} {items = items} i below hs) h = more i below (items_behind processes ws' vs items ys hs h)
