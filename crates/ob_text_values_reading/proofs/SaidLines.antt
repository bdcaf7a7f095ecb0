-- Lines that are no remarks.
use Rattle.std.proofs.Common.{◌≡◌, ℕ, zero, suc, ◌+◌, ◌-◌, ◌<◌, ◌≤◌, ◌==◌, not, Bool, true, false, cond, List, [], ◌∷◌, ◌++◌, All, Option, Some, None, filter, length, map, take, get_or, slice_get, refl, ap, ◌∙◌, append_assoc, arith}
use Rattle.std.specs.List.{enumerate_from, onto_first, position, slice_split}
use Rattle.std.specs.Prelude.{is_some, unwrap_or}
use Rattle.std.proofs.lemmas.List.{get_or-take, length-take, map-append}
use Rattle.std.proofs.lemmas.List.Elements.{All-cons, All-filter, All-from_get_or, All-head, All-nil, All-tail}
use Rattle.std.proofs.lemmas.List.Quantifiers.{position-Some}
use Rattle.std.proofs.lemmas.List.Splits.{length-slice_split, slice_split_none}
use Rattle.memchr.specs.Find.{IsFirstByte, is_byte}
use Rattle.ob_text_values_reading.specs.Comments.{is_comment, line_number, said}
use Rattle.ob_text_values_reading.specs.RecordTexts.{Line}
use Rattle.ob_text_words.specs.Words.{Word, is_blank, lines, words}

-- ---- one line more

pub said_over : (line : Line) (ls : List Line) → is_comment line ≡ true → said (line ∷ ls) ≡ said ls
said_over line ls is = ap (λ (t : Bool). cond (not t) (line ∷ said ls) (said ls)) is

pub said_on : (line : Line) (ls : List Line) → is_comment line ≡ false → said (line ∷ ls) ≡ line ∷ said ls
said_on line ls is = ap (λ (t : Bool). cond (not t) (line ∷ said ls) (said ls)) is

-- ---- the number of a line among all

abbrev numbers : ℕ → List Line → List ℕ
numbers from ls = map (λ (l : ℕ × Line). l.0) (filter (λ (l : ℕ × Line). not (is_comment l.1)) (enumerate_from from ls))

-- where the first line has this number
abbrev pub seek : (from : ℕ) → List Line → (own : ℕ) → ℕ
seek from ls own = unwrap_or (slice_get (numbers from ls) (own - 1)) (from + length ls)

pub seek_all : (ls : List Line) (own : ℕ) → line_number ls own ≡ seek 1 ls own
seek_all ls own = let last : length ls + 1 ≡ 1 + length ls = omega arith in ap (unwrap_or (slice_get (numbers 1 ls) (own - 1))) last

abbrev numbers_by : Bool → ℕ → Line → List Line → List ℕ
numbers_by t from line ls =
    map (λ (l : ℕ × Line). l.0)
    (cond (not t) ((from, line) ∷ filter (λ (l : ℕ × Line). not (is_comment l.1)) (enumerate_from (from + 1) ls)) (filter (λ (l : ℕ × Line). not (is_comment l.1)) (enumerate_from (from + 1) ls)))

module _ (from : ℕ) (line : Line) (ls : List Line) where
  one_further : from + length (line ∷ ls) ≡ from + 1 + length ls
  one_further = omega arith

  pub seek_over : (own : ℕ) → is_comment line ≡ true → seek from (line ∷ ls) own ≡ seek (from + 1) ls own
  seek_over own is =
      ap (λ (t : Bool). unwrap_or (slice_get (numbers_by t from line ls) (own - 1)) (from + length (line ∷ ls))) is
      ∙ ap (unwrap_or (slice_get (numbers (from + 1) ls) (own - 1))) one_further

  pub seek_here : is_comment line ≡ false → seek from (line ∷ ls) 1 ≡ from
  seek_here is = ap (λ (t : Bool). unwrap_or (slice_get (numbers_by t from line ls) 0) (from + length (line ∷ ls))) is

  pub seek_on : (own : ℕ) → is_comment line ≡ false → 1 ≤ own → seek from (line ∷ ls) (own + 1) ≡ seek (from + 1) ls own
  seek_on zero is some = absurd (omega (arith, some))
  seek_on (suc k) is some =
      let place : suc k + 1 - 1 ≡ suc k = omega arith in
      let behind : k ≡ suc k - 1 = omega arith in
      ap (λ (t : Bool). unwrap_or (slice_get (numbers_by t from line ls) (suc k + 1 - 1)) (from + length (line ∷ ls))) is
      ∙ ap (λ (n : ℕ). unwrap_or (slice_get (from ∷ numbers (from + 1) ls) n) (from + length (line ∷ ls))) place
      ∙ ap (λ (n : ℕ). unwrap_or (slice_get (numbers (from + 1) ls) n) (from + length (line ∷ ls))) behind
      ∙ ap (unwrap_or (slice_get (numbers (from + 1) ls) (suc k - 1))) one_further

pub seek_none : (from own : ℕ) → seek from [] own ≡ from
seek_none from own = omega arith

-- ---- how many stand before a line

module _ (n : ℕ) (line : Line) (ls : List Line) (some : n ≡ 0 → ⊥) where
  one_taken : take n (line ∷ ls) ≡ line ∷ take (n - 1) ls
  one_taken = let whole : n ≡ suc (n - 1) = omega (arith, some) in ap (λ (k : ℕ). take k (line ∷ ls)) whole

  pub taken_over : is_comment line ≡ true → length (said (take n (line ∷ ls))) ≡ length (said (take (n - 1) ls))
  taken_over is = ap (λ (xs : List Line). length (said xs)) one_taken ∙ ap length (said_over line (take (n - 1) ls) is)

  pub taken_on : is_comment line ≡ false → length (said (take n (line ∷ ls))) ≡ 1 + length (said (take (n - 1) ls))
  taken_on is = ap (λ (xs : List Line). length (said xs)) one_taken ∙ ap length (said_on line (take (n - 1) ls) is) ∙ omega arith

-- ---- texts joined at a line feed

onto_more : (x : ℕ) (parts more : List (List ℕ)) → 0 < length parts → onto_first x (parts ++ more) ≡ onto_first x parts ++ more
onto_more x [] more some = absurd (omega (arith, some))
onto_more x (part ∷ parts) more some = refl

lines_joined : (xs ys : List ℕ) → lines (xs ++ 10 ∷ ys) ≡ lines xs ++ lines ys
lines_joined [] ys = refl
lines_joined (x ∷ xs) ys = go (x == 10) (omega (arith, length-slice_split (λ b. b == 10) xs)) (lines_joined xs ys)
  where
    go : (t : Bool) → 0 < length (lines xs) → lines (xs ++ 10 ∷ ys) ≡ lines xs ++ lines ys →
        cond t ([] ∷ lines (xs ++ 10 ∷ ys)) (onto_first x (lines (xs ++ 10 ∷ ys))) ≡ cond t ([] ∷ lines xs) (onto_first x (lines xs)) ++ lines ys
    go true some rest = ap (λ (ls : List (List ℕ)). [] ∷ ls) rest
    go false some rest = ap (onto_first x) rest ∙ onto_more x (lines xs) (lines ys) some

pub words_joined : (xs ys : List ℕ) → map words (lines ((xs ++ 10 ∷ []) ++ ys)) ≡ map words (lines xs) ++ map words (lines ys)
words_joined xs ys =
    ap (λ (bs : List ℕ). map words (lines bs)) (append_assoc xs (10 ∷ []) ys) ∙ ap (map words) (lines_joined xs ys) ∙ map-append words (lines xs) (lines ys)

-- what stands before the first byte that passes is one part
pub front_alone : (p : ℕ → Bool) (xs : List ℕ) (i : ℕ) → position p xs ≡ Some i → slice_split p (take i xs) ≡ take i xs ∷ []
front_alone p xs i e =
    slice_split_none p (take i xs) (λ k d within.
    let below : k < i = omega (arith, within, length-take i xs) in
    ap p (get_or-take i xs k d below) ∙ (position-Some p xs i d e).2 k below)

-- ---- a text without the sign has no remarks

module _ (p : ℕ → Bool) (P : ℕ → Type 0) where
  put_on : (x : ℕ) (parts : List (List ℕ)) → P x → All (All P) parts → All (All P) (onto_first x parts)
  put_on x [] h hs = All-cons (All P) (x ∷ []) [] (All-cons P x [] h (All-nil P)) (All-nil (All P))
  put_on x (part ∷ parts) h hs = All-cons (All P) (x ∷ part) parts (All-cons P x part h (All-head (All P) part parts hs)) (All-tail (All P) part parts hs)

  each_part : (xs : List ℕ) → All P xs → All (All P) (slice_split p xs)
  each_part [] hs = All-cons (All P) [] [] (All-nil P) (All-nil (All P))
  each_part (x ∷ xs) hs = go (p x) (All-head P x xs hs) (each_part xs (All-tail P x xs hs))
    where
      go : (t : Bool) → P x → All (All P) (slice_split p xs) → All (All P) (cond t ([] ∷ slice_split p xs) (onto_first x (slice_split p xs)))
      go true h rest = All-cons (All P) [] (slice_split p xs) (All-nil P) rest
      go false h rest = put_on x (slice_split p xs) h rest

abbrev IsPlain : List ℕ → Type 0
IsPlain = All (λ b. (b == 35) ≡ false)

no_comment : (ws : List Word) → All IsPlain ws → is_comment ws ≡ false
no_comment [] h = refl
no_comment ([] ∷ ws) h = refl
no_comment ((b ∷ more) ∷ ws) h = All-head (λ c. (c == 35) ≡ false) b more (All-head IsPlain (b ∷ more) ws h)

plain_line : (own : List ℕ) → IsPlain own → is_comment (words own) ≡ false
plain_line own h = no_comment (words own) (All-filter (λ w. not (length w == 0)) IsPlain (slice_split is_blank own) (each_part is_blank (λ b. (b == 35) ≡ false) own h))

all_said : (ls : List (List ℕ)) → All IsPlain ls → said (map words ls) ≡ map words ls
all_said [] h = refl
all_said (own ∷ ls) h =
    said_on (words own) (map words ls) (plain_line own (All-head IsPlain own ls h)) ∙ ap (λ (xs : List Line). words own ∷ xs) (all_said ls (All-tail IsPlain own ls h))

not_so : (b : Bool) → ¬ (b ≡ true) → b ≡ false
not_so true h = absurd (h refl)
not_so false h = refl

no_sign : (text : List ℕ) → IsFirstByte (is_byte 35) text None → said (map words (lines text)) ≡ map words (lines text)
no_sign text h =
    all_said (lines text) (each_part (λ b. b == 10) (λ b. (b == 35) ≡ false) text
    (All-from_get_or (λ b. (b == 35) ≡ false) text 0 (λ k within. not_so (get_or text k 0 == 35) (h k (omega arith) within))))

-- what a search for it says
pub no_sign_found : (text : List ℕ) (r : Option ℕ) → IsFirstByte (is_byte 35) text r → is_some r ≡ false → said (map words (lines text)) ≡ map words (lines text)
no_sign_found text (Some i) h none = absurd (cc)
no_sign_found text None h none = no_sign text h
