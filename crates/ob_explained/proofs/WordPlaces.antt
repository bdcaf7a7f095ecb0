-- Where the words of a line begin.
use Rattle.std.proofs.Common.{◌≡◌, ◌+◌, ◌-◌, ◌<◌, ◌≤◌, ◌==◌, ℕ, zero, suc, Bool, cond, not, true, false, List, [], ◌∷◌, ◌++◌, All, length, take, drop, filter, slice_get, Some, refl, sym, ap, subst, ◌∙◌, arith, append-nil, ne_eqb}
use Rattle.std.specs.List.{prefix_len, slice_split}
use Rattle.std.proofs.lemmas.List.{drop-drop, length-drop, take-append-drop}
use Rattle.std.proofs.lemmas.List.Elements.{All-cons, All-head, All-nil, All-tail}
use Rattle.std.proofs.lemmas.List.Folds.{length-prefix_len}
use Rattle.std.proofs.lemmas.List.Splits.{slice_split-cons_yes, slice_split_at, slice_split_none}
use Rattle.std.proofs.lemmas.List.Sums.{prefix_len-le-length}
use Rattle.std.proofs.Math.Seq.{take-add}
use Rattle.ob_text_words.specs.Words.{Word, IsProcess, is_blank, words}
use Rattle.ob_scan.specs.Spelling.{number_value}
use Rattle.ob_explained.specs.Marks.{BeginsWord, HasProcess}
use Rattle.ob_explained.specs.ScriptPlaces.{first_end, first_place, first_word, is_of_word, is_process, second_place, word_place}

-- ---- what a list begins with

passed_on : (p : ℕ → Bool) (x : ℕ) (xs : List ℕ) (t : Bool) → p x ≡ t → All (λ y. p y ≡ true) (take (prefix_len p xs) xs)
    → All (λ y. p y ≡ true) (take (cond t (1 + prefix_len p xs) 0) (x ∷ xs))
passed_on p x xs true is of_rest =
    let more : suc (prefix_len p xs) ≡ 1 + prefix_len p xs = omega arith in
    subst (λ (k : ℕ). All (λ y. p y ≡ true) (take k (x ∷ xs))) more (All-cons (λ y. p y ≡ true) x (take (prefix_len p xs) xs) is of_rest)
passed_on p x xs false is of_rest = All-nil (λ y. p y ≡ true)

passed : (p : ℕ → Bool) (xs : List ℕ) → All (λ y. p y ≡ true) (take (prefix_len p xs) xs)
passed p [] = All-nil (λ y. p y ≡ true)
passed p (x ∷ xs) = passed_on p x xs (p x) refl (passed p xs)

stops_on : (p : ℕ → Bool) (x : ℕ) (xs : List ℕ) (b : ℕ) (t : Bool) → p x ≡ t → (slice_get xs (prefix_len p xs) ≡ Some b → p b ≡ false)
    → slice_get (x ∷ xs) (cond t (1 + prefix_len p xs) 0) ≡ Some b → p b ≡ false
stops_on p x xs b true is of_rest h =
    let more : 1 + prefix_len p xs ≡ suc (prefix_len p xs) = omega arith in
    of_rest (sym (ap (λ (k : ℕ). slice_get (x ∷ xs) k) more) ∙ h)
stops_on p x xs b false is of_rest h =
    let same : x ≡ b = cc in
    subst (λ (y : ℕ). p y ≡ false) same is

pub stops : (p : ℕ → Bool) (xs : List ℕ) (b : ℕ) → slice_get xs (prefix_len p xs) ≡ Some b → p b ≡ false
stops p [] b h = cc
stops p (x ∷ xs) b h = stops_on p x xs b (p x) refl (stops p xs b) h

get_dropped : (xs : List ℕ) (n k : ℕ) → slice_get (drop n xs) k ≡ slice_get xs (n + k)
get_dropped xs zero k = ap (slice_get xs) (omega arith)
get_dropped [] (suc n) k = refl
get_dropped (x ∷ xs) (suc n) k =
    let more : suc n + k ≡ suc (n + k) = omega arith in
    get_dropped xs n k ∙ sym (ap (slice_get (x ∷ xs)) more)

-- ---- words behind blanks, and a word with what is behind it

blanks_then : (xs ys : List ℕ) → All (λ b. is_blank b ≡ true) xs → words (xs ++ ys) ≡ words ys
blanks_then [] ys h = refl
blanks_then (x ∷ xs) ys h =
    ap (filter (λ (w : Word). not (length w == 0))) (slice_split-cons_yes is_blank x (xs ++ ys) (All-head (λ b. is_blank b ≡ true) x xs h))
    ∙ blanks_then xs ys (All-tail (λ b. is_blank b ≡ true) x xs h)

only_blanks : (xs : List ℕ) → All (λ b. is_blank b ≡ true) xs → words xs ≡ []
only_blanks xs h = sym (ap words (append-nil xs)) ∙ blanks_then xs [] h

kept_word : (w : Word) (ws : List Word) → 0 < length w → filter (λ v. not (length v == 0)) (w ∷ ws) ≡ w ∷ filter (λ v. not (length v == 0)) ws
kept_word w ws some =
    let rest = filter (λ v. not (length v == 0)) ws in
    ap (λ (b : Bool). cond (not b) (w ∷ rest) rest) (ne_eqb (length w) 0 (λ e. omega (arith, e, some)))

word_then : (w ys : List ℕ) → All (λ b. is_blank b ≡ false) w → 0 < length w → ((b : ℕ) → slice_get ys 0 ≡ Some b → is_blank b ≡ true)
    → words (w ++ ys) ≡ w ∷ words ys
word_then w [] no_blank some next =
    ap words (append-nil w) ∙ ap (filter (λ (v : Word). not (length v == 0))) (slice_split_none is_blank w no_blank) ∙ kept_word w [] some
word_then w (y ∷ ys) no_blank some next =
    ap (filter (λ (v : Word). not (length v == 0))) (slice_split_at is_blank w y ys no_blank (next y refl))
    ∙ kept_word w (slice_split is_blank ys) some
    ∙ ap (λ (us : List Word). w ∷ us) (sym (blanks_then (y ∷ []) ys (All-cons (λ b. is_blank b ≡ true) y [] (next y refl) (All-nil (λ b. is_blank b ≡ true)))))

-- ---- the first word

pub at_first : (line : List ℕ) → BeginsWord line 0 (first_place line)
at_first line =
    let n = prefix_len is_blank line in
    let blank : All (λ b. is_blank b ≡ true) (take n line) = passed is_blank line in
    let behind : words line ≡ words (drop n line) = sym (ap words (take-append-drop n line)) ∙ blanks_then (take n line) (drop n line) blank in
    record { before = only_blanks (take n line) blank; behind = sym behind; no_blank = stops is_blank line; within = prefix_len-le-length is_blank line }

-- ---- the second one, in what stands from the first one on

no_blank_in : (t : Bool) → not t ≡ true → t ≡ false
no_blank_in true h = sym h
no_blank_in false h = refl

blank_in : (t : Bool) → not t ≡ false → t ≡ true
blank_in true h = refl
blank_in false h = sym h

abbrev rest_of : List ℕ → List ℕ
rest_of line = drop (prefix_len is_of_word line) line

abbrev word_of : List ℕ → Word
word_of line = take (prefix_len is_of_word line) line

some_word : (x n : ℕ) → is_blank x ≡ false → 0 < cond (not (is_blank x)) (1 + n) 0
some_word x n h = subst (λ (t : Bool). 0 < cond (not t) (1 + n) 0) (sym h) (omega arith)

head_of : (xs : List ℕ) (b : ℕ) → All (λ y. is_blank y ≡ true) xs → slice_get xs 0 ≡ Some b → is_blank b ≡ true
head_of [] b all h = cc
head_of (x ∷ xs) b all h =
    let same : x ≡ b = cc in
    subst (λ (y : ℕ). is_blank y ≡ true) same (All-head (λ y. is_blank y ≡ true) x xs all)

behind_word : (line : List ℕ) (b : ℕ) → slice_get (rest_of line) 0 ≡ Some b → is_blank b ≡ true
behind_word line b h =
    let n = prefix_len is_of_word line in
    let here : n ≡ n + 0 = omega arith in
    blank_in (is_blank b) (stops is_of_word line b (ap (slice_get line) here ∙ sym (get_dropped line n 0) ∙ h))

first_of : (x : ℕ) (xs ys : List ℕ) → is_blank x ≡ false → ((b : ℕ) → slice_get ys 0 ≡ Some b → is_blank b ≡ true)
    → words (word_of (x ∷ xs) ++ ys) ≡ word_of (x ∷ xs) ∷ words ys
first_of x xs ys first next =
    let line = x ∷ xs in
    let some : 0 < prefix_len is_of_word line = some_word x (prefix_len is_of_word xs) first in
    let long : length (word_of line) ≡ prefix_len is_of_word line = length-prefix_len is_of_word line in
    word_then (word_of line) ys (λ k d h. no_blank_in _ (passed is_of_word line k d h)) (omega (arith, some, long)) next

whole_of : (x : ℕ) (xs : List ℕ) → is_blank x ≡ false → words (x ∷ xs) ≡ word_of (x ∷ xs) ∷ words (rest_of (x ∷ xs))
whole_of x xs first =
    let line = x ∷ xs in
    sym (ap words (take-append-drop (prefix_len is_of_word line) line)) ∙ first_of x xs (rest_of line) first (behind_word line)

abbrev second_in : List ℕ → ℕ
second_in line = prefix_len is_of_word line + prefix_len is_blank (rest_of line)

record IsSecond (line : List ℕ) : Type 0 where
  before : words (take (second_in line) line) ≡ take 1 (words line)
  behind : words (drop (prefix_len is_blank (rest_of line)) (rest_of line)) ≡ drop 1 (words line)

is_second : (line : List ℕ) → ((b : ℕ) → slice_get line 0 ≡ Some b → is_blank b ≡ false) → IsSecond line
is_second [] first = record { before = refl; behind = refl }
is_second (x ∷ xs) first =
    let line = x ∷ xs in
    let rest = rest_of line in
    let m = prefix_len is_blank rest in
    let blank : All (λ b. is_blank b ≡ true) (take m rest) = passed is_blank rest in
    let whole : words line ≡ word_of line ∷ words rest = whole_of x xs (first x refl) in
    let up_to : words (take (second_in line) line) ≡ word_of line ∷ words (take m rest) =
    ap words (take-add (prefix_len is_of_word line) m line) ∙ first_of x xs (take m rest) (first x refl) (λ b. head_of (take m rest) b blank) in
    let from : words rest ≡ words (drop m rest) = sym (ap words (take-append-drop m rest)) ∙ blanks_then (take m rest) (drop m rest) blank in
    record {
      before = up_to ∙ ap (λ (ws : List Word). word_of line ∷ ws) (only_blanks (take m rest) blank) ∙ sym (ap (take 1) whole);
      behind = sym from ∙ sym (ap (drop 1) whole);
    }

-- the line from its first word on
abbrev from_first : List ℕ → List ℕ
from_first line = drop (first_place line) line

begins_so : (line : List ℕ) (b : ℕ) → slice_get (from_first line) 0 ≡ Some b → is_blank b ≡ false
begins_so line b h =
    let here : first_place line ≡ first_place line + 0 = omega arith in
    stops is_blank line b (ap (slice_get line) here ∙ sym (get_dropped line (first_place line) 0) ∙ h)

within_by : (p : ℕ → Bool) (n : ℕ) (xs : List ℕ) → n ≤ length xs → n + prefix_len p (drop n xs) ≤ length xs
within_by p n xs h = omega (arith, h, prefix_len-le-length p (drop n xs), length-drop n xs)

pub at_second : (line : List ℕ) → BeginsWord line 1 (second_place line)
at_second line =
    let first = first_place line in
    let rest = from_first line in
    let n = prefix_len is_of_word rest in
    let m = prefix_len is_blank (rest_of rest) in
    let blank : All (λ b. is_blank b ≡ true) (take first line) = passed is_blank line in
    let same : words rest ≡ words line = (at_first line).behind in
    let second : IsSecond rest = is_second rest (begins_so line) in
    let dropped : drop (first + n) line ≡ rest_of rest = sym (drop-drop n first line) in
    let place : second_place line ≡ first + (n + m) = ap (λ (ys : List ℕ). first + n + prefix_len is_blank ys) dropped ∙ omega arith in
    record {
      before =
          ap (λ (k : ℕ). words (take k line)) place ∙ ap words (take-add first (n + m) line) ∙ blanks_then (take first line) (take (n + m) rest) blank
          ∙ second.before ∙ ap (take 1) same;
      behind =
          ap (λ (k : ℕ). words (drop k line)) place ∙ ap words (sym (drop-drop (n + m) first line) ∙ sym (drop-drop m n rest)) ∙ second.behind ∙ ap (drop 1) same;
      no_blank = λ b h. stops is_blank (drop (first + n) line) b (get_dropped line (first + n) (prefix_len is_blank (drop (first + n) line)) ∙ h);
      within = within_by is_blank (first + n) line (within_by is_of_word first line (prefix_len-le-length is_blank line));
    }

-- ---- further ones

head_kept : (n : ℕ) (xs : List ℕ) (b : ℕ) → slice_get (take n xs) 0 ≡ Some b → slice_get xs 0 ≡ Some b
head_kept zero xs b h = cc
head_kept (suc n) [] b h = cc
head_kept (suc n) (x ∷ xs) b h = h

record IsFurther (n at : ℕ) (line : List ℕ) : Type 0 where
  before : words (take (prefix_len is_of_word line + at) line) ≡ take (suc n) (words line)
  behind : words (drop at (rest_of line)) ≡ drop (suc n) (words line)

is_further : (n at : ℕ) (line : List ℕ) → ((b : ℕ) → slice_get line 0 ≡ Some b → is_blank b ≡ false) → BeginsWord (rest_of line) n at → IsFurther n at line
is_further n at [] first b =
    let none : at ≡ 0 = omega (arith, b.within) in
    record { before = ap (λ (k : ℕ). words (take (prefix_len is_of_word [] + k) [])) none; behind = ap (λ (k : ℕ). words (drop k [])) none }
is_further n at (x ∷ xs) first b =
    let line = x ∷ xs in
    let rest = rest_of line in
    let m = prefix_len is_of_word line in
    let whole : words line ≡ word_of line ∷ words rest = whole_of x xs (first x refl) in
    let up_to : words (take (m + at) line) ≡ word_of line ∷ words (take at rest) =
    ap words (take-add m at line) ∙ first_of x xs (take at rest) (first x refl) (λ c h. behind_word line c (head_kept at rest c h)) in
    record {
      before = up_to ∙ ap (λ (ws : List Word). word_of line ∷ ws) b.before ∙ sym (ap (take (suc n)) whole);
      behind = b.behind ∙ sym (ap (drop (suc n)) whole);
    }

behind_first : (n : ℕ) (line : List ℕ) (at : ℕ) → BeginsWord (drop (first_end line) line) n at → BeginsWord line (suc n) (first_end line + at)
behind_first n line at b =
    let first = first_place line in
    let rest = from_first line in
    let m = prefix_len is_of_word rest in
    let blank : All (λ c. is_blank c ≡ true) (take first line) = passed is_blank line in
    let same : words rest ≡ words line = (at_first line).behind in
    let dropped : drop (first + m) line ≡ rest_of rest = sym (drop-drop m first line) in
    let further : IsFurther n at rest = is_further n at rest (begins_so line) (subst (λ (ys : List ℕ). BeginsWord ys n at) dropped b) in
    let place : first_end line + at ≡ first + (m + at) = omega arith in
    record {
      before =
          ap (λ (k : ℕ). words (take k line)) place ∙ ap words (take-add first (m + at) line) ∙ blanks_then (take first line) (take (m + at) rest) blank
          ∙ further.before ∙ ap (take (suc n)) same;
      behind =
          ap (λ (k : ℕ). words (drop k line)) place ∙ ap words (sym (drop-drop (m + at) first line) ∙ sym (drop-drop at m rest)) ∙ further.behind
          ∙ ap (drop (suc n)) same;
      no_blank = λ c h. b.no_blank c (get_dropped line (first_end line) at ∙ h);
      within =
          omega (arith, b.within, length-drop (first_end line) line, within_by is_of_word first line (prefix_len-le-length is_blank line));
    }

pub at_word : (n : ℕ) (line : List ℕ) → BeginsWord line n (word_place n line)
at_word zero line = at_first line
at_word (suc n) line = behind_first n line (word_place n (drop (first_end line) line)) (at_word n (drop (first_end line) line))

-- the first one, and one behind it
pub first_word_place : (n : ℕ) (line : List ℕ) (place : ℕ) → n ≡ 0 → place ≡ first_place line → place ≡ word_place n line
first_word_place n line place none is = is ∙ sym (ap (λ (k : ℕ). word_place k line) none)

pub next_word_place : (n : ℕ) (line : List ℕ) (end rest : ℕ) → (n ≡ 0 → ⊥) → end ≡ first_end line → rest ≡ word_place (n - 1) (drop end line)
    → end + rest ≡ word_place n line
next_word_place zero line end rest some is further = absurd (some refl)
next_word_place (suc n) line end rest some is further =
    let less : suc n - 1 ≡ n = omega arith in
    let behind : rest ≡ word_place n (drop (first_end line) line) =
    further ∙ ap (λ (k : ℕ). word_place k (drop end line)) less ∙ ap (λ (k : ℕ). word_place n (drop k line)) is in
    ap (λ (k : ℕ). k + rest) is ∙ ap (λ (k : ℕ). first_end line + k) behind

-- a value, behind two words
pub value_word_place : (n : ℕ) (line : List ℕ) (first second place : ℕ) → first ≡ first_end line → second ≡ first_end (drop first line)
    → place ≡ word_place n (drop second (drop first line)) → first + (second + place) ≡ word_place (suc (suc n)) line
value_word_place n line first second place is_first is_second is =
    let behind : second ≡ first_end (drop (first_end line) line) = is_second ∙ ap (λ (k : ℕ). first_end (drop k line)) is_first in
    let from : drop second (drop first line) ≡ drop (first_end (drop (first_end line) line)) (drop (first_end line) line) =
    ap (λ (k : ℕ). drop k (drop first line)) behind
    ∙ ap (λ (k : ℕ). drop (first_end (drop (first_end line) line)) (drop k line)) is_first in
    let further : place ≡ word_place n (drop (first_end (drop (first_end line) line)) (drop (first_end line) line)) = is ∙ ap (word_place n) from in
    ap (λ (k : ℕ). k + (second + place)) is_first ∙ ap (λ (k : ℕ). first_end line + (k + place)) behind
    ∙ ap (λ (k : ℕ). first_end line + (first_end (drop (first_end line) line) + k)) further

-- a value, behind three words
pub behind_word_place : (n : ℕ) (line : List ℕ) (end place : ℕ) → end ≡ first_end line → place ≡ word_place (suc (suc n)) (drop end line)
    → end + place ≡ word_place (suc (suc (suc n))) line
behind_word_place n line end place is_end is =
    ap (λ (k : ℕ). k + place) is_end ∙ ap (λ (k : ℕ). first_end line + k) (is ∙ ap (λ (k : ℕ). word_place (suc (suc n)) (drop k line)) is_end)

pub told_at : (n : ℕ) (line : List ℕ) (place : ℕ) → place ≡ word_place n line → BeginsWord line n place
told_at n line place is = subst (λ (k : ℕ). BeginsWord line n k) (sym is) (at_word n line)

-- ---- whether the first word is a process

word_found : (line : List ℕ) (w : Word) → ((b : ℕ) → slice_get line 0 ≡ Some b → is_blank b ≡ false) → slice_get (words line) 0 ≡ Some w → word_of line ≡ w
word_found [] w first h = cc
word_found (x ∷ xs) w first h =
    let found : slice_get (word_of (x ∷ xs) ∷ words (rest_of (x ∷ xs))) 0 ≡ Some w = sym (ap (λ (ws : List Word). slice_get ws 0) (whole_of x xs (first x refl))) ∙ h in
    cc

found_word : (line : List ℕ) → ((b : ℕ) → slice_get line 0 ≡ Some b → is_blank b ≡ false) → 1 ≤ length (word_of line) → slice_get (words line) 0 ≡ Some (word_of line)
found_word [] first some = absurd (omega (arith, some))
found_word (x ∷ xs) first some = ap (λ (ws : List Word). slice_get ws 0) (whole_of x xs (first x refl))

process_by : (w : Word) → is_process w ≡ true → IsProcess w (number_value w)
process_by w h = record { digits = grind (arith); some = grind (arith); few = grind (arith); spells = refl }

by_process : (w : Word) (p : ℕ) → IsProcess w p → is_process w ≡ true
by_process w p h = grind (arith, h.digits, h.some, h.few)

pub has_process : (line : List ℕ) → is_process (first_word line) ≡ true → HasProcess line
has_process line is =
    let w = first_word line in
    let process : IsProcess w (number_value w) = process_by w is in
    let found : slice_get (words (from_first line)) 0 ≡ Some w = found_word (from_first line) (begins_so line) process.some in
    (w, number_value w, sym (ap (λ (ws : List Word). slice_get ws 0) (at_first line).behind) ∙ found, process)

pub no_process : (line : List ℕ) → HasProcess line → is_process (first_word line) ≡ true
no_process line (w, p, is, process) =
    let here : slice_get (words (from_first line)) 0 ≡ Some w = ap (λ (ws : List Word). slice_get ws 0) (at_first line).behind ∙ is in
    let same : first_word line ≡ w = word_found (from_first line) w (begins_so line) here in
    ap is_process same ∙ by_process w p process
