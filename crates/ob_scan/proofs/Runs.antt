-- Runs of letters and digits in a text, and the spellings that they are.
use Rattle.std.proofs.Common.{◌≡◌, ℕ, suc, ◌+◌, ◌-◌, ◌<◌, ◌≤◌, Bool, true, false, List, [], ◌∷◌, ◌++◌, length, take, drop, slice_range, get_or, refl, sym, ◌∙◌, ap, arith, ⊎_elim, length-drop}
use Rattle.std.proofs.Math.Numerals.{one-add}
use Rattle.std.specs.List.{list_all, prefix_len}
use Rattle.std.specs.Char.{is_ascii_alphabetic, is_ascii_alphanumeric, is_ascii_digit}
use Rattle.std.proofs.lemmas.Bool.{and_parts, and_from, cond-true, cond-false, false≢true, cases_Bool}
use Rattle.std.proofs.lemmas.List.{drop-drop, drop_more, take_rest}
use Rattle.std.proofs.lemmas.List.Sums.{prefix_len-le-length}
use Rattle.ob_scan.specs.Spelling.{IsLongest}
use Rattle.ob_scan.proofs.Spellings.{spells_shape, letter_goes_on, digit_goes_on}

step_yes : (test : ℕ → Bool) (x : ℕ) (xs : List ℕ) → test x ≡ true → prefix_len test (x ∷ xs) ≡ suc (prefix_len test xs)
step_yes test x xs h = cond-true (test x) (1 + prefix_len test xs) 0 h ∙ one-add (prefix_len test xs)

step_no : (test : ℕ → Bool) (x : ℕ) (xs : List ℕ) → test x ≡ false → prefix_len test (x ∷ xs) ≡ 0
step_no test x xs h = cond-false (test x) (1 + prefix_len test xs) 0 h

-- the front of a list that passes a test passes it
pub run_passes : (test : ℕ → Bool) (xs : List ℕ) → list_all test (take (prefix_len test xs) xs) ≡ true
run_passes test [] = refl
run_passes test (x ∷ xs) =
    let F : ℕ → Bool = λ n. list_all test (take n (x ∷ xs)) in
    ⊎_elim
    (λ (h : test x ≡ true).
    ap F (step_yes test x xs h) ∙ and_from (test x) (list_all test (take (prefix_len test xs) xs)) h (run_passes test xs))
    (λ (h : test x ≡ false). ap F (step_no test x xs h)) (cases_Bool (test x))

all_behind : (test : ℕ → Bool) (xs ys : List ℕ) → list_all test (xs ++ ys) ≡ true → list_all test ys ≡ true
all_behind test [] ys h = h
all_behind test (x ∷ xs) ys h = all_behind test xs ys (and_parts (test x) (list_all test (xs ++ ys)) h).1

-- what begins with a byte that doesn't pass has no front that does
no_front : (test : ℕ → Bool) (x : ℕ) (xs more others : List ℕ) → test x ≡ false → more ++ others ≡ x ∷ xs →
    list_all test more ≡ true → more ≡ []
no_front test x xs [] others f e h = refl
no_front test x xs (m ∷ more) others f e h =
    let same : m ≡ x = cc in
    absurd (false≢true (sym f ∙ sym (ap test same) ∙ (and_parts (test m) (list_all test more) h).0))

nothing_left : (more others : List ℕ) → more ++ others ≡ [] → more ≡ []
nothing_left [] others e = refl
nothing_left (m ∷ more) others e = cc

-- and it goes no further
run_ends : (test : ℕ → Bool) (xs more others : List ℕ) → more ++ others ≡ drop (prefix_len test xs) xs →
    list_all test more ≡ true → more ≡ []
run_ends test [] more others e h = nothing_left more others e
run_ends test (x ∷ xs) more others e h =
    let F : ℕ → List ℕ = λ n. drop n (x ∷ xs) in
    ⊎_elim
    (λ (t : test x ≡ true). run_ends test xs more others (e ∙ ap F (step_yes test x xs t)) h)
    (λ (t : test x ≡ false). no_front test x xs more others t (e ∙ ap F (step_no test x xs t)) h) (cases_Bool (test x))

-- a letter with all letters and digits behind it is the longest word
pub word_longest : (first : ℕ) (rest : List ℕ) → is_ascii_alphabetic first ≡ true →
    let n = prefix_len is_ascii_alphanumeric rest in IsLongest (first ∷ take n rest) (drop n rest)
word_longest first rest l more others kind e s =
    let n = prefix_len is_ascii_alphanumeric rest in
    run_ends is_ascii_alphanumeric rest more others e
    (all_behind is_ascii_alphanumeric (take n rest) more
    (letter_goes_on first (take n rest ++ more) l (spells_shape s)))

-- all digits are the longest number
pub number_longest : (first : ℕ) (rest : List ℕ) → is_ascii_digit first ≡ true →
    let n = prefix_len is_ascii_digit rest in IsLongest (first ∷ take n rest) (drop n rest)
number_longest first rest d more others kind e s =
    let n = prefix_len is_ascii_digit rest in
    run_ends is_ascii_digit rest more others e
    (all_behind is_ascii_digit (take n rest) more
    (digit_goes_on first (take n rest ++ more) d (spells_shape s)))

-- a run in a text: a first byte that passes, and those behind it that do
pub record IsRun (text : List ℕ) (start end : ℕ) (test : ℕ → Bool) : Type 0 where
  pub first : ℕ
  pub rest : List ℕ
  pub front : first ≡ get_or text start 0
  pub parts : slice_range text start end ≡ first ∷ take (prefix_len test rest) rest
  pub behind : drop end text ≡ drop (prefix_len test rest) rest
  pub ordered : start < end
  pub within : end ≤ length text

pub run_here : (text : List ℕ) (start end : ℕ) (test : ℕ → Bool) → start < length text → test (get_or text start 0) ≡ true →
    end ≡ start + prefix_len test (drop start text) → IsRun text start end test
run_here text start end test h t e =
    let first = get_or text start 0 in
    let rest = drop (start + 1) text in
    let n = prefix_len test rest in
    let cut = drop_more text start 0 h in
    let count : prefix_len test (drop start text) ≡ suc n = ap (prefix_len test) cut ∙ step_yes test first rest t in
    let bound = prefix_len-le-length test rest in
    let size = length-drop (start + 1) text in
    let d : end - start ≡ suc n = omega arith in
    let w : start + 1 + n ≡ end = omega arith in
    record {
      first = first;
      rest = rest;
      front = refl;
      parts = ap (λ l. take (end - start) l) cut ∙ ap (λ i. take i (first ∷ rest)) d;
      behind = sym (drop-drop n (start + 1) text ∙ ap (λ i. drop i text) w);
      ordered = omega arith;
      within = omega arith;
    }

-- the bytes of a run, all of them
pub run_all : (text : List ℕ) (start end : ℕ) (test : ℕ → Bool) → (r : IsRun text start end test) →
    test (get_or text start 0) ≡ true → list_all test (slice_range text start end) ≡ true
run_all text start end test r t =
    ap (list_all test) r.parts
    ∙ and_from (test r.first) (list_all test (take (prefix_len test r.rest) r.rest)) (ap test r.front ∙ t) (run_passes test r.rest)

-- a run, by the count of the bytes that pass
pub run_counted : (text : List ℕ) (start count : ℕ) (test : ℕ → Bool) → start < length text →
    test (get_or text start 0) ≡ true → count ≡ prefix_len test (slice_range text start (length text)) →
    IsRun text start (start + count) test
run_counted text start count test h t e =
    run_here text start (start + count) test h t (ap (λ n. start + n) (e ∙ ap (prefix_len test) (take_rest text start)))
