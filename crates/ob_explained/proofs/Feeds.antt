-- Bytes up to line feeds, and the lines behind them.
use Rattle.std.proofs.Common.{◌≡◌, ◌+◌, ◌-◌, ◌<◌, ◌≤◌, ◌==◌, ℕ, zero, suc, Bool, cond, not, true, false, List, [], ◌∷◌, ◌++◌, length, take, drop, get_or, slice_get, Some, refl, sym, ap, ◌∙◌, arith}
use Rattle.std.specs.List.{onto_first, take_while}
use Rattle.std.proofs.lemmas.List.{at_drop_more}
use Rattle.std.proofs.lemmas.List.Splits.{length-slice_split}
use Rattle.std.proofs.lemmas.List.Sums.{take_while-cons}
use Rattle.ob_text_words.specs.Words.{lines}
use Rattle.ob_explain_sentences.specs.Places.{is_line_feed, line_from}
use Rattle.ob_explained.specs.ScriptPlaces.{behind_feeds}

pub no_bytes : (n : ℕ) → behind_feeds n [] ≡ 0
no_bytes zero = refl
no_bytes (suc n) = refl

-- one byte on
pub feed_on : (n : ℕ) (text : List ℕ) (i : ℕ) → i < length text → (n ≡ 0 → ⊥) → (get_or text i 0 == 10) ≡ true
    → behind_feeds n (drop i text) ≡ suc (behind_feeds (n - 1) (drop (i + 1) text))
feed_on zero text i h some is = absurd (some refl)
feed_on (suc n) text i h some is =
    let less : n ≡ suc n - 1 = omega arith in
    at_drop_more (behind_feeds (suc n)) text i 0 h ∙ rw is (ap (λ k. suc (behind_feeds k (drop (i + 1) text))) less)

pub other_on : (n : ℕ) (text : List ℕ) (i : ℕ) → i < length text → (n ≡ 0 → ⊥) → (get_or text i 0 == 10) ≡ false
    → behind_feeds n (drop i text) ≡ suc (behind_feeds n (drop (i + 1) text))
other_on zero text i h some is = absurd (some refl)
other_on (suc n) text i h some is = at_drop_more (behind_feeds (suc n)) text i 0 h ∙ rw is refl

pub moved : (i n : ℕ) → i + suc n ≡ i + 1 + n
moved i n = omega arith

-- ---- the line behind them

abbrev of_line : ℕ → Bool
of_line b = not (is_line_feed b)

pub some_line : (text : List ℕ) → 0 < length (lines text)
some_line text = omega (arith, length-slice_split is_line_feed text)

first_line : (t : Bool) (b : ℕ) (rest : List ℕ) (parts : List (List ℕ)) (bytes : List ℕ) → 0 < length parts
    → ((x : List ℕ) → slice_get parts 0 ≡ Some x → rest ≡ x)
    → slice_get (cond t ([] ∷ parts) (onto_first b parts)) 0 ≡ Some bytes → cond (not t) (b ∷ rest) [] ≡ bytes
first_line true b rest parts bytes some of_rest h = cc
first_line false b rest [] bytes some of_rest h = absurd (omega (arith, some))
first_line false b rest (part ∷ parts) bytes some of_rest h =
    let same : b ∷ part ≡ bytes = cc in
    ap (λ r. b ∷ r) (of_rest part refl) ∙ same

later_line : (t : Bool) (n b : ℕ) (bs : List ℕ) (parts : List (List ℕ)) (bytes : List ℕ) → 0 < length parts
    → ((k : ℕ) (x : List ℕ) → slice_get parts k ≡ Some x → take_while of_line (drop (behind_feeds k bs) bs) ≡ x)
    → slice_get (cond t ([] ∷ parts) (onto_first b parts)) (suc n) ≡ Some bytes
    → take_while of_line (drop (suc (behind_feeds (cond t n (suc n)) bs)) (b ∷ bs)) ≡ bytes
later_line true n b bs parts bytes some of_rest h = of_rest n bytes h
later_line false n b bs [] bytes some of_rest h = absurd (omega (arith, some))
later_line false n b bs (part ∷ parts) bytes some of_rest h = of_rest (suc n) bytes h

pub line_told : (text : List ℕ) (n : ℕ) (bytes : List ℕ) → slice_get (lines text) n ≡ Some bytes → line_from text (behind_feeds n text) ≡ bytes
line_told [] zero bytes h = cc
line_told [] (suc n) bytes h = cc
line_told (b ∷ bs) zero bytes h =
    take_while-cons of_line b bs ∙ first_line (is_line_feed b) b (take_while of_line bs) (lines bs) bytes (some_line bs) (λ x e. line_told bs 0 x e) h
line_told (b ∷ bs) (suc n) bytes h = later_line (is_line_feed b) n b bs (lines bs) bytes (some_line bs) (λ k x e. line_told bs k x e) h

-- ---- what stands up to a place in a line

begun_first : (t : Bool) (b at : ℕ) (bs : List ℕ) (parts : List (List ℕ)) (bytes : List ℕ) → 0 < length parts
    → ((x : List ℕ) → slice_get parts 0 ≡ Some x → at ≤ length x → lines (take at bs) ≡ take at x ∷ [])
    → slice_get (cond t ([] ∷ parts) (onto_first b parts)) 0 ≡ Some bytes → suc at ≤ length bytes
    → cond t ([] ∷ lines (take at bs)) (onto_first b (lines (take at bs))) ≡ take (suc at) bytes ∷ []
begun_first true b at bs parts bytes some of_rest h within =
    let none : [] ≡ bytes = cc in
    let zero_long : 0 ≡ length bytes = ap length none in
    absurd (omega (arith, within, zero_long))
begun_first false b at bs [] bytes some of_rest h within = absurd (omega (arith, some))
begun_first false b at bs (part ∷ parts) bytes some of_rest h within =
    let same : b ∷ part ≡ bytes = cc in
    let long : suc (length part) ≡ length bytes = ap length same in
    ap (onto_first b) (of_rest part refl (omega (arith, within, long))) ∙ ap (λ (x : List ℕ). take (suc at) x ∷ []) same

begun_later : (t : Bool) (n b at : ℕ) (bs : List ℕ) (parts : List (List ℕ)) (bytes : List ℕ) → 0 < length parts
    → ((k : ℕ) (x : List ℕ) → slice_get parts k ≡ Some x → at ≤ length x → lines (take (behind_feeds k bs + at) bs) ≡ take k parts ++ take at x ∷ [])
    → slice_get (cond t ([] ∷ parts) (onto_first b parts)) (suc n) ≡ Some bytes → at ≤ length bytes
    → cond t ([] ∷ lines (take (behind_feeds (cond t n (suc n)) bs + at) bs)) (onto_first b (lines (take (behind_feeds (cond t n (suc n)) bs + at) bs)))
    ≡ take (suc n) (cond t ([] ∷ parts) (onto_first b parts)) ++ take at bytes ∷ []
begun_later true n b at bs parts bytes some of_rest h within = ap (λ (ls : List (List ℕ)). [] ∷ ls) (of_rest n bytes h within)
begun_later false n b at bs [] bytes some of_rest h within = absurd (omega (arith, some))
begun_later false n b at bs (part ∷ parts) bytes some of_rest h within = ap (onto_first b) (of_rest (suc n) bytes h within)

pub begun : (text : List ℕ) (n at : ℕ) (bytes : List ℕ) → slice_get (lines text) n ≡ Some bytes → at ≤ length bytes
    → lines (take (behind_feeds n text + at) text) ≡ take n (lines text) ++ take at bytes ∷ []
begun [] zero zero bytes h within = refl
begun [] zero (suc at) bytes h within =
    let none : [] ≡ bytes = cc in
    let zero_long : 0 ≡ length bytes = ap length none in
    absurd (omega (arith, within, zero_long))
begun [] (suc n) at bytes h within = cc
begun (b ∷ bs) zero zero bytes h within = refl
begun (b ∷ bs) zero (suc at) bytes h within =
    let on : (k : ℕ) → 0 + k ≡ k = λ k. omega arith in
    ap (λ (k : ℕ). lines (take k (b ∷ bs))) (on (suc at))
    ∙ begun_first (is_line_feed b) b at bs (lines bs) bytes (some_line bs)
    (λ x e few. sym (ap (λ (k : ℕ). lines (take k bs)) (on at)) ∙ begun bs 0 at x e few) h within
begun (b ∷ bs) (suc n) at bytes h within =
    let on : (k : ℕ) → suc k + at ≡ suc (k + at) = λ k. omega arith in
    ap (λ (k : ℕ). lines (take k (b ∷ bs))) (on (behind_feeds (cond (is_line_feed b) n (suc n)) bs))
    ∙ begun_later (is_line_feed b) n b at bs (lines bs) bytes (some_line bs) (λ k x e few. begun bs k at x e few) h within
