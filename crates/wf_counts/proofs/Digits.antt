-- Digits of a number.
use Rattle.std.proofs.Common.{◌≡◌, refl, sym, ap, ap₂, ◌∙◌, subst, ℕ, zero, suc, ◌+◌, ◌*◌, ◌/◌, ◌%◌, ◌^◌, ◌<◌, ◌≤◌, Bool, true, false, List, [], ◌∷◌, ◌++◌, ◌-◌, length, get_or, set, replicate, None, Some, arith, inl, inr}
use Rattle.std.proofs.Math.Dec.{eqb}
use Rattle.std.proofs.lemmas.Bool.{false≢true, cases_eq, ltb-false, lt-ltb, le-ltb, and_cases, and_from, and_left, and_right, cond-true, false_from_ne_true}
use Rattle.std.proofs.lemmas.Bool.Decides.{Decides-eqb}
use Rattle.std.proofs.lemmas.List.{append_assoc}
use Rattle.std.proofs.lemmas.Nat.{pow-add, pow_below, shr-shr}
use Rattle.std.proofs.lemmas.Option.{same_Some}
use Rattle.std.proofs.lemmas.Slice.Eq.{slice_eq-Decides}
use Rattle.std.specs.Cmp.Lexicographic.{pointwise}
use Rattle.std.specs.Hash as fed
use Rattle.std.specs.List.{slice_get}
use Rattle.std.specs.Prelude.{nat_eq, nat_lt}
use Rattle.wf_counts.specs.Digits.{digits, number_of, are_digits, fits, counts_fed, one_more_at, IsRaised}

pub length_digits : (many number : ℕ) → length (digits many number) ≡ many
length_digits zero number = refl
length_digits (suc many) number = ap suc (length_digits many (number / 256))

-- one digit more in an exponent
next_power : (many : ℕ) → 2 ^ (8 * suc many) ≡ 256 * 2 ^ (8 * many)
next_power many = ap (λ k. 2 ^ k) (eight many) ∙ pow-add 2 8 (8 * many)
  where
    eight : (many : ℕ) → 8 * suc many ≡ 8 + 8 * many
    eight many = omega arith

-- what is read
pub digit_is : (many number place : ℕ) → place < many → slice_get (digits many number) place ≡ Some (number / 2 ^ (8 * place) % 256)
digit_is zero number place lt = absurd (omega (arith, lt))
digit_is (suc many) number zero lt = ap (λ x. Some (x % 256)) (whole number)
  where
    whole : (number : ℕ) → number ≡ number / 1
    whole number = omega arith
digit_is (suc many) number (suc place) lt =
    digit_is many (number / 256) place (omega (arith, lt)) ∙ ap (λ x. Some (x % 256)) (shr-shr number 8 (8 * place) ∙ ap (λ k. number / 2 ^ k) (eight place))
  where
    eight : (place : ℕ) → 8 + 8 * place ≡ 8 * suc place
    eight place = omega arith

-- no call of any process
pub no_digits : (many : ℕ) → digits many 0 ≡ replicate many 0
no_digits zero = refl
no_digits (suc many) = ap (λ (l : List ℕ). 0 ∷ l) (no_digits many)

-- a number is that of its digits
pub number_is : (many number : ℕ) → number < 2 ^ (8 * many) → number_of (digits many number) ≡ number
number_is zero number lt = sym (none number lt)
  where
    none : (number : ℕ) → number < 1 → number ≡ 0
    none number lt = omega (arith, lt)
number_is (suc many) number lt =
    let m = 2 ^ (8 * many) in
    let within : number < 256 * 2 ^ (8 * many) = subst (λ (x : ℕ). number < x) (next_power many) lt in
    ap (λ (x : ℕ). number % 256 + 256 * x) (number_is many (number / 256) (below number (2 ^ (8 * many)) within)) ∙ joined number
  where
    below : (number m : ℕ) → number < 256 * m → number / 256 < m
    below number m lt = omega (arith, lt)

    joined : (number : ℕ) → number % 256 + 256 * (number / 256) ≡ number
    joined number = omega arith

-- one more at a place
raised_small : (many number place : ℕ) → place < many → number < 2 ^ (8 * many) → get_or (digits many number) place 0 < 255 → number + 2 ^ (8 * place) < 2 ^ (8 * many)
raised_small zero number place lt within less = absurd (omega (arith, lt))
raised_small (suc many) number zero lt within less =
    subst (λ (x : ℕ). number + 1 < x) (sym (next_power many)) (first number (2 ^ (8 * many)) (subst (λ (x : ℕ). number < x) (next_power many) within) less)
  where
    first : (number m : ℕ) → number < 256 * m → number % 256 < 255 → number + 1 < 256 * m
    first number m lt less = omega (arith, lt, less)
raised_small (suc many) number (suc place) lt within less =
    let small = raised_small many (number / 256) place (omega (arith, lt)) (below number (2 ^ (8 * many)) (subst (λ (x : ℕ). number < x) (next_power many) within)) less in
    subst (λ (x : ℕ). number + x < 2 ^ (8 * suc many)) (sym (next_power place)) (subst (λ (x : ℕ). number + 256 * 2 ^ (8 * place) < x) (sym (next_power many)) (later number (2 ^ (8 * place)) (2 ^ (8 * many)) small))
  where
    below : (number m : ℕ) → number < 256 * m → number / 256 < m
    below number m lt = omega (arith, lt)

    later : (number u m : ℕ) → number / 256 + u < m → number + 256 * u < 256 * m
    later number u m lt = omega (arith, lt)

raised_digits : (many number place : ℕ) → place < many → get_or (digits many number) place 0 < 255 → digits many (number + 2 ^ (8 * place)) ≡ one_more_at place (digits many number)
raised_digits zero number place lt less = absurd (omega (arith, lt))
raised_digits (suc many) number zero lt less = ap₂ (λ (x y : ℕ). x ∷ digits many y) (low number less) (high number less)
  where
    low : (number : ℕ) → number % 256 < 255 → (number + 1) % 256 ≡ number % 256 + 1
    low number less = omega (arith, less)

    high : (number : ℕ) → number % 256 < 255 → (number + 1) / 256 ≡ number / 256
    high number less = omega (arith, less)
raised_digits (suc many) number (suc place) lt less =
    ap (λ (u : ℕ). (number + u) % 256 ∷ digits many ((number + u) / 256)) (next_power place)
    ∙ ap₂ (λ (x y : ℕ). x ∷ digits many y) (low number (2 ^ (8 * place))) (high number (2 ^ (8 * place)))
    ∙ ap (λ (l : List ℕ). number % 256 ∷ l) (raised_digits many (number / 256) place (omega (arith, lt)) less)
  where
    low : (number u : ℕ) → (number + 256 * u) % 256 ≡ number % 256
    low number u = omega arith

    high : (number u : ℕ) → (number + 256 * u) / 256 ≡ number / 256 + u
    high number u = omega arith

pub is_raised : (many number place : ℕ) → place < many → number < 2 ^ (8 * many) → get_or (digits many number) place 0 < 255 → (more : ℕ) → more ≡ number + 2 ^ (8 * place) → IsRaised many number place more
is_raised many number place lt within less more is = record {
  small = subst (λ (x : ℕ). x < 2 ^ (8 * many)) (sym is) (raised_small many number place lt within less);
  raised = ap (digits many) is ∙ raised_digits many number place lt less;
}

-- digits fit
digits_small : (many number : ℕ) → are_digits (digits many number) ≡ true
digits_small zero number = refl
digits_small (suc many) number = and_from (nat_lt (number % 256) 256) (are_digits (digits many (number / 256))) (lt-ltb (number % 256) 256 (small number)) (digits_small many (number / 256))
  where
    small : (number : ℕ) → number % 256 < 256
    small number = omega arith

pub digits_fit : (many number : ℕ) → many ≤ 8 → fits (digits many number) ≡ true
digits_fit many number few =
    let size = length_digits many number in
    and_from (nat_lt (length (digits many number)) 9) (are_digits (digits many number)) (lt-ltb (length (digits many number)) 9 (omega (arith, size, few))) (digits_small many number)

-- what does not fit does not fit with one more
length_more : (counts : List ℕ) (place value : ℕ) → length (set counts place value) ≡ length counts
length_more [] place value = refl
length_more (x ∷ counts) zero value = refl
length_more (x ∷ counts) (suc place) value = ap suc (length_more counts place value)

great : (x : ℕ) → nat_lt x 256 ≡ false → nat_lt (x + 1) 256 ≡ false
great x h = let big = ltb-false x 256 h in le-ltb (x + 1) 256 (omega (arith, big))

no_digit_more : (counts : List ℕ) (place : ℕ) → are_digits counts ≡ false → are_digits (one_more_at place counts) ≡ false
no_digit_more [] place h = absurd (cc)
no_digit_more (x ∷ counts) zero h = elim (and_cases (nat_lt x 256) (are_digits counts) h) [
  | inl left ↦ and_left (nat_lt (x + 1) 256) (are_digits counts) (great x left)
  | inr right ↦ and_right (nat_lt (x + 1) 256) (are_digits counts) right
]
no_digit_more (x ∷ counts) (suc place) h = elim (and_cases (nat_lt x 256) (are_digits counts) h) [
  | inl left ↦ and_left (nat_lt x 256) (are_digits (one_more_at place counts)) left
  | inr right ↦ and_right (nat_lt x 256) (are_digits (one_more_at place counts)) (no_digit_more counts place right)
]

pub unfit_more : (counts : List ℕ) (place : ℕ) → fits counts ≡ false → fits (one_more_at place counts) ≡ false
unfit_more counts place h =
    let size = length_more counts place (get_or counts place 0 + 1) in
    elim (and_cases (nat_lt (length counts) 9) (are_digits counts) h) [
      | inl left ↦ and_left (nat_lt (length (one_more_at place counts)) 9) (are_digits (one_more_at place counts)) (ap (λ (n : ℕ). nat_lt n 9) size ∙ left)
      | inr right ↦ and_right (nat_lt (length (one_more_at place counts)) 9) (are_digits (one_more_at place counts)) (no_digit_more counts place right)
    ]

-- the greatest digit has no next one
past_digit : (counts : List ℕ) (place : ℕ) → place < length counts → get_or counts place 0 ≡ 255 → are_digits (one_more_at place counts) ≡ false
past_digit [] place lt is = absurd (omega (arith, lt))
past_digit (x ∷ counts) zero lt is = and_left (nat_lt (x + 1) 256) (are_digits counts) (le-ltb (x + 1) 256 (omega (arith, is)))
past_digit (x ∷ counts) (suc place) lt is = and_right (nat_lt x 256) (are_digits (one_more_at place counts)) (past_digit counts place (omega (arith, lt)) is)

pub unfit_past : (counts : List ℕ) (place : ℕ) → place < length counts → get_or counts place 0 ≡ 255 → fits (one_more_at place counts) ≡ false
unfit_past counts place lt is = and_right (nat_lt (length (one_more_at place counts)) 9) (are_digits (one_more_at place counts)) (past_digit counts place lt is)

-- one number for the same digits
pub same_number : (many number count other : ℕ) → number < 2 ^ (8 * many) → other < 2 ^ (8 * count) → digits many number ≡ digits count other → (number ≡ other) × (many ≡ count)
same_number many number count other small less same = (
  sym (number_is many number small) ∙ ap number_of same ∙ number_is count other less,
  sym (length_digits many number) ∙ ap length same ∙ length_digits count other,
)

-- what a number feeds a hasher
pub fed_one : (many number : ℕ) → many ≤ 8 → number < 2 ^ (8 * many) → fed.u64 number ≡ counts_fed (digits many number)
fed_one many number few small =
    sym (cond-true (fits (digits many number)) (fed.u64 (number_of (digits many number))) (fed.slice fed.u32 (digits many number)) (digits_fit many number few) ∙ ap fed.u64 (number_is many number small))

-- what `==` says of lists
module _ (xs ys : List ℕ) where
  same_lists : pointwise nat_eq xs ys ≡ true → xs ≡ ys
  same_lists t = (slice_eq-Decides {E = eqb} Decides-eqb xs ys (pointwise nat_eq xs ys) refl).0 t

  alike_lists : xs ≡ ys → pointwise nat_eq xs ys ≡ true
  alike_lists e = (slice_eq-Decides {E = eqb} Decides-eqb xs ys (pointwise nat_eq xs ys) refl).1 e

  pub eq_apart : (fits xs ≡ fits ys → ⊥) → false ≡ pointwise nat_eq xs ys
  eq_apart differ = sym (false_from_ne_true (pointwise nat_eq xs ys) (λ t. differ (ap fits (same_lists t))))

pub eq_ones : (many number count other : ℕ) → number < 2 ^ (8 * many) → other < 2 ^ (8 * count) → (r : Bool) → (r ≡ true → (number ≡ other) × (many ≡ count)) → ((number ≡ other) × (many ≡ count) → r ≡ true) →
    r ≡ pointwise nat_eq (digits many number) (digits count other)
eq_ones many number count other small less true says holds =
    let both = says refl in
    sym (alike_lists (digits many number) (digits count other) (ap₂ digits both.1 both.0))
eq_ones many number count other small less false says holds =
    sym (false_from_ne_true (pointwise nat_eq (digits many number) (digits count other)) (λ t. false≢true (holds (same_number many number count other small less (same_lists (digits many number) (digits count other) t)))))

-- what is read past the end
pub none_past : (counts : List ℕ) (place : ℕ) → length counts ≤ place → slice_get counts place ≡ None
none_past [] place past = refl
none_past (x ∷ counts) zero past = absurd (omega (arith, past))
none_past (x ∷ counts) (suc place) past = none_past counts place (omega (arith, past))

pub get_there : (counts : List ℕ) (place x : ℕ) → slice_get counts place ≡ Some x → get_or counts place 0 ≡ x
get_there [] place x at = absurd (cc)
get_there (y ∷ counts) zero x at = same_Some y x at
get_there (y ∷ counts) (suc place) x at = get_there counts place x at

pub none_there : (counts : List ℕ) (place : ℕ) → slice_get counts place ≡ None → get_or counts place 0 ≡ 0
none_there [] place at = refl
none_there (y ∷ counts) zero at = absurd (cc)
none_there (y ∷ counts) (suc place) at = none_there counts place at

pub digit_there : (many number place : ℕ) → place < many → get_or (digits many number) place 0 ≡ number / 2 ^ (8 * place) % 256
digit_there many number place lt = get_there (digits many number) place (number / 2 ^ (8 * place) % 256) (digit_is many number place lt)

pub not_full : (many number place : ℕ) → place < many → (digit : ℕ) → digit ≡ number / 2 ^ (8 * place) % 256 → (digit ≡ 255 → ⊥) → get_or (digits many number) place 0 < 255
not_full many number place lt digit is other =
    subst (λ (x : ℕ). x < 255) (is ∙ sym (digit_there many number place lt)) (below digit (number / 2 ^ (8 * place)) is other)
  where
    below : (digit n : ℕ) → digit ≡ n % 256 → (digit ≡ 255 → ⊥) → digit < 255
    below digit n is other = elim (cases_eq digit 255) [
      | inl full ↦ absurd (other full)
      | inr less ↦ omega (arith, is, less)
    ]

most : (many : ℕ) → many ≤ 8 → 2 ^ (8 * many) ≤ 2 ^ 64
most many few = elim (cases_eq many 8) [
  | inl all ↦ let same : 2 ^ (8 * many) ≡ 2 ^ 64 = ap (λ (k : ℕ). 2 ^ (8 * k)) all in omega (arith, same)
  | inr less ↦ let small = pow_below (8 * many) 64 (omega (arith, few, less)) in omega (arith, small)
]

pub raised_fits : (many number place : ℕ) → many ≤ 8 → place < many → number < 2 ^ (8 * many) → get_or (digits many number) place 0 < 255 → number + 2 ^ (8 * place) < 2 ^ 64
raised_fits many number place few lt small less =
    let within = raised_small many number place lt small less in
    let all = most many few in
    omega (arith, within, all)

-- digits one after another
pub digits_more : (each more : List ℕ) (many counter rest : ℕ) (whole : List ℕ) → counter < many → each ++ digits (many - counter) rest ≡ whole → more ≡ each ++ rest % 256 ∷ [] →
    more ++ digits (many - (counter + 1)) (rest / 256) ≡ whole
digits_more each more many counter rest whole lt h is =
    ap (λ (l : List ℕ). l ++ digits (many - (counter + 1)) (rest / 256)) is
    ∙ append_assoc each (rest % 256 ∷ []) (digits (many - (counter + 1)) (rest / 256))
    ∙ ap (λ (k : ℕ). each ++ digits k rest) (one_less many counter lt)
    ∙ h
  where
    one_less : (many counter : ℕ) → counter < many → suc (many - (counter + 1)) ≡ many - counter
    one_less many counter lt = omega (arith, lt)

-- the same at each place
pub same_reads : (xs ys : List ℕ) (bound : ℕ) → length xs ≡ length ys → length ys ≤ bound → ((q : ℕ) → q < bound → slice_get xs q ≡ slice_get ys q) → xs ≡ ys
same_reads [] [] bound size all same = refl
same_reads [] (y ∷ ys) bound size all same = absurd (omega (arith, size))
same_reads (x ∷ xs) [] bound size all same = absurd (omega (arith, size))
same_reads (x ∷ xs) (y ∷ ys) zero size all same = absurd (omega (arith, all))
same_reads (x ∷ xs) (y ∷ ys) (suc bound) size all same =
    ap₂ (λ (z : ℕ) (l : List ℕ). z ∷ l) (same_Some x y (same 0 (omega arith))) (same_reads xs ys bound (omega (arith, size)) (omega (arith, all)) (λ q lt. same (suc q) (omega (arith, lt))))
