-- The token or the fault at a place, from the run of bytes there.
use Rattle.std.proofs.Common.{◌≡◌, ◌≢◌, ◌↔◌, ⊎_elim, ℕ, ◌+◌, ◌-◌, ◌<◌, ◌≤◌, Bool, true, false, IsTrue, List, [], ◌∷◌, ◌++◌, Option, Some, None, length, take, drop, slice_range, get_or, refl, sym, ◌∙◌, ap, subst, arith, add-zero, length-drop}
use Rattle.std.specs.List.{list_all, prefix_len}
use Rattle.std.specs.Char.{is_ascii_alphabetic, is_ascii_alphanumeric, is_ascii_digit}
use Rattle.std.proofs.lemmas.Bool.{and_from, false≢true, cases_lt}
use Rattle.std.proofs.lemmas.List.{drop_more, get_or-drop}
use Rattle.std.proofs.lemmas.List.Edits.{length-between}
use Rattle.ob_scan.specs.declared.fault.ScanFault.TheVariants.{StrayByte, NumberTooLarge, NameTooLong}
use Rattle.ob_scan.specs.declared.token.Kind.{Kind}
use Rattle.ob_scan.specs.declared.token.Kind.TheVariants.{Ident, Number}
use Rattle.ob_scan.specs.Limits.{longest_name, largest_number}
use Rattle.ob_scan.specs.Spelling.{fixed_spelling, Spells, fixed, name, number, number_value, IsLongest}
use Rattle.ob_scan.specs.Tokens.{IsBlank, KeepsLimits}
use Rattle.ob_scan.specs.ScanFaults.{IsStray, HasSpelling, has}
use Rattle.ob_scan.specs.Scanning.{HasNoLongSymbol, StandsToken, StandsFault}
use Rattle.ob_scan.proofs.TokenFacts.{slice_join, alphabetic_alphanumeric}
use Rattle.ob_scan.proofs.Symbols.{alone_longest, with_equals_longest, stray_here}
use Rattle.ob_scan.proofs.Runs.{IsRun, run_counted, run_passes, word_longest, number_longest}

none_is_some : (bytes : List ℕ) → ◌≡◌ {A = Option (List ℕ)} None (Some bytes) → ⊥
none_is_some bytes e = cc

name_no_number : ◌≡◌ {A = Kind} Ident Number → ⊥
name_no_number e = cc

-- no limit is for keywords and symbols
fixed_limited : (text bytes : List ℕ) (kind : Kind) (start end : ℕ) → fixed_spelling kind ≡ Some bytes →
    KeepsLimits text (record { kind = kind; start = start; end = end })
fixed_limited text bytes kind start end e = (
  (λ k. absurd (none_is_some bytes (sym (ap fixed_spelling k) ∙ e))),
  (λ k. absurd (none_is_some bytes (sym (ap fixed_spelling k) ∙ e))),
)

-- the run of letters and digits from a letter on, by their count
pub word_run : (text : List ℕ) (start count : ℕ) → start < length text → is_ascii_alphabetic (get_or text start 0) ≡ true →
    count ≡ prefix_len is_ascii_alphanumeric (slice_range text start (length text)) →
    IsRun text start (start + count) is_ascii_alphanumeric
word_run text start count h l e =
    run_counted text start count is_ascii_alphanumeric h (alphabetic_alphanumeric (get_or text start 0) l) e

-- a run of letters and digits behind a letter
module _ (text : List ℕ) (start end : ℕ) (r : IsRun text start end is_ascii_alphanumeric)
    (l : is_ascii_alphabetic (get_or text start 0) ≡ true) where
  first_letter : is_ascii_alphabetic r.first ≡ true
  first_letter = ap is_ascii_alphabetic r.front ∙ l

  run_longest : IsLongest (slice_range text start end) (drop end text)
  run_longest more others kind e s =
      let P : List ℕ → Type 0 = λ l. Spells (l ++ more) kind in
      word_longest r.first r.rest first_letter more others kind (e ∙ r.behind) (subst P r.parts s)

  pub keyword_stands : (kind : Kind) → fixed_spelling kind ≡ Some (slice_range text start end) →
      StandsToken text start (record { kind = kind; start = start; end = end })
  keyword_stands kind e = record {
    starts = refl;
    ordered = r.ordered;
    within = r.within;
    spells = fixed e;
    longest = run_longest;
    limited = fixed_limited text (slice_range text start end) kind start end e;
  }

  name_spells : ((kind : Kind) → fixed_spelling kind ≢ Some (slice_range text start end)) →
      Spells (slice_range text start end) Ident
  name_spells n =
      let P : List ℕ → Type 0 = λ l. Spells l Ident in
      subst P (sym r.parts)
      (name first_letter (run_passes is_ascii_alphanumeric r.rest) (λ k e. n k (e ∙ ap Some (sym r.parts))))

  pub name_stands : ((kind : Kind) → fixed_spelling kind ≢ Some (slice_range text start end)) → end - start ≤ longest_name →
      StandsToken text start (record { kind = Ident; start = start; end = end })
  name_stands n short = record {
    starts = refl;
    ordered = r.ordered;
    within = r.within;
    spells = name_spells n;
    longest = run_longest;
    limited = ((λ _. omega (arith, length-between text start end r.within)), (λ k. absurd (name_no_number k)));
  }

  pub name_too_long : ((kind : Kind) → fixed_spelling kind ≢ Some (slice_range text start end)) → longest_name < end - start →
      StandsFault text start (NameTooLong start)
  name_too_long n long =
      let P : List ℕ → Type 0 = HasSpelling Ident (λ bytes. longest_name < length bytes) in
      let o = r.ordered in (
        refl,
        subst P (slice_join text start end (omega arith))
            (has (name_spells n) run_longest (omega (arith, length-between text start end r.within))),
      )

-- what a test that failed says of a bound
pub not_over : {answer : Bool} {n : ℕ} → IsTrue answer ↔ (largest_number < n) → answer ≡ false → n ≤ largest_number
not_over {answer = answer} {n = n} says h =
    ⊎_elim (λ (l : largest_number < n). absurd (false≢true (sym h ∙ says.1 l))) (λ (g : n ≤ largest_number). g) (cases_lt largest_number n)

-- a run of digits
module _ (text : List ℕ) (start end : ℕ) (r : IsRun text start end is_ascii_digit)
    (d : is_ascii_digit (get_or text start 0) ≡ true) where
  first_digit : is_ascii_digit r.first ≡ true
  first_digit = ap is_ascii_digit r.front ∙ d

  digits_longest : IsLongest (slice_range text start end) (drop end text)
  digits_longest more others kind e s =
      let P : List ℕ → Type 0 = λ l. Spells (l ++ more) kind in
      number_longest r.first r.rest first_digit more others kind (e ∙ r.behind) (subst P r.parts s)

  number_spells : Spells (slice_range text start end) Number
  number_spells =
      let P : List ℕ → Type 0 = λ l. Spells l Number in
      let n = prefix_len is_ascii_digit r.rest in
      subst P (sym r.parts)
      (number
      (and_from (is_ascii_digit r.first) (list_all is_ascii_digit (take n r.rest)) first_digit (run_passes is_ascii_digit r.rest)))

  pub number_stands : number_value (slice_range text start end) ≤ largest_number →
      StandsToken text start (record { kind = Number; start = start; end = end })
  number_stands small = record {
    starts = refl;
    ordered = r.ordered;
    within = r.within;
    spells = number_spells;
    longest = digits_longest;
    limited = ((λ k. absurd (name_no_number (sym k))), (λ _. small));
  }

  pub number_too_large : largest_number < number_value (slice_range text start end) →
      StandsFault text start (NumberTooLarge start)
  number_too_large large =
      let P : List ℕ → Type 0 = HasSpelling Number (λ bytes. largest_number < number_value bytes) in
      let o = r.ordered in
      (refl, subst P (slice_join text start end (omega arith)) (has number_spells digits_longest large))

-- symbols
one_byte : (text : List ℕ) (start : ℕ) → start < length text → slice_range text start (start + 1) ≡ get_or text start 0 ∷ []
one_byte text start h =
    let d : start + 1 - start ≡ 1 = omega arith in
    ap (λ i. take i (drop start text)) d ∙ ap (λ l. take 1 l) (drop_more text start 0 h)

two_bytes : (text : List ℕ) (start : ℕ) → start + 1 < length text →
    slice_range text start (start + 2) ≡ get_or text start 0 ∷ get_or text (start + 1) 0 ∷ []
two_bytes text start h =
    let first = get_or text start 0 in
    let k : start < length text = omega arith in
    let d : start + 2 - start ≡ 2 = omega arith in
    ap (λ i. take i (drop start text)) d
    ∙ ap (λ l. take 2 l) (drop_more text start 0 k ∙ ap (λ l. first ∷ l) (drop_more text (start + 1) 0 h))

-- no `=` follows: the text ends here, or another byte follows
pub ends_here : (text : List ℕ) (at : ℕ) (others : List ℕ) → length text ≤ at → drop at text ≡ 61 ∷ others → ⊥
ends_here text at others h e = let n = length-drop at text in let m = ap length e in omega arith

pub other_follows : (text : List ℕ) (at : ℕ) (others : List ℕ) → (get_or text at 0 ≡ 61 → ⊥) → drop at text ≡ 61 ∷ others → ⊥
other_follows text at others n e = n (ap (λ i. get_or text i 0) (sym (add-zero at)) ∙ sym (get_or-drop at text 0 0) ∙ ap (λ l. get_or l 0 0) e)

pub symbol_stands : (text : List ℕ) (start : ℕ) (kind : Kind) → start < length text →
    is_ascii_alphabetic (get_or text start 0) ≡ false → is_ascii_digit (get_or text start 0) ≡ false →
    fixed_spelling kind ≡ Some (get_or text start 0 ∷ []) →
    HasNoLongSymbol text start →
    StandsToken text start (record { kind = kind; start = start; end = start + 1 })
symbol_stands text start kind h l d e n =
    let first = get_or text start 0 in
    let P : List ℕ → Type 0 = λ b. IsLongest b (drop (start + 1) text) in
    let b = one_byte text start h in
    record {
      starts = refl;
      ordered = omega arith;
      within = omega arith;
      spells = fixed (e ∙ ap Some (sym b));
      longest = subst P (sym b) (alone_longest first (drop (start + 1) text) l d n);
      limited = fixed_limited text (first ∷ []) kind start (start + 1) e;
    }

pub with_equals_stands : (text : List ℕ) (start : ℕ) (kind : Kind) → start + 1 < length text →
    is_ascii_alphabetic (get_or text start 0) ≡ false → is_ascii_digit (get_or text start 0) ≡ false →
    get_or text (start + 1) 0 ≡ 61 → fixed_spelling kind ≡ Some (get_or text start 0 ∷ 61 ∷ []) →
    StandsToken text start (record { kind = kind; start = start; end = start + 2 })
with_equals_stands text start kind h l d q e =
    let first = get_or text start 0 in
    let P : List ℕ → Type 0 = λ b. IsLongest b (drop (start + 2) text) in
    let b : slice_range text start (start + 2) ≡ first ∷ 61 ∷ [] = two_bytes text start h ∙ ap (λ x. first ∷ x ∷ []) q in
    record {
      starts = refl;
      ordered = omega arith;
      within = omega arith;
      spells = fixed (e ∙ ap Some (sym b));
      longest = subst P (sym b) (with_equals_longest first (drop (start + 2) text) l d);
      limited = fixed_limited text (first ∷ 61 ∷ []) kind start (start + 2) e;
    }

pub stray_stands : (text : List ℕ) (start : ℕ) → start < length text →
    is_ascii_alphabetic (get_or text start 0) ≡ false → is_ascii_digit (get_or text start 0) ≡ false →
    (IsBlank (get_or text start 0) → ⊥) → ((k : Kind) → fixed_spelling k ≢ Some (get_or text start 0 ∷ [])) →
    StandsFault text start (StrayByte start)
stray_stands text start h l d b n =
    (refl, subst IsStray (sym (drop_more text start 0 h)) (stray_here (get_or text start 0) (drop (start + 1) text) b l d n))
