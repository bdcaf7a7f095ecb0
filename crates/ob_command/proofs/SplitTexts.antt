-- A text that is split at the first place of another one.
use Rattle.std.proofs.Common.{◌≡◌, ◌∙◌, ◌+◌, ◌-◌, ◌<◌, ◌≤◌, ◌⊎◌, inl, inr, ℕ, zero, suc, refl, sym, ap, arith, subst, List, ◌++◌, length, take, drop, Option, Some, None, MatchOption}
use Rattle.std.specs.Borrow.{Bor}
use Rattle.std.specs.List.{slice_range}
use Rattle.std.specs.Str.Pattern.{FindsText}
use Rattle.std.proofs.lemmas.List.{append_assoc, drop_at, length-append, take_at}
use Rattle.std.proofs.lemmas.Str.Pattern.{split_text_parts}
use Rattle.ob_command.specs.CommandLine.{Text}
use Rattle.ob_command.specs.ClapTexts.{IsFirst, LacksMark}

abbrev Parts : Type 0
Parts = Bor (List ℕ) × Bor (List ℕ)

-- what std says of a split
abbrev pub IsSplit : (mark whole : Text) → Option Parts → Type 0
IsSplit mark whole r = MatchOption r (FindsText mark whole None)
    (λ x. (i : ℕ) × (j : ℕ) × FindsText mark whole (Some (i, j)) × (x.0.now ≡ take i whole) × (x.1.now ≡ drop j whole) × (i ≤ j) × (length x.0.now ≡ i) × (length x.1.now + j ≡ length whole))

abbrev AreParts : (mark whole : Text) → Option Parts → Type 0
AreParts mark whole r = MatchOption r (LacksMark mark whole) (λ x. whole ≡ x.0.now ++ (mark ++ x.1.now))

below_or : (a b : ℕ) → (a < b) ⊎ (b ≤ a)
below_or a zero = inr (omega arith)
below_or zero (suc b) = inl (omega arith)
below_or (suc a) (suc b) = go (below_or a b)
  where
    go : (a < b) ⊎ (b ≤ a) → (suc a < suc b) ⊎ (suc b ≤ suc a)
    go (inl h) = inl (omega (arith, h))
    go (inr h) = inr (omega (arith, h))

first_at : (mark whole : Text) (x : Parts) → IsSplit mark whole (Some x) → IsFirst mark whole x.0.now x.1.now
first_at mark whole x h = record { whole_is = split_text_parts mark whole (Some x) h; first = none_before }
  where
    none_before : (front back : Text) → whole ≡ front ++ (mark ++ back) → length x.0.now ≤ length front
    none_before front back e = go (below_or (length front) h.0)
      where
        go : (length front < h.0) ⊎ (h.0 ≤ length front) → length x.0.now ≤ length front
        go (inl below) = absurd (h.2.0 (length front) below back (ap (drop (length front)) e ∙ drop_at front (mark ++ back) (length front) refl))
        go (inr above) = let at = h.6 in omega (arith, above, at)

pub split_first : (mark whole : Text) (r : Option Parts) → IsSplit mark whole r → (x : Parts) → r ≡ Some x → IsFirst mark whole x.0.now x.1.now
split_first mark whole r splits x is = first_at mark whole x (subst (λ (o : Option Parts). IsSplit mark whole o) is splits)

pub unsplit_lacks : (mark whole : Text) (r : Option Parts) → IsSplit mark whole r → r ≡ None → LacksMark mark whole
unsplit_lacks mark whole r splits is = subst (λ (o : Option Parts). AreParts mark whole o) is (split_text_parts mark whole r splits)

-- the beginning up to the first place and with it
pub up_to_mark : (mark whole before behind text : Text) → IsFirst mark whole before behind → text ≡ slice_range whole 0 (length before + length mark)
    → text ≡ before ++ mark
up_to_mark mark whole before behind text first is =
    let all : length before + length mark - 0 ≡ length before + length mark = omega arith in
    is ∙ ap (λ (n : ℕ). take n whole) all
    ∙ ap (take (length before + length mark)) (first.whole_is ∙ sym (append_assoc before mark behind))
    ∙ take_at (before ++ mark) behind (length before + length mark) (length-append before mark)
