-- The texts of calls printed one by one, with a count of each process's calls.
use Rattle.std.proofs.Common.{◌≡◌, ℕ, ◌+◌, ◌<◌, ◌≤◌, ◌==◌, min, List, [], ◌∷◌, ◌++◌, length, take, drop, get_or, set, reverse, replicate, inl, inr, false, refl, sym, ◌∙◌, ap, subst, append-nil, append_assoc, add-one, drop-cons, arith}
use Rattle.std.proofs.Common.{get_or-set_other, get_or-set_same}
use Rattle.std.proofs.lemmas.List.{take_more, drop_all, reverse-append, length-reverse, length-take, length-set, length-replicate, get_or-replicate}
use Rattle.std.proofs.lemmas.List.Sums.{length-filter, count_by-le-length}
use Rattle.std.proofs.lemmas.Bool.{eq-eqb, cases_lt}
use Rattle.std.proofs.lemmas.Bool.Decides.{eqb_tells}
use Rattle.ob_object_calls.specs.CallLines.{numbered, count_of}

-- so many of the callers, the last one first
abbrev pub before : List ℕ → ℕ → List ℕ
before callers n = reverse (take n callers)

-- a text of each call
abbrev pub Line : Type 0 → Type 0
Line A = (place process number : ℕ) → A → List ℕ

-- the texts of so many calls are printed, and each process's calls so far are counted
pub record HasPrinted {A : Type 0} (line : Line A) (processes : ℕ) (callers : List ℕ) (xs : List A) (n : ℕ) (text made : List ℕ) : Type 0 where
  pub long : length made ≡ processes
  pub counted : (p : ℕ) → p < processes → get_or made p 0 ≡ count_of p (before callers n)
  pub printed : text ++ numbered line (before callers n) (drop n callers) (drop n xs) ≡ numbered line [] callers xs

before-more : (callers : List ℕ) (n p : ℕ) → n < length callers → p ≡ get_or callers n p → before callers (n + 1) ≡ p ∷ before callers n
before-more callers n p below at = rw (take_more callers n p, ← at, reverse-append) refl

count_of-le : (p : ℕ) (xs : List ℕ) → count_of p xs ≤ length xs
count_of-le p xs = rw length-filter (count_by-le-length _ xs)

count_of-here : (p : ℕ) (xs : List ℕ) → count_of p (p ∷ xs) ≡ count_of p xs + 1
count_of-here p xs = rw (eq-eqb p p refl) (sym (add-one (count_of p xs)))

count_of-other : (p q : ℕ) (xs : List ℕ) → (p == q) ≡ false → count_of q (p ∷ xs) ≡ count_of q xs
count_of-other p q xs e = rw e refl

before-length : (callers : List ℕ) (n : ℕ) → n < length callers → length (before callers n) ≡ n
before-length callers n below = rw (length-reverse, length-take) (omega (arith, below))

-- no text without a caller, nor without what there is of a call
numbered-no_caller : {A : Type 0} (line : Line A) (bs callers : List ℕ) (xs : List A) → callers ≡ [] → numbered line bs callers xs ≡ []
numbered-no_caller line bs callers xs e = rw e refl

numbered-none : {A : Type 0} (line : Line A) (bs callers : List ℕ) (xs : List A) → xs ≡ [] → numbered line bs callers xs ≡ []
numbered-none line bs [] xs e = refl
numbered-none line bs (p ∷ callers) xs e = rw e refl

pub HasPrinted-none : {A : Type 0} (line : Line A) (processes : ℕ) (callers : List ℕ) (xs : List A) (text made : List ℕ) → text ≡ [] → made ≡ replicate processes 0 →
    HasPrinted line processes callers xs 0 text made
HasPrinted-none line processes callers xs text made t e =
    record {
      long = rw e (length-replicate _ _);
      counted = λ p below. rw (e, get_or-replicate) refl;
      printed = rw t refl;
    }

module _ {A : Type 0} (line : Line A) (processes : ℕ) (callers : List ℕ) (xs : List A) (n : ℕ) (text made : List ℕ)
    (so_far : HasPrinted line processes callers xs n text made) where
  -- no process has made more calls than there were
  pub made_few : (p : ℕ) → p < processes → get_or made p 0 ≤ n
  made_few p below = rw (so_far.counted p below) (omega (arith, count_of-le p (before callers n), length-reverse (take n callers), length-take n callers))

  pub HasPrinted-more : (p : ℕ) (x : A) → p < processes → n < length callers → p ≡ get_or callers n p → n < length xs → x ≡ get_or xs n x →
      HasPrinted line processes callers xs (n + 1) (text ++ line n p (get_or made p 0 + 1) x) (set made p (get_or made p 0 + 1))
  HasPrinted-more p x below within at within' at' =
      let more = before-more callers n p within at in
      let in_range : p < length made = omega (arith, so_far.long) in
      let lines = rw (drop-cons callers n p, ← at, drop-cons xs n x, ← at', before-length callers n within) at so_far.printed in
      record {
        long = rw length-set so_far.long;
        counted = λ q below'.
            elim (eqb_tells p q) [
              | inl same ↦
                  rw more
                  (subst (λ r. get_or (set made p (get_or made p 0 + 1)) r 0 ≡ count_of r (p ∷ before callers n)) same.1
                  (get_or-set_same made p (get_or made p 0 + 1) 0 in_range ∙ ap (λ k. k + 1) (so_far.counted p below) ∙ sym (count_of-here p (before callers n))))
              | inr other ↦
                  rw more (get_or-set_other made p q (get_or made p 0 + 1) 0 (λ e. other.1 (sym e)) ∙ so_far.counted q below' ∙ sym (count_of-other p q (before callers n) other.0))
            ];
        printed = rw (append_assoc, more, add-one (get_or made p 0), so_far.counted p below, add-one n) lines;
      }

  pub HasPrinted-all : n ≡ min (length callers) (length xs) → text ≡ numbered line [] callers xs
  HasPrinted-all e =
      elim (cases_lt n (length callers)) [
        | inl less ↦
            let none = numbered-none line (before callers n) (drop n callers) (drop n xs) (drop_all n xs (omega arith)) in
            rw (none, append-nil) at so_far.printed
        | inr past ↦
            let none = numbered-no_caller line (before callers n) (drop n callers) (drop n xs) (drop_all n callers past) in
            rw (none, append-nil) at so_far.printed
      ]
