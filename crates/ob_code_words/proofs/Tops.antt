-- What instructions make of a stack of one word, or of two, and more.
use Rattle.std.proofs.Common.{◌≡◌, ℕ, ◌+◌, ◌-◌, ◌<◌, ◌≤◌, ltb, leb, Bool, true, false, cond, List, [], ◌∷◌, ◌++◌, length, take, get_or, pos, ℤ, Some, None, refl, ap, sym, ◌∙◌, subst, arith}
use Rattle.std.specs.Prelude.{slice_get}
use Rattle.std.proofs.lemmas.Grind.{common_steps}
use Rattle.std.proofs.lemmas.Bool.Decides.{nat_tests}
use Rattle.std.proofs.lemmas.List.{length-take-le}
use Rattle.std.proofs.lemmas.Option.{gets}
use Rattle.ob_code_words.specs.Words.{Made, Gives, Sticks, ◌>>=◌}
use Rattle.ob_code_words.specs.Effect.{popped, of_one, of_two, loaded, stored, put_at, word_at}

-- a word with those below it, on a stack that has one
abbrev Top : List ℤ → ℕ → Made (ℤ × List ℤ)
Top s i = Gives (get_or s i (pos 0), take i s)

pub popped_some : (s : List ℤ) → 0 < length s → popped s ≡ Top s (length s - 1)
popped_some s h = let t : ltb 0 (length s) ≡ true = grind (arith, nat_tests) in ap (λ b. cond b (Top s (length s - 1)) Sticks) t

-- what lies below the word on top
below_word : (s : List ℤ) → 2 ≤ length s → get_or (take (length s - 1) s) (length s - 2) (pos 0) ≡ get_or s (length s - 2) (pos 0)
below_word s h = grind (arith, common_steps)

below_rest : (s : List ℤ) → 2 ≤ length s → take (length s - 2) (take (length s - 1) s) ≡ take (length s - 2) s
below_rest s h = grind (arith, common_steps)

popped_at : (s : List ℤ) (i : ℕ) → length s ≡ i + 1 → popped s ≡ Top s i
popped_at s i h = let e : length s - 1 ≡ i = omega arith in subst (λ k. popped s ≡ Top s k) e (popped_some s (omega arith))

-- the second pop
pub popped_below : (s : List ℤ) → 2 ≤ length s → popped (take (length s - 1) s) ≡ Top s (length s - 2)
popped_below s h =
    let n : length (take (length s - 1) s) ≡ length s - 2 + 1 = omega (arith, length-take-le (length s - 1) s (omega arith)) in
    popped_at (take (length s - 1) s) (length s - 2) n
    ∙ ap (λ w. Gives (w, take (length s - 2) (take (length s - 1) s))) (below_word s h)
    ∙ ap (λ l. Gives (get_or s (length s - 2) (pos 0), l)) (below_rest s h)

-- the word on top, as it was found
pub popped_found : (s : List ℤ) (x : ℤ) → Some x ≡ slice_get s (length s - 1) → popped s ≡ Gives (x, take (length s - 1) s)
popped_found s x h =
    let within : 0 < length s = grind (arith, gets) in
    let word : get_or s (length s - 1) (pos 0) ≡ x = grind (arith, gets) in
    popped_some s within ∙ ap (λ w. Gives (w, take (length s - 1) s)) word

pub of_one_made : (f : ℤ → Made ℤ) (s : List ℤ) (x : ℤ) (m : Made ℤ) → Some x ≡ slice_get s (length s - 1) → m ≡ f x → of_one f s ≡ (m >>= (λ made. Gives (take (length s - 1) s ++ made ∷ [])))
of_one_made f s x m found made =
    ap (λ p. p >>= (λ (x : ℤ × List ℤ). f x.0 >>= (λ made. Gives (x.1 ++ made ∷ [])))) (popped_found s x found) ∙ ap (λ m. m >>= (λ made. Gives (take (length s - 1) s ++ made ∷ []))) (sym made)

-- an address on top, as it was found
pub loaded_found : (block s : List ℤ) (x : ℤ) → Some x ≡ slice_get s (length s - 1)
    → loaded block s ≡ (word_at block (take (length s - 1) s) x >>= (λ w. Gives (take (length s - 1) s ++ w ∷ [])))
loaded_found block s x found =
    ap (λ p. p >>= (λ (x : ℤ × List ℤ). word_at block x.1 x.0 >>= (λ w. Gives (x.1 ++ w ∷ [])))) (popped_found s x found)

-- where two words were found
from_two : (b : Bool) (p q : ℤ × ℤ) → Some q ≡ cond b (Some p) None → (b ≡ true) × (p ≡ q)
from_two true p q h = (refl, cc)
from_two false p q h = absurd (cc)

-- the two words on top, as they were found
abbrev pub TwoFound : List ℤ → ℤ × ℤ → Type 0
TwoFound s q = Some q ≡ cond (leb 2 (length s)) (Some (get_or s (length s - 2) (pos 0), get_or s (length s - 1) (pos 0))) None

two_high : (s : List ℤ) (q : ℤ × ℤ) → TwoFound s q → 2 ≤ length s
two_high s q h = let t : leb 2 (length s) ≡ true = (from_two _ _ _ h).0 in grind (arith, nat_tests)

-- both pops, and what is made then
two_popped : {A : Type 0} (go : ℤ → ℤ → List ℤ → Made A) (s : List ℤ) (q : ℤ × ℤ) → TwoFound s q → (popped s >>= (λ y. popped y.1 >>= (λ x. go x.0 y.0 x.1))) ≡ go q.0 q.1 (take (length s - 2) s)
two_popped go s q h =
    let high = two_high s q h in
    let words = (from_two _ _ _ h).1 in
    ap (λ p. p >>= (λ (y : ℤ × List ℤ). popped y.1 >>= (λ x. go x.0 y.0 x.1))) (popped_some s (omega (arith, high)))
    ∙ ap (λ p. p >>= (λ (x : ℤ × List ℤ). go x.0 (get_or s (length s - 1) (pos 0)) x.1)) (popped_below s high)
    ∙ ap (λ (p : ℤ × ℤ). go p.0 p.1 (take (length s - 2) s)) words

pub of_two_made : (f : ℤ → ℤ → Made ℤ) (s : List ℤ) (x y : ℤ) (m : Made ℤ) → TwoFound s (x, y) → m ≡ f x y → of_two f s ≡ (m >>= (λ made. Gives (take (length s - 2) s ++ made ∷ [])))
of_two_made f s x y m found made =
    two_popped (λ x y below. f x y >>= (λ made. Gives (below ++ made ∷ []))) s (x, y) found
    ∙ ap (λ m. m >>= (λ made. Gives (take (length s - 2) s ++ made ∷ []))) (sym made)

-- what is made of two words under other names
pub made_at : {A : Type 0} (f : ℤ → ℤ → Made A) {x x' y y' : ℤ} {m : Made A} → x' ≡ x → y' ≡ y → m ≡ f x' y' → m ≡ f x y
made_at f {x = x} {y' = y'} px py h = h ∙ ap (λ v. f v y') px ∙ ap (λ v. f x v) py

pub stored_found : (block s : List ℤ) (x y : ℤ) → TwoFound s (x, y) → stored block s ≡ put_at block (take (length s - 2) s) x y
stored_found block s x y found = two_popped (λ x y below. put_at block below x y) s (x, y) found
