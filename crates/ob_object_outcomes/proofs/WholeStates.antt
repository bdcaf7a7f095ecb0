-- States by numbers.
use Rattle.std.proofs.Common.{◌≡◌, ◌∙◌, ◌⊎◌, ap, refl, subst, sym, ℕ, ◌+◌, ◌-◌, ◌<◌, ◌≤◌, suc, zero, List, [], ◌∷◌, ◌++◌, All, Option, Some, inl, inr, length, map, get_or, min, take, arith}
use Rattle.std.proofs.lemmas.List.{map-append, take_more}
use Rattle.std.proofs.lemmas.Option.{get_or_from_slice_get, slice_get_within}
use Rattle.std.specs.List.{slice_get}

-- where states stand from a place on, each is that of its place
pub numbered_same : {K S : Type 0} (at : ℕ → Option S) (place : K → ℕ) (first size : ℕ) (own : List S) (d : S) → ((k : ℕ) → first + k < size → slice_get own k ≡ at (first + k)) →
    ((p : ℕ) (s : S) → at p ≡ Some s → p < size) → (keys : List K) (states : List S) → All (λ key. first ≤ place key) keys → map Some states ≡ map (λ key. at (place key)) keys →
    map (λ n. get_or own n d) (map (λ key. place key - first) keys) ≡ states
numbered_same at place first size own d are within [] [] behind same = refl
numbered_same at place first size own d are within [] (state ∷ states) behind same = absurd (cc)
numbered_same at place first size own d are within (key ∷ keys) [] behind same = absurd (cc)
numbered_same {K} {S} at place first size own d are within (key ∷ keys) (state ∷ states) behind same =
    let here : at (place key) ≡ Some state = cc in
    let rest : map Some states ≡ map (λ (k : K). at (place k)) keys = cc in
    let after = behind 0 key (omega arith) in
    let less = within (place key) state here in
    let back : first + (place key - first) ≡ place key = omega (arith, after) in
    let it : slice_get own (place key - first) ≡ Some state = are (place key - first) (omega (arith, back, less)) ∙ ap at back ∙ here in
    let one : get_or own (place key - first) d ≡ state = get_or_from_slice_get own (place key - first) state d it in
    ap (λ (s : S). s ∷ map (λ n. get_or own n d) (map (λ (k : K). place k - first) keys)) one
    ∙ ap (λ (l : List S). state ∷ l) (numbered_same at place first size own d are within keys states (λ k d less. behind (suc k) d (omega (arith, less))) rest)

-- the lesser of two
pub lesser : (a b : ℕ) → (min a b ≤ a) × (min a b ≤ b)
lesser a b = (omega arith, omega arith)

below_or_last : (k n : ℕ) → k < n + 1 → (k < n) ⊎ (k ≡ n)
below_or_last zero zero less = inr refl
below_or_last zero (suc n) less = inl (omega arith)
below_or_last (suc k) zero less = absurd (omega (arith, less))
below_or_last (suc k) (suc n) less =
    elim (below_or_last k n (omega (arith, less))) [
      | inl below ↦ inl (omega (arith, below))
      | inr same ↦ inr (ap suc same)
    ]

-- what holds below a number, and of it
pub one_more_below : (P : ℕ → Type 0) (n : ℕ) → ((k : ℕ) → k < n → P k) → P n → (k : ℕ) → k < n + 1 → P k
one_more_below P n below here k less =
    elim (below_or_last k n less) [
      | inl before ↦ below k before
      | inr same ↦ subst P (sym same) here
    ]

-- one more of what goes together with the items of a list
pub mapped_more : {A B : Type 0} (g : B → A) (xs : List A) (ys : List B) (k : ℕ) (y : B) → slice_get ys k ≡ Some y → xs ≡ map g (take k ys) → (x : A) → x ≡ g y →
    (after : List A) → after ≡ xs ++ x ∷ [] → after ≡ map g (take (k + 1) ys)
mapped_more {A} {B} g xs ys k y at so_far x same after pushed =
    pushed ∙ ap (λ (l : List A). l ++ x ∷ []) so_far ∙ ap (λ (a : A). map g (take k ys) ++ a ∷ []) (same ∙ ap g (sym (get_or_from_slice_get ys k y y at)))
    ∙ sym (map-append g (take k ys) (get_or ys k y ∷ [])) ∙ ap (map g) (sym (take_more ys k y (slice_get_within ys k y at)))

in_front : {S : Type 0} (xs ys : List S) (k : ℕ) → k < length xs → slice_get (xs ++ ys) k ≡ slice_get xs k
in_front [] ys k less = absurd (omega (arith, less))
in_front (x ∷ xs) ys zero less = refl
in_front (x ∷ xs) ys (suc k) less = in_front xs ys k (omega (arith, less))

behind_all : {S : Type 0} (xs : List S) (x : S) → slice_get (xs ++ x ∷ []) (length xs) ≡ Some x
behind_all [] x = refl
behind_all (y ∷ xs) x = behind_all xs x

-- one state more of those from a place on
pub from_more : {S : Type 0} (at : ℕ → Option S) (first place : ℕ) (xs : List S) → first ≤ place → length xs ≡ place - first → ((k : ℕ) → first + k < place → slice_get xs k ≡ at (first + k)) →
    (x : S) → at place ≡ Some x → (after : List S) → after ≡ xs ++ x ∷ [] → (k : ℕ) → first + k < place + 1 → slice_get after k ≡ at (first + k)
from_more {S} at first place xs low size so_far x here after pushed k less =
    ap (λ (l : List S). slice_get l k) pushed
    ∙ one_more_below (λ n. slice_get (xs ++ x ∷ []) n ≡ at (first + n)) (length xs) (λ n before. in_front xs (x ∷ []) n before ∙ so_far n (omega (arith, low, size, before)))
    (behind_all xs x ∙ sym here ∙ ap at (omega (arith, low, size))) k (omega (arith, low, size, less))
