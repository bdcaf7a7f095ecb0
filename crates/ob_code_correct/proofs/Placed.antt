-- Instructions that stand in the code at a place.
use Rattle.std.proofs.Common.{◌≡◌, ℕ, ◌+◌, ◌<◌, ◌≤◌, List, [], ◌∷◌, ◌++◌, length, Some, ap, ◌∙◌, subst, append_assoc, length-append, arith}
use Rattle.std.specs.Prelude.{slice_get}
use Rattle.std.proofs.Math.Seq.{get_or-append_seam}
use Rattle.std.proofs.lemmas.Option.{slice_get-get_or, gets}
use Rattle.ob_code_words.specs.declared.instr.Instr.{Instr}
use Rattle.ob_code_scheme.specs.Scheme.{HasAt}

pub has_front : (code : List Instr) (place : ℕ) (a b : List Instr) → HasAt code place (a ++ b) → HasAt code place a
has_front code place [] b h = tt
has_front code place (i ∷ a) b h = (h.0, has_front code (place + 1) a b h.1)

pub has_back : (code : List Instr) (place : ℕ) (a b : List Instr) → HasAt code place (a ++ b) → HasAt code (place + length a) b
has_back code place [] b h = let e : place ≡ place + 0 = omega arith in subst (λ (n : ℕ). HasAt code n b) e h
has_back code place (i ∷ a) b h =
    let e : place + 1 + length a ≡ place + length (i ∷ a) = omega arith in
    subst (λ (n : ℕ). HasAt code n b) e (has_back code (place + 1) a b h.1)

-- the same at a place that is told otherwise
pub has_moved : (code : List Instr) (m n : ℕ) (is : List Instr) → m ≡ n → HasAt code m is → HasAt code n is
has_moved code m n is e h = subst (λ (k : ℕ). HasAt code k is) e h

pub has_behind : (code : List Instr) (place : ℕ) (a b : List Instr) (n next : ℕ) → length a ≡ n → place + n ≡ next → HasAt code place (a ++ b) → HasAt code next b
has_behind code place a b n next long at h = has_moved code (place + length a) next b (omega (arith, long, at)) (has_back code place a b h)

-- a list of instructions with others before and behind it
pub has_all : (is front : List Instr) (back : List Instr) → HasAt (front ++ (is ++ back)) (length front) is
has_all [] front back = tt
has_all (i ∷ is) front back =
    let whole = front ++ ((i ∷ is) ++ back) in
    let below : length front < length whole = omega (arith, length-append front ((i ∷ is) ++ back)) in
    let here = slice_get-get_or whole (length front) i below ∙ ap (λ (x : Instr). Some x) (get_or-append_seam front i (is ++ back) i) in
    let n : length (front ++ i ∷ []) ≡ length front + 1 = length-append front (i ∷ []) in
    let rest = has_all is (front ++ i ∷ []) back in
    let moved = subst (λ (l : List Instr). HasAt l (length (front ++ i ∷ [])) is) (append_assoc front (i ∷ []) (is ++ back)) rest in
    (here, subst (λ (m : ℕ). HasAt whole m is) n moved)

-- what stands in the code is no longer than it
found_below : (code : List Instr) (place : ℕ) (i : Instr) → slice_get code place ≡ Some i → place < length code
found_below code place i h = grind (arith, gets)

pub has_within : (code : List Instr) (place : ℕ) (is : List Instr) → HasAt code place is → 0 < length is → place + length is ≤ length code
has_within code place [] h some = absurd (omega arith)
has_within code place (i ∷ []) h some = let k = found_below code place i h.0 in omega (arith, k)
has_within code place (i ∷ j ∷ is) h some = let k = has_within code (place + 1) (j ∷ is) h.1 (omega arith) in omega (arith, k)

pub has_long : (code : List Instr) (place : ℕ) (is : List Instr) → HasAt code place is → length is ≤ length code
has_long code place [] h = omega arith
has_long code place (i ∷ is) h = let k = has_within code place (i ∷ is) h (omega arith) in omega (arith, k)
