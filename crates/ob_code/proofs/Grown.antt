-- Code that grows: one construct behind the other, and jumps that learn their targets.
use Rattle.std.proofs.Common.{◌≡◌, ℕ, ◌+◌, List, [], ◌∷◌, ◌++◌, length, slice_set, refl, ap, sym, ◌∙◌, append_assoc, append-nil, length-append, arith}
use Rattle.std.proofs.Math.Seq.{set-append_seam}
use Rattle.ob_code_machine.specs.Code.{CodeParts}
use Rattle.ob_code_words.specs.declared.instr.Instr.{Instr}
use Rattle.ob_code.specs.Growing.{grown}

pub grown_nothing : (c : CodeParts) → grown c [] ≡ c
grown_nothing c = ap (λ is. record c { instructions = is }) (append-nil c.instructions)

pub grown_twice : (c : CodeParts) (x y : List Instr) → grown (grown c x) y ≡ grown c (x ++ y)
grown_twice c x y = ap (λ is. record c { instructions = is }) (append_assoc c.instructions x y)

-- what stands behind x, by its place
pub behind : (c d e : CodeParts) (x : List Instr) (y : ℕ → List Instr) (m : ℕ) →
    d ≡ grown c x → length x ≡ m → e ≡ grown d (y (length d.instructions)) → e ≡ grown c (x ++ y (length c.instructions + m))
behind c d e x y m put long more =
    let place : length (grown c x).instructions ≡ length c.instructions + m = length-append c.instructions x ∙ ap (λ k. length c.instructions + k) long in
    more ∙ ap (λ k. grown k (y (length k.instructions))) put ∙ ap (λ n. grown (grown c x) (y n)) place ∙ grown_twice c x (y (length c.instructions + m))

-- another instruction at the seam
pub seam : (c e f : CodeParts) (x y : List Instr) (i j : Instr) (place : ℕ) →
    e ≡ grown c (x ++ i ∷ y) → place ≡ length c.instructions + length x → f ≡ record e { instructions = slice_set e.instructions place j } →
    f ≡ grown c (x ++ j ∷ y)
seam c e f x y i j place put at set =
    set
    ∙ ap (λ (k : CodeParts). record k { instructions = slice_set k.instructions place j }) put
    ∙ ap (λ is. record c { instructions = is })
    (ap (λ is. slice_set is place j) (sym (append_assoc c.instructions x (i ∷ y)))
    ∙ ap (λ n. slice_set ((c.instructions ++ x) ++ i ∷ y) n j) (at ∙ sym (length-append c.instructions x))
    ∙ set-append_seam (c.instructions ++ x) i y j
    ∙ append_assoc c.instructions x (j ∷ y))

-- a jump over what stands behind it, which learns its target there
pub jumps : (c d e f : CodeParts) (i : Instr) (jump : ℕ → Instr) (y : ℕ → List Instr) (n place target : ℕ) →
    d ≡ grown c (i ∷ []) → e ≡ grown d (y (length d.instructions)) → length (y (length c.instructions + 1)) ≡ n →
    place ≡ length c.instructions → target ≡ length e.instructions →
    f ≡ record e { instructions = slice_set e.instructions place (jump target) } →
    f ≡ grown c (jump (length c.instructions + 1 + n) ∷ y (length c.instructions + 1))
jumps c d e f i jump y n place target put more long at end set =
    let whole : e ≡ grown c (i ∷ y (length c.instructions + 1)) = behind c d e (i ∷ []) y 1 put refl more in
    let begins : place ≡ length c.instructions + 0 = omega (arith, at) in
    let count = ap (λ (k : CodeParts). length k.instructions) whole in
    let joined = length-append c.instructions (i ∷ y (length c.instructions + 1)) in
    let last : target ≡ length c.instructions + 1 + n = omega (arith, end, count, joined, long) in
    seam c e f [] (y (length c.instructions + 1)) i (jump target) place whole begins set
    ∙ ap (λ t. grown c (jump t ∷ y (length c.instructions + 1))) last
