-- Code within its limits, and what it begins with.
use Rattle.std.proofs.Common.{◌≡◌, ℕ, ◌+◌, ◌<◌, ◌≤◌, List, [], ◌∷◌, ◌++◌, length, get_or, ap, sym, subst, append_assoc, length-append, All, arith}
use Rattle.std.proofs.Math.ListN.{get_or-append}
use Rattle.std.proofs.Math.Seq.{get_or-append_seam}
use Rattle.std.proofs.lemmas.List.{get_or-append-add}
use Rattle.std.proofs.lemmas.List.Elements.{All-append, All-cons, All-tail}
use Rattle.ob_code_machine.specs.Code.{CodeParts}
use Rattle.ob_code_words.specs.declared.instr.Instr.{Instr}
use Rattle.ob_code.specs.Growing.{grown}
use Rattle.ob_code_scheme.specs.Operands.{HasSmallOperands}
use Rattle.ob_code.specs.Limits.{IsWithinLimits}

All-front : {X : Type 0} (P : X → Type 0) (xs ys : List X) → All P (xs ++ ys) → All P xs
All-front P xs ys h = λ k d l. let long = length-append xs ys in subst P (get_or-append xs ys d k l) (h k d (omega (arith, l, long)))

All-back : {X : Type 0} (P : X → Type 0) (xs ys : List X) → All P (xs ++ ys) → All P ys
All-back P xs ys h = λ k d l. let long = length-append xs ys in subst P (get_or-append-add xs ys k d) (h (length xs + k) d (omega (arith, l, long)))

All-seam : {X : Type 0} (P : X → Type 0) (xs : List X) (y : X) (ys : List X) → All P (xs ++ y ∷ ys) → P y
All-seam P xs y ys h = let long = length-append xs (y ∷ ys) in subst P (get_or-append_seam xs y ys y) (h (length xs) y (omega (arith, long)))

-- another element at the seam
All-other : {X : Type 0} (P : X → Type 0) (xs : List X) (y z : X) (ys : List X) → All P (xs ++ y ∷ ys) → P z → All P (xs ++ z ∷ ys)
All-other P xs y z ys h k =
    All-append P xs (z ∷ ys) (All-front P xs (y ∷ ys) h) (All-cons P z ys k (All-tail P y ys (All-back P xs (y ∷ ys) h)))

pub within : (e f : CodeParts) → e ≡ f → IsWithinLimits f → IsWithinLimits e
within e f is w = subst IsWithinLimits (sym is) w

-- what code begins with is within them too
pub begins : (d f : CodeParts) (y : List Instr) → d.instructions ++ y ≡ f.instructions → IsWithinLimits f → IsWithinLimits d
begins d f y is w =
    let long = length-append d.instructions y in
    let same = ap (λ is. length is) is in
    record {
      short = omega (arith, w.short, long, same);
      operands = All-front HasSmallOperands d.instructions y (subst (All HasSmallOperands) (sym is) w.operands);
    }

pub before : (d : CodeParts) (y : List Instr) (f : CodeParts) → grown d y ≡ f → IsWithinLimits f → IsWithinLimits d
before d y f is w = begins d f y (ap (λ (k : CodeParts). k.instructions) is) w

-- and there is room for what stands behind it
pub room : (d : CodeParts) (i : Instr) (y : List Instr) (f : CodeParts) → grown d (i ∷ y) ≡ f → IsWithinLimits f → length d.instructions < 65535
room d i y f is w =
    let g : IsWithinLimits (grown d (i ∷ y)) = within (grown d (i ∷ y)) f is w in
    let long = length-append d.instructions (i ∷ y) in
    omega (arith, g.short, long)

-- an instruction of it
pub small_operands : (d : CodeParts) (x : List Instr) (i : Instr) (y : List Instr) → IsWithinLimits (grown d (x ++ i ∷ y)) → HasSmallOperands i
small_operands d x i y w =
    All-seam HasSmallOperands (d.instructions ++ x) i y (subst (All HasSmallOperands) (sym (append_assoc d.instructions x (i ∷ y))) w.operands)

-- another instruction in its place
pub other : (d : CodeParts) (x : List Instr) (i j : Instr) (y : List Instr) → HasSmallOperands j → IsWithinLimits (grown d (x ++ i ∷ y)) → IsWithinLimits (grown d (x ++ j ∷ y))
other d x i j y small w =
    let one = length-append d.instructions (x ++ i ∷ y) in
    let two = length-append d.instructions (x ++ j ∷ y) in
    let three = length-append x (i ∷ y) in
    let four = length-append x (j ∷ y) in
    record {
      short = omega (arith, w.short, one, two, three, four);
      operands =
          subst (All HasSmallOperands) (append_assoc d.instructions x (j ∷ y))
          (All-other HasSmallOperands (d.instructions ++ x) i j y (subst (All HasSmallOperands) (sym (append_assoc d.instructions x (i ∷ y))) w.operands) small);
    }
