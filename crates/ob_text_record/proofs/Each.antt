-- One more of those that are said one behind the other.
use Rattle.std.proofs.Common.{◌≡◌, ◌∙◌, ℕ, suc, ◌+◌, ◌++◌, List, ap, append_assoc, arith, refl, subst, sym}
use Rattle.ob_text_record.specs.StateText.{over_each}

pub each_more : (said : ℕ → List ℕ) (n : ℕ) → over_each said (n + 1) ≡ over_each said n ++ said n
each_more said n =
    let next : suc n ≡ n + 1 = omega arith in
    subst (λ (k : ℕ). over_each said k ≡ over_each said n ++ said n) next refl

-- the next one appended
pub one_more : (said : ℕ → List ℕ) (n : ℕ) (before old new : List ℕ) → old ≡ before ++ over_each said n → new ≡ old ++ said n → new ≡ before ++ over_each said (n + 1)
one_more said n before old new is adds =
    adds ∙ ap (λ (t : List ℕ). t ++ said n) is ∙ append_assoc before (over_each said n) (said n)
    ∙ ap (λ (t : List ℕ). before ++ t) (sym (each_more said n))
