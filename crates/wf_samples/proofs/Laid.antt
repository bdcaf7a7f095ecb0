-- One word laid.
use Rattle.std.proofs.Common.{◌≡◌, List, [], ◌∷◌, length, set, ap, arith}
use Rattle.std.specs.Prelude.{ℤ}

pub one_word : (ws : List ℤ) (w v : ℤ) → length ws ≡ 1 → w ≡ v → set ws 0 w ≡ v ∷ []
one_word [] w v h e = absurd (omega (arith, h))
one_word (x ∷ []) w v h e = ap (λ (y : ℤ). y ∷ []) e
one_word (x ∷ y ∷ ws) w v h e = absurd (omega (arith, h))
