-- Lexical order of lists of numbers.
use Rattle.std.proofs.Common.{◌≡◌, refl, ◌∙◌, ℕ, ◌<◌, List, [], ◌∷◌, ◌++◌, length, ◌⊎◌, inl, inr, arith}
use Rattle.wf_whole_outcomes.specs.Layers.{Precedes}

pub precedes_on : (a b c : List ℕ) → Precedes a b → Precedes b c → Precedes a c
precedes_on [] [] c h k = absurd h
precedes_on [] (y ∷ b) [] h k = absurd k
precedes_on [] (y ∷ b) (z ∷ c) h k = tt
precedes_on (x ∷ a) [] c h k = absurd h
precedes_on (x ∷ a) (y ∷ b) [] h k = absurd k
precedes_on (x ∷ a) (y ∷ b) (z ∷ c) h k =
    elim h [
      | inl less ↦ elim k [
        | inl more ↦ inl (omega (arith, less, more))
        | inr same ↦ let e = same.0 in inl (omega (arith, less, e))
      ]
      | inr one ↦ elim k [
        | inl more ↦ let e = one.0 in inl (omega (arith, more, e))
        | inr two ↦ inr (one.0 ∙ two.0, precedes_on a b c one.1 two.1)
      ]
    ]

-- lists of one length, with one item more each
pub precedes_push : (a b : List ℕ) (x y : ℕ) → length a ≡ length b → Precedes a b → Precedes (a ++ x ∷ []) (b ++ y ∷ [])
precedes_push [] [] x y same h = absurd h
precedes_push [] (q ∷ b) x y same h = absurd (omega (arith, same))
precedes_push (p ∷ a) [] x y same h = absurd h
precedes_push (p ∷ a) (q ∷ b) x y same h =
    elim h [
      | inl less ↦ inl less
      | inr e ↦ inr (e.0, precedes_push a b x y (omega (arith, same)) e.1)
    ]

pub precedes_last : (a : List ℕ) (x y : ℕ) → x < y → Precedes (a ++ x ∷ []) (a ++ y ∷ [])
precedes_last [] x y less = inl less
precedes_last (p ∷ a) x y less = inr (refl, precedes_last a x y less)

pub precedes_pop : (a b : List ℕ) (x y : ℕ) → length a ≡ length b → Precedes (a ++ x ∷ []) (b ++ y ∷ []) → Precedes a b ⊎ ((a ≡ b) × (x < y))
precedes_pop [] [] x y same h = elim h [ inl less ↦ inr (refl, less) | inr e ↦ absurd e.1 ]
precedes_pop [] (q ∷ b) x y same h = absurd (omega (arith, same))
precedes_pop (p ∷ a) [] x y same h = absurd (omega (arith, same))
precedes_pop (p ∷ a) (q ∷ b) x y same h =
    elim h [
      | inl less ↦ inl (inl less)
      | inr e ↦ elim (precedes_pop a b x y (omega (arith, same)) e.1) [
        | inl r ↦ inl (inr (e.0, r))
        | inr r ↦ let first = e.0 in let rest = r.0 in inr ((cc), r.1)
      ]
    ]
