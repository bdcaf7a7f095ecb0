-- What a loop has read so far, in front of what is left: lists.
use Rattle.std.proofs.Common.{◌≡◌, List, [], ◌∷◌, ◌++◌, refl, ap, map}

pub map-push : {X A : Type 0} (f : X → A) (xs : List X) (x : X) (rest : List A) → map f xs ++ (f x ∷ rest) ≡ map f (xs ++ x ∷ []) ++ rest
map-push f [] x rest = refl
map-push f (y ∷ xs) x rest = ap (λ l. f y ∷ l) (map-push f xs x rest)
