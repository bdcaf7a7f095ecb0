-- Lists that are filled one by one, so that each value stands for one of another list.
use Rattle.std.proofs.Common.{◌≡◌, ◌∙◌, sym, ap, ℕ, ◌+◌, ◌<◌, List, [], ◌∷◌, ◌++◌, length, map, take, get_or}
use Rattle.std.proofs.lemmas.List.{length-map, map-append, take_more}
use Rattle.std.proofs.Math.ListN.{get_or-map}

pub filled_more : {A B C : Type 0} (f : A → C) (g : B → C) (made : List A) (xs : List B) (i : ℕ) (a : A) (b : B) → map f made ≡ take i (map g xs) → i < length xs →
    b ≡ get_or xs i b → f a ≡ g b → map f (made ++ a ∷ []) ≡ take (i + 1) (map g xs)
filled_more f g made xs i a b so_far below at same =
    let within : i < length (map g xs) = rw length-map below in
    let here : f a ≡ get_or (map g xs) i (g b) = same ∙ ap g at ∙ sym (get_or-map g xs i b) in
    map-append f made (a ∷ []) ∙ ap (λ made'. made' ++ f a ∷ []) so_far ∙ ap (λ c. take i (map g xs) ++ c ∷ []) here ∙ sym (take_more (map g xs) i (g b) within)
