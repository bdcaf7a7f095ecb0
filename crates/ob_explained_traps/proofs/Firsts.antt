-- What is told of the calls that are the first at their place, one position more.
use Rattle.std.proofs.Common.{◌≡◌, ◌∙◌, ℕ, ◌+◌, Bool, true, false, List, [], ◌∷◌, ◌++◌, append-nil, ap, arith, cond, filter, flat_map, map, refl, sym}
use Rattle.std.proofs.lemmas.List.Concat.{flat_map-append}
use Rattle.std.proofs.lemmas.List.Elements.{filter-append}
use Rattle.std.proofs.lemmas.List.FromFn.{map-range_with_len_more}
use Rattle.std.specs.List.{range_with_len}

map_same : (xs : List ℕ) → map (λ x. x) xs ≡ xs
map_same [] = refl
map_same (x ∷ xs) = ap (λ ys. x ∷ ys) (map_same xs)

range_more : (k : ℕ) → range_with_len 0 (k + 1) ≡ range_with_len 0 k ++ k ∷ []
range_more k =
    sym (map_same (range_with_len 0 (k + 1))) ∙ map-range_with_len_more (λ x. x) 0 k k (omega arith)
    ∙ ap (λ xs. xs ++ k ∷ []) (map_same (range_with_len 0 k))

module _ (text : ℕ → List ℕ) (test : ℕ → Bool) where
  -- what is told of the positions below this one that pass the test
  abbrev pub told_below : ℕ → List ℕ
  told_below k = flat_map text (filter test (range_with_len 0 k))

  one : (k : ℕ) (b : Bool) → flat_map text (cond b (k ∷ []) []) ≡ cond b (text k) []
  one k true = append-nil (text k)
  one k false = refl

  pub told_more : (k : ℕ) → told_below (k + 1) ≡ told_below k ++ cond (test k) (text k) []
  told_more k =
      ap (λ ks. flat_map text (filter test ks)) (range_more k)
      ∙ ap (flat_map text) (filter-append test (range_with_len 0 k) (k ∷ []))
      ∙ flat_map-append text (filter test (range_with_len 0 k)) (filter test (k ∷ []))
      ∙ ap (λ more. told_below k ++ more) (one k (test k))
