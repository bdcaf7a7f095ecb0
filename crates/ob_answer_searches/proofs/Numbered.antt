-- Lines of numbered items, one item more.
use Rattle.std.proofs.Common.{◌≡◌, ◌∙◌, ℕ, ◌+◌, ◌<◌, ◌≤◌, List, [], ◌∷◌, ◌++◌, ap, append_assoc, drop, get_or, length, map, subst, sym}
use Rattle.std.proofs.lemmas.List.{append-nil, at_drop_all, at_drop_more, get_or-map, get_or_default, length-map}

-- the text so far and the lines of the items that are left, one item on
pub line_more : {A X : Type 0} (view : A → X) (f : ℕ → List X → List ℕ) (g : ℕ → X → List ℕ) (begins : (k : ℕ) (x : X) (xs : List X) → f k (x ∷ xs) ≡ g k x ++ f (k + 1) xs)
    (old new all : List ℕ) (items : List A) (k : ℕ) (item : A) → k < length items → item ≡ get_or items k item → new ≡ old ++ g k (view item) → old ++ f k (drop k (map view items)) ≡ all → new ++ f (k + 1) (drop (k + 1) (map view items)) ≡ all
line_more {A} {X} view f g begins old new all items k item lt is more so =
    let xs : List X = map view items in
    let rest : List X = drop (k + 1) xs in
    let inside : k < length xs = subst (λ (n : ℕ). k < n) (sym (length-map items view)) lt in
    let here : view item ≡ get_or xs k (view item) = ap view is ∙ sym (get_or-map view items k item (view item) lt) in
    ap (λ (l : List ℕ). l ++ f (k + 1) rest) more ∙ append_assoc old (g k (view item)) (f (k + 1) rest) ∙ ap (λ (l : List ℕ). old ++ l) (sym (begins k (view item) rest))
    ∙ ap (λ (x : X). old ++ f k (x ∷ rest)) here ∙ sym (at_drop_more (λ (l : List X). old ++ f k l) xs k (view item) inside) ∙ so

-- the same of an item that stands at the place
pub line_next : {A X : Type 0} (view : A → X) (f : ℕ → List X → List ℕ) (g : ℕ → X → List ℕ) (begins : (k : ℕ) (x : X) (xs : List X) → f k (x ∷ xs) ≡ g k x ++ f (k + 1) xs)
    (old new all : List ℕ) (items : List A) (k : ℕ) (d : A) → k < length items → new ≡ old ++ g k (view (get_or items k d)) → old ++ f k (drop k (map view items)) ≡ all →
    new ++ f (k + 1) (drop (k + 1) (map view items)) ≡ all
line_next view f g begins old new all items k d lt more so =
    line_more view f g begins old new all items k (get_or items k d) lt (get_or_default items k d (get_or items k d) lt) more so

-- no item is left
pub lines_all : {A X : Type 0} (view : A → X) (f : ℕ → List X → List ℕ) (ends : (k : ℕ) → f k [] ≡ []) (old all : List ℕ) (items : List A) (k : ℕ) → length items ≤ k →
    old ++ f k (drop k (map view items)) ≡ all → old ≡ all
lines_all {A} {X} view f ends old all items k le so =
    let xs : List X = map view items in
    let past : length xs ≤ k = subst (λ (n : ℕ). n ≤ k) (sym (length-map items view)) le in
    sym (append-nil old) ∙ ap (λ (l : List ℕ). old ++ l) (sym (ends k)) ∙ sym (at_drop_all (λ (l : List X). old ++ f k l) xs k past) ∙ so
