-- Replies by their numbers.
use Rattle.std.proofs.Common.{◌≡◌, refl, sym, ap, ◌∙◌, subst, ℕ, ◌<◌, zero, suc, List, [], ◌∷◌, ◌++◌, length, get_or, set, map, replicate, All, Some}
use Rattle.std.proofs.lemmas.List.Elements.{All-cons, All-nil}
use Rattle.std.proofs.lemmas.Option.{slice_get_within}
use Rattle.std.specs.List.{slice_get, Contains}
use Rattle.wf_history.proofs.Positions.{contains_at, place_here}
use Rattle.wf_whole_outcomes.specs.Graph.{AreApart, GoesOn}
use Rattle.wf_whole_outcomes.proofs.Interning.{apart_push}

pub map_set : {A B : Type 0} (f : A → B) (xs : List A) (i : ℕ) (x : A) → map f (set xs i x) ≡ set (map f xs) i (f x)
map_set f [] i x = refl
map_set f (y ∷ xs) zero x = refl
map_set f (y ∷ xs) (suc i) x = ap (λ l. f y ∷ l) (map_set f xs i x)

pub map_push : {A B : Type 0} (f : A → B) (xs : List A) (x : A) → map f (xs ++ x ∷ []) ≡ map f xs ++ f x ∷ []
map_push f [] x = refl
map_push f (y ∷ xs) x = ap (λ l. f y ∷ l) (map_push f xs x)

pub map_all : {A B : Type 0} (f : A → B) (n : ℕ) (x : A) → map f (replicate n x) ≡ replicate n (f x)
map_all f zero x = refl
map_all f (suc n) x = ap (λ l. f x ∷ l) (map_all f n x)

-- a row, or no row, by what its items are
pub map_row : {A B : Type 0} (f : A → B) (rows : List (List A)) (i : ℕ) → get_or (map (map f) rows) i [] ≡ map f (get_or rows i [])
map_row f [] i = refl
map_row f (row ∷ rows) zero = refl
map_row f (row ∷ rows) (suc i) = map_row f rows i

pub length_row : {A : Type 0} (rows : List (List A)) (i : ℕ) → get_or (map length rows) i 0 ≡ length (get_or rows i [])
length_row [] i = refl
length_row (row ∷ rows) zero = refl
length_row (row ∷ rows) (suc i) = length_row rows i

-- numbers that stand for the same replies are the same
module _ {Reply : Type 0} (replies : List Reply) (apart : AreApart replies) where
  pub numbers_same : (xs ys : List ℕ) (said : List Reply) → map (slice_get replies) xs ≡ map Some said → map (slice_get replies) ys ≡ map Some said → xs ≡ ys
  numbers_same [] [] said one two = refl
  numbers_same [] (y ∷ ys) [] one two = absurd (cc)
  numbers_same [] (y ∷ ys) (r ∷ said) one two = absurd (cc)
  numbers_same (x ∷ xs) [] [] one two = absurd (cc)
  numbers_same (x ∷ xs) [] (r ∷ said) one two = absurd (cc)
  numbers_same (x ∷ xs) (y ∷ ys) [] one two = absurd (cc)
  numbers_same (x ∷ xs) (y ∷ ys) (r ∷ said) one two =
      let first : slice_get replies x ≡ Some r = cc in
      let second : slice_get replies y ≡ Some r = cc in
      let same : x ≡ y = apart x y r first second in
      let rest = numbers_same xs ys said (cc) (cc) in
      cc

  pub rows_same : (xs ys : List (List ℕ)) (said : List (List Reply)) → map (map (slice_get replies)) xs ≡ map (map Some) said → map (map (slice_get replies)) ys ≡ map (map Some) said → xs ≡ ys
  rows_same [] [] said one two = refl
  rows_same [] (y ∷ ys) [] one two = absurd (cc)
  rows_same [] (y ∷ ys) (r ∷ said) one two = absurd (cc)
  rows_same (x ∷ xs) [] [] one two = absurd (cc)
  rows_same (x ∷ xs) [] (r ∷ said) one two = absurd (cc)
  rows_same (x ∷ xs) (y ∷ ys) [] one two = absurd (cc)
  rows_same (x ∷ xs) (y ∷ ys) (r ∷ said) one two =
      let first : x ≡ y = numbers_same x y r (cc) (cc) in
      let rest = rows_same xs ys said (cc) (cc) in
      cc

-- numbers that stand for replies are numbers of some
module _ {Reply : Type 0} (replies : List Reply) where
  abbrev IsNumber : ℕ → Type 0
  IsNumber n = n < length replies

  row_within : (xs : List ℕ) (said : List Reply) → map (slice_get replies) xs ≡ map Some said → All IsNumber xs
  row_within [] said e = All-nil IsNumber
  row_within (x ∷ xs) [] e = absurd (cc)
  row_within (x ∷ xs) (r ∷ said) e =
      let first : slice_get replies x ≡ Some r = cc in
      All-cons IsNumber x xs (slice_get_within replies x r first) (row_within xs said (cc))

  pub rows_within : (xs : List (List ℕ)) (said : List (List Reply)) → map (map (slice_get replies)) xs ≡ map (map Some) said → All (All (λ n. n < length replies)) xs
  rows_within [] said e = All-nil (All IsNumber)
  rows_within (x ∷ xs) [] e = absurd (cc)
  rows_within (x ∷ xs) (r ∷ said) e = All-cons (All IsNumber) x xs (row_within x r (cc)) (rows_within xs said (cc))

-- what is given is what is given
pub somes_same : {A : Type 0} (xs ys : List A) → map Some xs ≡ map Some ys → xs ≡ ys
somes_same [] [] e = refl
somes_same [] (y ∷ ys) e = absurd (cc)
somes_same (x ∷ xs) [] e = absurd (cc)
somes_same (x ∷ xs) (y ∷ ys) e = let rest = somes_same xs ys (cc) in cc

pub all_somes_same : {A : Type 0} (xs ys : List (List A)) → map (map Some) xs ≡ map (map Some) ys → xs ≡ ys
all_somes_same [] [] e = refl
all_somes_same [] (y ∷ ys) e = absurd (cc)
all_somes_same (x ∷ xs) [] e = absurd (cc)
all_somes_same (x ∷ xs) (y ∷ ys) e = let first = somes_same x y (cc) in let rest = all_somes_same xs ys (cc) in cc

-- one reply more, which is new
module _ {Reply : Type 0} (replies : List Reply) (r : Reply) (after : List Reply) (pushed : after ≡ replies ++ r ∷ []) where
  pub one_here : (number : ℕ) → number ≡ length replies → slice_get after number ≡ Some r
  one_here number is = ap (λ (l : List Reply). slice_get l number) pushed ∙ ap (slice_get (replies ++ r ∷ [])) is ∙ place_here replies [] r

  pub one_more_apart : AreApart replies → (¬ Contains replies r) → AreApart after
  one_more_apart apart fresh = subst (λ (l : List Reply). AreApart l) (sym pushed) (apart_push replies r apart (λ k at. fresh (contains_at replies k r at)))

  pub one_more_on : GoesOn replies after
  one_more_on = (r ∷ [], pushed)
