-- The calls of the processes whose toggles differ: one process more, and what they don't depend on.
use Rattle.std.proofs.Common.{◌≡◌, ◌≢◌, ℕ, zero, suc, ◌+◌, ◌<◌, ◌≤◌, Bool, true, false, not, List, [], ◌∷◌, ◌++◌, map, get_or, refl, sym, ap, ◌∙◌, arith, cond, int_eq}
use Rattle.std.specs.Prelude.{ℤ}
use Rattle.std.specs.List.{range_with_len, filter}
use Rattle.std.proofs.lemmas.List.{map-append, append-nil}
use Rattle.std.proofs.lemmas.List.Elements.{filter-append}
use Rattle.std.proofs.lemmas.Bool.Decides.{Decides-int_eq}
use Rattle.wf_history.specs.declared.event.CallId.{CallId}
use Rattle.wf_table.specs.declared.process.Sizes.{Sizes}
use Rattle.wf_table.specs.StepTable.{toggle_in}
use Rattle.wf_table.proofs.HelpAndOrderIds.{ids_of, range_snoc, not_true}
use Rattle.wf_table.specs.Helps.{made_below}

-- the call of a process that has this number
abbrev id_of : (ℕ → ℕ) → ℕ → CallId
id_of number q = record { process = q; number = number q }

by_test : (number number' : ℕ → ℕ) (a : ℕ) (xs ys : List ℕ) (b b' : Bool) → b ≡ b' → (b ≡ true → number a ≡ number' a) → map (id_of number) xs ≡ map (id_of number') ys → map (id_of number) (cond b (a ∷ xs) xs) ≡ map (id_of number') (cond b' (a ∷ ys) ys)
by_test number number' a xs ys true true e same rest = ap (λ (n : ℕ). record { process = a; number = n } ∷ map (id_of number) xs) (same refl) ∙ ap (λ (ids : List CallId). id_of number' a ∷ ids) rest
by_test number number' a xs ys false false e same rest = rest
by_test number number' a xs ys true false e same rest = absurd (cc)
by_test number number' a xs ys false true e same rest = absurd (cc)

-- tests and numbers that are the same give the same ids
ids_same : (test test' : ℕ → Bool) (number number' : ℕ → ℕ) (a n : ℕ) → ((k : ℕ) → a ≤ k → k < a + n → test k ≡ test' k) → ((k : ℕ) → a ≤ k → k < a + n → test k ≡ true → number k ≡ number' k) → ids_of test number (range_with_len a n) ≡ ids_of test' number' (range_with_len a n)
ids_same test test' number number' a zero tests numbers = refl
ids_same test test' number number' a (suc n) tests numbers =
    by_test number number' a (filter test (range_with_len (a + 1) n)) (filter test' (range_with_len (a + 1) n)) (test a) (test' a) (tests a (omega arith) (omega arith)) (numbers a (omega arith) (omega arith))
    (ids_same test test' number number' (a + 1) n (λ k le lt. tests k (omega (arith, le)) (omega (arith, lt))) (λ k le lt. numbers k (omega (arith, le)) (omega (arith, lt))))

ids_push : (test : ℕ → Bool) (number : ℕ → ℕ) (j : ℕ) → ids_of test number (range_with_len 0 (j + 1)) ≡ ids_of test number (range_with_len 0 j) ++ ids_of test number (j ∷ [])
ids_push test number j =
    let id : ℕ → CallId = id_of number in
    let longer : range_with_len 0 (j + 1) ≡ range_with_len 0 j ++ j ∷ [] = (let more : j + 1 ≡ suc j = omega arith in let here : 0 + j ≡ j = omega arith in ap (λ (n : ℕ). range_with_len 0 n) more ∙ sym (range_snoc 0 j) ∙ ap (λ (k : ℕ). range_with_len 0 j ++ k ∷ []) here) in
    ap (λ (ks : List ℕ). ids_of test number ks) longer ∙ ap (λ (ks : List ℕ). map id ks) (filter-append test (range_with_len 0 j) (j ∷ [])) ∙ map-append id (filter test (range_with_len 0 j)) (filter test (j ∷ []))

pub differs_false : (x y : ℤ) → x ≡ y → not (int_eq x y) ≡ false
differs_false x y e = ap not ((Decides-int_eq x y).1 e)

pub differs_true : (x y : ℤ) → x ≢ y → not (int_eq x y) ≡ true
differs_true x y d = ap not (not_true (int_eq x y) (λ e. d ((Decides-int_eq x y).0 e)))

true_differs : (x y : ℤ) → not (int_eq x y) ≡ true → x ≢ y
true_differs x y e is = (let no : not (int_eq x y) ≡ false = differs_false x y is in absurd (cc))

module _ (z : Sizes) where
  -- made_below reads toggles, and numbers where they differ
  pub made_below-same : (old new old' new' : List ℤ) (flips flips' : List ℕ) (j : ℕ) → ((k : ℕ) → k < j → toggle_in z old k ≡ toggle_in z old' k) → ((k : ℕ) → k < j → toggle_in z new k ≡ toggle_in z new' k) → ((k : ℕ) → k < j → toggle_in z old k ≢ toggle_in z new k → get_or flips k 0 ≡ get_or flips' k 0) → made_below z old new flips j ≡ made_below z old' new' flips' j
  made_below-same old new old' new' flips flips' j olds news numbers =
      ids_same (λ (q : ℕ). not (int_eq (toggle_in z old q) (toggle_in z new q))) (λ (q : ℕ). not (int_eq (toggle_in z old' q) (toggle_in z new' q))) (λ (q : ℕ). get_or flips q 0) (λ (q : ℕ). get_or flips' q 0) 0 j
      (λ k le lt. (let a = olds k (omega (arith, lt)) in let b = news k (omega (arith, lt)) in rw (a, b)))
      (λ k le lt is. numbers k (omega (arith, lt)) (true_differs (toggle_in z old k) (toggle_in z new k) is))

  pub made_below-skip : (old new : List ℤ) (flips : List ℕ) (j : ℕ) → toggle_in z old j ≡ toggle_in z new j → made_below z old new flips (j + 1) ≡ made_below z old new flips j
  made_below-skip old new flips j e =
      let test : ℕ → Bool = λ (q : ℕ). not (int_eq (toggle_in z old q) (toggle_in z new q)) in
      let none : test j ≡ false = differs_false (toggle_in z old j) (toggle_in z new j) e in
      ids_push test (λ (q : ℕ). get_or flips q 0) j
      ∙ ap (λ (b : Bool). made_below z old new flips j ++ map (id_of (λ (q : ℕ). get_or flips q 0)) (cond b (j ∷ []) [])) none
      ∙ simp append-nil

  pub made_below-push : (old new : List ℤ) (flips : List ℕ) (j : ℕ) → toggle_in z old j ≢ toggle_in z new j → made_below z old new flips (j + 1) ≡ made_below z old new flips j ++ record { process = j; number = get_or flips j 0 } ∷ []
  made_below-push old new flips j d =
      let test : ℕ → Bool = λ (q : ℕ). not (int_eq (toggle_in z old q) (toggle_in z new q)) in
      let one : test j ≡ true = differs_true (toggle_in z old j) (toggle_in z new j) d in
      ids_push test (λ (q : ℕ). get_or flips q 0) j
      ∙ ap (λ (b : Bool). made_below z old new flips j ++ map (id_of (λ (q : ℕ). get_or flips q 0)) (cond b (j ∷ []) [])) one
