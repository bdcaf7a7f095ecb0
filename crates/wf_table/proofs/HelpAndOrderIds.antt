-- The ids of an Applied event, as each process finds its own among them.
use Rattle.std.proofs.Common.{◌≡◌, ◌≢◌, ℕ, zero, suc, ◌+◌, ◌<◌, ◌≤◌, Bool, true, false, List, [], ◌∷◌, ◌++◌, length, map, refl, sym, ap, ◌∙◌, arith, cond, inl, inr, eqb, length-append}
use Rattle.std.specs.List.{range_with_len, filter}
use Rattle.std.proofs.lemmas.Bool.{cases_eq, eq-eqb, eqb-true}
use Rattle.wf_history.specs.declared.event.CallId.{CallId}
use Rattle.wf_table.specs.Order.{own_numbers, applied_count}

cond_append : {X : Type 0} (b : Bool) (x : X) (xs ys zs : List X) → xs ++ ys ≡ zs → cond b (x ∷ xs) xs ++ ys ≡ cond b (x ∷ zs) zs
cond_append {X = X} true x xs ys zs e = ap (λ (l : List X). x ∷ l) e
cond_append {X = X} false x xs ys zs e = e

pub own_numbers-append : (p : ℕ) (xs ys : List CallId) → own_numbers p (xs ++ ys) ≡ own_numbers p xs ++ own_numbers p ys
own_numbers-append p [] ys = refl
own_numbers-append p (id ∷ xs) ys = sym (cond_append (eqb id.process p) id.number (own_numbers p xs) (own_numbers p ys) (own_numbers p (xs ++ ys)) (sym (own_numbers-append p xs ys)))

pub applied_more : (p : ℕ) (order ids : List CallId) → applied_count (order ++ ids) p ≡ applied_count order p + applied_count ids p
applied_more p order ids = ap length (own_numbers-append p order ids) ∙ length-append (own_numbers p order) (own_numbers p ids)

-- the ids of the processes that pass a test
abbrev pub ids_of : (ℕ → Bool) → (ℕ → ℕ) → List ℕ → List CallId
ids_of test number ps = map (λ q. record { process = q; number = number q }) (filter test ps)

pub not_true : (b : Bool) → b ≢ true → b ≡ false
not_true true d = absurd (d refl)
not_true false d = refl

not_its : (b own : Bool) (number : ℕ) (rest : List ℕ) → own ≡ false → cond b (cond own (number ∷ rest) rest) rest ≡ rest
not_its true own number rest e = ap (λ (o : Bool). cond o (number ∷ rest) rest) e
not_its false own number rest e = refl

its : (b own : Bool) (number : ℕ) (rest : List ℕ) → own ≡ true → rest ≡ [] → cond b (cond own (number ∷ rest) rest) rest ≡ cond b (number ∷ []) []
its true own number rest e none = ap (λ (o : Bool). cond o (number ∷ rest) rest) e ∙ ap (λ (xs : List ℕ). number ∷ xs) none
its false own number rest e none = none

module _ (test : ℕ → Bool) (number : ℕ → ℕ) where
  first : (k a : ℕ) (rest : List ℕ) (b : Bool) → own_numbers k (map (λ (q : ℕ). record { process = q; number = number q }) (cond b (a ∷ filter test rest) (filter test rest))) ≡ cond b (cond (eqb a k) (number a ∷ own_numbers k (ids_of test number rest)) (own_numbers k (ids_of test number rest))) (own_numbers k (ids_of test number rest))
  first k a rest true = refl
  first k a rest false = refl

  none_below : (k a n : ℕ) → k < a → own_numbers k (ids_of test number (range_with_len a n)) ≡ []
  none_below k a zero lt = refl
  none_below k a (suc n) lt =
      first k a (range_with_len (a + 1) n) (test a)
      ∙ not_its (test a) (eqb a k) (number a) (own_numbers k (ids_of test number (range_with_len (a + 1) n))) (not_true (eqb a k) (λ e. absurd (omega (arith, lt, eqb-true a k e))))
      ∙ none_below k (a + 1) n (omega (arith, lt))

  pub own_numbers-ids : (k a n : ℕ) → a ≤ k → k < a + n → own_numbers k (ids_of test number (range_with_len a n)) ≡ cond (test k) (number k ∷ []) []
  own_numbers-ids k a zero le lt = absurd (omega (arith, le, lt))
  own_numbers-ids k a (suc n) le lt =
      first k a (range_with_len (a + 1) n) (test a)
      ∙ elim (cases_eq k a) [
        | inl e ↦ its (test a) (eqb a k) (number a) (own_numbers k (ids_of test number (range_with_len (a + 1) n))) (eq-eqb a k (sym e)) (none_below k (a + 1) n (omega (arith, e))) ∙ ap (λ (m : ℕ). cond (test m) (number m ∷ []) []) (sym e)
        | inr d ↦ not_its (test a) (eqb a k) (number a) (own_numbers k (ids_of test number (range_with_len (a + 1) n))) (not_true (eqb a k) (λ e. d (sym (eqb-true a k e)))) ∙ own_numbers-ids k (a + 1) n (omega (arith, le, d)) (omega (arith, lt))
      ]

  pub none_above : (k a n : ℕ) → a + n ≤ k → own_numbers k (ids_of test number (range_with_len a n)) ≡ []
  none_above k a zero le = refl
  none_above k a (suc n) le =
      first k a (range_with_len (a + 1) n) (test a)
      ∙ not_its (test a) (eqb a k) (number a) (own_numbers k (ids_of test number (range_with_len (a + 1) n))) (not_true (eqb a k) (λ e. absurd (omega (arith, le, eqb-true a k e))))
      ∙ none_above k (a + 1) n (omega (arith, le))

pub range_snoc : (a n : ℕ) → range_with_len a n ++ (a + n) ∷ [] ≡ range_with_len a (suc n)
range_snoc a zero = (let same : a + 0 ≡ a = omega arith in ap (λ (k : ℕ). k ∷ []) same)
range_snoc a (suc n) = (let same : a + suc n ≡ a + 1 + n = omega arith in rw same (ap (λ (xs : List ℕ). a ∷ xs) (range_snoc (a + 1) n)))
