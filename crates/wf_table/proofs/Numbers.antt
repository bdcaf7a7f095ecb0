-- Calls in an order whose own numbers are in turn: which are in it, and none twice.
use Rattle.std.proofs.Common.{◌≡◌, ℕ, zero, suc, ◌+◌, ◌-◌, ◌<◌, ◌≤◌, Bool, true, false, List, [], ◌∷◌, length, get_or, refl, sym, ap, ◌∙◌, arith, cond, inl, inr, eqb, subst}
use Rattle.std.specs.List.{range_with_len, Contains}
use Rattle.std.proofs.lemmas.Bool.{eq-eqb, eqb-true, false≢true}
use Rattle.std.proofs.lemmas.List.FromFn.{length-range_with_len, get_or-range_with_len}
use Rattle.std.proofs.lemmas.List.Elements.{Contains-append_cases, Contains-append_right}
use Rattle.wf_history.specs.declared.event.CallId.{CallId}
use Rattle.wf_history.specs.Legal.{NoRepeats}
use Rattle.wf_table.specs.Order.{own_numbers, applied_count}

first_is : {X : Type 0} (x : X) (xs : List X) → Contains (x ∷ xs) x
first_is x xs = (0, omega arith, refl)

only : (x n k : ℕ) → k < 1 → get_or (x ∷ []) k n ≡ n → x ≡ n
only x n zero lt e = e
only x n (suc k) lt e = absurd (omega (arith, lt))

within_one : (x n : ℕ) → Contains (x ∷ []) n → x ≡ n
within_one x n h = only x n h.0 h.1 h.2

pub in_range : (a n k : ℕ) → Contains (range_with_len a n) k → (a ≤ k) × (k < a + n)
in_range a n k h =
    let lt : h.0 < n = omega (arith, h.1, length-range_with_len a n) in
    let is : k ≡ a + h.0 = sym h.2 ∙ get_or-range_with_len a n h.0 k lt in
    (omega (arith, is), omega (arith, is, lt))

range_has : (a n k : ℕ) → a ≤ k → k < a + n → Contains (range_with_len a n) k
range_has a n k le lt = (k - a, omega (arith, le, lt, length-range_with_len a n), get_or-range_with_len a n (k - a) k (omega (arith, le, lt)) ∙ omega (arith, le))

-- by whether the first call is the process's
own_first : (b : Bool) (x n : ℕ) (rest : List ℕ) → b ≡ true → x ≡ n → Contains (cond b (x ∷ rest) rest) n
own_first true x n rest e same = subst (λ (k : ℕ). Contains (k ∷ rest) n) (sym same) (first_is n rest)
own_first false x n rest e same = absurd (false≢true e)

own_later : (b : Bool) (x n : ℕ) (rest : List ℕ) → Contains rest n → Contains (cond b (x ∷ rest) rest) n
own_later true x n rest h = Contains-append_right (x ∷ []) rest n h
own_later false x n rest h = h

number_at : (ids : List CallId) (id : CallId) (k : ℕ) → k < length ids → get_or ids k id ≡ id → Contains (own_numbers id.process ids) id.number
number_at [] id k lt e = absurd (omega (arith, lt))
number_at (x ∷ xs) id zero lt e = own_first (eqb x.process id.process) x.number id.number (own_numbers id.process xs) (eq-eqb x.process id.process (ap (λ (i : CallId). i.process) e)) (ap (λ (i : CallId). i.number) e)
number_at (x ∷ xs) id (suc k) lt e = own_later (eqb x.process id.process) x.number id.number (own_numbers id.process xs) (number_at xs id k (omega (arith, lt)) e)

id_by : (b : Bool) (x : CallId) (xs : List CallId) (p n : ℕ) → (b ≡ true → x.process ≡ p) → (Contains (own_numbers p xs) n → Contains xs (record { process = p; number = n })) → Contains (cond b (x.number ∷ own_numbers p xs) (own_numbers p xs)) n → Contains (x ∷ xs) (record { process = p; number = n })
id_by true x xs p n own later h =
    elim (Contains-append_cases (x.number ∷ []) (own_numbers p xs) n h) [
      | inl here ↦ (let is : x ≡ record { process = p; number = n } = ap (λ (k : ℕ). record { process = k; number = x.number }) (own refl) ∙ ap (λ (k : ℕ). record { process = p; number = k }) (within_one x.number n here) in
          subst (λ (i : CallId). Contains (x ∷ xs) i) is (first_is x xs))
      | inr there ↦ Contains-append_right (x ∷ []) xs (record { process = p; number = n }) (later there)
    ]
id_by false x xs p n own later h = Contains-append_right (x ∷ []) xs (record { process = p; number = n }) (later h)

id_of_number : (ids : List CallId) (p n : ℕ) → Contains (own_numbers p ids) n → Contains ids (record { process = p; number = n })
id_of_number [] p n h = absurd (omega (arith, h.1))
id_of_number (x ∷ xs) p n h = id_by (eqb x.process p) x xs p n (eqb-true x.process p) (id_of_number xs p n) h

-- the calls of a process in an order are its first ones
pub in_order : (order : List CallId) (p n : ℕ) → own_numbers p order ≡ range_with_len 1 (applied_count order p) → 0 < n → n ≤ applied_count order p → Contains order (record { process = p; number = n })
in_order order p n turns some most = id_of_number order p n (subst (λ (ns : List ℕ). Contains ns n) (sym turns) (range_has 1 (applied_count order p) n (omega (arith, some)) (omega (arith, most))))

pub order_below : (order : List CallId) (id : CallId) → own_numbers id.process order ≡ range_with_len 1 (applied_count order id.process) → Contains order id → (0 < id.number) × (id.number ≤ applied_count order id.process)
order_below order id turns h =
    let within = in_range 1 (applied_count order id.process) id.number (subst (λ (ns : List ℕ). Contains ns id.number) turns (number_at order id h.0 h.1 h.2)) in
    (omega (arith, within.0), omega (arith, within.1))

-- numbers in turn, from one of them on
abbrev IsTurns : List ℕ → Type 0
IsTurns ns = (a : ℕ) × (ns ≡ range_with_len a (length ns))

turns_rest : (b : Bool) (n : ℕ) (ns : List ℕ) → IsTurns (cond b (n ∷ ns) ns) → IsTurns ns
turns_rest true n ns h = (h.0 + 1, (let e : n ∷ ns ≡ h.0 ∷ range_with_len (h.0 + 1) (length ns) = h.1 in cc))
turns_rest false n ns h = h

turns_first : (b : Bool) (n : ℕ) (ns : List ℕ) → b ≡ true → IsTurns (cond b (n ∷ ns) ns) → ¬ Contains ns n
turns_first true n ns own h within =
    let e : n ∷ ns ≡ h.0 ∷ range_with_len (h.0 + 1) (length ns) = h.1 in
    let first : n ≡ h.0 = cc in
    let rest : ns ≡ range_with_len (h.0 + 1) (length ns) = cc in
    let above = in_range (h.0 + 1) (length ns) n (subst (λ (ms : List ℕ). Contains ms n) rest within) in
    absurd (omega (arith, above.0, first))
turns_first false n ns own h within = absurd (false≢true own)

pub no_repeats : (ids : List CallId) → ((k : ℕ) → IsTurns (own_numbers k ids)) → NoRepeats ids
no_repeats [] h = tt
no_repeats (x ∷ xs) h = (
  (λ within. turns_first (eqb x.process x.process) x.number (own_numbers x.process xs) (eq-eqb x.process x.process refl) (h x.process) (number_at xs x within.0 within.1 within.2)),
  no_repeats xs (λ k. turns_rest (eqb x.process k) x.number (own_numbers k xs) (h k)),
)
