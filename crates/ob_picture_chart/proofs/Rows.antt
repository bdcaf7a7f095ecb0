-- Places of calls, one more.
use Rattle.std.proofs.Common.{◌≡◌, ap, ◌∙◌, sym, refl, ℕ, ◌-◌, ◌<◌, ◌≤◌, zero, suc, Bool, true, false, cond, List, [], ◌∷◌, ◌++◌, length, get_or, set, Option, Some, None, arith, inl, inr, ltb}
use Rattle.std.proofs.lemmas.Bool.{and_left, and_right, cases_eq, cases_lt, eq-eqb, ne_eqb, lt-ltb, le-ltb}
use Rattle.std.specs.Map.{lookup}
use Rattle.std.specs.Prelude.{slice_get, nat_eq, ◌&&◌}
use Rattle.ob_picture_chart.specs.Places.{at_row, in_row, in_rows, place_from, place_or}
use Rattle.ob_picture_chart.specs.Same.{is_same}
use Rattle.ob_picture_chart.specs.declared.row.Row.{Row}
use Rattle.wf_history.specs.declared.event.CallId.{CallId}

either_way : (b : Bool) (x : ℕ) → cond b x x ≡ x
either_way true x = refl
either_way false x = refl

get_here : (places : List ℕ) (x k : ℕ) → k ≡ length places → get_or (places ++ x ∷ []) k 0 ≡ x
get_here [] x zero e = refl
get_here [] x (suc k) e = absurd (omega (arith, e))
get_here (y ∷ places) x zero e = absurd (omega (arith, e))
get_here (y ∷ places) x (suc k) e = get_here places x k (omega (arith, e))

get_else : (places : List ℕ) (x k : ℕ) → (k ≡ length places → ⊥) → get_or (places ++ x ∷ []) k 0 ≡ get_or places k 0
get_else [] x zero other = absurd (other refl)
get_else [] x (suc k) other = refl
get_else (y ∷ places) x zero other = refl
get_else (y ∷ places) x (suc k) other = get_else places x k (λ e. other (omega (arith, e)))

-- a row without places
none_from : (first : ℕ) (places : List ℕ) (n : ℕ) → length places ≡ 0 → place_from first places n ≡ 0
none_from first [] n e = either_way (ltb n first) 0
none_from first (x ∷ places) n e = absurd (omega (arith, e))

-- a row with one place more
pub place_pushed : (first number place : ℕ) (places : List ℕ) → first ≤ number → number - first ≡ length places →
    (n : ℕ) → place_from first (places ++ place ∷ []) n ≡ cond (nat_eq number n) place (place_from first places n)
place_pushed first number place places low next n =
    elim (cases_eq number n) [
      | inl same ↦
          ap (λ (b : Bool). cond b 0 (get_or (places ++ place ∷ []) (n - first) 0)) (le-ltb n first (omega (arith, low, same)))
          ∙ get_here places place (n - first) (omega (arith, next, same))
          ∙ sym (ap (λ (b : Bool). cond b place (place_from first places n)) (eq-eqb number n same))
      | inr other ↦
          elim (cases_lt n first) [
            | inl low_too ↦ ap (λ (b : Bool). cond b 0 (get_or (places ++ place ∷ []) (n - first) 0)) (lt-ltb n first low_too)
                ∙ sym (ap (λ (b : Bool). cond b 0 (get_or places (n - first) 0)) (lt-ltb n first low_too))
            | inr above ↦ ap (cond (ltb n first) 0) (get_else places place (n - first) (λ e. other (omega (arith, e, next, low, above))))
          ]
          ∙ sym (ap (λ (b : Bool). cond b place (place_from first places n)) (ne_eqb number n other))
    ]

-- the first place of a row
pub place_first : (first number place : ℕ) (places : List ℕ) → length places ≡ 0 → (n : ℕ) → place_from number (places ++ place ∷ []) n ≡ cond (nat_eq number n) place (place_from first places n)
place_first first number place places empty n =
    place_pushed number number place places (omega arith) (omega (arith, empty)) n
    ∙ ap (cond (nat_eq number n) place) (none_from number places n empty ∙ sym (none_from first places n empty))

row_here : (rows : List Row) (p : ℕ) (row : Row) → p < length rows → slice_get (set rows p row) p ≡ Some row
row_here [] p row below = absurd (omega (arith, below))
row_here (r ∷ rows) zero row below = refl
row_here (r ∷ rows) (suc p) row below = row_here rows p row (omega (arith, below))

row_else : (rows : List Row) (p q : ℕ) (row : Row) → (q ≡ p → ⊥) → slice_get (set rows p row) q ≡ slice_get rows q
row_else [] p q row other = refl
row_else (r ∷ rows) zero zero row other = absurd (other refl)
row_else (r ∷ rows) zero (suc q) row other = refl
row_else (r ∷ rows) (suc p) zero row other = refl
row_else (r ∷ rows) (suc p) (suc q) row other = row_else rows p q row (λ e. other (ap suc e))

row_before : (rows : List Row) (p : ℕ) (row : Row) → p < length rows → row ≡ get_or rows p row → slice_get rows p ≡ Some row
row_before [] p row below is = absurd (omega (arith, below))
row_before (r ∷ rows) zero row below is = ap Some (sym is)
row_before (r ∷ rows) (suc p) row below is = row_before rows p row (omega (arith, below)) is

-- rows, one of which has changed at one number, if at any
pub rows_pushed : (rows : List Row) (id : CallId) (place : ℕ) (pushed : Bool) (old new : Row) → id.process < length rows → old ≡ get_or rows id.process old →
    ((n : ℕ) → in_row new n ≡ cond (pushed && nat_eq id.number n) place (in_row old n)) →
    (q : CallId) → in_rows (set rows id.process new) q ≡ cond (pushed && is_same id q) place (in_rows rows q)
rows_pushed rows id place pushed old new below is row q =
    elim (cases_eq id.process q.process) [
      | inl same ↦
          let after : slice_get (set rows id.process new) q.process ≡ Some new = ap (slice_get (set rows id.process new)) (sym same) ∙ row_here rows id.process new below in
          let before : slice_get rows q.process ≡ Some old = ap (slice_get rows) (sym same) ∙ row_before rows id.process old below is in
          let test : is_same id q ≡ nat_eq id.number q.number = ap (λ (b : Bool). b && nat_eq id.number q.number) (eq-eqb id.process q.process same) in
          ap (λ (r : Option Row). at_row r q.number) after
          ∙ row q.number
          ∙ ap (λ (b : Bool). cond (pushed && b) place (in_row old q.number)) (sym test)
          ∙ ap (λ (r : Option Row). cond (pushed && is_same id q) place (at_row r q.number)) (sym before)
      | inr other ↦
          let test : (pushed && is_same id q) ≡ false = and_right pushed (is_same id q) (and_left (nat_eq id.process q.process) (nat_eq id.number q.number) (ne_eqb id.process q.process other)) in
          ap (λ (r : Option Row). at_row r q.number) (row_else rows id.process q.process new (λ e. other (sym e)))
          ∙ sym (ap (λ (b : Bool). cond b place (in_rows rows q)) test)
    ]

none_at : (rows : List Row) (row : Row) (p n : ℕ) → at_row (slice_get rows p) n ≡ 0 → ((k : ℕ) → in_row row k ≡ 0) → at_row (slice_get (rows ++ row ∷ []) p) n ≡ 0
none_at [] row zero n h none = none n
none_at [] row (suc p) n h none = refl
none_at (r ∷ rows) row zero n h none = h
none_at (r ∷ rows) row (suc p) n h none = none_at rows row p n h none

-- rows without places, and one more
pub none_more : (rows more : List Row) (row : Row) → more ≡ rows ++ row ∷ [] → ((q : CallId) → in_rows rows q ≡ 0) → ((n : ℕ) → in_row row n ≡ 0) → (q : CallId) → in_rows more q ≡ 0
none_more rows more row grows before none q = ap (λ (rs : List Row). in_rows rs q) grows ∙ none_at rows row q.process q.number (before q) none

-- nothing is looked up where there are no entries
pub nothing : {K : Type 0} (test : K → Bool) (entries : List (K × ℕ)) → length entries ≡ 0 → lookup test entries ≡ None
nothing test [] none = refl
nothing test (e ∷ entries) none = absurd (omega (arith, none))

-- the place is in a row, and nothing is looked up
pub noted_in_row : (has : CallId → Option ℕ) (rows more : List Row) (id : CallId) (place : ℕ) → ((q : CallId) → has q ≡ None) →
    ((q : CallId) → in_rows more q ≡ cond (true && is_same id q) place (in_rows rows q)) →
    (q : CallId) → place_or (has q) (in_rows more q) ≡ cond (is_same id q) place (place_or (has q) (in_rows rows q))
noted_in_row has rows more id place none pushed q =
    ap (λ (o : Option ℕ). place_or o (in_rows more q)) (none q)
    ∙ pushed q
    ∙ ap (λ (o : Option ℕ). cond (is_same id q) place (place_or o (in_rows rows q))) (sym (none q))

either : (b : Bool) (place : ℕ) (has : Option ℕ) (other : ℕ) → place_or (cond b (Some place) has) other ≡ cond b place (place_or has other)
either true place has other = refl
either false place has other = refl

-- the place is looked up from now on
pub noted_by_hash : (has more : CallId → Option ℕ) (old rows : List Row) (id : CallId) (place : ℕ) →
    ((q : CallId) → more q ≡ cond (is_same id q) (Some place) (has q)) → ((q : CallId) → in_rows rows q ≡ in_rows old q) →
    (q : CallId) → place_or (more q) (in_rows rows q) ≡ cond (is_same id q) place (place_or (has q) (in_rows old q))
noted_by_hash has more old rows id place new kept q =
    ap (λ (o : Option ℕ). place_or o (in_rows rows q)) (new q)
    ∙ ap (place_or (cond (is_same id q) (Some place) (has q))) (kept q)
    ∙ either (is_same id q) place (has q) (in_rows old q)
