-- Rows of processes, as they grow.
use Rattle.std.proofs.Common.{◌≡◌, ◌≢◌, ◌∙◌, refl, ap, ℕ, ◌<◌, zero, suc, List, [], ◌∷◌, ◌++◌, length, get_or, set, slice_get, Some, None, Vec, Global, arith}
use Rattle.std.proofs.lemmas.List.{get_or-set_same, length-map, map-append}
use Rattle.std.proofs.lemmas.Option.{get_or_from_slice_get, slice_get-map}
use Rattle.std.specs.Prelude.{option_map}
use Rattle.wf_history.specs.declared.event.CallId.{CallId}
use Rattle.wf_order.proofs.Lists.{pushed_at}
use Rattle.wf_order.specs.Rows.{row_of}
use Rattle.wf_parts.specs.Split.{AreLonger}
use Rattle.wf_parts.specs.View.{rows_in}

-- a row without numbers is one that is not there
row_empty : (rows : List (List ℕ)) (row : List ℕ) → row ≡ [] → (q : ℕ) → row_of (rows ++ row ∷ []) q ≡ row_of rows q
row_empty [] row e zero = e
row_empty [] row e (suc q) = refl
row_empty (r ∷ rows) row e zero = refl
row_empty (r ∷ rows) row e (suc q) = row_empty rows row e q

pub rows_more : (old new : List (Vec ℕ Global)) (row : Vec ℕ Global) → new ≡ old ++ row ∷ [] → row.items ≡ [] → (q : ℕ) → row_of (rows_in new) q ≡ row_of (rows_in old) q
rows_more old new row pushed none q =
    ap (λ (rows : List (Vec ℕ Global)). row_of (rows_in rows) q) pushed
    ∙ ap (λ (rows : List (List ℕ)). row_of rows q) (map-append (λ (r : Vec ℕ Global). r.items) old (row ∷ []))
    ∙ row_empty (rows_in old) row.items none q

-- a number at the end of a row
pub longer : (old mid new : List (Vec ℕ Global)) (id : CallId) (row next : Vec ℕ Global) → ((q : ℕ) → row_of (rows_in mid) q ≡ row_of (rows_in old) q) → id.process < length mid →
    row ≡ get_or mid id.process row → next.items ≡ row.items ++ id.number ∷ [] → new ≡ set mid id.process next → AreLonger (rows_in old) (rows_in new) id
longer old mid new id row next same within is pushed changed =
    let size = length-map mid (λ (r : Vec ℕ Global). r.items) in
    let rows : rows_in new ≡ set (rows_in mid) id.process (row_of (rows_in mid) id.process ++ id.number ∷ []) =
    ap rows_in changed ∙ pushed_at (λ (r : Vec ℕ Global). r.items) mid id.process row next id.number within is pushed in
    record {
      own = ap (λ (rs : List (List ℕ)). row_of rs id.process) rows
          ∙ get_or-set_same (rows_in mid) id.process (row_of (rows_in mid) id.process ++ id.number ∷ []) [] (omega (arith, within, size))
          ∙ ap (λ (r : List ℕ). r ++ id.number ∷ []) (same id.process);
      others = λ q apart.
          ap (λ (rs : List (List ℕ)). row_of rs q) rows
          ∙ other_row q apart
          ∙ same q;
    }
  where
    set_other : {A : Type 0} (xs : List A) (i k : ℕ) (y d : A) → k ≢ i → get_or (set xs i y) k d ≡ get_or xs k d
    set_other [] i k y d apart = refl
    set_other (x ∷ xs) zero zero y d apart = absurd (apart refl)
    set_other (x ∷ xs) zero (suc k) y d apart = refl
    set_other (x ∷ xs) (suc i) zero y d apart = refl
    set_other (x ∷ xs) (suc i) (suc k) y d apart = set_other xs i k y d (λ e. apart (ap suc e))

    other_row : (q : ℕ) → q ≢ id.process → row_of (set (rows_in mid) id.process (row_of (rows_in mid) id.process ++ id.number ∷ [])) q ≡ row_of (rows_in mid) q
    other_row q apart = set_other (rows_in mid) id.process q (row_of (rows_in mid) id.process ++ id.number ∷ []) [] apart

-- the row that is looked up
pub row_found : (rows : List (Vec ℕ Global)) (q : ℕ) (row : Vec ℕ Global) → slice_get rows q ≡ Some row → row_of (rows_in rows) q ≡ row.items
row_found rows q row at = get_or_from_slice_get (rows_in rows) q row.items [] (slice_get-map (λ (r : Vec ℕ Global). r.items) rows q ∙ ap (option_map (λ (r : Vec ℕ Global). r.items)) at)

pub row_missing : (rows : List (Vec ℕ Global)) (q : ℕ) → slice_get rows q ≡ None → row_of (rows_in rows) q ≡ []
row_missing [] q at = refl
row_missing (r ∷ rows) zero at = absurd (cc)
row_missing (r ∷ rows) (suc q) at = row_missing rows q at
