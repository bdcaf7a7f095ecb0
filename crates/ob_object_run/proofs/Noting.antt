-- Numbers noted at names of calls, one more.
use Rattle.std.proofs.Common.{◌≡◌, refl, sym, ap, ◌∙◌, subst, ℕ, ◌+◌, ◌<◌, ◌≤◌, zero, suc, Bool, true, cond, ◌↔◌, List, [], ◌∷◌, ◌++◌, length, get_or, map, set, Option, Some, None, arith, inl, inr, Global, Vec}
use Rattle.std.proofs.Math.Seq.{map-set_same}
use Rattle.std.proofs.lemmas.Bool.{cases_eq}
use Rattle.std.proofs.lemmas.List.{get_or_past, get_or-set_same, get_or-set_other, length-map, map-set}
use Rattle.std.specs.Prelude.{slice_get, Contains}
use Rattle.std.specs.Map.{lookup}
use Rattle.std.specs.Option.{IsSome, is_some}
use Rattle.wf_history.specs.declared.event.CallId.{CallId}
use Rattle.wf_history.proofs.Positions.{place_here, same_call}
use Rattle.ob_object_run.specs.Noted.{first_of}
use Rattle.ob_object_run.specs.Places.{same_id}
use Rattle.ob_object_run.specs.Rows.{in_row, in_rows}
use Rattle.ob_object_run.proofs.Placing.{is_same_id, set_more}

-- nothing is looked up where there are no entries
pub nothing : {K : Type 0} (test : K → Bool) (entries : List (K × ℕ)) → length entries ≡ 0 → lookup test entries ≡ None
nothing test [] none = refl
nothing test (e ∷ entries) none = absurd (omega (arith, none))

abbrev items : Vec ℕ Global → List ℕ
items = λ row. row.items

in_none : (n : ℕ) → in_row [] n ≡ None
in_none zero = refl
in_none (suc before) = refl

-- a name of no row
pub no_row : (rows : List (Vec ℕ Global)) (id : CallId) → length rows ≤ id.process → in_rows (map items rows) id ≡ None
no_row rows id past =
    let all : length (map items rows) ≤ id.process = rw length-map past in
    ap (λ (row : List ℕ). in_row row id.number) (get_or_past (map items rows) id.process [] all) ∙ in_none id.number

-- a row that was only read stands as before
pub rows_kept : (rows : List (Vec ℕ Global)) (p : ℕ) (row : Vec ℕ Global) → row ≡ get_or rows p row → map items (set rows p row) ≡ map items rows
rows_kept rows p row is = map-set_same items rows p row row (ap items is)

-- no name has the number 0
at_zero : (row : List ℕ) (n : ℕ) → n ≡ 0 → in_row row n ≡ None
at_zero row zero e = refl
at_zero row (suc before) e = absurd (omega (arith, e))

pub no_number : (rows : List (List ℕ)) (id : CallId) → id.number ≡ 0 → in_rows rows id ≡ None
no_number rows id = at_zero (get_or rows id.process []) id.number

-- a name of a row
at_number : (row : List ℕ) (n before : ℕ) → n ≡ before + 1 → in_row row n ≡ slice_get row before
at_number row zero before e = absurd (omega (arith, e))
at_number row (suc k) before e = ap (slice_get row) (omega (arith, e))

own_row : (rows : List (Vec ℕ Global)) (p : ℕ) (row : Vec ℕ Global) → p < length rows → row ≡ get_or rows p row → get_or (map items rows) p [] ≡ items row
own_row [] p row below is = absurd (omega (arith, below))
own_row (r ∷ rows) zero row below is = ap items (sym is)
own_row (r ∷ rows) (suc p) row below is = own_row rows p row (omega (arith, below)) is

pub row_here : (rows : List (Vec ℕ Global)) (id : CallId) (row : Vec ℕ Global) (before : ℕ) → id.process < length rows → row ≡ get_or rows id.process row → id.number ≡ before + 1 →
    in_rows (map items rows) id ≡ slice_get (items row) before
row_here rows id row before below is number =
    ap (λ (r : List ℕ). in_row r id.number) (own_row rows id.process row below is) ∙ at_number (items row) id.number before number

none_at : (rows : List (Vec ℕ Global)) (row : Vec ℕ Global) → items row ≡ [] → (p n : ℕ) → in_row (get_or (map items rows) p []) n ≡ None → in_row (get_or (map items (rows ++ row ∷ [])) p []) n ≡ None
none_at [] row empty zero n h = ap (λ (r : List ℕ). in_row r n) empty ∙ in_none n
none_at [] row empty (suc p) n h = in_none n
none_at (r ∷ rows) row empty zero n h = h
none_at (r ∷ rows) row empty (suc p) n h = none_at rows row empty p n h

-- rows without names, one more
pub none_more : (rows more : List (Vec ℕ Global)) (row : Vec ℕ Global) → more ≡ rows ++ row ∷ [] → items row ≡ [] → ((q : CallId) → in_rows (map items rows) q ≡ None) → (q : CallId) → in_rows (map items more) q ≡ None
none_more rows more row grows empty none q = rw grows (none_at rows row empty q.process q.number (none q))

pub none_first : (q : CallId) → in_rows [] q ≡ None
none_first q = in_none q.number

-- a row with one number more
got_left : (row : List ℕ) (x k : ℕ) → (k ≡ length row → ⊥) → slice_get (row ++ x ∷ []) k ≡ slice_get row k
got_left [] x zero other = absurd (other refl)
got_left [] x (suc k) other = refl
got_left (y ∷ row) x zero other = refl
got_left (y ∷ row) x (suc k) other = got_left row x k (λ e. other (ap suc e))

row_left : (row : List ℕ) (x n : ℕ) → (n ≡ length row + 1 → ⊥) → in_row (row ++ x ∷ []) n ≡ in_row row n
row_left row x zero other = refl
row_left row x (suc k) other = got_left row x k (λ e. other (omega (arith, e)))

row_pushed : (row : List ℕ) (x n : ℕ) → n ≡ length row + 1 → in_row (row ++ x ∷ []) n ≡ Some x
row_pushed row x n e = at_number (row ++ x ∷ []) n (length row) e ∙ place_here row [] x

module _ (rows : List (List ℕ)) (id : CallId) (x : ℕ) (below : id.process < length rows) (next : id.number ≡ length (get_or rows id.process []) + 1) where
  abbrev pub own : List ℕ
  own = get_or rows id.process []

  -- the rows with the number at the name
  pub rows_more : (q : CallId) → in_rows (set rows id.process (own ++ x ∷ [])) q ≡ cond (same_id id q) (Some x) (in_rows rows q)
  rows_more q =
      elim (is_same_id id q) [
        | inl same ↦
            subst (λ (b : Bool). in_rows (set rows id.process (own ++ x ∷ [])) q ≡ cond b (Some x) (in_rows rows q)) (sym same.0)
            (subst (λ (i : CallId). in_rows (set rows id.process (own ++ x ∷ [])) i ≡ Some x) same.1
            (ap (λ (row : List ℕ). in_row row id.number) (get_or-set_same rows id.process (own ++ x ∷ []) [] below) ∙ row_pushed own x id.number next))
        | inr other ↦
            subst (λ (b : Bool). in_rows (set rows id.process (own ++ x ∷ [])) q ≡ cond b (Some x) (in_rows rows q)) (sym other.0)
            (elim (cases_eq q.process id.process) [
              | inl e ↦
                  let here : get_or (set rows id.process (own ++ x ∷ [])) q.process [] ≡ own ++ x ∷ [] = ap (λ (p : ℕ). get_or (set rows id.process (own ++ x ∷ [])) p []) e ∙ get_or-set_same rows id.process (own ++ x ∷ []) [] below in
                  let before : get_or rows q.process [] ≡ own = ap (λ (p : ℕ). get_or rows p []) e in
                  ap (λ (row : List ℕ). in_row row q.number) here
                  ∙ row_left own x q.number (λ n. other.1 (same_call id q (sym e) (next ∙ sym n)))
                  ∙ ap (λ (row : List ℕ). in_row row q.number) (sym before)
              | inr ne ↦ ap (λ (row : List ℕ). in_row row q.number) (get_or-set_other rows id.process q.process (own ++ x ∷ []) [] ne)
            ])
      ]

-- a row gets the number, where nothing is looked up
pub noted_in_row : (has : CallId → Option ℕ) (rows : List (Vec ℕ Global)) (id : CallId) (x : ℕ) (row more : Vec ℕ Global) → ((q : CallId) → has q ≡ None) → id.process < length rows → row ≡ get_or rows id.process row →
    id.number ≡ length (items row) + 1 → items more ≡ items row ++ x ∷ [] →
    (q : CallId) → first_of (has q) (in_rows (map items (set rows id.process more)) q) ≡ cond (same_id id q) (Some x) (first_of (has q) (in_rows (map items rows) q))
noted_in_row has rows id x row more none below is next pushed q =
    let here = own_row rows id.process row below is in
    let within : id.process < length (map items rows) = rw length-map below in
    let after : map items (set rows id.process more) ≡ set (map items rows) id.process (get_or (map items rows) id.process [] ++ x ∷ []) =
    map-set items rows id.process more ∙ ap (set (map items rows) id.process) (pushed ∙ ap (λ (r : List ℕ). r ++ x ∷ []) (sym here)) in
    let new = rows_more (map items rows) id x within (next ∙ ap (λ (r : List ℕ). length r + 1) (sym here)) q in
    ap (λ (o : Option ℕ). first_of o (in_rows (map items (set rows id.process more)) q)) (none q)
    ∙ ap (λ (rs : List (List ℕ)). in_rows rs q) after ∙ new
    ∙ ap (λ (o : Option ℕ). cond (same_id id q) (Some x) (first_of o (in_rows (map items rows) q))) (sym (none q))

-- a number that is looked up from then on
pub noted_by_hash : (has more : CallId → Option ℕ) (rows : List (List ℕ)) (id : CallId) (x : ℕ) → ((q : CallId) → more q ≡ cond (same_id id q) (Some x) (has q)) →
    (q : CallId) → first_of (more q) (in_rows rows q) ≡ cond (same_id id q) (Some x) (first_of (has q) (in_rows rows q))
noted_by_hash has more rows id x new q =
    ap (λ (o : Option ℕ). first_of o (in_rows rows q)) (new q)
    ∙ elim (is_same_id id q) [
      | inl same ↦ subst (λ (b : Bool). first_of (cond b (Some x) (has q)) (in_rows rows q) ≡ cond b (Some x) (first_of (has q) (in_rows rows q))) (sym same.0) refl
      | inr other ↦ subst (λ (b : Bool). first_of (cond b (Some x) (has q)) (in_rows rows q) ≡ cond b (Some x) (first_of (has q) (in_rows rows q))) (sym other.0) refl
    ]

-- the names of a list, with one more
pub names_more : (has more : CallId → Option ℕ) (ids : List CallId) (id : CallId) (x : ℕ) → ((q : CallId) → IsSome (has q) ↔ Contains ids q) → ((q : CallId) → more q ≡ cond (same_id id q) (Some x) (has q)) →
    (q : CallId) → IsSome (more q) ↔ Contains (ids ++ id ∷ []) q
names_more has more ids id x h new =
    set_more (λ q. is_some (has q)) (λ q. is_some (more q)) ids id h
    (λ q. ap is_some (new q) ∙ elim (is_same_id id q) [
      | inl same ↦ subst (λ (b : Bool). is_some (cond b (Some x) (has q)) ≡ cond b true (is_some (has q))) (sym same.0) refl
      | inr other ↦ subst (λ (b : Bool). is_some (cond b (Some x) (has q)) ≡ cond b true (is_some (has q))) (sym other.0) refl
    ])
