-- Steps of one process in a row, as they change the cell, the process and what it has spent, are so many steps of the table.
use Rattle.std.proofs.Common.{◌≡◌, ℕ, zero, suc, ◌+◌, ◌-◌, ◌^◌, ◌<◌, ◌≤◌, Bool, true, false, List, length, set, refl, sym, ap, ◌∙◌, arith, subst, inl, inr, get_or-set_same}
use Rattle.std.specs.Prelude.{ℤ, Some, slice_get}
use Rattle.std.proofs.lemmas.Bool.{cases_lt}
use Rattle.std.proofs.lemmas.List.{set-get_or, set-set}
use Rattle.std.proofs.lemmas.Option.{same_Some, slice_get_within}
use Rattle.ll_cell.specs.Cell.{Cell, own_of}
use Rattle.ll_cell.specs.declared.form.Form.{Form}
use Rattle.ob_interface.specs.Call.{ObjectCall}
use Rattle.wf_table.specs.declared.engine_turn.EngineTurn.TheVariants.{On}
use Rattle.wf_table.specs.declared.process.Label.{Label}
use Rattle.wf_table.specs.declared.process.Label.TheVariants.{Next, Flip, Load, Store, Enter, Body, Commit, Give}
use Rattle.wf_table.specs.declared.process.Sizes.{Sizes}
use Rattle.wf_table.specs.declared.schedule.Turns.{Turns}
use Rattle.wf_table.specs.Meaning.{Meaning}
use Rattle.wf_table.specs.Law.{Effects, IsLawful}
use Rattle.wf_table.specs.Ranges.{IsInRange, IsShaped, IsSized}
use Rattle.wf_table.specs.Schedule.{counted}
use Rattle.wf_table.specs.Scripts.{CallsFit}
use Rattle.wf_table.specs.StepTable.{Process, cell_after, load, row, store}
use Rattle.wf_table.specs.Toggles.{StoresBit}
use Rattle.wf_table.specs.Object.{Records, State, event_at, label_by, label_of, noted, step_by, step_of, stepped}
use Rattle.wf_table.proofs.Stuck.{set_same}
use Rattle.wf_table.specs.declared.spent.Spent.{Spent}
use Rattle.wf_table.specs.Spent.{has_more, spent_after, unspent}
use Rattle.wf_table.specs.Counted.{count_by, spent_of}
use Rattle.wf_object.specs.InARow.{AreQuiet, after_steps, spent_after_steps}
use Rattle.wf_object.specs.InBody.{body_behind, cell_behind, process_behind}
use Rattle.wf_records.specs.Times.{counted_times}
use Rattle.wf_object.specs.Kept.{IsKept}
use Rattle.wf_object.specs.Progress.{AreUnmarked, IsInObject, Progress, by_row, by_rows, progress}
use Rattle.wf_records.specs.Spending.{outside_more}
use Rattle.wf_object.specs.Quiet.{is_quiet, is_unmarked}
use Rattle.wf_records.proofs.Counting.{written_there}
use Rattle.wf_object.proofs.InARow.{kept_after}
use Rattle.wf_object.proofs.InBody.{inside_more}
use Rattle.wf_object.proofs.Keeps.{step_kept}
use Rattle.wf_object.proofs.QuietSteps.{unmarked_quiet}
use Rattle.wf_object.proofs.Spends.{bodies_room, later, one_inside_more, outside_room}
use Rattle.wf_object.proofs.Staying.{body_inside, body_spends, body_steps}

pub outside_next : (x : Spent) (n : ℕ) → outside_more x (n + 1) ≡ outside_more (outside_more x n) 1
outside_next x n = let e : x.outside + (n + 1) ≡ x.outside + n + 1 = omega arith in ap (λ (k : ℕ). record x { outside = k }) e

pub outside_none : (x : Spent) → outside_more x 0 ≡ x
outside_none x = let e : x.outside + 0 ≡ x.outside = omega arith in ap (λ (k : ℕ). record x { outside = k }) e

-- labels of rows that only take a step outside bodies
abbrev pub is_plain : Label → Bool
is_plain Next = false
is_plain Flip = false
is_plain Enter = false
is_plain Body = false
is_plain Commit = false
is_plain Give = false
is_plain _ = true

plain_unmarked : (l : Label) → is_plain l ≡ true → is_unmarked l ≡ true
plain_unmarked Next h = absurd (cc)
plain_unmarked Flip h = absurd (cc)
plain_unmarked Commit h = absurd (cc)
plain_unmarked Give h = absurd (cc)
plain_unmarked _ h = refl

plain_outside : (l : Label) (begins : Bool) (x : Spent) → is_plain l ≡ true → spent_after l begins x ≡ outside_more x 1
plain_outside Next begins x h = absurd (cc)
plain_outside Body begins x h = absurd (cc)
plain_outside Enter begins x h = absurd (cc)
plain_outside _ begins x h = refl

pub same_progress : {Run : Type 0} (h g : Progress Run) → h.cell ≡ g.cell → h.process ≡ g.process → h.spent ≡ g.spent → h ≡ g
same_progress h g a b d =
    ap (λ (c : Cell). progress c h.process h.spent) a
    ∙ ap (λ (q : Process _). progress g.cell q h.spent) b
    ∙ ap (λ (x : Spent). progress g.cell g.process x) d

-- ---- rows behind rows

module _ {Run : Type 0} (m : Meaning Run) (z : Sizes) (p : ℕ) where
  pub rows_join : (k j : ℕ) (h : Progress Run) → by_rows m z p j (by_rows m z p k h) ≡ by_rows m z p (k + j) h
  rows_join k zero h = let none : k ≡ k + 0 = omega arith in ap (λ (i : ℕ). by_rows m z p i h) none
  rows_join k (suc j) h =
      let more : suc (k + j) ≡ k + suc j = omega arith in
      ap (by_row m z p) (rows_join k j h) ∙ ap (λ (i : ℕ). by_rows m z p i h) more

  pub unmarked_join : (k j : ℕ) (h : Progress Run) → AreUnmarked m z p k h → AreUnmarked m z p j (by_rows m z p k h) → AreUnmarked m z p (k + j) h
  unmarked_join k j h first rest i lt = elim (cases_lt i k) [
    | inl less ↦ first i less
    | inr more ↦
        let d : ℕ = i - k in
        let is : k + d ≡ i = omega (arith, more) in
        subst (λ (n : ℕ). is_unmarked (by_rows m z p n h).process.label ≡ true) is
        (subst (λ (u : Progress Run). is_unmarked u.process.label ≡ true) (rows_join k d h) (rest d (omega (arith, lt, more, is))))
  ]

  pub one_unmarked : (h : Progress Run) → is_unmarked h.process.label ≡ true → AreUnmarked m z p 1 h
  one_unmarked h is j lt =
      let none : 0 ≡ j = omega (arith, lt) in
      subst (λ (n : ℕ). is_unmarked (by_rows m z p n h).process.label ≡ true) none is

  -- one row that only takes a step outside bodies
  pub plain_row : (l : Label) (c d : Cell) (q o : Process Run) (x : Spent) (n k j : ℕ) → is_plain l ≡ true → q.label ≡ l → k ≡ n + 1 → j ≡ 1 → d ≡ cell_after c p (row l m z c p q).change → o ≡ (row l m z c p q).process →
      progress d o (outside_more x k) ≡ by_rows m z p j (progress c q (outside_more x n))
  plain_row l c d q o x n k j plain is more one cell process =
      let h = progress c q (outside_more x n) in
      same_progress (progress d o (outside_more x k)) (progress (cell_after c p (row l m z c p q).change) (row l m z c p q).process (spent_after l (has_more q) (outside_more x n)))
      cell process (ap (outside_more x) more ∙ outside_next x n ∙ sym (plain_outside l (has_more q) (outside_more x n) plain))
      ∙ ap (λ (t : Label). progress (cell_after c p (row t m z c p q).change) (row t m z c p q).process (spent_after t (has_more q) (outside_more x n))) (sym is)
      ∙ ap (λ (i : ℕ). by_rows m z p i h) (sym one)

  pub plain_row_unmarked : (l : Label) (c : Cell) (q : Process Run) (x : Spent) (j : ℕ) → is_plain l ≡ true → q.label ≡ l → j ≡ 1 → AreUnmarked m z p j (progress c q x)
  plain_row_unmarked l c q x j plain is one =
      subst (λ (i : ℕ). AreUnmarked m z p i (progress c q x)) (sym one)
      (one_unmarked (progress c q x) (subst (λ (t : Label). is_unmarked t ≡ true) (sym is) (plain_unmarked l plain)))

  -- the word of a block that LOAD brings to hand and STORE stores
  pub word_brought : (c d : Cell) (q o r : Process Run) (x : Spent) (n k : ℕ) → q.label ≡ Load → k ≡ n + 2 → o ≡ (load c q).process → d ≡ cell_after c p (store z o).change → r ≡ (store z o).process →
      progress d r (outside_more x k) ≡ by_rows m z p 2 (progress c q (outside_more x n))
  word_brought c d q o r x n k is more loaded cell stored =
      let stands : o.label ≡ Store = ap (λ (u : Process Run). u.label) loaded in
      let so : k ≡ n + 1 + 1 = omega (arith, more) in
      plain_row Store c d o r x (n + 1) k 1 refl stands so refl cell stored
      ∙ ap (by_row m z p) (plain_row Load c c q o x n (n + 1) 1 refl is refl refl refl loaded)

  pub word_unmarked : (c : Cell) (q : Process Run) (x : Spent) → q.label ≡ Load → AreUnmarked m z p 2 (progress c q x)
  word_unmarked c q x is =
      let h = progress c q x in
      let loaded : (by_rows m z p 1 h).process.label ≡ Store = ap (λ (t : Label). (row t m z c p q).process.label) is in
      unmarked_join 1 1 h (plain_row_unmarked Load c q x 1 refl is refl) (one_unmarked (by_rows m z p 1 h) (ap is_unmarked loaded))

  pub rows_inside : (k : ℕ) (h : Progress Run) → (by_rows m z p k h).spent.inside ≤ h.spent.inside + k
  rows_inside zero h = omega arith
  rows_inside (suc k) h =
      let u = by_rows m z p k h in
      omega (arith, rows_inside k h, one_inside_more u.process.label (has_more u.process) u.spent)

  -- of such a row nothing but its turn is noted
  noted_turn : (l : Label) (r : Records) (c : Cell) (ps : List (Process Run)) (q : Process Run) → is_unmarked l ≡ true → noted r p l (own_of c p) (event_at l m z c ps p q) ≡ record r { schedule = counted r.schedule p }
  noted_turn Next r c ps q h = absurd (cc)
  noted_turn Flip r c ps q h = absurd (cc)
  noted_turn Commit r c ps q h = absurd (cc)
  noted_turn Give r c ps q h = absurd (cc)
  noted_turn _ r c ps q h = refl

  -- ---- of an object

  module _ (s : State Run) (q : Process Run) (at : slice_get s.processes p ≡ Some q) (xs : List Spent) (counted_in : p < length xs) where
    abbrev pub start : Progress Run
    start = progress s.cell q (spent_of xs p)

    member : p < length s.processes
    member = slice_get_within s.processes p q at

    -- the state where the process has come so far, behind these turns
    abbrev pub state_so : Progress Run → List Turns → State Run
    state_so h ts = record { cell = h.cell; processes = set s.processes p h.process; records = record s.records { schedule = ts } }

    row_so : (h : Progress Run) (ts : List Turns) → is_unmarked h.process.label ≡ true → step_of m z (state_so h ts) p ≡ state_so (by_row m z p h) (counted ts p)
    row_so h ts is =
        let o = h.process in
        let ps = set s.processes p o in
        ap (step_by m z (state_so h ts) p) (written_there s.processes p o member)
        ∙ ap (λ (r : Records). record { cell = cell_after h.cell p (row o.label m z h.cell p o).change; processes = set ps p (row o.label m z h.cell p o).process; records = r }) (noted_turn o.label (record s.records { schedule = ts }) h.cell ps o is)
        ∙ ap (λ (qs : List (Process Run)). record { cell = cell_after h.cell p (row o.label m z h.cell p o).change; processes = qs; records = record s.records { schedule = counted ts p } }) (set-set s.processes p o (row o.label m z h.cell p o).process)

    pub rows_are : (k : ℕ) → AreUnmarked m z p k start → after_steps m z p k s ≡ state_so (by_rows m z p k start) (counted_times s.records.schedule p k)
    rows_are zero plain = sym (ap (λ (ps : List (Process Run)). record { cell = s.cell; processes = ps; records = s.records }) (set_same s.processes p q at))
    rows_are (suc k) plain =
        ap (λ (u : State Run). step_of m z u p) (rows_are k (λ j lt. plain j (omega (arith, lt))))
        ∙ row_so (by_rows m z p k start) (counted_times s.records.schedule p k) (plain k (omega arith))

    spent_so : (h : Progress Run) (ts : List Turns) → count_by spent_after unspent (set xs p h.spent) p (slice_get (state_so h ts).processes p) ≡ set xs p (by_row m z p h).spent
    spent_so h ts =
        ap (count_by spent_after unspent (set xs p h.spent) p) (written_there s.processes p h.process member)
        ∙ ap (λ (y : Spent). set (set xs p h.spent) p (spent_after h.process.label (has_more h.process) y)) (get_or-set_same xs p h.spent unspent counted_in)
        ∙ set-set xs p h.spent (spent_after h.process.label (has_more h.process) h.spent)

    pub rows_spend : (k : ℕ) → AreUnmarked m z p k start → spent_after_steps m z p k s xs ≡ set xs p (by_rows m z p k start).spent
    rows_spend zero plain = sym (set-get_or xs p unspent)
    rows_spend (suc k) plain =
        let before : AreUnmarked m z p k start = λ j lt. plain j (omega (arith, lt)) in
        let h = by_rows m z p k start in
        ap (λ (ys : List Spent). count_by spent_after unspent ys p (slice_get (after_steps m z p k s).processes p)) (rows_spend k before)
        ∙ ap (λ (u : State Run). count_by spent_after unspent (set xs p h.spent) p (slice_get u.processes p)) (rows_are k before)
        ∙ spent_so h (counted_times s.records.schedule p k)

    pub label_at : (k : ℕ) → AreUnmarked m z p k start → label_of (after_steps m z p k s) p ≡ (by_rows m z p k start).process.label
    label_at k plain = ap (λ (u : State Run). label_of u p) (rows_are k plain) ∙ ap label_by (written_there s.processes p (by_rows m z p k start).process member)

    pub rows_quiet : (k : ℕ) → AreUnmarked m z p k start → AreQuiet m z p k s
    rows_quiet k plain j lt =
        let before : AreUnmarked m z p j start = λ i less. plain i (omega (arith, less, lt)) in
        ap is_quiet (label_at j before) ∙ unmarked_quiet (by_rows m z p j start).process.label (plain j lt)

module _ {Run : Type 0} (m : Meaning Run) (lawful : List ℤ → Type 0) (fits : ObjectCall → Type 0) (ready : Run → Type 0) (Effect : Effects) (law : IsLawful m lawful fits ready Effect) (z : Sizes) (p : ℕ) where
  counted_within : (opening : List ℤ) (s : State Run) (q : Process Run) (xs : List Spent) (form : Form) → slice_get s.processes p ≡ Some q → IsKept m lawful fits ready z opening s xs form → p < length xs
  counted_within opening s q xs form at h = omega (arith, slice_get_within s.processes p q at, h.spends.count)

  -- ---- an object keeps what it has over them

  pub rows_kept : (opening : List ℤ) (s : State Run) (q : Process Run) (at : slice_get s.processes p ≡ Some q) (xs : List Spent) (counted_in : p < length xs) (form : Form) → IsKept m lawful fits ready z opening s xs form → (k : ℕ) → AreUnmarked m z p k (start m z p s q at xs counted_in) →
      IsKept m lawful fits ready z opening (state_so m z p s q at xs counted_in (by_rows m z p k (start m z p s q at xs counted_in)) (counted_times s.records.schedule p k)) (set xs p (by_rows m z p k (start m z p s q at xs counted_in)).spent) form
  rows_kept opening s q at xs counted_in form h k plain =
      subst (λ (t : State Run). IsKept m lawful fits ready z opening t (set xs p (by_rows m z p k (start m z p s q at xs counted_in)).spent) form) (rows_are m z p s q at xs counted_in k plain)
      (subst (λ (ys : List Spent). IsKept m lawful fits ready z opening (after_steps m z p k s) ys form) (rows_spend m z p s q at xs counted_in k plain)
      (kept_after m lawful fits ready Effect law z opening p form k s xs h))

  in_object_next : (h : Progress Run) → IsInObject m lawful fits ready z p h → IsInObject m lawful fits ready z p (by_row m z p h)
  in_object_next h o =
      let q = o.process in
      let moved = (row q.label m z o.state.cell p q).process in
      let paid = later m z o.state p q o.here o.spent in
      subst (λ (u : Progress Run). IsInObject m lawful fits ready z p (by_row m z p u)) (sym o.is) (record {
        opening = o.opening;
        state = stepped m z o.state p q;
        process = moved;
        spent = set o.spent p paid;
        form = o.form;
        kept = step_kept m lawful fits ready Effect law z o.opening o.state p q o.here o.spent o.form o.kept;
        here = written_there o.state.processes p moved (slice_get_within o.state.processes p q o.here);
        is = ap (λ (x : Spent). progress (cell_after o.state.cell p (row q.label m z o.state.cell p q).change) moved x) (sym (get_or-set_same o.spent p paid unspent (counted_within o.opening o.state q o.spent o.form o.here o.kept)));
      })

  pub in_object_after : (k : ℕ) (h : Progress Run) → IsInObject m lawful fits ready z p h → IsInObject m lawful fits ready z p (by_rows m z p k h)
  in_object_after zero h o = o
  in_object_after (suc k) h o = in_object_next (by_rows m z p k h) (in_object_after k h o)

  pub in_object_so : (k : ℕ) (h u : Progress Run) → IsInObject m lawful fits ready z p h → u ≡ by_rows m z p k h → IsInObject m lawful fits ready z p u
  in_object_so k h u o leads = subst (IsInObject m lawful fits ready z p) (sym leads) (in_object_after k h o)

  -- ---- what a row asks

  module _ (h : Progress Run) (o : IsInObject m lawful fits ready z p h) where
    pub in_shape : IsShaped z h.cell
    in_shape = subst (λ (u : Progress Run). IsShaped z u.cell) (sym o.is) o.kept.sound.shaped

    pub in_sizes : IsSized z
    in_sizes = o.kept.sound.sized

    pub in_processes : p < z.processes
    in_processes = omega (arith, slice_get_within o.state.processes p o.process o.here, o.kept.sound.count)

    pub in_range : IsInRange z h.process
    in_range = subst (λ (u : Progress Run). IsInRange z u.process) (sym o.is) (o.kept.sound.in_range p o.process o.here)

    pub calls_fit : CallsFit fits h.process
    calls_fit = subst (λ (u : Progress Run). CallsFit fits u.process) (sym o.is) (o.kept.sound.calls_fit p o.process o.here)

    pub run_ready : ready h.process.run
    run_ready = subst (λ (u : Progress Run). ready u.process.run) (sym o.is) (o.kept.sound.runs_ready p o.process o.here)

    pub bit_stored : StoresBit z h.process
    bit_stored = subst (λ (u : Progress Run). StoresBit z u.process) (sym o.is) (o.kept.sound.stores_bit p o.process o.here)

    pub room_of_bodies : h.spent.bodies + 1 < 2 ^ 128
    room_of_bodies = subst (λ (u : Progress Run). u.spent.bodies + 1 < 2 ^ 128) (sym o.is) (bodies_room m z o.process (spent_of o.spent p) o.kept.sound.sized (o.kept.sound.in_range p o.process o.here) (o.kept.spends.each p o.process o.here))

    pub room_outside : h.spent.outside + 1 < 2 ^ 128
    room_outside = subst (λ (u : Progress Run). u.spent.outside + 1 < 2 ^ 128) (sym o.is) (outside_room m z o.process (spent_of o.spent p) o.kept.sound.sized (o.kept.sound.in_range p o.process o.here) (o.kept.spends.each p o.process o.here))

  -- ---- steps of a body are so many rows

  abbrev pub GoesOn : Progress Run → ℕ → Type 0
  GoesOn h k = (j : ℕ) → j < k → (body_behind m z h.cell p h.process j).turn ≡ On

  abbrev pub behind_body : Progress Run → ℕ → Progress Run
  behind_body h k = progress (cell_behind m z h.cell p h.process k) (process_behind m z h.cell p h.process k) (inside_more h.spent k)

  module _ (opening : List ℤ) (s : State Run) (q : Process Run) (at : slice_get s.processes p ≡ Some q) (xs : List Spent) (counted_in : p < length xs) (form : Form) (kept : IsKept m lawful fits ready z opening s xs form) (is : q.label ≡ Body) where
    abbrev first : Progress Run
    first = start m z p s q at xs counted_in

    body_unmarked : (k : ℕ) → GoesOn first k → AreUnmarked m z p k first
    body_unmarked zero on j lt = absurd (omega (arith, lt))
    body_unmarked (suc k) on j lt =
        let before = body_unmarked k (λ i less. on i (omega (arith, less))) in
        elim (cases_lt j k) [
          | inl less ↦ before j less
          | inr more ↦
              let last : k ≡ j = omega (arith, lt, more) in
              let here : (by_rows m z p k first).process.label ≡ Body = sym (label_at m z p s q at xs counted_in k before) ∙ body_inside m lawful fits ready Effect law z opening s p q at xs form kept is (suc k) on k (omega arith) in
              subst (λ (n : ℕ). is_unmarked (by_rows m z p n first).process.label ≡ true) last (ap is_unmarked here)
        ]

    body_rows : (k : ℕ) → GoesOn first k → behind_body first k ≡ by_rows m z p k first
    body_rows k on =
        let plain = body_unmarked k on in
        let u = by_rows m z p k first in
        let after = process_behind m z s.cell p q k in
        let paid = inside_more (spent_of xs p) k in
        let member : p < length s.processes = slice_get_within s.processes p q at in
        let states = sym (body_steps m lawful fits ready Effect law z opening s p q at xs form kept is k on) ∙ rows_are m z p s q at xs counted_in k plain in
        let spends = sym (body_spends m lawful fits ready Effect law z opening s p q at xs form kept is k on) ∙ rows_spend m z p s q at xs counted_in k plain in
        same_progress (behind_body first k) u
        (ap (λ (t : State Run). t.cell) states)
        (same_Some after u.process (sym (written_there s.processes p after member) ∙ ap (λ (t : State Run). slice_get t.processes p) states ∙ written_there s.processes p u.process member))
        (sym (get_or-set_same xs p paid unspent counted_in) ∙ ap (λ (ys : List Spent). spent_of ys p) spends ∙ get_or-set_same xs p u.spent unspent counted_in)

  abbrev pub AreBodyRows : Progress Run → Type 0
  AreBodyRows h = h.process.label ≡ Body → (k : ℕ) → GoesOn h k → (behind_body h k ≡ by_rows m z p k h) × AreUnmarked m z p k h

  pub in_body : (h : Progress Run) → IsInObject m lawful fits ready z p h → AreBodyRows h
  in_body h o =
      let counted_in = counted_within o.opening o.state o.process o.spent o.form o.here o.kept in
      subst AreBodyRows (sym o.is) (λ is k on. (
        body_rows o.opening o.state o.process o.here o.spent counted_in o.form o.kept is k on,
        body_unmarked o.opening o.state o.process o.here o.spent counted_in o.form o.kept is k on,
      ))
