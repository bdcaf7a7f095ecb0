-- Steps of one body in a row are so many steps of the table.
use Rattle.std.proofs.Common.{◌≡◌, ℕ, zero, suc, ◌+◌, ◌<◌, ◌≤◌, List, [], ◌∷◌, ◌++◌, length, take, drop, set, get_or, refl, sym, ap, ◌∙◌, arith, subst, get_or-set_same}
use Rattle.std.specs.Prelude.{ℤ, Some, slice_get}
use Rattle.std.proofs.lemmas.List.{length-take-le, set-get_or, set-set, take_all, take-append-drop}
use Rattle.ll_cell.specs.Cell.{Cell, own_of, refill_own, refilled}
use Rattle.ob_interface.specs.Call.{ObjectCall}
use Rattle.wf_table.specs.declared.engine_turn.EngineTurn.{EngineTurn}
use Rattle.wf_table.specs.declared.engine_turn.EngineTurn.TheVariants.{On, Returned, Trapped, Stuck}
use Rattle.wf_table.specs.declared.process.Label.{Label}
use Rattle.wf_table.specs.declared.process.Label.TheVariants.{Body}
use Rattle.wf_table.specs.declared.process.Sizes.{Sizes}
use Rattle.wf_table.specs.declared.schedule.Turns.{Turns}
use Rattle.wf_table.specs.Meaning.{Meaning, Turned, after_turn, steps}
use Rattle.wf_table.specs.Law.{Effects, IsLawful}
use Rattle.wf_table.specs.Schedule.{counted}
use Rattle.wf_table.specs.StepTable.{Process, after_body, cell_after, own_block, row}
use Rattle.wf_table.specs.Object.{State, event_at, label_by, label_of, noted, step_by, step_of}
use Rattle.wf_table.proofs.Stuck.{set_same}
use Rattle.wf_table.specs.declared.spent.Spent.{Spent}
use Rattle.wf_table.specs.Spent.{unspent, spent_after, has_more}
use Rattle.wf_table.specs.Counted.{count_by, spent_of}
use Rattle.wf_table.proofs.Blocks.{take_refilled}
use Rattle.wf_table.proofs.HelpBodies.{steps_more}
use Rattle.wf_object.specs.InARow.{AreInBody, after_steps, spent_after_steps}
use Rattle.wf_object.specs.InBody.{body_behind}
use Rattle.wf_records.specs.Times.{counted_times}
use Rattle.wf_records.proofs.Counting.{written_there}

-- ---- blocks that are written again

-- with their own first words
refilled_same : (block : List ℤ) (v : ℕ) → v ≤ length block → refilled block (take v block) ≡ block
refilled_same block v le =
    ap (λ (n : ℕ). take (length block) (take v block ++ drop n block)) (length-take-le v block le)
    ∙ ap (take (length block)) (take-append-drop v block)
    ∙ take_all (length block) block (omega arith)

-- over as many words
refilled_again : (block ws vs : List ℤ) → length vs ≡ length ws → refilled (refilled block ws) vs ≡ refilled block vs
refilled_again [] ws vs same = refl
refilled_again (x ∷ block) [] [] same = refilled_same (take (length (x ∷ block)) (x ∷ block)) 0 (omega arith)
refilled_again (x ∷ block) [] (v ∷ vs) same = absurd (omega (arith, same))
refilled_again (x ∷ block) (w ∷ ws) [] same = absurd (omega (arith, same))
refilled_again (x ∷ block) (w ∷ ws) (v ∷ vs) same = ap (λ (xs : List ℤ). v ∷ xs) (refilled_again block ws vs (omega (arith, same)))

module _ (c : Cell) (p : ℕ) (within : own_of c p < length c.blocks) where
  own_again : (ws : List ℤ) → own_block (refill_own c p ws) p ≡ refilled (own_block c p) ws
  own_again ws = get_or-set_same c.blocks (own_of c p) (refilled (own_block c p) ws) [] within

  -- the own block holds the words that were written last
  pub words_again : (v : ℕ) (ws : List ℤ) → length ws ≡ v → v ≤ length (own_block c p) → take v (own_block (refill_own c p ws) p) ≡ ws
  words_again v ws long room =
      ap (take v) (own_again ws)
      ∙ subst (λ (n : ℕ). take n (refilled (own_block c p) ws) ≡ ws) long (take_refilled (own_block c p) ws (omega (arith, long, room)))

  pub refill_again : (ws vs : List ℤ) → length vs ≡ length ws → refill_own (refill_own c p ws) p vs ≡ refill_own c p vs
  refill_again ws vs same =
      ap (λ (b : List ℤ). record c { blocks = set (set c.blocks (own_of c p) (refilled (own_block c p) ws)) (own_of c p) (refilled b vs) }) (own_again ws)
      ∙ ap (λ (b : List ℤ). record c { blocks = set (set c.blocks (own_of c p) (refilled (own_block c p) ws)) (own_of c p) b }) (refilled_again (own_block c p) ws vs same)
      ∙ ap (λ (bs : List (List ℤ)). record c { blocks = bs }) (set-set c.blocks (own_of c p) (refilled (own_block c p) ws) (refilled (own_block c p) vs))

pub refill_same : (c : Cell) (p v : ℕ) → v ≤ length (own_block c p) → refill_own c p (take v (own_block c p)) ≡ c
refill_same c p v room =
    ap (λ (b : List ℤ). record c { blocks = set c.blocks (own_of c p) b }) (refilled_same (own_block c p) v room)
    ∙ ap (λ (bs : List (List ℤ)). record c { blocks = bs }) (set-get_or c.blocks (own_of c p) [])

-- what is spent, with so many steps in bodies more
abbrev pub inside_more : Spent → ℕ → Spent
inside_more x k = record x { inside = x.inside + k }

-- ---- bodies

module _ {Run : Type 0} (m : Meaning Run) (lawful : List ℤ → Type 0) (fits : ObjectCall → Type 0) (ready : Run → Type 0) (Effect : Effects) (law : IsLawful m lawful fits ready Effect) where
  -- runs stay ready, and blocks as long as they are
  good_turn : (x : EngineTurn) (t next : Turned Run) → ready t.run × (length t.block ≡ m.variables) → ready next.run × (length next.block ≡ m.variables) → ready (after_turn x t next).run × (length (after_turn x t next).block ≡ m.variables)
  good_turn On t next h h' = h'
  good_turn Returned t next h h' = h
  good_turn (Trapped k) t next h h' = h
  good_turn Stuck t next h h' = h

  pub good_step : (r : Run) (b : List ℤ) → ready r → length b ≡ m.variables → ready (m.step r b).run × (length (m.step r b).block ≡ m.variables)
  good_step r b h long = (law.step_ready r b h long, law.length_step r b h long ∙ long)

  pub good_steps : (k : ℕ) (r : Run) (b : List ℤ) → ready r → length b ≡ m.variables → ready (steps m k r b).run × (length (steps m k r b).block ≡ m.variables)
  good_steps zero r b h long = (h, long)
  good_steps (suc k) r b h long =
      let first = good_step r b h long in
      good_turn (m.step r b).turn (m.step r b) (steps m k (m.step r b).run (m.step r b).block) first (good_steps k (m.step r b).run (m.step r b).block first.0 first.1)

-- ---- the loop over its steps

module _ {Run : Type 0} (m : Meaning Run) where
  pub is_turned : (t : Turned Run) (x : EngineTurn) (r : Run) (b : List ℤ) → x ≡ t.turn → r ≡ t.run → b ≡ t.block → t ≡ record { turn = x; run = r; block = b }
  is_turned t x r b ex er eb =
      sym (ap (λ (y : EngineTurn). record { turn = y; run = r; block = b }) ex
      ∙ ap (λ (y : Run). record { turn = t.turn; run = y; block = b }) er
      ∙ ap (λ (y : List ℤ). record { turn = t.turn; run = t.run; block = y }) eb)

  -- one step more, where the body has gone on so far
  pub on_more : (k : ℕ) (r : Run) (b : List ℤ) (r' : Run) (b' : List ℤ) → steps m k r b ≡ record { turn = On; run = r'; block = b' } → steps m (k + 1) r b ≡ m.step r' b'
  on_more k r b r' b' so_far =
      let more : k + 1 ≡ suc k = omega arith in
      ap (λ (i : ℕ). steps m i r b) more
      ∙ steps_more m k r b (ap (λ (t : Turned Run). t.turn) so_far)
      ∙ ap (λ (t : Turned Run). m.step t.run t.block) so_far

-- ---- states

module _ {Run : Type 0} (m : Meaning Run) (z : Sizes) (s : State Run) (p : ℕ) (q : Process Run) where
  -- where the body stands so, behind these turns
  abbrev pub standing_so : Turned Run → List Turns → State Run
  standing_so t ts = record {
    cell = refill_own s.cell p t.block;
    processes = set s.processes p (after_body z t.turn (record q { run = t.run }));
    records = record s.records { schedule = ts };
  }

  abbrev going_on : Run → List ℤ → List Turns → State Run
  going_on r b ts = record {
    cell = refill_own s.cell p b;
    processes = set s.processes p (record q { run = r });
    records = record s.records { schedule = ts };
  }

  goes_on_so : (t : Turned Run) (ts : List Turns) → t.turn ≡ On → standing_so t ts ≡ going_on t.run t.block ts
  goes_on_so t ts on = ap (λ (x : EngineTurn). record { cell = refill_own s.cell p t.block; processes = set s.processes p (after_body z x (record q { run = t.run })); records = record s.records { schedule = ts } }) on

  module _ (member : p < length s.processes) (is : q.label ≡ Body) (within : own_of s.cell p < length s.cell.blocks) (room : z.variables ≤ length (own_block s.cell p)) where
    -- one step of the table
    step_so : (r : Run) (b : List ℤ) (ts : List Turns) → length b ≡ z.variables → length (m.step r b).block ≡ z.variables → step_of m z (going_on r b ts) p ≡ standing_so (m.step r b) (counted ts p)
    step_so r b ts long longer =
        let c = refill_own s.cell p b in
        let o : Process Run = record q { run = r } in
        let ps = set s.processes p o in
        let before = going_on r b ts in
        let by_label = λ (l : Label). ◌≡◌ {A = State Run} (record {
          cell = cell_after c p (row l m z c p o).change;
          processes = set ps p (row l m z c p o).process;
          records = noted (record s.records { schedule = ts }) p l (own_of c p) (event_at l m z c ps p o);
        }) (standing_so (m.step r b) (counted ts p)) in
        let at_block : by_label Body =
        ap (λ (b' : List ℤ). record {
          cell = refill_own c p (m.step r b').block;
          processes = set ps p (after_body z (m.step r b').turn (record q { run = (m.step r b').run }));
          records = record s.records { schedule = counted ts p };
        }) (words_again s.cell p within z.variables b long room)
        ∙ ap (λ (c' : Cell). record { cell = c'; processes = set ps p (after_body z (m.step r b).turn (record q { run = (m.step r b).run })); records = record s.records { schedule = counted ts p } }) (refill_again s.cell p within b (m.step r b).block (longer ∙ sym long))
        ∙ ap (λ (ps' : List (Process Run)). record { cell = refill_own s.cell p (m.step r b).block; processes = ps'; records = record s.records { schedule = counted ts p } }) (set-set s.processes p o (after_body z (m.step r b).turn (record q { run = (m.step r b).run }))) in
        ap (step_by m z before p) (written_there s.processes p o member)
        ∙ subst by_label (sym is) at_block

    module _ (lawful : List ℤ → Type 0) (fits : ObjectCall → Type 0) (ready : Run → Type 0) (Effect : Effects) (law : IsLawful m lawful fits ready Effect) (variables : z.variables ≡ m.variables) (is_ready : ready q.run) (at : slice_get s.processes p ≡ Some q) where
      abbrev first : List ℤ
      first = take z.variables (own_block s.cell p)

      first_long : length first ≡ m.variables
      first_long = length-take-le z.variables (own_block s.cell p) room ∙ variables

      -- so many of them
      pub stays : (k : ℕ) → ((j : ℕ) → j < k → (body_behind m z s.cell p q j).turn ≡ On) → after_steps m z p k s ≡ standing_so (body_behind m z s.cell p q k) (counted_times s.records.schedule p k)
      stays zero on =
          sym (ap (λ (c : Cell). record { cell = c; processes = set s.processes p q; records = s.records }) (refill_same s.cell p z.variables room)
          ∙ ap (λ (ps : List (Process Run)). record { cell = s.cell; processes = ps; records = s.records }) (set_same s.processes p q at))
      stays (suc k) on =
          let t = body_behind m z s.cell p q k in
          let ts = counted_times s.records.schedule p k in
          let going : t.turn ≡ On = on k (omega arith) in
          let good = good_steps m lawful fits ready Effect law k q.run first is_ready first_long in
          let next = good_step m lawful fits ready Effect law t.run t.block good.0 good.1 in
          ap (λ (u : State Run). step_of m z u p) (stays k (λ j lt. on j (omega (arith, lt))) ∙ goes_on_so t ts going)
          ∙ step_so t.run t.block ts (good.1 ∙ sym variables) (next.1 ∙ sym variables)
          ∙ ap (λ (u : Turned Run). standing_so u (counted ts p)) (sym (steps_more m k q.run first going))

      label_so : (t : Turned Run) (ts : List Turns) → t.turn ≡ On → label_of (standing_so t ts) p ≡ Body
      label_so t ts on =
          ap (λ (u : State Run). label_of u p) (goes_on_so t ts on)
          ∙ ap label_by (written_there s.processes p (record q { run = t.run }) member)
          ∙ is

      -- each of them is one of the body
      pub all_in_body : (k : ℕ) → ((j : ℕ) → j < k → (body_behind m z s.cell p q j).turn ≡ On) → AreInBody m z p k s
      all_in_body k on j lt =
          ap (λ (u : State Run). label_of u p) (stays j (λ i less. on i (omega (arith, less, lt))))
          ∙ label_so (body_behind m z s.cell p q j) (counted_times s.records.schedule p j) (on j lt)

      -- what is spent in it
      spent_so : (t : Turned Run) (ts : List Turns) (xs : List Spent) (x : Spent) → t.turn ≡ On → p < length xs → count_by spent_after unspent (set xs p x) p (slice_get (standing_so t ts).processes p) ≡ set xs p (inside_more x 1)
      spent_so t ts xs x on counted_in =
          let o : Process Run = record q { run = t.run } in
          ap (λ (u : State Run). count_by spent_after unspent (set xs p x) p (slice_get u.processes p)) (goes_on_so t ts on)
          ∙ ap (count_by spent_after unspent (set xs p x) p) (written_there s.processes p o member)
          ∙ ap (λ (l : Label). set (set xs p x) p (spent_after l (has_more o) (get_or (set xs p x) p unspent))) is
          ∙ ap (λ (y : Spent). set (set xs p x) p (inside_more y 1)) (get_or-set_same xs p x unspent counted_in)
          ∙ set-set xs p x (inside_more x 1)

      pub spends_inside : (xs : List Spent) → p < length xs → (k : ℕ) → ((j : ℕ) → j < k → (body_behind m z s.cell p q j).turn ≡ On) → spent_after_steps m z p k s xs ≡ set xs p (inside_more (spent_of xs p) k)
      spends_inside xs counted_in zero on =
          let same : (spent_of xs p).inside + 0 ≡ (spent_of xs p).inside = omega arith in
          sym (ap (λ (i : ℕ). set xs p (record (spent_of xs p) { inside = i })) same ∙ set-get_or xs p unspent)
      spends_inside xs counted_in (suc k) on =
          let t = body_behind m z s.cell p q k in
          let ts = counted_times s.records.schedule p k in
          let x = inside_more (spent_of xs p) k in
          let more : (spent_of xs p).inside + k + 1 ≡ (spent_of xs p).inside + suc k = omega arith in
          ap (λ (ys : List Spent). count_by spent_after unspent ys p (slice_get (after_steps m z p k s).processes p)) (spends_inside xs counted_in k (λ j lt. on j (omega (arith, lt))))
          ∙ ap (λ (u : State Run). count_by spent_after unspent (set xs p x) p (slice_get u.processes p)) (stays k (λ j lt. on j (omega (arith, lt))))
          ∙ spent_so t ts xs x (on k (omega arith)) counted_in
          ∙ ap (λ (i : ℕ). set xs p (record (spent_of xs p) { inside = i })) more
