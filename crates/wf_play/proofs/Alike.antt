-- States over engines in lock-step that differ only in their runs: they step alike. A run is read from the first step of its body on,
-- until its results are kept; so where it is not read, it may be any one.
use Rattle.std.proofs.Common.{◌≡◌, ℕ, ◌+◌, zero, suc, Bool, true, false, List, [], ◌∷◌, ◌++◌, refl, sym, ap, ◌∙◌, arith, subst}
use Rattle.std.specs.Prelude.{ℤ, pos, Option, Some, None, if◌then◌else◌, length, slice_get, slice_set, nat_eq, nat_lt, map}
use Rattle.std.proofs.Common.{int_eq}
use Rattle.std.proofs.lemmas.Bool.Decides.{nat_tests}
use Rattle.std.proofs.lemmas.Option.{same_Some}
use Rattle.ll_cell.specs.Cell.{Cell, is_linked, block_of, own_of}
use Rattle.ob_interface.specs.Call.{ObjectCall, Reply}
use Rattle.wf_history.specs.History.{Applied, End}
use Rattle.wf_table.specs.declared.engine_turn.EngineTurn.{EngineTurn}
use Rattle.wf_table.specs.declared.engine_turn.EngineTurn.TheVariants as Turn
use Rattle.wf_table.specs.declared.process.Label.{Label}
use Rattle.wf_table.specs.declared.process.Label.TheVariants.{Next, Post, Enter, Body, Undo, Keep, Commit, Give, Seen}
use Rattle.wf_table.specs.declared.process.Sizes.{Sizes}
use Rattle.wf_table.specs.Meaning.{Meaning, Turned}
use Rattle.wf_table.specs.Object.{Records, State, answer_by, answer_of, applied_ids, begun_of, event_at, label_by, label_of, noted, seen_by, step_by, step_of, stepped, submit_by}
use Rattle.wf_table.specs.Runs.{Act, Steps, Submits, act_of, run}
use Rattle.wf_table.specs.Each.{Each}
use Rattle.wf_table.specs.Start.{IsIdle, IsStart}
use Rattle.wf_object.specs.Halted.{is_halted, is_halted_by}
use Rattle.wf_play.specs.LockStep.{AreInLockStep}
use Rattle.wf_table.specs.StepTable.{Own, Process, Refill, after_body, at, body_turn, call_at, cell_after, inverted, open_call, own_block, part, row, toggle_in}

-- the run is read at the label, or at a later one before ENTER sets it
abbrev pub reads_run : Label → Bool
reads_run Body = true
reads_run Undo = true
reads_run Keep = true
reads_run _ = false

-- a process with another run
abbrev pub carried : {Run Other : Type 0} → Process Run → Other → Process Other
carried q r = record {
  label = q.label;
  calls = q.calls;
  begun = q.begun;
  registers = q.registers;
  list = q.list;
  replies = q.replies;
  save = q.save;
  run = r;
}

module _ {Run Other : Type 0} (Same : Run → Other → Type 0) where
  -- the same process with another run, which is the same where it is read
  pub data IsAlike (q : Process Run) : Process Other → Type 0 where
    another_run : (r : Other) → (reads_run q.label ≡ true → Same q.run r) → IsAlike q (carried q r)

  pub data AreAlike : List (Process Run) → List (Process Other) → Type 0 where
    none : AreAlike [] []
    more : {q : Process Run} {o : Process Other} {qs : List (Process Run)} {os : List (Process Other)} → IsAlike q o → AreAlike qs os → AreAlike (q ∷ qs) (o ∷ os)

  -- the same state with processes that are alike
  pub data LooksAlike (s : State Run) : State Other → Type 0 where
    other_runs : (os : List (Process Other)) → AreAlike s.processes os → LooksAlike s (record { cell = s.cell; processes = os; records = s.records })

  -- where the run is not read
  unread : (q : Process Run) (r : Other) → reads_run q.label ≡ false → IsAlike q (carried q r)
  unread q r h = another_run r (λ e. let both : false ≡ true = sym h ∙ e in absurd (cc))

  -- where one of two goes on, so do both
  either : (b : Bool) (q q' : Process Run) (o o' : Process Other) → IsAlike q o → IsAlike q' o' → IsAlike (if b then q else q') (if b then o else o')
  either true q q' o o' h h' = h
  either false q q' o o' h h' = h'

  module _ (m : Meaning Run) (m' : Meaning Other) (lock : AreInLockStep m m' Same) (z : Sizes) (c : Cell) (p : ℕ) where
    -- a row does the same to the cell
    row_change : (l : Label) (q : Process Run) (r : Other) → (reads_run l ≡ true → Same q.run r) → (row l m' z c p (carried q r)).change ≡ (row l m z c p q).change
    row_change Body q r h = ap Refill (lock.block q.run r (_) (h refl))
    row_change Keep q r h =
        ap (λ (w : ℤ). Own (part z q.registers.j + q.registers.i) (if nat_eq q.registers.i 0
        then q.registers.status
        else (if nat_eq q.registers.i (z.replies + 1)
        then inverted (toggle_in z (own_block c p) q.registers.j)
        else (if int_eq q.registers.status (pos 0) then w else pos 0))))
        (lock.result q.run r (_) (h refl))
    row_change l q r h = refl

    -- what comes of a body's step
    body_alike : (t : EngineTurn) (q : Process Run) (r : Other) → q.label ≡ Body → Same q.run r → IsAlike (after_body z t q) (after_body z t (carried q r))
    body_alike Turn.On q r is h = another_run r (λ _. h)
    body_alike Turn.Returned q r is h = another_run r (λ _. h)
    body_alike (Turn.Trapped k) q r is h = another_run r (λ _. h)
    body_alike Turn.Stuck q r is h = another_run r (λ _. h)

    -- it leaves processes that are alike: ENTER starts the same run, BODY, UNDO and KEEP find one, and no other row leads to a label
    -- at which it is read
    row_process : (l : Label) (q : Process Run) (r : Other) → q.label ≡ l → (reads_run l ≡ true → Same q.run r) → IsAlike (row l m z c p q).process (row l m' z c p (carried q r)).process
    row_process Next q r is h =
        let begins : Process Run = record q { label = Post; begun = q.begun + 1; registers = record q.registers { i = 0 }; list = m.lay (call_at q q.begun) } in
        subst (λ (ws : List ℤ). IsAlike (row Next m z c p q).process (if nat_lt q.begun (length q.calls) then record (carried begins r) { list = ws } else carried q r)) (sym (lock.lay (call_at q q.begun)))
        (either (nat_lt q.begun (length q.calls)) begins q (carried begins r) (carried q r) (unread begins r refl) (unread q r (ap reads_run is)))
    row_process Enter q r is h = another_run (m'.start q.list) (λ _. lock.start q.list)
    row_process Body q r is h =
        let a : Turned Run = body_turn m z c p q in
        let b : Turned Other = body_turn m' z c p (carried q r) in
        subst (λ (t : EngineTurn). IsAlike (after_body z a.turn (record q { run = a.run })) (after_body z t (carried q b.run))) (sym (lock.turn q.run r (_) (h refl)))
        (body_alike a.turn (record q { run = a.run }) b.run is (lock.run q.run r (_) (h refl)))
    row_process Undo q r is h =
        either (nat_eq (q.registers.i + 1) z.variables) (at 0 Keep q) (at (q.registers.i + 1) Undo q) (at 0 Keep (carried q r)) (at (q.registers.i + 1) Undo (carried q r))
        (another_run r (λ _. h refl)) (another_run r (λ _. h refl))
    row_process Keep q r is h =
        let served : Process Run = record q { label = Seen; registers = record q.registers { i = 0; j = q.registers.j + 1 } } in
        either (nat_eq (q.registers.i + 1) (z.replies + 2)) served (at (q.registers.i + 1) Keep q) (carried served r) (at (q.registers.i + 1) Keep (carried q r))
        (unread served r refl) (another_run r (λ _. h refl))
    row_process l q r is h =
        let k = ap reads_run is in
        let same : (row l m' z c p (carried q r)).process ≡ carried (row l m z c p q).process r = grind (arith, nat_tests) in
        let free : reads_run (row l m z c p q).process.label ≡ false = grind (arith, nat_tests, k) in
        subst (IsAlike (row l m z c p q).process) (sym same) (unread (row l m z c p q).process r free)

    -- it shows the same
    row_event : (l : Label) (ps : List (Process Run)) (os : List (Process Other)) (q : Process Run) (r : Other) → begun_of os ≡ begun_of ps → event_at l m' z c os p (carried q r) ≡ event_at l m z c ps p q
    row_event Commit ps os q r e =
        ap (λ (begun : List ℕ). if is_linked c p then Some (Applied (applied_ids z (block_of c c.root) (own_block c p) begun)) else None) e
    row_event Give ps os q r e = ap (λ (reply : Reply). Some (End (record { process = p; number = q.begun }) reply)) (lock.reply (open_call q) q.replies)
    row_event l ps os q r e = refl

  begun_alike : (ps : List (Process Run)) (os : List (Process Other)) → AreAlike ps os → begun_of os ≡ begun_of ps
  begun_alike ps os none = refl
  begun_alike ps os (more {q = q} {qs = qs} {os = rest} (another_run r h) hs) = ap (λ (ks : List ℕ). q.begun ∷ ks) (begun_alike qs rest hs)

  set_alike : (ps : List (Process Run)) (os : List (Process Other)) (p : ℕ) (q : Process Run) (o : Process Other) → AreAlike ps os → IsAlike q o → AreAlike (slice_set ps p q) (slice_set os p o)
  set_alike ps os p q o none h = none
  set_alike ps os zero q o (more this rest) h = more h rest
  set_alike ps os (suc p) q o (more {qs = qs} {os = others} this rest) h = more this (set_alike qs others p q o rest h)

  -- what stands at one place of both
  data IsFoundAlike : Option (Process Run) → Option (Process Other) → Type 0 where
    nothing : IsFoundAlike None None
    found : {q : Process Run} {o : Process Other} → IsAlike q o → IsFoundAlike (Some q) (Some o)

  get_alike : (ps : List (Process Run)) (os : List (Process Other)) (p : ℕ) → AreAlike ps os → IsFoundAlike (slice_get ps p) (slice_get os p)
  get_alike ps os p none = nothing
  get_alike ps os zero (more this rest) = found this
  get_alike ps os (suc p) (more {qs = qs} {os = others} this rest) = get_alike qs others p rest

  looks_alike : (s : State Run) (t : State Other) → t.cell ≡ s.cell → t.records ≡ s.records → AreAlike s.processes t.processes → LooksAlike s t
  looks_alike s t cell records h =
      let same : t ≡ record { cell = s.cell; processes = t.processes; records = s.records } =
      ap (λ (c : Cell). record t { cell = c }) cell ∙ ap (λ (r : Records). record { cell = s.cell; processes = t.processes; records = r }) records in
      subst (LooksAlike s) (sym same) (other_runs t.processes h)

  module _ (m : Meaning Run) (m' : Meaning Other) (lock : AreInLockStep m m' Same) (z : Sizes) where
    step_by_alike : (s : State Run) (t : State Other) (p : ℕ) (a : Option (Process Run)) (b : Option (Process Other)) → t.cell ≡ s.cell → t.records ≡ s.records → AreAlike s.processes t.processes → IsFoundAlike a b →
        LooksAlike (step_by m z s p a) (step_by m' z t p b)
    step_by_alike s t p a b cell records h nothing = looks_alike s t cell records h
    step_by_alike s t p a b cell records h (found {q = q} (another_run r read)) =
        let u : State Other = record { cell = s.cell; processes = t.processes; records = s.records } in
        let o : Process Other = carried q r in
        let same : t ≡ u = ap (λ (c : Cell). record t { cell = c }) cell ∙ ap (λ (r : Records). record { cell = s.cell; processes = t.processes; records = r }) records in
        subst (λ (v : State Other). LooksAlike (stepped m z s p q) (stepped m' z v p o)) (sym same)
        (looks_alike (stepped m z s p q) (stepped m' z u p o)
        (ap (cell_after s.cell p) (row_change m m' lock z s.cell p q.label q r read))
        (ap (noted s.records p q.label (own_of s.cell p)) (row_event m m' lock z s.cell p q.label s.processes t.processes q r (begun_alike s.processes t.processes h)))
        (set_alike s.processes t.processes p (row q.label m z s.cell p q).process (row q.label m' z s.cell p o).process h (row_process m m' lock z s.cell p q.label q r refl read)))

    pub step_alike : (s : State Run) (t : State Other) (p : ℕ) → LooksAlike s t → LooksAlike (step_of m z s p) (step_of m' z t p)
    step_alike s t p (other_runs os h) =
        step_by_alike s (record { cell = s.cell; processes = os; records = s.records }) p (slice_get s.processes p) (slice_get os p) refl refl h (get_alike s.processes os p h)

    submit_by_alike : (s : State Run) (os : List (Process Other)) (p : ℕ) (call : ObjectCall) (a : Option (Process Run)) (b : Option (Process Other)) → AreAlike s.processes os → IsFoundAlike a b →
        LooksAlike (submit_by s p call a) (submit_by (record { cell = s.cell; processes = os; records = s.records }) p call b)
    submit_by_alike s os p call a b h nothing = other_runs os h
    submit_by_alike s os p call a b h (found {q = q} {o = o} (another_run r read)) =
        let more_calls : Process Run = record q { calls = q.calls ++ call ∷ [] } in
        other_runs (slice_set os p (carried more_calls r)) (set_alike s.processes os p more_calls (carried more_calls r) h (another_run r read))

    act_alike : (s : State Run) (t : State Other) (act : Act) → LooksAlike s t → LooksAlike (act_of m z s act) (act_of m' z t act)
    act_alike s t (Steps p) h = step_alike s t p h
    act_alike s t (Submits p call) (other_runs os h) = submit_by_alike s os p call (slice_get s.processes p) (slice_get os p) h (get_alike s.processes os p h)

    -- the same acts lead to states that look alike
    pub run_alike : (acts : List Act) (s : State Run) (t : State Other) → LooksAlike s t → LooksAlike (run m z acts s) (run m' z acts t)
    run_alike [] s t h = h
    run_alike (act ∷ acts) s t h = run_alike acts (act_of m z s act) (act_of m' z t act) (act_alike s t act h)

    answer_alike : (s : State Run) (os : List (Process Other)) (p : ℕ) (a : Option (Process Run)) (b : Option (Process Other)) → AreAlike s.processes os → IsFoundAlike a b →
        answer_by (label_by b) (seen_by m' z s.cell os p b) ≡ answer_by (label_by a) (seen_by m z s.cell s.processes p a)
    answer_alike s os p a b h nothing = refl
    answer_alike s os p a b h (found {q = q} (another_run r read)) =
        ap (answer_by q.label) (row_event m m' lock z s.cell p q.label s.processes os q r (begun_alike s.processes os h))

    pub same_answer : (s : State Run) (t : State Other) (p : ℕ) → LooksAlike s t → answer_of m' z t p ≡ answer_of m z s p
    same_answer s t p (other_runs os h) = answer_alike s os p (slice_get s.processes p) (slice_get os p) h (get_alike s.processes os p h)

  label_alike : (a : Option (Process Run)) (b : Option (Process Other)) → IsFoundAlike a b → label_by b ≡ label_by a
  label_alike a b nothing = refl
  label_alike a b (found (another_run r read)) = refl

  pub same_label : (s : State Run) (t : State Other) (p : ℕ) → LooksAlike s t → label_of t p ≡ label_of s p
  same_label s t p (other_runs os h) = label_alike (slice_get s.processes p) (slice_get os p) (get_alike s.processes os p h)

  halted_alike : (a : Option (Process Run)) (b : Option (Process Other)) → IsFoundAlike a b → is_halted_by b ≡ is_halted_by a
  halted_alike a b nothing = refl
  halted_alike a b (found (another_run r read)) = refl

  pub same_halted : (s : State Run) (t : State Other) (p : ℕ) → LooksAlike s t → is_halted t p ≡ is_halted s p
  same_halted s t p (other_runs os h) = halted_alike (slice_get s.processes p) (slice_get os p) (get_alike s.processes os p h)

  pub same_cell : (s : State Run) (t : State Other) → LooksAlike s t → s.cell ≡ t.cell
  same_cell s t (other_runs os h) = refl

  pub same_records : (s : State Run) (t : State Other) → LooksAlike s t → s.records ≡ t.records
  same_records s t (other_runs os h) = refl

  -- a process between two calls that has begun none
  idle_alike : (ready : Run → Type 0) (ready' : Other → Type 0) (z : Sizes) (q : Process Run) (o : Process Other) → IsIdle ready z q → IsIdle ready' z o → IsAlike q o
  idle_alike ready ready' z q o h h' =
      let same : o ≡ carried q o.run = rw (h.label, h.calls, h.begun, h.registers, h.list, h.replies, h.save, h'.label, h'.calls, h'.begun, h'.registers, h'.list, h'.replies, h'.save) refl in
      subst (IsAlike q) (sym same) (unread q o.run (ap reads_run h.label))

  all_idle : (ready : Run → Type 0) (ready' : Other → Type 0) (z : Sizes) (qs : List (Process Run)) (os : List (Process Other)) → length os ≡ length qs → Each (λ _ q. IsIdle ready z q) qs → Each (λ _ q. IsIdle ready' z q) os → AreAlike qs os
  all_idle ready ready' z [] [] count h h' = none
  all_idle ready ready' z [] (o ∷ os) count h h' = absurd (omega (arith, count))
  all_idle ready ready' z (q ∷ qs) [] count h h' = absurd (omega (arith, count))
  all_idle ready ready' z (q ∷ qs) (o ∷ os) count h h' =
      more (idle_alike ready ready' z q o (h zero q refl) (h' zero o refl)) (all_idle ready ready' z qs os (omega (arith, count)) (λ p x e. h (suc p) x e) (λ p x e. h' (suc p) x e))

  -- objects that begin with one block
  pub starts_alike : (ready : Run → Type 0) (ready' : Other → Type 0) (z : Sizes) (opening : List ℤ) (s : State Run) (t : State Other) → IsStart ready z opening s → IsStart ready' z opening t → LooksAlike s t
  starts_alike ready ready' z opening s t h h' =
      looks_alike s t (h'.cell ∙ sym h.cell) (h'.records ∙ sym h.records) (all_idle ready ready' z s.processes t.processes (h'.count ∙ sym h.count) h.idle h'.idle)

-- ---- the other way round

abbrev pub Back : {Run Other : Type 0} → (Run → Other → Type 0) → Other → Run → Type 0
Back Same r' r = Same r r'

module _ {Run Other : Type 0} (Same : Run → Other → Type 0) where
  back : (q : Process Run) (o : Process Other) → IsAlike Same q o → IsAlike (Back Same) o q
  back q o (another_run r read) = another_run q.run (λ e. read e)

  all_back : (qs : List (Process Run)) (os : List (Process Other)) → AreAlike Same qs os → AreAlike (Back Same) os qs
  all_back qs os none = none
  all_back qs os (more {q = q} {o = o} {qs = rest} {os = others} h hs) = more (back q o h) (all_back rest others hs)

  pub alike_back : (s : State Run) (t : State Other) → LooksAlike Same s t → LooksAlike (Back Same) t s
  alike_back s t (other_runs os h) = other_runs s.processes (all_back s.processes os h)

  pub lock_back : (m : Meaning Run) (m' : Meaning Other) → AreInLockStep m m' Same → AreInLockStep m' m (Back Same)
  lock_back m m' lock = record {
    variables = sym lock.variables;
    replies = sym lock.replies;
    arguments = sym lock.arguments;
    lay = λ c. sym (lock.lay c);
    reply = λ c words. sym (lock.reply c words);
    start = λ words. lock.start words;
    turn = λ r r' b same. sym (lock.turn r' r b same);
    block = λ r r' b same. sym (lock.block r' r b same);
    run = λ r r' b same. lock.run r' r b same;
    result = λ r r' i same. sym (lock.result r' r i same);
  }

-- ---- an object over the other engine that begins as this one

module _ {Run Other : Type 0} (ready : Run → Type 0) (ready' : Other → Type 0) (r' : Other) (is_ready : ready' r') (z : Sizes) where
  abbrev others : List (Process Run) → List (Process Other)
  others qs = map (λ (q : Process Run). carried q r') qs

  others_count : (qs : List (Process Run)) → length (others qs) ≡ length qs
  others_count [] = refl
  others_count (q ∷ qs) = ap suc (others_count qs)

  others_idle : (qs : List (Process Run)) → Each (λ _ q. IsIdle ready z q) qs → Each (λ _ q. IsIdle ready' z q) (others qs)
  others_idle [] h p o e = absurd (cc)
  others_idle (q ∷ qs) h zero o e =
      let idle = h zero q refl in
      subst (IsIdle ready' z) (same_Some (carried q r') o e)
      (record { label = idle.label; calls = idle.calls; begun = idle.begun; registers = idle.registers; list = idle.list; replies = idle.replies; save = idle.save; run = is_ready })
  others_idle (q ∷ qs) h (suc p) o e = others_idle qs (λ j x g. h (suc j) x g) p o e

  abbrev pub other_start : State Run → State Other
  other_start s = record { cell = s.cell; processes = others s.processes; records = s.records }

  pub other_starts : (opening : List ℤ) (s : State Run) → IsStart ready z opening s → IsStart ready' z opening (other_start s)
  other_starts opening s h = record { cell = h.cell; count = others_count s.processes ∙ h.count; idle = others_idle s.processes h.idle; records = h.records }
