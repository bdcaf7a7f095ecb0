-- The counts of a process are what its own steps spend since its last call began.
use Rattle.std.proofs.Common.{◌≡◌, ◌≢◌, ℕ, ◌+◌, ◌<◌, ◌≤◌, Bool, true, false, List, [], ◌∷◌, ◌++◌, length, set, refl, sym, ap, ◌∙◌, subst, cond, inl, inr, arith, get_or-set_same, get_or-set_other}
use Rattle.std.specs.Prelude.{Option, Some, None, slice_get, nat_eq}
use Rattle.std.proofs.lemmas.Bool.{cases_eq, eq-eqb, ne_eqb}
use Rattle.std.proofs.lemmas.Bool.Decides.{nat_tests}
use Rattle.std.proofs.lemmas.List.{length-replicate}
use Rattle.std.proofs.lemmas.Option.{slice_get_within, same_Some}
use Rattle.ll_cell.specs.Cell.{Cell}
use Rattle.ob_interface.specs.Call.{ObjectCall}
use Rattle.wf_table.specs.declared.engine_turn.EngineTurn.{EngineTurn}
use Rattle.wf_table.specs.declared.engine_turn.EngineTurn.TheVariants.{On, Returned, Trapped, Stuck}
use Rattle.wf_table.specs.declared.process.Label.{Label}
use Rattle.wf_table.specs.declared.process.Label.TheVariants.{Next, Post, Body}
use Rattle.wf_table.specs.declared.process.Sizes.{Sizes}
use Rattle.wf_table.specs.Meaning.{Meaning}
use Rattle.wf_table.specs.StepTable.{Process, call_at, row, to, after_body, body_turn}
use Rattle.wf_table.specs.Object.{State, step_by, submit_by}
use Rattle.wf_table.specs.Runs.{Act, Steps, Submits, act_of, run}
use Rattle.wf_table.specs.declared.spent.Spent.{Spent}
use Rattle.wf_table.specs.Spent.{unspent, spent_after, has_more}
use Rattle.wf_table.specs.Counted.{Counts, Counted, uncounted, counts_after, counts_of, count_by, counted_act, counted_run, counted_from}
use Rattle.wf_table.specs.Calls.{BeginsOne, plus, spends, own_act, own_spent}
use Rattle.wf_table.proofs.EachCounts.{act_counts}
use Rattle.wf_table.proofs.BoundPlaces.{put_at, still_at}
use Rattle.wf_table.proofs.BoundRuns.{same_run}

plus_is : (a b : Spent) (bodies inside outside : ℕ) → a.bodies + b.bodies ≡ bodies → a.inside + b.inside ≡ inside → a.outside + b.outside ≡ outside → ◌≡◌ {A = Spent} (record { bodies = bodies; inside = inside; outside = outside }) (plus a b)
plus_is a b bodies inside outside x y w = let x' = sym x in let y' = sym y in let w' = sym w in rw (x', y', w') refl

plus_plus : (a b c : Spent) → plus (plus a b) c ≡ plus a (plus b c)
plus_plus a b c = plus_is a (plus b c) _ _ _ (omega arith) (omega arith) (omega arith)

nothing_plus : (s : Spent) → s ≡ plus unspent s
nothing_plus s = plus_is unspent s s.bodies s.inside s.outside (omega arith) (omega arith) (omega arith)

plus_nothing : (s : Spent) → s ≡ plus s unspent
plus_nothing s = plus_is s unspent s.bodies s.inside s.outside (omega arith) (omega arith) (omega arith)

module _ {Run : Type 0} (z : Sizes) where
  -- of a process before and behind an act that spends so much, with its counts before and behind
  record Takes (q next : Process Run) (s after spends : Spent) : Type 0 where
    begun : q.begun ≤ next.begun
    goes_on : next.begun ≡ q.begun → after ≡ plus s spends
    begins : q.begun < next.begun → after ≡ spends
    halted : q.label ≡ Next → next.begun ≡ q.begun → (next.label ≡ Next) × (spends ≡ unspent)

  body_begun : (t : EngineTurn) (q : Process Run) → (after_body z t q).begun ≡ q.begun
  body_begun On q = refl
  body_begun Returned q = refl
  body_begun (Trapped k) q = refl
  body_begun Stuck q = refl

  row_begun : (l : Label) (m : Meaning Run) (c : Cell) (p : ℕ) (q : Process Run) → l ≢ Next → (row l m z c p (to l q)).process.begun ≡ q.begun
  row_begun Next m c p q out = absurd (out refl)
  row_begun Body m c p q out = body_begun (body_turn m z c p (to Body q)).turn _
  row_begun l m c p q out = grind (arith, nat_tests)

  next_takes : (m : Meaning Run) (c : Cell) (p : ℕ) (q : Process Run) (s : Spent) → Takes (to Next q) (row Next m z c p (to Next q)).process s (spent_after Next (has_more q) s) (spent_after Next (has_more q) unspent)
  next_takes m c p q s =
      elim (has_more q) as (λ b. Takes (to Next q) (cond b (record q { label = Post; begun = q.begun + 1; registers = record q.registers { i = 0 }; list = m.lay (call_at q q.begun) }) (to Next q)) s (spent_after Next b s) (spent_after Next b unspent)) [
        | true ↦ record { begun = omega arith; goes_on = λ e. absurd (omega (arith, e)); begins = λ lt. refl; halted = λ e same. absurd (omega (arith, same)) }
        | false ↦ record { begun = omega arith; goes_on = λ e. plus_nothing s; begins = λ lt. absurd (omega (arith, lt)); halted = λ e same. (refl, refl) }
      ]

  other_takes : (l : Label) (m : Meaning Run) (c : Cell) (p : ℕ) (q : Process Run) (s : Spent) → l ≢ Next → spent_after l (has_more q) s ≡ plus s (spent_after l (has_more q) unspent) → Takes (to l q) (row l m z c p (to l q)).process s (spent_after l (has_more q) s) (spent_after l (has_more q) unspent)
  other_takes l m c p q s out adds =
      let same = row_begun l m c p q out in
      record { begun = omega (arith, same); goes_on = λ e. adds; begins = λ lt. absurd (omega (arith, lt, same)); halted = λ e none. absurd (out e) }

  row_takes : (l : Label) (m : Meaning Run) (c : Cell) (p : ℕ) (q : Process Run) (s : Spent) → Takes (to l q) (row l m z c p (to l q)).process s (spent_after l (has_more q) s) (spent_after l (has_more q) unspent)
  row_takes Next m c p q s = next_takes m c p q s
  row_takes l m c p q s = other_takes l m c p q s (λ e. absurd (cc)) (plus_is s _ _ _ _ (omega arith) (omega arith) (omega arith))

  no_step : (q next : Process Run) (s : Spent) → next.label ≡ q.label → next.begun ≡ q.begun → Takes q next s s unspent
  no_step q next s label begun = record {
    begun = omega (arith, begun);
    goes_on = λ e. plus_nothing s;
    begins = λ lt. absurd (omega (arith, lt, begun));
    halted = λ at same. (label ∙ at, refl);
  }

module _ {Run : Type 0} (m : Meaning Run) (z : Sizes) where
  -- where the process p, which stood at q, stands behind an act
  record Behind (s : Counted Run) (act : Act) (p : ℕ) (q : Process Run) : Type 0 where
    next : Process Run
    at : slice_get (counted_act m z s act).state.processes p ≡ Some next
    takes : Takes z q next (counts_of s.counts p).spent (counts_of (counted_act m z s act).counts p).spent (own_act p s.state act)

  own_step : (s : Counted Run) (p : ℕ) (q : Process Run) → length s.counts ≡ length s.state.processes → slice_get s.state.processes p ≡ Some q → Behind s (Steps p) p q
  own_step s p q count at =
      let next = (row q.label m z s.state.cell p q).process in
      let x = counts_of s.counts p in
      let new = counts_after q.label (has_more q) x in
      let counted : p < length s.counts = omega (arith, count, slice_get_within s.state.processes p q at) in
      let takes : Takes z q next x.spent (counts_of (set s.counts p new) p).spent (spends (Some q)) =
      subst (λ (y : Counts). Takes z q next x.spent y.spent (spends (Some q))) (sym (get_or-set_same s.counts p new uncounted counted)) (row_takes z q.label m s.state.cell p q x.spent) in
      let own : Takes z q next x.spent (counts_of (set s.counts p new) p).spent (cond (nat_eq p p) (spends (Some q)) unspent) =
      subst (λ (b : Bool). Takes z q next x.spent (counts_of (set s.counts p new) p).spent (cond b (spends (Some q)) unspent)) (sym (eq-eqb p p refl)) takes in
      record {
        next = next;
        at = subst (λ (o : Option (Process Run)). slice_get (step_by m z s.state p o).processes p ≡ Some next) (sym at) (put_at s.state.processes p next q at);
        takes = subst (λ (o : Option (Process Run)). Takes z q next x.spent (counts_of (count_by counts_after uncounted s.counts p o) p).spent (cond (nat_eq p p) (spends o) unspent)) (sym at) own;
      }

  other_step : (s : Counted Run) (k p : ℕ) (q : Process Run) (o : Option (Process Run)) → k ≢ p → slice_get s.state.processes p ≡ Some q → slice_get (step_by m z s.state k o).processes p ≡ Some q × (counts_of (count_by counts_after uncounted s.counts k o) p ≡ counts_of s.counts p)
  other_step s k p q None apart at = (at, refl)
  other_step s k p q (Some r) apart at =
      let back : p ≢ k = λ e. apart (sym e) in
      (still_at s.state.processes k _ p q back at, get_or-set_other s.counts k p _ uncounted back)

  other_behind : (s : Counted Run) (k p : ℕ) (q : Process Run) → k ≢ p → slice_get s.state.processes p ≡ Some q → Behind s (Steps k) p q
  other_behind s k p q apart at =
      let same = other_step s k p q (slice_get s.state.processes k) apart at in
      let x = counts_of s.counts p in
      let none : Takes z q q x.spent x.spent unspent = no_step z q q x.spent refl refl in
      record {
        next = q;
        at = same.0;
        takes = subst (λ (b : Bool). Takes z q q x.spent (counts_of (counted_act m z s (Steps k)).counts p).spent (cond b (spends (slice_get s.state.processes p)) unspent)) (sym (ne_eqb k p apart))
            (subst (λ (y : Counts). Takes z q q x.spent y.spent unspent) (sym same.1) none);
      }

  submitted : Process Run → ObjectCall → Process Run
  submitted q call = record q { calls = q.calls ++ call ∷ [] }

  own_submit : (s : Counted Run) (p : ℕ) (call : ObjectCall) (q : Process Run) → slice_get s.state.processes p ≡ Some q → Behind s (Submits p call) p q
  unfolding submitted
  own_submit s p call q at = record {
    next = submitted q call;
    at = subst (λ (o : Option (Process Run)). slice_get (submit_by s.state p call o).processes p ≡ Some (submitted q call)) (sym at) (put_at s.state.processes p (submitted q call) q at);
    takes = no_step z q (submitted q call) (counts_of s.counts p).spent refl refl;
  }

  other_submit : (s : State Run) (k p : ℕ) (call : ObjectCall) (q : Process Run) (o : Option (Process Run)) → k ≢ p → slice_get s.processes p ≡ Some q → slice_get (submit_by s k call o).processes p ≡ Some q
  other_submit s k p call q None apart at = at
  other_submit s k p call q (Some r) apart at = still_at s.processes k _ p q (λ e. apart (sym e)) at

  behind : (s : Counted Run) (act : Act) (p : ℕ) (q : Process Run) → length s.counts ≡ length s.state.processes → slice_get s.state.processes p ≡ Some q → Behind s act p q
  behind s (Steps k) p q count at =
      elim (cases_eq k p) [
        | inl e ↦ subst (λ (n : ℕ). Behind s (Steps n) p q) (sym e) (own_step s p q count at)
        | inr apart ↦ other_behind s k p q apart at
      ]
  behind s (Submits k call) p q count at =
      elim (cases_eq k p) [
        | inl e ↦ subst (λ (n : ℕ). Behind s (Submits n call) p q) (sym e) (own_submit s p call q at)
        | inr apart ↦ record { next = q; at = other_submit s.state k p call q (slice_get s.state.processes k) apart at; takes = no_step z q q (counts_of s.counts p).spent refl refl }
      ]

  same_length : (s : Counted Run) (act : Act) → length s.counts ≡ length s.state.processes → length (counted_act m z s act).counts ≡ length (counted_act m z s act).state.processes
  same_length s act count = (act_counts m z counts_after uncounted (λ x q. Unit {0}) s.state s.counts act (λ p q at h. tt) (λ x q calls h. tt) (record { count = count; each = λ p q at. tt })).count

  -- no call begins
  goes_on : (acts : List Act) (s : Counted Run) (p : ℕ) (q last : Process Run) → length s.counts ≡ length s.state.processes → slice_get s.state.processes p ≡ Some q → slice_get (counted_run m z acts s).state.processes p ≡ Some last → (q.begun ≤ last.begun) × (last.begun ≡ q.begun → (counts_of (counted_run m z acts s).counts p).spent ≡ plus (counts_of s.counts p).spent (own_spent m z p acts s.state))
  goes_on [] s p q last count at end =
      let same = ap (λ (o : Process Run). o.begun) (same_Some q last (sym at ∙ end)) in
      (omega (arith, same), λ e. plus_nothing _)
  goes_on (act ∷ acts) s p q last count at end =
      let b = behind s act p q count at in
      let rest = goes_on acts (counted_act m z s act) p b.next last (same_length s act count) b.at end in
      let before = b.takes.begun in
      let later = rest.0 in (
        omega (arith, before, later),
        λ e.
            rest.1 (omega (arith, before, later, e))
            ∙ ap (λ (x : Spent). plus x (own_spent m z p acts (act_of m z s.state act))) (b.takes.goes_on (omega (arith, before, later, e)))
            ∙ plus_plus _ _ _,
      )

  -- one call begins
  pub one_call : (acts : List Act) (s : Counted Run) (p : ℕ) (q last : Process Run) → length s.counts ≡ length s.state.processes → slice_get s.state.processes p ≡ Some q → slice_get (counted_run m z acts s).state.processes p ≡ Some last → q.label ≡ Next → last.begun ≡ q.begun + 1 → (counts_of (counted_run m z acts s).counts p).spent ≡ own_spent m z p acts s.state
  one_call [] s p q last count at end next one =
      let same = ap (λ (o : Process Run). o.begun) (same_Some q last (sym at ∙ end)) in
      absurd (omega (arith, same, one))
  one_call (act ∷ acts) s p q last count at end next one =
      let b = behind s act p q count at in
      let longer = same_length s act count in
      let rest = goes_on acts (counted_act m z s act) p b.next last longer b.at end in
      let before = b.takes.begun in
      let later = rest.0 in
      elim (cases_eq b.next.begun q.begun) [
        | inl same ↦ (let halted = b.takes.halted next same in
            one_call acts (counted_act m z s act) p b.next last longer b.at end halted.0 (omega (arith, one, same))
            ∙ nothing_plus _
            ∙ ap (λ (x : Spent). plus x (own_spent m z p acts (act_of m z s.state act))) (sym halted.1))
        | inr apart ↦ (let more : q.begun < b.next.begun = omega (arith, before, apart) in
            rest.1 (omega (arith, more, later, one))
            ∙ ap (λ (x : Spent). plus x (own_spent m z p acts (act_of m z s.state act))) (b.takes.begins more))
      ]

  run_append : (first acts : List Act) (s : Counted Run) → counted_run m z (first ++ acts) s ≡ counted_run m z acts (counted_run m z first s)
  run_append [] acts s = refl
  run_append (act ∷ first) acts s = run_append first acts (counted_act m z s act)

  run_length : (acts : List Act) (s : Counted Run) → length s.counts ≡ length s.state.processes → length (counted_run m z acts s).counts ≡ length (counted_run m z acts s).state.processes
  run_length [] s h = h
  run_length (act ∷ acts) s h = run_length acts (counted_act m z s act) (same_length s act h)

  abbrev later : List Act → State Run → Counted Run
  later first start = counted_run m z first (counted_from start)

  pub call_is_counted : (first acts : List Act) (start : State Run) (p : ℕ) (last : Process Run) → BeginsOne m z p acts (run m z first start) last → own_spent m z p acts (run m z first start) ≡ (counts_of (counted_run m z (first ++ acts) (counted_from start)).counts p).spent
  call_is_counted first acts start p last h =
      let same = same_run m z first (counted_from start) in
      let here = later first start in
      let stood : slice_get here.state.processes p ≡ Some h.before = subst (λ (s : State Run). slice_get s.processes p ≡ Some h.before) (sym same) h.stood in
      let stands : slice_get (counted_run m z acts here).state.processes p ≡ Some last = subst (λ (s : State Run). slice_get s.processes p ≡ Some last) (ap (λ (s : State Run). run m z acts s) (sym same) ∙ sym (same_run m z acts here)) h.stands in
      let counted = one_call acts here p h.before last (run_length first (counted_from start) (length-replicate (length start.processes) uncounted)) stood stands h.between h.one in
      ap (λ (s : State Run). own_spent m z p acts s) (sym same) ∙ sym counted ∙ ap (λ (s : Counted Run). (counts_of s.counts p).spent) (sym (run_append first acts (counted_from start)))

  -- where the process stands behind all these acts
  pub stands_last : (first acts : List Act) (start : State Run) (p : ℕ) (last : Process Run) → BeginsOne m z p acts (run m z first start) last → slice_get (counted_run m z (first ++ acts) (counted_from start)).state.processes p ≡ Some last
  stands_last first acts start p last h =
      let same = same_run m z first (counted_from start) in
      subst (λ (s : State Run). slice_get s.processes p ≡ Some last)
      (ap (λ (s : State Run). run m z acts s) (sym same) ∙ sym (same_run m z acts (later first start)) ∙ ap (λ (s : Counted Run). s.state) (sym (run_append first acts (counted_from start))))
      h.stands
