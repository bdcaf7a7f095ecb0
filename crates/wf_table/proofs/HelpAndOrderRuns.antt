-- Every run keeps what is said of commits: from the start, over steps and submissions.
use Rattle.std.proofs.Common.{◌≡◌, ℕ, ◌+◌, ◌-◌, ◌%◌, ◌<◌, ◌≤◌, true, false, List, [], ◌∷◌, ◌++◌, length, set, get_or, take, replicate, refl, sym, ap, ◌∙◌, arith, cond, inl, inr, subst}
use Rattle.std.specs.Prelude.{ℤ, pos, Option, Some, None, slice_get}
use Rattle.std.proofs.lemmas.Bool.{cases_eq}
use Rattle.std.proofs.lemmas.List.{get_or-set_same, length-replicate, length-take-le}
use Rattle.std.proofs.lemmas.List.FromFn.{get_or-range_with_len}
use Rattle.std.proofs.lemmas.Option.{slice_get_within}
use Rattle.ll_cell.specs.Cell.{Cell, fresh, refill_own, link, own_of, is_linked, block_of}
use Rattle.ob_interface.specs.Call.{ObjectCall}
use Rattle.wf_table.specs.declared.process.Label.{Label}
use Rattle.wf_table.specs.declared.process.Sizes.{Sizes}
use Rattle.wf_table.specs.Meaning.{Meaning}
use Rattle.wf_table.specs.Law.{Effects, IsLawful}
use Rattle.wf_table.specs.StepTable.{Process, own_block, body_turn, block_words, toggle_place, toggle_in}
use Rattle.wf_table.specs.Object.{State, step_by, submit_by}
use Rattle.wf_table.specs.Runs.{Act, Steps, Submits, ActsFit, act_of, run, IsRun}
use Rattle.wf_table.specs.Each.{Each}
use Rattle.wf_table.specs.Toggles.{flips}
use Rattle.wf_table.specs.Labels.{unannounced, fetching}
use Rattle.wf_table.specs.Sound.{IsSound}
use Rattle.wf_table.specs.Start.{IsIdle, sizes_of, cell_at_start, records_at_start}
use Rattle.wf_table.proofs.TableRuns.{run_sound}
use Rattle.wf_table.proofs.StartSound.{zero_rows}
use Rattle.wf_table.proofs.Changes.{IsSame}
use Rattle.wf_table.specs.HelpAndOrder.{phase, lost_rounds, own_toggles, flips_at, standing, AllHelp, IsFounded, IsCommitted}
use Rattle.wf_table.proofs.HelpAndOrderOthers.{same_helping}
use Rattle.wf_table.proofs.Frame.{each_after}
use Rattle.wf_table.proofs.HelpAndOrderSteps.{member, linked_exchanges, flips_other, flips_own, flips_is}
use Rattle.wf_table.proofs.Toggles.{variables_written}
use Rattle.wf_table.proofs.Counts.{none_behind}
use Rattle.wf_table.proofs.HelpAndOrderRows.{rests}
use Rattle.wf_table.proofs.KeepsHelp.{keeps_help, same_counts}
use Rattle.wf_table.proofs.KeepsOrder.{keeps_order}
use Rattle.wf_table.proofs.KeepsTime.{keeps_time}
use Rattle.wf_table.specs.Fetched.{AllFetch}
use Rattle.wf_table.proofs.KeepsFetched.{out, keeps_fetched}

-- what the second commit stands on, of every sound object
pub founded : {Run : Type 0} (m : Meaning Run) (lawful : List ℤ → Type 0) (fits : ObjectCall → Type 0) (ready : Run → Type 0) (z : Sizes) (opening : List ℤ) (s : State Run) → IsSound m lawful fits ready z opening s → IsFounded z s.cell s.processes s.records
founded m lawful fits ready z opening s h = record { count = h.count; shaped = h.shaped; numbered = h.numbered; in_range = h.in_range; bits = h.bits; flip_parity = h.flip_parity; marks = h.marks; fronts = h.fronts }

-- the first root has no toggle set
first_root : (z : Sizes) (block : List ℤ) (k : ℕ) → 0 < z.processes → length block ≤ z.variables → toggle_in z (block_of (cell_at_start z block) (cell_at_start z block).root) k ≡ pos 0
first_root z block k some few =
    let first = fresh z.processes (block_words z) (z.arguments + 1) in
    let filled = refill_own first 0 block in
    let linked : is_linked (link filled 0) 0 ≡ true = get_or-set_same (replicate z.processes false) 0 true false (omega (arith, some, length-replicate z.processes false)) in
    let owner : own_of first 0 ≡ 1 + 0 = get_or-range_with_len 1 z.processes 0 0 some in
    ap (λ (c : Cell). toggle_in z (block_of c c.root) k) (linked_exchanges (link filled 0) 0 linked)
    ∙ variables_written z first 0 k block (omega (arith, owner, some, length-replicate (z.processes + 1) (replicate (block_words z) (pos 0)))) few
    ∙ zero_rows (z.processes + 1) (block_words z) (own_of first 0) (toggle_place z k)

module _ {Run : Type 0} where
  idle_flips : (ready : Run → Type 0) (z : Sizes) (q : Process Run) → IsIdle ready z q → flips q ≡ 0
  idle_flips ready z q h = ap (λ (l : Label). cond (unannounced l) (q.begun - 1) q.begun) h.label ∙ h.begun

  -- an object that begins
  pub start_committed : (ready : Run → Type 0) (z : Sizes) (block : List ℤ) (ps : List (Process Run)) → 0 < z.processes → length block ≤ z.variables → Each (λ _ q. IsIdle ready z q) ps → IsFounded z (cell_at_start z block) ps (records_at_start z.processes) → IsCommitted z (record { cell = cell_at_start z block; processes = ps; records = records_at_start z.processes })
  start_committed ready z block ps some few idle base =
      let c = cell_at_start z block in
      let r = records_at_start z.processes in
      let at : (k : ℕ) (o : Process Run) → slice_get ps k ≡ Some o → flips_at ps k ≡ 0 = λ k o e. flips_is ps k o e ∙ idle_flips ready z o (idle k o e) in
      let none : (k : ℕ) → k < z.processes → flips_at ps k ≡ 0 = λ k lt. (let found = member ps k (omega (arith, lt, base.count)) in at k found.0 found.1) in
      record {
        helpful = record {
          counted = record {
            begun = λ k lt. omega arith;
            one_open = λ k lt. omega (arith, none k lt);
            root = λ k lt. first_root z block k some few;
            announced = λ k lt. (let found = member ps k (omega (arith, lt, base.count)) in (base.flip_parity k found.0 found.1).parity ∙ ap (λ (n : ℕ). pos (n % 2)) (sym (flips_is ps k found.0 found.1)));
          };
          helping = λ k o e. rests z.processes (standing z c ps r) k (is_linked c k) (own_toggles z c k) o (ap phase (idle k o e).label) (λ pending. absurd (omega (arith, pending, at k o e)));
        };
        ordered = record {
          in_turn = λ k. refl;
          of_object = λ k le. refl;
          none_empty = tt;
          none_later = none_behind [] _ (omega arith);
          one_passed = λ k lt pending. omega (arith, none_behind [] (get_or r.flip_marks k 0) (omega arith));
        };
        timed = record { ended = λ i a reply at. absurd (omega (arith, at.0)); in_time = λ i j a b reply call less at. absurd (omega (arith, at.0)) };
        fetched = λ k o e. out _ _ o (ap fetching (idle k o e).label);
      }

  -- one more call at the end of a script
  pub submit_committed : (z : Sizes) (s : State Run) (p : ℕ) (q : Process Run) (call : ObjectCall) → slice_get s.processes p ≡ Some q → IsCommitted z s → IsCommitted z (record s { processes = set s.processes p (record q { calls = q.calls ++ call ∷ [] }) })
  submit_committed z s p q call at h =
      let c = s.cell in
      let ps = s.processes in
      let r = s.records in
      let longer : Process Run = record q { calls = q.calls ++ call ∷ [] } in
      let new = standing z c (set ps p longer) r in
      let same_flips : (k : ℕ) → flips_at (set ps p longer) k ≡ flips_at ps k = λ k. elim (cases_eq k p) [
        | inl e ↦ subst (λ (n : ℕ). flips_at (set ps p longer) n ≡ flips_at ps n) (sym e) (flips_own ps p longer (slice_get_within ps p q at) ∙ sym (flips_is ps p q at))
        | inr d ↦ flips_other ps p k longer d
      ] in
      let same : IsSame (standing z c ps r) new = record { flips = same_flips; applied = λ k. refl; root = λ k. refl; announced = λ k. refl; flip_mark = λ k. refl; root_mark = refl } in
      let keeps : (k : ℕ) (o : Process Run) → AllHelp z c ps r k o → AllHelp z c (set ps p longer) r k o = λ k o old. same_helping z.processes (standing z c ps r) new k (is_linked c k) (own_toggles z c k) (phase o.label) o.registers.j (lost_rounds o.label (is_linked c k) o.registers.round) old (own_toggles z c k) same (λ i. refl) in
      record {
        helpful = record {
          counted = same_counts z.processes (standing z c ps r) new same h.helpful.counted;
          helping = each_after (AllHelp z c ps r) (AllHelp z c (set ps p longer) r) ps p longer h.helpful.helping (keeps p q (h.helpful.helping p q at)) (λ k o d old. keeps k o old);
        };
        ordered = record {
          in_turn = h.ordered.in_turn;
          of_object = h.ordered.of_object;
          none_empty = h.ordered.none_empty;
          none_later = h.ordered.none_later;
          one_passed = λ k lt pending. h.ordered.one_passed k lt (omega (arith, pending, same_flips k));
        };
        timed = h.timed;
        fetched = each_after (AllFetch c) (AllFetch c) ps p longer h.fetched (let own = h.fetched p q at in record { words = own.words }) (λ k o d old. old);
      }

module _ {Run : Type 0} (m : Meaning Run) (lawful : List ℤ → Type 0) (fits : ObjectCall → Type 0) (ready : Run → Type 0) (Effect : Effects) (law : IsLawful m lawful fits ready Effect) where
  pub step_committed : (z : Sizes) (opening : List ℤ) (s : State Run) (p : ℕ) (o : Option (Process Run)) → slice_get s.processes p ≡ o → IsSound m lawful fits ready z opening s → IsCommitted z s → IsCommitted z (step_by m z s p o)
  step_committed z opening s p None at sound h = h
  step_committed z opening s p (Some q) at sound h =
      let c = s.cell in
      let base = founded m lawful fits ready z opening s sound in
      let own_in = sound.shaped.own_in p (omega (arith, slice_get_within s.processes p q at, sound.count, sound.shaped.owns)) in
      let long = sound.shaped.block (own_of c p) (omega (arith, own_in, sound.shaped.blocks)) in
      let variables : length (take z.variables (own_block c p)) ≡ z.variables = length-take-le z.variables (own_block c p) (omega (arith, long)) in
      let few : length (body_turn m z c p q).block ≤ z.variables = omega (arith, variables, law.length_step q.run (take z.variables (own_block c p)) (sound.runs_ready p q at) (variables ∙ sound.variables)) in
      record {
        helpful = keeps_help m z c s.processes s.records p q few at base h.helpful;
        ordered = keeps_order m z c s.processes s.records p q at base h.helpful h.ordered;
        timed = keeps_time m z c s.processes s.records p q at base h.helpful h.ordered h.timed;
        fetched = keeps_fetched m z c s.processes s.records p q at base h.helpful h.fetched;
      }

  submitted : (z : Sizes) (s : State Run) (p : ℕ) (call : ObjectCall) (o : Option (Process Run)) → slice_get s.processes p ≡ o → IsCommitted z s → IsCommitted z (submit_by s p call o)
  submitted z s p call None at h = h
  submitted z s p call (Some q) at h = submit_committed z s p q call at h

  pub act_committed : (z : Sizes) (opening : List ℤ) (s : State Run) (act : Act) → IsSound m lawful fits ready z opening s → IsCommitted z s → IsCommitted z (act_of m z s act)
  act_committed z opening s (Steps p) sound h = step_committed z opening s p (slice_get s.processes p) refl sound h
  act_committed z opening s (Submits p call) sound h = submitted z s p call (slice_get s.processes p) refl h

  -- over every list of acts from a state whose runs are sound
  acts_committed : (z : Sizes) (opening : List ℤ) (acts : List Act) (s : State Run) → ((more : List Act) → ActsFit fits more → IsSound m lawful fits ready z opening (run m z more s)) → ActsFit fits acts → IsCommitted z s → IsCommitted z (run m z acts s)
  acts_committed z opening [] s sound fit h = h
  acts_committed z opening (act ∷ acts) s sound fit h = acts_committed z opening acts (act_of m z s act) (λ more fits_more. sound (act ∷ more) (fit.0, fits_more)) fit.1 (act_committed z opening s act (sound [] tt) h)

  -- every state of a run
  pub run_committed : (n : ℕ) (opening : List ℤ) (acts : List Act) (s : State Run) → IsRun m lawful fits ready n opening acts s → IsCommitted (sizes_of m n) s
  run_committed n opening acts s h =
      let z = sizes_of m n in
      let sound : (more : List Act) → ActsFit fits more → IsSound m lawful fits ready z opening (run m z more h.start) =
      λ more fit. run_sound m lawful fits ready Effect law n opening more (run m z more h.start) (record { some = h.some; few = h.few; opens = h.opens; fit = fit; start = h.start; begins = h.begins; leads = refl }) in
      let base = founded m lawful fits ready z opening h.start (sound [] tt) in
      subst (λ (k : State Run). IsCommitted z k) h.leads
      (acts_committed z opening acts h.start sound h.fit
      (rw (h.begins.cell, h.begins.records) (start_committed ready z opening h.start.processes h.some (omega (arith, law.length_lawful opening h.opens)) h.begins.idle (rw (h.begins.cell, h.begins.records) at base))))
