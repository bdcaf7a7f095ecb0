-- Every run keeps help in order: from the start, over steps and submissions.
use Rattle.std.proofs.Common.{◌≡◌, ℕ, zero, suc, ◌+◌, ◌<◌, ◌≤◌, true, false, List, [], ◌∷◌, ◌++◌, length, set, take, replicate, map, refl, sym, ap, ◌∙◌, arith, inl, inr, subst}
use Rattle.std.specs.Prelude.{ℤ, pos, Option, Some, None, slice_get}
use Rattle.std.proofs.lemmas.Bool.{cases_eq, false≢true}
use Rattle.std.proofs.lemmas.List.{append-nil, get_or-set_same, get_or-replicate, length-replicate}
use Rattle.std.proofs.lemmas.List.FromFn.{get_or-range_with_len}
use Rattle.std.proofs.lemmas.Option.{slice_get_within}
use Rattle.ll_cell.specs.Cell.{fresh, refill_own, refilled, link, own_of, is_linked, block_of, word_at}
use Rattle.ob_interface.specs.Call.{ObjectCall, Reply}
use Rattle.wf_history.specs.History.{Event}
use Rattle.wf_history.specs.Legal.{none}
use Rattle.wf_table.specs.declared.process.Label.{Label}
use Rattle.wf_table.specs.declared.process.Label.TheVariants.{Save, Enter, Body, Undo, Keep}
use Rattle.wf_table.specs.declared.process.Sizes.{Sizes}
use Rattle.wf_table.specs.Meaning.{Meaning}
use Rattle.wf_table.specs.Law.{Effects, IsLawful}
use Rattle.wf_table.specs.StepTable.{Process, own_block, block_words, part}
use Rattle.wf_table.specs.Object.{State, step_by, submit_by}
use Rattle.wf_table.specs.Runs.{Act, Steps, Submits, ActsFit, act_of, run, IsRun}
use Rattle.wf_table.specs.Each.{Each}
use Rattle.wf_table.specs.Toggles.{flips}
use Rattle.wf_table.specs.Sound.{IsSound}
use Rattle.wf_table.specs.Start.{IsIdle, sizes_of, cell_at_start, records_at_start}
use Rattle.wf_table.proofs.TableRuns.{run_sound}
use Rattle.wf_table.proofs.Frame.{each_after}
use Rattle.wf_table.specs.Helping.{has_copied, looked_at}
use Rattle.wf_table.specs.HelpAndOrder.{phase, flips_at, IsCommitted}
use Rattle.wf_table.proofs.HelpAndOrderSteps.{linked_exchanges, flips_other, flips_own, flips_is}
use Rattle.wf_table.proofs.HelpAndOrderRuns.{run_committed}
use Rattle.wf_table.specs.Contents.{RootHolds}
use Rattle.wf_table.specs.Helps.{words_fetched, Witness, Works, Packs, AllFetched, AllPacked, IsHelped}
use Rattle.wf_table.proofs.Blocks.{take_refilled, variables_reply}
use Rattle.wf_table.proofs.HelpOthers.{others_packed}
use Rattle.wf_table.proofs.HelpSteps.{looked_within, step_helps}

zeros : (n k : ℕ) → word_at (replicate n (pos 0)) k ≡ pos 0
zeros zero k = refl
zeros (suc n) zero = refl
zeros (suc n) (suc k) = zeros n k

-- the first root
first_root : (z : Sizes) (block : List ℤ) → 0 < z.processes → block_of (cell_at_start z block) (cell_at_start z block).root ≡ refilled (replicate (block_words z) (pos 0)) block
first_root z block some =
    let first = fresh z.processes (block_words z) (z.arguments + 1) in
    let filled = refill_own first 0 block in
    let linked : is_linked (link filled 0) 0 ≡ true = get_or-set_same (replicate z.processes false) 0 true false (omega (arith, some, length-replicate z.processes false)) in
    let owner : own_of first 0 ≡ 1 + 0 = get_or-range_with_len 1 z.processes 0 0 some in
    ap (λ c. block_of c c.root) (linked_exchanges (link filled 0) 0 linked)
    ∙ get_or-set_same first.blocks (own_of first 0) (refilled (block_of first (own_of first 0)) block) [] (omega (arith, owner, some, length-replicate (z.processes + 1) (replicate (block_words z) (pos 0))))
    ∙ ap (λ (old : List ℤ). refilled old block) (get_or-replicate (z.processes + 1) (own_of first 0) (replicate (block_words z) (pos 0)) [] (omega (arith, owner, some)))

module _ {Run : Type 0} (m : Meaning Run) (lawful : List ℤ → Type 0) (fits : ObjectCall → Type 0) where
  -- an object that begins
  pub start_helped : (ready : Run → Type 0) (z : Sizes) (block : List ℤ) (ps : List (Process Run)) → 0 < z.processes → length block ≡ z.variables → lawful block → Each (λ _ q. IsIdle ready z q) ps → IsHelped m lawful fits z block (record { cell = cell_at_start z block; processes = ps; records = records_at_start z.processes })
  start_helped ready z block ps some long opens idle =
      let filled = refilled (replicate (block_words z) (pos 0)) block in
      let room : length block ≤ length (replicate (block_words z) (pos 0)) = omega (arith, long, length-replicate (block_words z) (pos 0)) in
      record {
        fetched = λ k o e. record { front = λ on i lt. absurd (omega (arith, lt, ap (λ (l : Label). words_fetched z l o.registers.i) (idle k o e).label)) };
        root = subst (λ (root : List ℤ). RootHolds m lawful z block [] [] root) (sym (first_root z block some)) (record {
          words = [];
          last = block;
          made = record { once = tt; made = none; lawful_last = ∣ opens ∣₁ };
          variables = subst (λ (n : ℕ). take n filled ≡ block) long (take_refilled (replicate (block_words z) (pos 0)) block room);
          replies = λ k i lt less. variables_reply z (replicate (block_words z) (pos 0)) block k i (omega (arith, long)) ∙ zeros (block_words z) (part z k + i) ∙ sym (zeros (z.replies + 1) i);
        });
        packed = λ k o e copied. absurd (false≢true (sym (ap (λ (l : Label). has_copied (phase l)) (idle k o e).label) ∙ copied));
      }

  module _ (z : Sizes) (opening : List ℤ) where
    longer : Process Run → ObjectCall → Process Run
    longer q call = record q { calls = q.calls ++ call ∷ [] }

    -- what was submitted is not read
    works_longer : (l : Label) (own : List ℤ) (w : Witness) (q : Process Run) (calls : List ObjectCall) → Works l m z own w q → Works l m z own w (record q { calls = calls })
    works_longer Save own w q calls h = record { front = h.front }
    works_longer Enter own w q calls h = record { saved = h.saved }
    works_longer Body own w q calls h = record { saved = h.saved; on = h.on; run = h.run; variables = h.variables }
    works_longer Undo own w q calls h = record { saved = h.saved; alone = h.alone; front = h.front }
    works_longer Keep own w q calls h = record { alone = h.alone; front = h.front }
    works_longer l own w q calls h = h

    submit_helped : (s : State Run) (p : ℕ) (q : Process Run) (call : ObjectCall) → slice_get s.processes p ≡ Some q → ((k : ℕ) (o : Process Run) → slice_get s.processes k ≡ Some o → has_copied (phase o.label) ≡ true → looked_at (phase o.label) o.registers.j ≤ z.processes) → IsHelped m lawful fits z opening s → IsHelped m lawful fits z opening (record s { processes = set s.processes p (record q { calls = q.calls ++ call ∷ [] }) })
    submit_helped s p q call at within h =
        let c = s.cell in
        let ps = s.processes in
        let r = s.records in
        let x : Process Run = record q { calls = q.calls ++ call ∷ [] } in
        let root = block_of c c.root in
        let same_flips : (k : ℕ) → flips_at (set ps p x) k ≡ flips_at ps k = λ k. elim (cases_eq k p) [
          | inl e ↦ subst (λ (n : ℕ). flips_at (set ps p x) n ≡ flips_at ps n) (sym e) (flips_own ps p x (slice_get_within ps p q at) ∙ sym (flips_is ps p q at))
          | inr d ↦ flips_other ps p k x d
        ] in
        let keeps : (k : ℕ) (o : Process Run) → (has_copied (phase o.label) ≡ true → looked_at (phase o.label) o.registers.j ≤ z.processes) → AllPacked m lawful fits z opening c ps r k o → AllPacked m lawful fits z opening c (set ps p x) r k o = λ k o in_range old.
        subst (λ (history : List (Event ObjectCall Reply)). Packs m lawful fits z opening history r.order (map flips (set ps p x)) (is_linked c k) root (own_block c k) o.label o) (append-nil r.history)
        (others_packed m lawful fits z opening r.history [] r.order r.order (map flips ps) (map flips (set ps p x)) (is_linked c k) (is_linked c k) root root (own_block c k) o.label o (λ on. on) (λ _. refl) (λ _ i lt. refl) (λ _ i lt d. same_flips i) (λ _ _. same_flips o.registers.j) in_range old) in
        let mine : AllPacked m lawful fits z opening c ps r p x = λ copied. (let had = h.packed p q at copied in
        (had.0, record { listed = had.1.listed; current = had.1.current; parts = had.1.parts; variables = had.1.variables; passed = had.1.passed; works = works_longer q.label (own_block c p) had.0 q (q.calls ++ call ∷ []) had.1.works })) in
        record {
          fetched = each_after (AllFetched z c) (AllFetched z c) ps p x h.fetched (record { front = (h.fetched p q at).front }) (λ k o d old. old);
          root = h.root;
          packed = each_after (λ k o. AllPacked m lawful fits z opening c (set ps p x) r k o) (λ k o. AllPacked m lawful fits z opening c (set ps p x) r k o) ps p x (λ k o e. keeps k o (within k o e) (h.packed k o e)) (keeps p x (within p q at) mine) (λ k o d old. old);
        }

module _ {Run : Type 0} (m : Meaning Run) (lawful : List ℤ → Type 0) (fits : ObjectCall → Type 0) (ready : Run → Type 0) (Effect : Effects) (law : IsLawful m lawful fits ready Effect) where
  pub step_helped : (z : Sizes) (opening : List ℤ) (s : State Run) (p : ℕ) (o : Option (Process Run)) → slice_get s.processes p ≡ o → IsSound m lawful fits ready z opening s → IsCommitted z s → IsSound m lawful fits ready z opening (step_by m z s p o) → IsHelped m lawful fits z opening s → IsHelped m lawful fits z opening (step_by m z s p o)
  step_helped z opening s p None at sound committed next h = h
  step_helped z opening s p (Some q) at sound committed next h = step_helps m lawful fits ready Effect law z opening s sound committed h p q at next

  pub submitted : (z : Sizes) (opening : List ℤ) (s : State Run) (p : ℕ) (call : ObjectCall) (o : Option (Process Run)) → slice_get s.processes p ≡ o → IsSound m lawful fits ready z opening s → IsHelped m lawful fits z opening s → IsHelped m lawful fits z opening (submit_by s p call o)
  submitted z opening s p call None at sound h = h
  submitted z opening s p call (Some q) at sound h = submit_helped m lawful fits z opening s p q call at (λ k o e. looked_within z o.label o.registers (sound.in_range k o e).index) h

  act_helped : (z : Sizes) (opening : List ℤ) (s : State Run) (act : Act) → IsSound m lawful fits ready z opening s → IsCommitted z s → IsSound m lawful fits ready z opening (act_of m z s act) → IsHelped m lawful fits z opening s → IsHelped m lawful fits z opening (act_of m z s act)
  act_helped z opening s (Steps p) sound committed next h = step_helped z opening s p (slice_get s.processes p) refl sound committed next h
  act_helped z opening s (Submits p call) sound committed next h = submitted z opening s p call (slice_get s.processes p) refl sound h

  -- over every list of acts from a state whose runs are sound and committed
  acts_helped : (z : Sizes) (opening : List ℤ) (acts : List Act) (s : State Run) → ((more : List Act) → ActsFit fits more → IsSound m lawful fits ready z opening (run m z more s) × IsCommitted z (run m z more s)) → ActsFit fits acts → IsHelped m lawful fits z opening s → IsHelped m lawful fits z opening (run m z acts s)
  acts_helped z opening [] s facts fit h = h
  acts_helped z opening (act ∷ acts) s facts fit h = acts_helped z opening acts (act_of m z s act) (λ more fits_more. facts (act ∷ more) (fit.0, fits_more)) fit.1 (act_helped z opening s act (facts [] tt).0 (facts [] tt).1 (facts (act ∷ []) (fit.0, tt)).0 h)

  -- every state of a run
  pub run_helped : (n : ℕ) (opening : List ℤ) (acts : List Act) (s : State Run) → IsRun m lawful fits ready n opening acts s → IsHelped m lawful fits (sizes_of m n) opening s
  run_helped n opening acts s h =
      let z = sizes_of m n in
      let runs : (more : List Act) → ActsFit fits more → IsRun m lawful fits ready n opening more (run m z more h.start) = λ more fit. record { some = h.some; few = h.few; opens = h.opens; fit = fit; start = h.start; begins = h.begins; leads = refl } in
      let facts : (more : List Act) → ActsFit fits more → IsSound m lawful fits ready z opening (run m z more h.start) × IsCommitted z (run m z more h.start) = λ more fit. (run_sound m lawful fits ready Effect law n opening more (run m z more h.start) (runs more fit), run_committed m lawful fits ready Effect law n opening more (run m z more h.start) (runs more fit)) in
      subst (λ (k : State Run). IsHelped m lawful fits z opening k) h.leads
      (acts_helped z opening acts h.start facts h.fit
      (rw (h.begins.cell, h.begins.records) (start_helped m lawful fits ready z opening h.start.processes h.some (law.length_lawful opening h.opens) h.opens h.begins.idle)))
