-- Over a run a present body is that of a fitting call on a lawful block, so far; so its next step is never stuck.
use Rattle.std.proofs.Common.{◌≡◌, ◌≢◌, ℕ, ◌+◌, List, [], ◌∷◌, length, get_or, refl, sym, ap, ◌∙◌, subst}
use Rattle.std.specs.Prelude.{ℤ, Some, slice_get, map}
use Rattle.std.proofs.lemmas.Bool.{false≢true}
use Rattle.std.proofs.lemmas.List.{length-replicate}
use Rattle.ll_cell.specs.Cell.{is_linked, block_of}
use Rattle.ob_interface.specs.Call.{ObjectCall}
use Rattle.wf_table.specs.declared.engine_turn.EngineTurn.TheVariants.{Stuck}
use Rattle.wf_table.specs.declared.process.Label.{Label}
use Rattle.wf_table.specs.declared.process.Label.TheVariants.{Body}
use Rattle.wf_table.specs.declared.process.Sizes.{Sizes}
use Rattle.wf_table.specs.Meaning.{Turned, Meaning}
use Rattle.wf_table.specs.Law.{Effects, IsLawful}
use Rattle.wf_table.specs.Labels.{at_body}
use Rattle.wf_table.specs.StepTable.{Process, own_block, body_turn}
use Rattle.wf_table.specs.Object.{State}
use Rattle.wf_table.specs.Runs.{Act, ActsFit, run, IsRun}
use Rattle.wf_table.specs.Each.{Each}
use Rattle.wf_table.specs.Start.{sizes_of}
use Rattle.wf_table.specs.Toggles.{flips}
use Rattle.wf_table.specs.Sound.{IsSound}
use Rattle.wf_table.proofs.TableRuns.{run_sound}
use Rattle.wf_table.specs.Counted.{Counted, EachCounts, uncounted, counts_after, counts_of, counted_from, counted_act, counted_run}
use Rattle.wf_table.proofs.EachCounts.{act_counts}
use Rattle.wf_table.proofs.BoundRuns.{same_run}
use Rattle.wf_table.specs.Helps.{Packs, IsHelped}
use Rattle.wf_table.proofs.HelpBodies.{not_stuck}
use Rattle.wf_table.proofs.HelpRuns.{run_helped}
use Rattle.wf_theorems.specs.PresentBodies.{IsNeverStuck}
use Rattle.wf_theorems.proofs.Present.{Ran, AllRan, next_step, served_body, act_ran}

module _ {Run : Type 0} (m : Meaning Run) (lawful : List ℤ → Type 0) (fits : ObjectCall → Type 0) (ready : Run → Type 0) (Effect : Effects) (law : IsLawful m lawful fits ready Effect) where
  module _ (z : Sizes) (opening : List ℤ) where
    present_goes : (s : State Run) → IsHelped m lawful fits z opening s → (p : ℕ) (q : Process Run) (counted : List ℕ) → slice_get s.processes p ≡ Some q → q.label ≡ Body → Ran m z (own_block s.cell p) q counted → (body_turn m z s.cell p q).turn ≢ Stuck
    present_goes s helped p q counted at is ran stuck =
        let old = subst (λ (l : Label). Packs m lawful fits z opening s.records.history s.records.order (map flips s.processes) (is_linked s.cell p) (block_of s.cell s.cell.root) (own_block s.cell p) l q) is (helped.packed p q at) in
        let w = (old refl).0 in
        let mine = (old refl).1 in
        let passed = mine.passed refl in
        let steps = get_or counted 0 0 + 1 in
        not_stuck m lawful fits ready Effect law w.call w.last steps mine.listed.made.lawful_last passed.fit
        (ap (λ (t : Turned Run). t.turn) (sym (served_body m lawful fits ready Effect law z opening q w steps mine.works.saved passed.laid) ∙ next_step m z (own_block s.cell p) q counted ran) ∙ stuck)

    -- over every list of acts from a state whose runs are sound and helped
    run_ran : (acts : List Act) (s : Counted Run) → ((more : List Act) → ActsFit fits more → IsSound m lawful fits ready z opening (run m z more s.state) × IsHelped m lawful fits z opening (run m z more s.state)) → ActsFit fits acts → length s.counts ≡ length s.state.processes → Each (AllRan m z s.state.cell s.counts) s.state.processes → Each (AllRan m z (counted_run m z acts s).state.cell (counted_run m z acts s).counts) (counted_run m z acts s).state.processes
    run_ran [] s facts fit same h = h
    run_ran (act ∷ acts) s facts fit same h =
        let now = facts [] tt in
        let any : EachCounts (λ _ _. Unit {0}) uncounted s.counts s.state.processes = record { count = same; each = λ p q at. tt } in
        let next = act_counts m z counts_after uncounted (λ _ _. Unit {0}) s.state s.counts act (λ p q at x. tt) (λ x q calls y. tt) any in
        run_ran acts (counted_act m z s act) (λ more fits_more. facts (act ∷ more) (fit.0, fits_more)) fit.1 next.count
        (act_ran m lawful fits ready Effect law z opening s.state now.0 now.1 s.counts act same h)

  pub run_never_stuck : (n : ℕ) (opening : List ℤ) (acts : List Act) (s : State Run) → IsRun m lawful fits ready n opening acts s → IsNeverStuck m (sizes_of m n) s
  run_never_stuck n opening acts s r =
      let z = sizes_of m n in
      let runs : (more : List Act) → ActsFit fits more → IsRun m lawful fits ready n opening more (run m z more r.start) = λ more fit. record { some = r.some; few = r.few; opens = r.opens; fit = fit; start = r.start; begins = r.begins; leads = refl } in
      let end = counted_run m z acts (counted_from r.start) in
      let leads : end.state ≡ s = same_run m z acts (counted_from r.start) ∙ r.leads in
      let ran = run_ran z opening acts (counted_from r.start)
      (λ more fit. (run_sound m lawful fits ready Effect law n opening more (run m z more r.start) (runs more fit), run_helped m lawful fits ready Effect law n opening more (run m z more r.start) (runs more fit)))
      r.fit (length-replicate (length r.start.processes) uncounted)
      (λ p q at on. absurd (false≢true (sym (ap (λ (l : Label). at_body l) (r.begins.idle p q at).label) ∙ on))) in
      let helped : IsHelped m lawful fits z opening end.state = subst (λ (k : State Run). IsHelped m lawful fits z opening k) (sym leads) (run_helped m lawful fits ready Effect law n opening acts s r) in
      subst (λ (k : State Run). IsNeverStuck m z k) leads
      (λ p q at is. present_goes z opening end.state helped p q (counts_of end.counts p).body_steps at is (ran p q at (ap (λ (l : Label). at_body l) is)))
