-- What every run keeps in which every index is in range.
use Rattle.std.proofs.Common.{◌≡◌, ℕ, ◌≤◌, List, [], ◌∷◌, refl, sym, subst, arith}
use Rattle.ob_interface.specs.Call.{ObjectCall}
use Rattle.wf_table.specs.declared.process.Sizes.{Sizes}
use Rattle.wf_table.specs.Meaning.{Meaning}
use Rattle.wf_table.specs.StepTable.{Process, row}
use Rattle.wf_table.specs.Object.{State}
use Rattle.wf_table.specs.Runs.{Act, ActsFit, run}
use Rattle.wf_table.specs.Ranges.{IsSized, IsInRange}
use Rattle.wf_table.specs.Each.{Each}
use Rattle.wf_table.specs.declared.process.Label.TheVariants.{Next}
use Rattle.wf_table.specs.declared.spent.Spent.{Spent}
use Rattle.wf_table.specs.Spent.{unspent, spent_after, has_more}
use Rattle.wf_table.specs.Bound.{StaysWithin, IsWithinBound, AllWithinBound, sharp}
use Rattle.wf_table.specs.Counted.{Counts, Counted, EachCounts, uncounted, counts_after, counts_of, counted_from, counted_act, counted_run}
use Rattle.wf_table.proofs.BoundBodies.{keeps_bodies, few_bodies}
use Rattle.wf_table.proofs.EachCounts.{act_counts, start_counts}
use Rattle.wf_table.proofs.Lowers.{keeps_outside}
use Rattle.wf_table.proofs.Sums.{bound_is}

module _ {Run : Type 0} (m : Meaning Run) (z : Sizes) where
  pub step_stays : (s : State Run) (p : ℕ) (q : Process Run) (spent : Spent) → IsSized z → IsInRange z q → StaysWithin z spent q → StaysWithin z (spent_after q.label (has_more q) spent) (row q.label m z s.cell p q).process
  step_stays s p q spent sized range h = record {
    outside = keeps_outside z q.label m s.cell p q spent sized range h.outside;
    bodies = keeps_bodies z q.label m s.cell p q spent range h.bodies;
  }

  abbrev Stays : Counts → Process Run → Type 0
  Stays x q = StaysWithin z x.spent q

  act_stays : (s : Counted Run) (act : Act) → IsSized z → Each (λ _ q. IsInRange z q) s.state.processes → EachCounts Stays uncounted s.counts s.state.processes → EachCounts Stays uncounted (counted_act m z s act).counts (counted_act m z s act).state.processes
  act_stays s act sized range h =
      act_counts m z counts_after uncounted Stays s.state s.counts act
      (λ p q at stays. step_stays s.state p q (counts_of s.counts p).spent sized (range p q at) stays)
      (λ x q calls stays. record { outside = stays.outside; bodies = stays.bodies })
      h

  -- every index is in range in every state that such acts lead to
  abbrev pub StaysInRange : (ObjectCall → Type 0) → State Run → Type 0
  StaysInRange fits s = (acts : List Act) → ActsFit fits acts → Each (λ _ q. IsInRange z q) (run m z acts s).processes

  run_stays : (fits : ObjectCall → Type 0) (acts : List Act) (s : Counted Run) → IsSized z → StaysInRange fits s.state → ActsFit fits acts → EachCounts Stays uncounted s.counts s.state.processes → EachCounts Stays uncounted (counted_run m z acts s).counts (counted_run m z acts s).state.processes
  run_stays fits [] s sized range fit h = h
  run_stays fits (act ∷ acts) s sized range fit h =
      run_stays fits acts (counted_act m z s act) sized (λ more fits_more. range (act ∷ more) (fit.0, fits_more)) fit.1 (act_stays s act sized (range [] tt) h)

  pub idle_stays : (q : Process Run) → q.label ≡ Next → StaysWithin z unspent q
  idle_stays q at = record { outside = rw at (omega arith); bodies = rw at (omega arith) }

  pub within_bound : (s : Spent) (q : Process Run) → IsInRange z q → StaysWithin z s q → IsWithinBound z s q
  within_bound s q range h =
      let outside : s.outside ≤ sharp z = omega (arith, h.outside) in
      record {
        rounds = range.round;
        bodies = omega (arith, h.bodies, few_bodies z q.label q range);
        outside = outside;
        promised = omega (arith, outside, bound_is z);
      }

  -- the first part of a counted run is the run of the table
  pub same_run : (acts : List Act) (s : Counted Run) → (counted_run m z acts s).state ≡ run m z acts s.state
  same_run [] s = refl
  same_run (act ∷ acts) s = same_run acts (counted_act m z s act)

  pub run_within : (fits : ObjectCall → Type 0) (acts : List Act) (start : State Run) → IsSized z → StaysInRange fits start → ActsFit fits acts → Each (λ _ q. q.label ≡ Next) start.processes → AllWithinBound z (counted_run m z acts (counted_from start))
  run_within fits acts start sized range fit idle p q at =
      let end = counted_run m z acts (counted_from start) in
      let first = start_counts m z counts_after uncounted Stays start (λ k o e. idle_stays o (idle k o e)) in
      let stays = run_stays fits acts (counted_from start) sized range fit first in
      let in_range : Each (λ _ o. IsInRange z o) end.state.processes = subst (λ (s : State Run). Each (λ _ o. IsInRange z o) s.processes) (sym (same_run acts (counted_from start))) (range acts fit) in
      within_bound (counts_of end.counts p).spent q (in_range p q at) (stays.each p q at)
