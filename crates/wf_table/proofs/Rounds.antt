-- A call is in at most two rounds, and the register tells how many it has begun.
use Rattle.std.proofs.Common.{◌≡◌, ℕ, ◌+◌, ◌≤◌, Bool, true, false, List, [], ◌∷◌, refl, sym, subst, cond, arith}
use Rattle.std.proofs.lemmas.Bool.Decides.{nat_tests}
use Rattle.ob_interface.specs.Call.{ObjectCall}
use Rattle.ll_cell.specs.Cell.{Cell}
use Rattle.wf_table.specs.declared.engine_turn.EngineTurn.{EngineTurn}
use Rattle.wf_table.specs.declared.engine_turn.EngineTurn.TheVariants.{On, Returned, Trapped, Stuck}
use Rattle.wf_table.specs.declared.process.Label.{Label}
use Rattle.wf_table.specs.declared.process.Label.TheVariants.{Next, Post, Link, Body}
use Rattle.wf_table.specs.declared.process.Sizes.{Sizes}
use Rattle.wf_table.specs.Meaning.{Meaning}
use Rattle.wf_table.specs.StepTable.{Process, call_at, row, to, after_body, body_turn}
use Rattle.wf_table.specs.Runs.{Act, ActsFit}
use Rattle.wf_table.specs.Object.{State}
use Rattle.wf_table.specs.Ranges.{IsInRange}
use Rattle.wf_table.specs.Each.{Each}
use Rattle.wf_table.specs.Bound.{AllInRounds}
use Rattle.wf_table.specs.Counted.{Counts, Counted, EachCounts, uncounted, counts_after, counts_of, counted_from, counted_act, counted_run}
use Rattle.wf_table.specs.Rounds.{rounds_after, TellsRounds, IsInRounds}
use Rattle.wf_table.specs.Spent.{has_more}
use Rattle.wf_table.proofs.EachCounts.{act_counts, start_counts}
use Rattle.wf_table.proofs.BoundRuns.{StaysInRange}

keeps_few : (l : Label) (more : Bool) (register rounds : ℕ) → register ≤ 2 → rounds ≤ 2 → TellsRounds l register rounds → rounds_after l more rounds ≤ 2
keeps_few Next true register rounds in_range few told = omega arith
keeps_few Next false register rounds in_range few told = few
keeps_few Link more register rounds in_range few told = omega (arith, in_range, told)
keeps_few l more register rounds in_range few told = few

module _ {Run : Type 0} (z : Sizes) where
  begins : (m : Meaning Run) (c : Cell) (p : ℕ) (q : Process Run) (rounds : ℕ) → rounds ≤ 2 → IsInRounds (rounds_after Next (has_more q) rounds) (row Next m z c p (to Next q)).process
  begins m c p q rounds few =
      elim (has_more q) as (λ b. IsInRounds (rounds_after Next b rounds) (cond b (record q { label = Post; begun = q.begun + 1; registers = record q.registers { i = 0 }; list = m.lay (call_at q q.begun) }) (to Next q))) [
        | true ↦ record { most = omega arith; told = refl }
        | false ↦ record { most = few; told = tt }
      ]

  -- behind a step of a body, whatever comes of it
  body_tells : (t : EngineTurn) (q : Process Run) (rounds : ℕ) → q.registers.round ≡ rounds → TellsRounds (after_body z t (to Body q)).label (after_body z t (to Body q)).registers.round rounds
  body_tells On q rounds told = told
  body_tells Returned q rounds told = told
  body_tells (Trapped k) q rounds told = grind (arith, nat_tests, told)
  body_tells Stuck q rounds told = told

  keeps_told : (l : Label) (m : Meaning Run) (c : Cell) (p : ℕ) (q : Process Run) (rounds : ℕ) → TellsRounds l q.registers.round rounds → TellsRounds (row l m z c p (to l q)).process.label (row l m z c p (to l q)).process.registers.round (rounds_after l (has_more q) rounds)
  keeps_told Next m c p q rounds told = grind (arith, nat_tests)
  keeps_told Body m c p q rounds told = body_tells (body_turn m z c p (to Body q)).turn (record q { run = (body_turn m z c p (to Body q)).run }) rounds told
  keeps_told l m c p q rounds told = grind (arith, nat_tests, told)

  idle_in_rounds : (q : Process Run) → q.label ≡ Next → IsInRounds 0 q
  idle_in_rounds q at = record { most = omega arith; told = subst (λ (l : Label). TellsRounds l q.registers.round 0) (sym at) tt }

module _ {Run : Type 0} (m : Meaning Run) (z : Sizes) where
  abbrev InRounds : Counts → Process Run → Type 0
  InRounds x q = IsInRounds x.rounds q

  act_rounds : (s : Counted Run) (act : Act) → Each (λ _ q. IsInRange z q) s.state.processes → EachCounts InRounds uncounted s.counts s.state.processes → EachCounts InRounds uncounted (counted_act m z s act).counts (counted_act m z s act).state.processes
  act_rounds s act range h =
      act_counts m z counts_after uncounted InRounds s.state s.counts act
      (λ p q at stands. (let rounds = (counts_of s.counts p).rounds in record {
        most = keeps_few q.label (has_more q) q.registers.round rounds (range p q at).round stands.most stands.told;
        told = keeps_told z q.label m s.state.cell p q rounds stands.told;
      }))
      (λ x q calls stands. record { most = stands.most; told = stands.told })
      h

  run_rounds : (fits : ObjectCall → Type 0) (acts : List Act) (s : Counted Run) → StaysInRange m z fits s.state → ActsFit fits acts → EachCounts InRounds uncounted s.counts s.state.processes → EachCounts InRounds uncounted (counted_run m z acts s).counts (counted_run m z acts s).state.processes
  run_rounds fits [] s range fit h = h
  run_rounds fits (act ∷ acts) s range fit h =
      run_rounds fits acts (counted_act m z s act) (λ more fits_more. range (act ∷ more) (fit.0, fits_more)) fit.1 (act_rounds s act (range [] tt) h)

  pub run_in_rounds : (fits : ObjectCall → Type 0) (acts : List Act) (start : State Run) → StaysInRange m z fits start → ActsFit fits acts → Each (λ _ q. q.label ≡ Next) start.processes → AllInRounds (counted_run m z acts (counted_from start))
  run_in_rounds fits acts start range fit idle =
      (run_rounds fits acts (counted_from start) range fit (start_counts m z counts_after uncounted InRounds start (λ k o e. idle_in_rounds z o (idle k o e)))).each
