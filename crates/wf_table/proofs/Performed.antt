-- A run by scripts and a schedule goes on with one more turn.
use Rattle.std.proofs.Common.{◌≡◌, ℕ, ◌<◌, List, [], ◌∷◌, ◌++◌, length, refl, sym, ap, ◌∙◌, arith, subst, inl, inr, append_assoc}
use Rattle.std.specs.Prelude.{ℤ, Option, Some, slice_get}
use Rattle.std.proofs.lemmas.Option.{slice_get_cases}
use Rattle.ob_interface.specs.Call.{ObjectCall}
use Rattle.wf_table.specs.declared.process.Sizes.{Sizes}
use Rattle.wf_table.specs.declared.schedule.Turns.{Turns}
use Rattle.wf_table.specs.Meaning.{Meaning}
use Rattle.wf_table.specs.Law.{Effects, IsLawful}
use Rattle.wf_table.specs.Schedule.{counted, steps_of}
use Rattle.wf_table.specs.StepTable.{Process}
use Rattle.wf_table.specs.Object.{State, step_of, step_by}
use Rattle.wf_table.specs.Start.{sizes_of}
use Rattle.wf_table.specs.Runs.{Act, Steps, ActsFit, act_of, run, submissions, turns, performed, IsRun}
use Rattle.wf_table.proofs.Counted.{one_turn}
use Rattle.wf_table.proofs.TableRuns.{run_sound}

turns-append : (ps qs : List ℕ) → turns (ps ++ qs) ≡ turns ps ++ turns qs
turns-append [] qs = refl
turns-append (p ∷ ps) qs = ap (λ (acts : List Act). Steps p ∷ acts) (turns-append ps qs)

-- one turn more in the schedule is one step more
performed-more : (scripts : List (ℕ × ObjectCall)) (schedule : List Turns) (p : ℕ) → performed scripts (counted schedule p) ≡ performed scripts schedule ++ Steps p ∷ []
performed-more scripts schedule p =
    ap (λ (ps : List ℕ). submissions scripts ++ turns ps) (one_turn schedule p)
    ∙ ap (λ (acts : List Act). submissions scripts ++ acts) (turns-append (steps_of schedule) (p ∷ []))
    ∙ sym (append_assoc (submissions scripts) (turns (steps_of schedule)) (Steps p ∷ []))

run-append : {Run : Type 0} (m : Meaning Run) (z : Sizes) (acts more : List Act) (s : State Run) → run m z (acts ++ more) s ≡ run m z more (run m z acts s)
run-append m z [] more s = refl
run-append m z (act ∷ acts) more s = run-append m z acts more (act_of m z s act)

fit-more : (fits : ObjectCall → Type 0) (acts : List Act) (p : ℕ) → ActsFit fits acts → ActsFit fits (acts ++ Steps p ∷ [])
fit-more fits [] p h = (tt, tt)
fit-more fits (act ∷ acts) p h = (h.0, fit-more fits acts p h.1)

module _ {Run : Type 0} (m : Meaning Run) (lawful : List ℤ → Type 0) (fits : ObjectCall → Type 0) (ready : Run → Type 0) (Effect : Effects) (law : IsLawful m lawful fits ready Effect) (n : ℕ) (opening : List ℤ) where
  -- a step of a process counts one turn
  counts : (s : State Run) (p : ℕ) (x : Process Run) → slice_get s.processes p ≡ Some x → (step_of m (sizes_of m n) s p).records.schedule ≡ counted s.records.schedule p
  counts s p x at = ap (λ (o : Option (Process Run)). (step_by m (sizes_of m n) s p o).records.schedule) at

  counts_below : (s : State Run) (p : ℕ) → p < length s.processes → (step_of m (sizes_of m n) s p).records.schedule ≡ counted s.records.schedule p
  counts_below s p lt =
      elim ((slice_get_cases s.processes p).1) [
        | inl found ↦ counts s p found.0 found.2
        | inr past ↦ absurd (omega (arith, lt, past.0))
      ]

  pub goes_on : (scripts : List (ℕ × ObjectCall)) (s : State Run) (p : ℕ) → p < n → IsRun m lawful fits ready n opening (performed scripts s.records.schedule) s → IsRun m lawful fits ready n opening (performed scripts (step_of m (sizes_of m n) s p).records.schedule) (step_of m (sizes_of m n) s p)
  goes_on scripts s p lt h =
      let z = sizes_of m n in
      let sound = run_sound m lawful fits ready Effect law n opening (performed scripts s.records.schedule) s h in
      let more : performed scripts (step_of m z s p).records.schedule ≡ performed scripts s.records.schedule ++ Steps p ∷ [] = ap (performed scripts) (counts_below s p (omega (arith, lt, sound.count))) ∙ performed-more scripts s.records.schedule p in
      subst (λ (acts : List Act). IsRun m lawful fits ready n opening acts (step_of m z s p)) (sym more)
      (record {
        some = h.some;
        few = h.few;
        opens = h.opens;
        fit = fit-more fits (performed scripts s.records.schedule) p h.fit;
        start = h.start;
        begins = h.begins;
        leads = run-append m z (performed scripts s.records.schedule) (Steps p ∷ []) h.start ∙ ap (λ (k : State Run). step_of m z k p) h.leads;
      })
