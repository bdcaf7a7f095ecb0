-- What every reached object has: over every list of acts.
use Rattle.std.proofs.Common.{◌≡◌, ℕ, List, [], ◌∷◌, refl, subst}
use Rattle.std.specs.Prelude.{ℤ, Option, Some, None, slice_get}
use Rattle.ob_interface.specs.Call.{ObjectCall}
use Rattle.wf_table.specs.declared.process.Sizes.{Sizes}
use Rattle.wf_table.specs.Meaning.{Meaning}
use Rattle.wf_table.specs.Law.{Effects, IsLawful}
use Rattle.wf_table.specs.StepTable.{Process}
use Rattle.wf_table.specs.Object.{State, step_by, submit_by}
use Rattle.wf_table.specs.Runs.{act_of, run, Act, Steps, Submits, ActFits, ActsFit, IsRun}
use Rattle.wf_table.specs.Sound.{IsSound}
use Rattle.wf_table.proofs.KeepsSound.{keeps_sound}
use Rattle.wf_table.specs.Start.{sizes_of}
use Rattle.wf_table.proofs.StartSound.{start_sound, few_words}
use Rattle.wf_table.proofs.SubmitSound.{submit_sound}

module _ {Run : Type 0} (m : Meaning Run) (lawful : List ℤ → Type 0) (fits : ObjectCall → Type 0) (ready : Run → Type 0) (Effect : Effects) (law : IsLawful m lawful fits ready Effect) where
  step_by_sound : (z : Sizes) (opening : List ℤ) (s : State Run) (p : ℕ) (o : Option (Process Run)) → slice_get s.processes p ≡ o → IsSound m lawful fits ready z opening s → IsSound m lawful fits ready z opening (step_by m z s p o)
  step_by_sound z opening s p None e h = h
  step_by_sound z opening s p (Some q) e h = keeps_sound m lawful fits ready Effect law z opening s p q e h

  submit_by_sound : (z : Sizes) (opening : List ℤ) (s : State Run) (p : ℕ) (call : ObjectCall) (o : Option (Process Run)) → fits call → slice_get s.processes p ≡ o → IsSound m lawful fits ready z opening s → IsSound m lawful fits ready z opening (submit_by s p call o)
  submit_by_sound z opening s p call None fit e h = h
  submit_by_sound z opening s p call (Some q) fit e h = submit_sound m lawful fits ready z opening s p q call fit e h

  act_sound : (z : Sizes) (opening : List ℤ) (s : State Run) (act : Act) → ActFits fits act → IsSound m lawful fits ready z opening s → IsSound m lawful fits ready z opening (act_of m z s act)
  act_sound z opening s (Steps p) fit h = step_by_sound z opening s p (slice_get s.processes p) refl h
  act_sound z opening s (Submits p call) fit h = submit_by_sound z opening s p call (slice_get s.processes p) fit refl h

  acts_sound : (z : Sizes) (opening : List ℤ) (acts : List Act) (s : State Run) → ActsFit fits acts → IsSound m lawful fits ready z opening s → IsSound m lawful fits ready z opening (run m z acts s)
  acts_sound z opening [] s fit h = h
  acts_sound z opening (act ∷ acts) s fit h = acts_sound z opening acts (act_of m z s act) fit.1 (act_sound z opening s act fit.0 h)

  -- every state of a run
  pub run_sound : (n : ℕ) (opening : List ℤ) (acts : List Act) (s : State Run) → IsRun m lawful fits ready n opening acts s → IsSound m lawful fits ready (sizes_of m n) opening s
  run_sound n opening acts s h =
      let z = sizes_of m n in
      let sized = few_words m lawful fits ready Effect law z h.few h.some refl refl refl in
      let first = start_sound m lawful fits ready z opening h.start.processes h.opens sized (law.length_lawful opening h.opens) refl refl refl h.begins.count h.begins.idle in
      subst (λ (k : State Run). IsSound m lawful fits ready z opening k) h.leads
      (acts_sound z opening acts h.start h.fit (rw (h.begins.cell, h.begins.records) first))
