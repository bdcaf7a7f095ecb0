-- A process's script is what was submitted to it.
use Rattle.std.proofs.Common.{◌≡◌, ℕ, Bool, List, [], ◌∷◌, ◌++◌, set, refl, sym, ap, ◌∙◌, cond, eqb, subst, inl, inr, append_assoc}
use Rattle.std.specs.Prelude.{Option, Some, None, slice_get}
use Rattle.std.proofs.lemmas.Bool.{cases_eq, eq-eqb, ne_eqb}
use Rattle.std.proofs.lemmas.List.{append-nil}
use Rattle.std.proofs.lemmas.Option.{same_Some}
use Rattle.ob_interface.specs.Call.{ObjectCall}
use Rattle.wf_table.specs.declared.process.Sizes.{Sizes}
use Rattle.wf_table.specs.Meaning.{Meaning}
use Rattle.wf_table.specs.Object.{State, script_by, script_of, step_by, submit_by}
use Rattle.wf_table.specs.Runs.{Act, Steps, Submits, act_of, run}
use Rattle.wf_table.specs.StepTable.{Process, row}
use Rattle.wf_table.proofs.Moves.{same_calls}
use Rattle.wf_table.proofs.BoundPlaces.{put_at, still_at}
use Rattle.wf_theorems.specs.FirstCalls.{submitted}

module _ {Run : Type 0} (m : Meaning Run) (z : Sizes) where
  -- the process in this place has these calls
  record Has (calls : List ObjectCall) (ps : List (Process Run)) (p : ℕ) : Type 0 where
    process : Process Run
    stands : slice_get ps p ≡ Some process
    calls_are : process.calls ≡ calls

  step_has : (s : State Run) (k p : ℕ) (o : Process Run) (x : Option (Process Run)) → slice_get s.processes k ≡ x → slice_get s.processes p ≡ Some o → Has o.calls (step_by m z s k x).processes p
  step_has s k p o None at stands = record { process = o; stands = stands; calls_are = refl }
  step_has s k p o (Some q) at stands =
      let after = (row q.label m z s.cell k q).process in
      elim (cases_eq p k) [
        | inl same ↦ (let here : slice_get s.processes k ≡ Some o = ap (slice_get s.processes) (sym same) ∙ stands in
            record { process = after; stands = ap (slice_get (set s.processes k after)) same ∙ put_at s.processes k after q at; calls_are = same_calls q.label m z s.cell k q ∙ ap (λ (y : Process Run). y.calls) (same_Some q o (sym at ∙ here)) })
        | inr apart ↦ record { process = o; stands = still_at s.processes k after p o apart stands; calls_are = refl }
      ]

  -- a submission to another process
  submit_apart : (s : State Run) (k p : ℕ) (call : ObjectCall) (o : Process Run) (x : Option (Process Run)) → (p ≡ k → ⊥) → slice_get s.processes p ≡ Some o → Has o.calls (submit_by s k call x).processes p
  submit_apart s k p call o None apart stands = record { process = o; stands = stands; calls_are = refl }
  submit_apart s k p call o (Some q) apart stands = record { process = o; stands = still_at s.processes k (record q { calls = q.calls ++ call ∷ [] }) p o apart stands; calls_are = refl }

  submit_own : (s : State Run) (p : ℕ) (call : ObjectCall) (o : Process Run) → slice_get s.processes p ≡ Some o → Has (o.calls ++ call ∷ []) (submit_by s p call (slice_get s.processes p)).processes p
  submit_own s p call o stands =
      subst (λ (x : Option (Process Run)). Has (o.calls ++ call ∷ []) (submit_by s p call x).processes p) (sym stands)
      (record { process = record o { calls = o.calls ++ call ∷ [] }; stands = put_at s.processes p (record o { calls = o.calls ++ call ∷ [] }) o stands; calls_are = refl })

  -- by whether a call is submitted to this process
  more_submitted : (p k : ℕ) (calls rest : List ObjectCall) (call : ObjectCall) (all : List ObjectCall) → k ≡ p → all ≡ (calls ++ call ∷ []) ++ rest → all ≡ calls ++ cond (eqb k p) (call ∷ rest) rest
  more_submitted p k calls rest call all same e = e ∙ append_assoc calls (call ∷ []) rest ∙ ap (λ (b : Bool). calls ++ cond b (call ∷ rest) rest) (sym (eq-eqb k p same))

  none_submitted : (p k : ℕ) (calls rest : List ObjectCall) (call : ObjectCall) (all : List ObjectCall) → (p ≡ k → ⊥) → all ≡ calls ++ rest → all ≡ calls ++ cond (eqb k p) (call ∷ rest) rest
  none_submitted p k calls rest call all apart e = e ∙ ap (λ (b : Bool). calls ++ cond b (call ∷ rest) rest) (sym (ne_eqb k p (λ same. apart (sym same))))

  -- over every list of acts
  pub run_script : (acts : List Act) (s : State Run) (p : ℕ) (o : Process Run) → slice_get s.processes p ≡ Some o → script_of (run m z acts s) p ≡ o.calls ++ submitted p acts
  run_script [] s p o stands = ap script_by stands ∙ sym (append-nil o.calls)
  run_script (Steps k ∷ acts) s p o stands =
      let next = step_has s k p o (slice_get s.processes k) refl stands in
      run_script acts (act_of m z s (Steps k)) p next.process next.stands ∙ ap (λ (calls : List ObjectCall). calls ++ submitted p acts) next.calls_are
  run_script (Submits k call ∷ acts) s p o stands =
      let all = script_of (run m z acts (act_of m z s (Submits k call))) p in
      elim (cases_eq p k) [
        | inl same ↦ (let next : Has (o.calls ++ call ∷ []) (submit_by s k call (slice_get s.processes k)).processes p = subst (λ (i : ℕ). Has (o.calls ++ call ∷ []) (submit_by s i call (slice_get s.processes i)).processes p) same (submit_own s p call o stands) in
            more_submitted p k o.calls (submitted p acts) call all (sym same)
            (run_script acts (act_of m z s (Submits k call)) p next.process next.stands ∙ ap (λ (calls : List ObjectCall). calls ++ submitted p acts) next.calls_are))
        | inr apart ↦ (let next = submit_apart s k p call o (slice_get s.processes k) apart stands in
            none_submitted p k o.calls (submitted p acts) call all apart
            (run_script acts (act_of m z s (Submits k call)) p next.process next.stands ∙ ap (λ (calls : List ObjectCall). calls ++ submitted p acts) next.calls_are))
      ]
