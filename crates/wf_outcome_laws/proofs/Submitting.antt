-- Where an object stands behind the submission of all calls of scripts: at the beginning of each merge.
use Rattle.std.proofs.Common.{◌≡◌, ℕ, zero, suc, List, [], ◌∷◌, ◌++◌, length, get_or, map, replicate, refl, sym, ap, ◌∙◌, arith, subst}
use Rattle.std.specs.Prelude.{ℤ, Option, Some, None, slice_get, Contains}
use Rattle.std.proofs.lemmas.List.{length-replicate}
use Rattle.std.proofs.lemmas.Option.{same_Some, get_or_from_slice_get, slice_get_within}
use Rattle.ob_interface.specs.Call.{ObjectCall}
use Rattle.wf_history.specs.History.{Begin}
use Rattle.wf_table.proofs.HelpAndOrderSteps.{member}
use Rattle.wf_outcomes.specs.Merges.{start}
use Rattle.wf_table.specs.declared.process.Label.TheVariants.{Next}
use Rattle.wf_table.specs.declared.process.Sizes.{Sizes}
use Rattle.wf_table.specs.Each.{Each}
use Rattle.wf_table.specs.Law.{Effects}
use Rattle.wf_table.specs.Meaning.{Meaning}
use Rattle.wf_table.specs.Object.{Records, State, script_of, submit_by, submit_of}
use Rattle.wf_table.specs.Runs.{IsRun, run, submissions}
use Rattle.wf_table.specs.Scripts.{CallsFit}
use Rattle.wf_table.specs.Start.{sizes_of}
use Rattle.wf_table.specs.StepTable.{Process}
use Rattle.wf_table.proofs.Frame.{each_after}
use Rattle.wf_table.specs.Ends.{AllEndWithin}
use Rattle.wf_outcome_laws.specs.Shown.{scripts_in}
use Rattle.wf_outcome_laws.proofs.Lists.{in_none}
use Rattle.wf_outcome_laws.proofs.Showing.{Events}
use Rattle.wf_outcome_laws.proofs.Stages.{Stage}

-- nothing has begun yet
record Waits {Run : Type 0} (q : Process Run) : Type 0 where
  label : q.label ≡ Next
  begun : q.begun ≡ 0

module _ {Run : Type 0} (m : Meaning Run) (z : Sizes) where
  submit_waits : (s : State Run) (p : ℕ) (call : ObjectCall) (o : Option (Process Run)) → slice_get s.processes p ≡ o → Each (λ _ q. Waits q) s.processes → Each (λ _ q. Waits q) (submit_by s p call o).processes
  submit_waits s p call None at h = h
  submit_waits s p call (Some q) at h =
      let old = h p q at in
      each_after (λ _ x. Waits x) (λ _ x. Waits x) s.processes p (record q { calls = q.calls ++ call ∷ [] }) h (record { label = old.label; begun = old.begun }) (λ k o apart same. same)

  submit_records : (s : State Run) (p : ℕ) (call : ObjectCall) (o : Option (Process Run)) → (submit_by s p call o).records ≡ s.records
  submit_records s p call None = refl
  submit_records s p call (Some q) = refl

  all_wait : (calls : List (ℕ × ObjectCall)) (s : State Run) → Each (λ _ q. Waits q) s.processes → Each (λ _ q. Waits q) (run m z (submissions calls) s).processes
  all_wait [] s h = h
  all_wait (c ∷ calls) s h = all_wait calls (submit_of s c.0 c.1) (submit_waits s c.0 c.1 (slice_get s.processes c.0) refl h)

  pub same_records : (calls : List (ℕ × ObjectCall)) (s : State Run) → (run m z (submissions calls) s).records ≡ s.records
  same_records [] s = refl
  same_records (c ∷ calls) s = same_records calls (submit_of s c.0 c.1) ∙ submit_records s c.0 c.1 (slice_get s.processes c.0)

zeros : (n p : ℕ) → get_or (replicate {A = ℕ} n 0) p 0 ≡ 0
zeros zero p = refl
zeros (suc n) zero = refl
zeros (suc n) (suc p) = zeros n p

module _ {Run : Type 0} where
  as_many : (ps : List (Process Run)) → length (map (λ q. q.calls) ps) ≡ length ps
  as_many [] = refl
  as_many (q ∷ ps) = let r = as_many ps in omega (arith, r)

  own_script : (ps : List (Process Run)) (p : ℕ) (q : Process Run) → slice_get ps p ≡ Some q → q.calls ≡ get_or (map (λ o. o.calls) ps) p []
  own_script [] p q at = absurd (cc)
  own_script (o ∷ ps) zero q at = ap (λ (x : Process Run). x.calls) (sym (same_Some o q at))
  own_script (o ∷ ps) (suc p) q at = own_script ps p q at

  -- a call of the scripts is one of a process
  of_process : (ps : List (Process Run)) (p k : ℕ) (call : ObjectCall) → slice_get (get_or (map (λ o. o.calls) ps) p []) k ≡ Some call → (q : Process Run) × (slice_get ps p ≡ Some q) × (slice_get q.calls k ≡ Some call)
  of_process [] p k call at = absurd (cc)
  of_process (o ∷ ps) zero k call at = (o, refl, at)
  of_process (o ∷ ps) (suc p) k call at = of_process ps p k call at

  pub calls_fit : (fits : ObjectCall → Type 0) (s : State Run) → Each (λ _ q. CallsFit fits q) s.processes → (p k : ℕ) (call : ObjectCall) → slice_get (get_or (scripts_in s) p []) k ≡ Some call → fits call
  calls_fit fits s all p k call at =
      let found = of_process s.processes p k call at in
      subst fits (get_or_from_slice_get found.0.calls k call (record { export = 0; arguments = [] }) found.2) ((all p found.0 found.1).fit k (slice_get_within found.0.calls k call found.2))

module _ {Run : Type 0} (m : Meaning Run) (lawful : List ℤ → Type 0) (fits : ObjectCall → Type 0) (ready : Run → Type 0) (Effect : Effects) (n limit : ℕ) (opening : List ℤ) (calls : List (ℕ × ObjectCall)) (s : State Run) (r : IsRun m lawful fits ready n opening (submissions calls) s) where
  pub no_history : s.records.history ≡ []
  no_history = ap (λ (t : State Run). t.records.history) (sym r.leads) ∙ ap (λ (x : Records). x.history) (same_records m (sizes_of m n) calls r.start ∙ r.begins.records)

  pub no_order : s.records.order ≡ []
  no_order = ap (λ (t : State Run). t.records.order) (sym r.leads) ∙ ap (λ (x : Records). x.order) (same_records m (sizes_of m n) calls r.start ∙ r.begins.records)

  pub first_stage : AllEndWithin m Effect (script_of s) opening limit → Stage m lawful fits ready Effect n limit opening (scripts_in s) (start Effect (scripts_in s) opening) s
  first_stage all =
      let waits : Each (λ _ q. Waits q) s.processes = subst (λ (t : State Run). Each (λ _ q. Waits q) t.processes) r.leads
      (all_wait m (sizes_of m n) calls r.start (λ p q at. record { label = (r.begins.idle p q at).label; begun = (r.begins.idle p q at).begun })) in
      let many = length-replicate {A = ℕ} (length (scripts_in s)) 0 in
      let same = as_many s.processes in
      record {
        there = λ p less. member s.processes p (omega (arith, less, many, same));
        rests = λ p q at. record { label = (waits p q at).label; begun = (waits p q at).begun ∙ sym (zeros (length (scripts_in s)) p); calls = own_script s.processes p q at };
        known = λ id call h. absurd (in_none (Begin id call) (subst (λ (es : Events). Contains es (Begin id call)) no_history h));
        ends = all;
      }
