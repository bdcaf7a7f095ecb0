-- What an act leaves of a fact of each process and of what is counted of it: the process that acts owes it, and the
-- others keep it.
use Rattle.std.proofs.Common.{◌≡◌, ℕ, ◌<◌, Bool, List, [], ◌∷◌, ◌++◌, length, set, get_or, refl, sym, ◌∙◌, subst, arith, length-set, get_or-set_same, get_or-set_other}
use Rattle.std.specs.Prelude.{Option, Some, None, slice_get, replicate}
use Rattle.std.proofs.lemmas.List.{length-replicate, get_or-replicate}
use Rattle.std.proofs.lemmas.Option.{slice_get_within}
use Rattle.ob_interface.specs.Call.{ObjectCall}
use Rattle.wf_table.specs.declared.process.Label.{Label}
use Rattle.wf_table.specs.declared.process.Sizes.{Sizes}
use Rattle.wf_table.specs.Meaning.{Meaning}
use Rattle.wf_table.specs.StepTable.{Process, row}
use Rattle.wf_table.specs.Object.{State, step_by, submit_by}
use Rattle.wf_table.specs.Runs.{Act, Steps, Submits, act_of}
use Rattle.wf_table.specs.Each.{Each}
use Rattle.wf_table.specs.Spent.{has_more}
use Rattle.wf_table.specs.Counted.{EachCounts, count_by, count_act}
use Rattle.wf_table.proofs.Frame.{each_after}

module _ {A Run : Type 0} (m : Meaning Run) (z : Sizes) (after : Label → Bool → A → A) (d : A) (P : A → Process Run → Type 0) where
  -- what a step owes where this is counted
  abbrev pub Owes : State Run → List A → Type 0
  Owes s xs = (p : ℕ) (q : Process Run) → slice_get s.processes p ≡ Some q → P (get_or xs p d) q → P (after q.label (has_more q) (get_or xs p d)) (row q.label m z s.cell p q).process

  -- it doesn't read the script
  abbrev pub IgnoresScript : Type 0
  IgnoresScript = (x : A) (q : Process Run) (calls : List ObjectCall) → P x q → P x (record q { calls = calls })

  pub step_counts : (s : State Run) (xs : List A) (p : ℕ) (o : Option (Process Run)) → Owes s xs → slice_get s.processes p ≡ o → EachCounts P d xs s.processes → EachCounts P d (count_by after d xs p o) (step_by m z s p o).processes
  step_counts s xs p None owes at h = h
  step_counts s xs p (Some q) owes at h =
      let new = after q.label (has_more q) (get_or xs p d) in
      let counted : p < length xs = omega (arith, h.count, slice_get_within s.processes p q at) in
      record {
        count = length-set xs p new ∙ h.count ∙ sym (length-set s.processes p _);
        each = each_after (λ k o. P (get_or xs k d) o) (λ k o. P (get_or (set xs p new) k d) o) s.processes p _ h.each
            (subst (λ (x : A). P x (row q.label m z s.cell p q).process) (sym (get_or-set_same xs p new d counted)) (owes p q at (h.each p q at)))
            (λ k o apart e. subst (λ (x : A). P x o) (sym (get_or-set_other xs p k new d apart)) e);
      }

  pub submit_counts : (s : State Run) (xs : List A) (p : ℕ) (call : ObjectCall) (o : Option (Process Run)) → IgnoresScript → slice_get s.processes p ≡ o → EachCounts P d xs s.processes → EachCounts P d xs (submit_by s p call o).processes
  submit_counts s xs p call None ignores at h = h
  submit_counts s xs p call (Some q) ignores at h = record {
    count = h.count ∙ sym (length-set s.processes p _);
    each = each_after (λ k o. P (get_or xs k d) o) (λ k o. P (get_or xs k d) o) s.processes p _ h.each (ignores _ q (q.calls ++ call ∷ []) (h.each p q at)) (λ k o apart e. e);
  }

  pub act_counts : (s : State Run) (xs : List A) (act : Act) → Owes s xs → IgnoresScript → EachCounts P d xs s.processes → EachCounts P d (count_act after d s xs act) (act_of m z s act).processes
  act_counts s xs (Steps p) owes ignores h = step_counts s xs p (slice_get s.processes p) owes refl h
  act_counts s xs (Submits p call) owes ignores h = submit_counts s xs p call (slice_get s.processes p) ignores refl h

  pub start_counts : (s : State Run) → Each (λ _ q. P d q) s.processes → EachCounts P d (replicate (length s.processes) d) s.processes
  start_counts s first = record {
    count = length-replicate (length s.processes) d;
    each = λ p q at. subst (λ (x : A). P x q) (sym (get_or-replicate (length s.processes) p d d (slice_get_within s.processes p q at))) (first p q at);
  }
