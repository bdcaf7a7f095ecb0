-- A machine keeps what it has: from the start, over steps and submissions.
use Rattle.std.proofs.Common.{◌≡◌, ℕ, List, [], ◌∷◌, ◌++◌, length, set, replicate, ap, arith, subst}
use Rattle.std.specs.Prelude.{ℤ, Some, slice_get}
use Rattle.std.proofs.lemmas.List.{get_or-replicate}
use Rattle.std.proofs.lemmas.Option.{slice_get_within}
use Rattle.ll_cell.specs.declared.form.Form.{Form}
use Rattle.ob_interface.specs.Call.{ObjectCall}
use Rattle.wf_table.specs.declared.process.Sizes.{Sizes}
use Rattle.wf_table.specs.Meaning.{Meaning}
use Rattle.wf_table.specs.Law.{Effects, IsLawful}
use Rattle.wf_table.specs.StepTable.{Process}
use Rattle.wf_table.specs.Object.{State, stepped}
use Rattle.wf_table.specs.Each.{Each}
use Rattle.wf_table.specs.Ranges.{IsSized}
use Rattle.wf_table.specs.Start.{IsIdle, cell_at_start, records_at_start}
use Rattle.wf_table.proofs.Frame.{each_after}
use Rattle.wf_table.proofs.KeepsSound.{keeps_sound}
use Rattle.wf_table.proofs.StartSound.{start_sound}
use Rattle.wf_table.proofs.SubmitSound.{submit_sound}
use Rattle.wf_table.proofs.HelpAndOrderRuns.{founded, start_committed, submit_committed, step_committed}
use Rattle.wf_table.specs.declared.spent.Spent.{Spent}
use Rattle.wf_table.specs.Spent.{unspent, spent_after}
use Rattle.wf_table.specs.Bound.{StaysWithin}
use Rattle.wf_table.specs.Counted.{EachCounts}
use Rattle.wf_table.proofs.EachCounts.{start_counts, submit_counts}
use Rattle.wf_table.proofs.BoundRuns.{idle_stays}
use Rattle.wf_table.proofs.HelpRuns.{start_helped, step_helped, submitted}
use Rattle.wf_table.proofs.StandingRuns.{start_standing, step_standing, submit_standing}
use Rattle.wf_table.proofs.Legal.{step_answered}
use Rattle.wf_object.specs.Kept.{IsKept}
use Rattle.wf_object.specs.Packed.{packed}
use Rattle.wf_object.proofs.Spends.{later, spends_stay, among_stay}

module _ {Run : Type 0} (m : Meaning Run) (lawful : List ℤ → Type 0) (fits : ObjectCall → Type 0) (ready : Run → Type 0) (Effect : Effects) (law : IsLawful m lawful fits ready Effect) (z : Sizes) (opening : List ℤ) where
  pub start_kept : (ps : List (Process Run)) (form : Form) → form ≡ packed z → lawful opening → IsSized z → z.variables ≡ m.variables → z.replies ≡ m.replies → z.arguments ≡ m.arguments → length ps ≡ z.processes → Each (λ _ q. IsIdle ready z q) ps → IsKept m lawful fits ready z opening (record { cell = cell_at_start z opening; processes = ps; records = records_at_start z.processes }) (replicate z.processes unspent) form
  start_kept ps form packs opens sized variables replies arguments count idle =
      let long : length opening ≡ z.variables = omega (arith, law.length_lawful opening opens, variables) in
      let s : State Run = record { cell = cell_at_start z opening; processes = ps; records = records_at_start z.processes } in
      let sound = start_sound m lawful fits ready z opening ps opens sized long variables replies arguments count idle in
      let base = founded m lawful fits ready z opening s sound in
      record {
        sound = sound;
        committed = start_committed ready z opening ps sized.some (omega (arith, long)) idle base;
        helped = start_helped m lawful fits ready z opening ps sized.some long opens idle;
        standing = start_standing ready z (cell_at_start z opening) ps idle base;
        answered = λ words last made i id reply at ended. absurd (omega (arith, at.0));
        spends = subst (λ (n : ℕ). EachCounts (StaysWithin z) unspent (replicate n unspent) ps) count (start_counts m z spent_after unspent (StaysWithin z) s (λ k q at. idle_stays m z q (idle k q at).label));
        among = λ k q at. omega (arith, ap (λ (x : Spent). x.inside) (get_or-replicate z.processes k unspent unspent (omega (arith, slice_get_within ps k q at, count))));
        packs = packs;
      }

  module _ (s : State Run) (p : ℕ) (q : Process Run) (at : slice_get s.processes p ≡ Some q) (spent : List Spent) (form : Form) (h : IsKept m lawful fits ready z opening s spent form) where
    pub step_kept : IsKept m lawful fits ready z opening (stepped m z s p q) (set spent p (later m z s p q at spent)) form
    step_kept =
        let sound = keeps_sound m lawful fits ready Effect law z opening s p q at h.sound in
        let committed = step_committed m lawful fits ready Effect law z opening s p (Some q) at h.sound h.committed in
        let helped = step_helped m lawful fits ready Effect law z opening s p (Some q) at h.sound h.committed sound h.helped in
        record {
          sound = sound;
          committed = committed;
          helped = helped;
          standing = step_standing m lawful fits ready Effect law z opening s p (Some q) at h.sound sound h.committed h.standing;
          answered = step_answered m lawful fits ready Effect law z opening s p (Some q) at h.sound sound h.committed committed h.standing h.helped.root helped.root h.answered;
          spends = spends_stay m z s p q at spent h.sound.sized h.sound.in_range h.spends;
          among = among_stay m z s p q at spent h.spends.count h.among;
          packs = h.packs;
        }

    pub submit_kept : (call : ObjectCall) → fits call → IsKept m lawful fits ready z opening (record s { processes = set s.processes p (record q { calls = q.calls ++ call ∷ [] }) }) spent form
    submit_kept call fit = record {
      sound = submit_sound m lawful fits ready z opening s p q call fit at h.sound;
      committed = submit_committed z s p q call at h.committed;
      helped = submitted m lawful fits ready Effect law z opening s p call (Some q) at h.sound h.helped;
      standing = submit_standing z s p q call at h.standing;
      answered = h.answered;
      spends = submit_counts m z spent_after unspent (StaysWithin z) s spent p call (Some q) (λ k o calls stays. record { outside = stays.outside; bodies = stays.bodies }) at h.spends;
      among = each_after _ _ s.processes p _ h.among (h.among _ _ at) (λ k o apart old. old);
      packs = h.packs;
    }
