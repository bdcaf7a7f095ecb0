-- A machine keeps what it has over steps in a row.
use Rattle.std.proofs.Common.{◌≡◌, ℕ, zero, suc, List, refl}
use Rattle.std.specs.Prelude.{ℤ, Option, Some, None, slice_get}
use Rattle.ll_cell.specs.declared.form.Form.{Form}
use Rattle.ob_interface.specs.Call.{ObjectCall}
use Rattle.wf_table.specs.declared.process.Sizes.{Sizes}
use Rattle.wf_table.specs.Meaning.{Meaning}
use Rattle.wf_table.specs.Law.{Effects, IsLawful}
use Rattle.wf_table.specs.StepTable.{Process}
use Rattle.wf_table.specs.Object.{State, step_by}
use Rattle.wf_table.specs.declared.spent.Spent.{Spent}
use Rattle.wf_table.specs.Spent.{unspent, spent_after}
use Rattle.wf_table.specs.Counted.{count_by}
use Rattle.wf_object.specs.InARow.{after_steps, spent_after_steps}
use Rattle.wf_object.specs.Kept.{IsKept}
use Rattle.wf_object.proofs.Keeps.{step_kept}

module _ {Run : Type 0} (m : Meaning Run) (lawful : List ℤ → Type 0) (fits : ObjectCall → Type 0) (ready : Run → Type 0) (Effect : Effects) (law : IsLawful m lawful fits ready Effect) (z : Sizes) (opening : List ℤ) (p : ℕ) (form : Form) where
  kept_by : (s : State Run) (spent : List Spent) (o : Option (Process Run)) → slice_get s.processes p ≡ o → IsKept m lawful fits ready z opening s spent form → IsKept m lawful fits ready z opening (step_by m z s p o) (count_by spent_after unspent spent p o) form
  kept_by s spent None at h = h
  kept_by s spent (Some q) at h = step_kept m lawful fits ready Effect law z opening s p q at spent form h

  pub kept_after : (k : ℕ) (s : State Run) (spent : List Spent) → IsKept m lawful fits ready z opening s spent form → IsKept m lawful fits ready z opening (after_steps m z p k s) (spent_after_steps m z p k s spent) form
  kept_after zero s spent h = h
  kept_after (suc k) s spent h =
      let t = after_steps m z p k s in
      kept_by t (spent_after_steps m z p k s spent) (slice_get t.processes p) refl (kept_after k s spent h)
