-- What a machine keeps from step to step.
use Rattle.std.specs.Prelude.{◌≡◌, ◌≤◌, ℤ, List, length}
use Rattle.ll_cell.specs.Memory.{Memory}
use Rattle.ll_cell.specs.declared.form.Form.{Form}
use Rattle.ob_interface.specs.Call.{ObjectCall}
use Rattle.wf_table.specs.declared.process.Sizes.{Sizes}
use Rattle.wf_table.specs.Meaning.{Meaning}
use Rattle.wf_table.specs.Object.{Records, State}
use Rattle.wf_table.specs.StepTable.{Process}
use Rattle.wf_table.specs.Schedule.{steps_of}
use Rattle.wf_table.specs.Each.{Each}
use Rattle.wf_table.specs.Sound.{IsSound}
use Rattle.wf_table.specs.declared.spent.Spent.{Spent}
use Rattle.wf_table.specs.Spent.{unspent}
use Rattle.wf_table.specs.Counted.{EachCounts, spent_of}
use Rattle.wf_table.specs.Bound.{StaysWithin}
use Rattle.wf_table.specs.HelpAndOrder.{IsCommitted}
use Rattle.wf_table.specs.Helps.{IsHelped}
use Rattle.wf_table.specs.Stands.{IsStanding}
use Rattle.wf_table.specs.Answers.{AreAnswered}
use Rattle.wf_object.specs.Packed.{packed}

pub record IsKept {Run : Type 0} (m : Meaning Run) (lawful : List ℤ → Type 0) (fits : ObjectCall → Type 0) (ready : Run → Type 0) (z : Sizes) (opening : List ℤ) (s : State Run) (spent : List Spent) (form : Form) : Type 0 where
  pub sound : IsSound m lawful fits ready z opening s
  pub committed : IsCommitted z s
  pub helped : IsHelped m lawful fits z opening s
  pub standing : IsStanding z s.cell s.processes s.records
  pub answered : AreAnswered m opening s.records.history s.records.order
  pub spends : EachCounts (StaysWithin z) unspent spent s.processes
  -- steps in bodies are among all steps
  pub among : Each (λ p _. (spent_of spent p).inside ≤ length (steps_of s.records.schedule)) s.processes
  -- toggles are kept as bits
  pub packs : form ≡ packed z

-- the same of a machine over an engine, by the cell as it is kept, the processes and the records
abbrev pub IsKeptOver : {E Run : Type 0} → (meaning : E → Meaning Run) → (lawful : E → List ℤ → Type 0) → (fits : E → ObjectCall → Type 0) → (ready : E → Run → Type 0) → E → Sizes → (opening : List ℤ) → Memory → List (Process Run) → Records → List Spent → Type 0
IsKeptOver meaning lawful fits ready engine z opening shared processes records spent =
    IsKept (meaning engine) (lawful engine) (fits engine) (ready engine) z opening
    (record { cell = shared.cell; processes = processes; records = records }) spent shared.form
