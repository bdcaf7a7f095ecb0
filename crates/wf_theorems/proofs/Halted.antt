-- A step of a process that has no call left changes the schedule alone.
use Rattle.std.proofs.Common.{◌≡◌, ℕ, ◌+◌, ◌≤◌, Bool, false, List, length, set, ap, ◌∙◌, arith, cond}
use Rattle.std.specs.Prelude.{Some, None, slice_get, nat_lt}
use Rattle.std.proofs.lemmas.Bool.Decides.{nat_tests}
use Rattle.ll_cell.specs.Cell.{own_of}
use Rattle.wf_history.specs.History.{Begin}
use Rattle.wf_table.specs.declared.process.Label.{Label}
use Rattle.wf_table.specs.declared.process.Label.TheVariants.{Next, Post}
use Rattle.wf_table.specs.declared.process.Sizes.{Sizes}
use Rattle.wf_table.specs.Meaning.{Meaning}
use Rattle.wf_table.specs.Schedule.{counted}
use Rattle.wf_table.specs.StepTable.{Process, cell_after, row, call_at}
use Rattle.wf_table.specs.Object.{State, noted, event_at, step_of, step_by}
use Rattle.wf_table.proofs.Stuck.{set_same}

module _ {Run : Type 0} (m : Meaning Run) (z : Sizes) (s : State Run) (p : ℕ) (q : Process Run) where
  abbrev turned : State Run
  turned = record s { records = record s.records { schedule = counted s.records.schedule p } }

  -- behind a step at the label
  abbrev behind : Label → State Run
  behind l = record { cell = cell_after s.cell p (row l m z s.cell p q).change; processes = set s.processes p (row l m z s.cell p q).process; records = noted s.records p l (own_of s.cell p) (event_at l m z s.cell s.processes p q) }

  -- behind a step at NEXT, where a call is left or not
  abbrev begins : Bool → State Run
  begins b = record {
    cell = s.cell;
    processes = set s.processes p (cond b (record q { label = Post; begun = q.begun + 1; registers = record q.registers { i = 0 }; list = m.lay (call_at q q.begun) }) q);
    records = noted s.records p Next (own_of s.cell p) (cond b (Some (Begin (record { process = p; number = q.begun + 1 }) (call_at q q.begun))) None);
  }

  pub halted_stays : slice_get s.processes p ≡ Some q → q.label ≡ Next → length q.calls ≤ q.begun → step_of m z s p ≡ turned
  halted_stays at is none =
      let halted : nat_lt q.begun (length q.calls) ≡ false = grind (arith, nat_tests, none) in
      ap (step_by m z s p) at
      ∙ ap behind is
      ∙ ap begins halted
      ∙ ap (λ (ps : List (Process Run)). record turned { processes = ps }) (set_same s.processes p q at)
