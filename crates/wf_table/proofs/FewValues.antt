-- What a step answers has at most 8 values.
use Rattle.std.proofs.Common.{◌≡◌, ℕ, ◌+◌, ◌-◌, ◌≤◌, Bool, true, false, List, length, cond, refl, ap, arith}
use Rattle.std.specs.Prelude.{ℤ, Option, Some, None, slice_get, nat_lt}
use Rattle.ll_cell.specs.Cell.{Cell, is_linked, block_of}
use Rattle.ob_interface.specs.Call.{ObjectCall, Reply}
use Rattle.wf_history.specs.History.{Event, Begin, Applied}
use Rattle.wf_table.specs.declared.process.Label.{Label}
use Rattle.wf_table.specs.declared.process.Label.TheVariants.{Next, Commit, Give}
use Rattle.wf_table.specs.declared.process.Sizes.{Sizes}
use Rattle.wf_table.specs.Labels.{at_next}
use Rattle.wf_table.specs.Meaning.{Meaning}
use Rattle.wf_table.specs.Law.{Effects, IsLawful}
use Rattle.wf_table.specs.Ranges.{IsInRange}
use Rattle.wf_table.specs.Scripts.{CallsFit}
use Rattle.wf_table.specs.StepTable.{Process, open_call, call_at, own_block}
use Rattle.wf_table.specs.Object.{State, Halts, GoesOn, answer_by, answer_of, values_answered, event_at, label_by, seen_by, applied_ids, begun_of}
use Rattle.wf_table.specs.Sound.{IsSound}

-- where nothing is seen
nothing : (b : Bool) → length (values_answered (cond b Halts GoesOn)) ≤ 8
nothing true = omega arith
nothing false = omega arith

module _ {Run : Type 0} (m : Meaning Run) (lawful : List ℤ → Type 0) (fits : ObjectCall → Type 0) (ready : Run → Type 0) (Effect : Effects) (law : IsLawful m lawful fits ready Effect) (z : Sizes) where
  abbrev IsFew : Label → Option (Event ObjectCall Reply) → Type 0
  IsFew l event = length (values_answered (answer_by l event)) ≤ 8

  few_at : (l : Label) (c : Cell) (ps : List (Process Run)) (p : ℕ) (q : Process Run) → q.label ≡ l → z.replies ≡ m.replies → IsInRange z q → CallsFit fits q → IsFew l (event_at l m z c ps p q)
  few_at Next c ps p q is same range fit = elim (nat_lt q.begun (length q.calls)) as (λ b. IsFew Next (cond b (Some (Begin (record { process = p; number = q.begun + 1 }) (call_at q q.begun))) None)) [ true ↦ omega arith | false ↦ omega arith ]
  few_at Commit c ps p q is same range fit = elim (is_linked c p) as (λ b. IsFew Commit (cond b (Some (Applied (applied_ids z (block_of c c.root) (own_block c p) (begun_of ps)))) None)) [ true ↦ omega arith | false ↦ omega arith ]
  few_at Give c ps p q is same range fit =
      let began = range.opened (ap at_next is) in
      law.few_values (open_call q) q.replies (fit.fit (q.begun - 1) (omega (arith, began, range.begun))) (omega (arith, range.replies, same))
  few_at l c ps p q is same range fit = nothing (at_next l)

  few_by : (opening : List ℤ) (s : State Run) (p : ℕ) (o : Option (Process Run)) → slice_get s.processes p ≡ o → IsSound m lawful fits ready z opening s → IsFew (label_by o) (seen_by m z s.cell s.processes p o)
  few_by opening s p None at h = omega arith
  few_by opening s p (Some q) at h = few_at q.label s.cell s.processes p q refl h.replies (h.in_range p q at) (h.calls_fit p q at)

  pub few_answered : (opening : List ℤ) (s : State Run) (p : ℕ) → IsSound m lawful fits ready z opening s → length (values_answered (answer_of m z s p)) ≤ 8
  few_answered opening s p h = few_by opening s p (slice_get s.processes p) refl h
