-- Steps of one body in a row, as a machine takes them.
use Rattle.std.proofs.Common.{◌≡◌, ℕ, ◌<◌, ◌≤◌, List, length, set, arith, subst}
use Rattle.std.specs.Prelude.{ℤ, Some, slice_get}
use Rattle.std.proofs.lemmas.Option.{slice_get_within}
use Rattle.ll_cell.specs.Cell.{own_of}
use Rattle.ll_cell.specs.declared.form.Form.{Form}
use Rattle.ob_interface.specs.Call.{ObjectCall}
use Rattle.wf_table.specs.declared.engine_turn.EngineTurn.TheVariants.{On}
use Rattle.wf_table.specs.declared.process.Label.TheVariants.{Body}
use Rattle.wf_table.specs.declared.process.Sizes.{Sizes}
use Rattle.wf_table.specs.Meaning.{Meaning}
use Rattle.wf_table.specs.Law.{Effects, IsLawful}
use Rattle.wf_table.specs.StepTable.{Process, own_block}
use Rattle.wf_table.specs.Object.{State}
use Rattle.wf_table.specs.declared.spent.Spent.{Spent}
use Rattle.wf_table.specs.Counted.{spent_of}
use Rattle.wf_object.specs.InARow.{AreInBody, after_steps, spent_after_steps}
use Rattle.wf_object.specs.InBody.{body_behind, cell_behind, process_behind}
use Rattle.wf_records.specs.Times.{counted_times}
use Rattle.wf_object.specs.Kept.{IsKept}
use Rattle.wf_object.proofs.InARow.{kept_after}
use Rattle.wf_object.proofs.InBody.{all_in_body, inside_more, spends_inside, stays}

module _ {Run : Type 0} (m : Meaning Run) (lawful : List ℤ → Type 0) (fits : ObjectCall → Type 0) (ready : Run → Type 0) (Effect : Effects) (law : IsLawful m lawful fits ready Effect) (z : Sizes) (opening : List ℤ) (s : State Run) (p : ℕ) (q : Process Run) (at : slice_get s.processes p ≡ Some q) (spent : List Spent) (form : Form) (h : IsKept m lawful fits ready z opening s spent form) (is : q.label ≡ Body) (k : ℕ) (on : (j : ℕ) → j < k → (body_behind m z s.cell p q j).turn ≡ On) where
  member : p < length s.processes
  member = slice_get_within s.processes p q at

  within : own_of s.cell p < length s.cell.blocks
  within =
      let owns : p < length s.cell.own = omega (arith, member, h.sound.count, h.sound.shaped.owns) in
      omega (arith, h.sound.shaped.own_in p owns, h.sound.shaped.blocks)

  room : z.variables ≤ length (own_block s.cell p)
  room = let long = h.sound.shaped.block (own_of s.cell p) within in omega (arith, long)

  counted_in : p < length spent
  counted_in = omega (arith, member, h.spends.count)

  -- the state behind them
  abbrev pub stayed : State Run
  stayed = record {
    cell = cell_behind m z s.cell p q k;
    processes = set s.processes p (process_behind m z s.cell p q k);
    records = record s.records { schedule = counted_times s.records.schedule p k };
  }

  pub body_steps : after_steps m z p k s ≡ stayed
  body_steps = stays m z s p q member is within room lawful fits ready Effect law h.sound.variables (h.sound.runs_ready p q at) at k on

  pub body_spends : spent_after_steps m z p k s spent ≡ set spent p (inside_more (spent_of spent p) k)
  body_spends = spends_inside m z s p q member is within room lawful fits ready Effect law h.sound.variables (h.sound.runs_ready p q at) at spent counted_in k on

  pub body_inside : AreInBody m z p k s
  body_inside = all_in_body m z s p q member is within room lawful fits ready Effect law h.sound.variables (h.sound.runs_ready p q at) at k on

  pub body_kept : IsKept m lawful fits ready z opening stayed (set spent p (inside_more (spent_of spent p) k)) form
  body_kept =
      subst (λ (t : State Run). IsKept m lawful fits ready z opening t (set spent p (inside_more (spent_of spent p) k)) form) body_steps
      (subst (λ (xs : List Spent). IsKept m lawful fits ready z opening (after_steps m z p k s) xs form) body_spends
      (kept_after m lawful fits ready Effect law z opening p form k s spent h))
