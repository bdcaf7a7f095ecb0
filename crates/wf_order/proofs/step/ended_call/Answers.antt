-- What the rows hold of it.
use Rattle.std.proofs.Common.{◌≡◌, sym, subst, ◌∙◌, ℕ, Some}
use Rattle.std.specs.Prelude.{slice_get}
use Rattle.wf_order.specs.Rows.{begun_rows, ended_rows, row_of}
use Rattle.wf_order.proofs.Taken.{taken_is, within_is}
use Rattle.wf_order.proofs.step.ended_call.Goals as goal

pub returns : goal.returns
returns g c =
    let process = c.args.process in
    let rows = c.args.task.now.rows.now in
    let counts = c.args.here.now.found.now.counts.items in
    let is = taken_is c.deref.result.now counts process c.in_ok-place.field-0.now c.in_ok-place.ensures.lookup.0 c.in_ok-place.ensures.lookup.1 c.deref.ensures in
    record {
      within = within_is c.deref.result.now counts process c.in_ok-place.ensures.lookup.0 c.deref.ensures;
      at = (
        subst (λ (k : ℕ). slice_get (row_of (begun_rows rows) process) k ≡ Some c.in_ok-begun.begun) is (sym c.begun_at.ensures.item ∙ c.in_ok-begun.was),
        subst (λ (k : ℕ). slice_get (row_of (ended_rows rows) process) k ≡ Some c.in_ok-end.end) is (sym c.ended_at.ensures ∙ c.in_ok-end.was),
      );
      early = c.if-begun-limit.false;
    }
