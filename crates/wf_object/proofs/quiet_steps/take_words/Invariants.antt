use Rattle.std.proofs.Common.{◌≡◌, ◌-◌, ◌≤◌}
use Rattle.wf_object.specs.Progress.{AreUnmarked, by_rows, progress}
use Rattle.wf_records.specs.Spending.{outside_more}
use Rattle.wf_object.proofs.quiet_steps.take_words.Given as goal

-- so many rows were taken so far
abbrev pub invariant-loop-count : goal.invariant-loop-count
invariant-loop-count g l =
    record {
      few : l.count ≤ l.most;
      form : l.shared.form ≡ l.initial.shared.form;
      leads : progress l.shared.cell l.q (outside_more l.spent l.count) ≡ by_rows (g.E.Engine.meaning l.engine) l.z l.p l.count (progress l.initial.shared.cell l.initial.q l.spent);
      unmarked : AreUnmarked (g.E.Engine.meaning l.engine) l.z l.p l.count (progress l.initial.shared.cell l.initial.q l.spent);
    }

abbrev pub decreases-loop-count : goal.decreases-loop-count
decreases-loop-count g l = l.most - l.count
