use Rattle.std.proofs.Common.{◌≡◌}
use Rattle.ob_layout.specs.Layout.{block_in}
use Rattle.ob_tree_law.specs.Work.{opened, work_nodes}
use Rattle.ob_tree_tasks.specs.Opening.{CanBeOpened}
use Rattle.ob_tree.proofs.settle.settle.Given as goal

-- the same is opened
abbrev pub invariant-loop-work : goal.invariant-loop-work
invariant-loop-work l = record {
  same : opened (block_in l.layout) l.work.tasks ≡ opened (block_in l.layout) l.initial.work.tasks;
  room : l.work.room ≡ l.initial.work.room;
  fits : CanBeOpened (block_in l.layout) l.work;
}

abbrev pub decreases-loop-work : goal.decreases-loop-work
decreases-loop-work l = work_nodes l.work.tasks
