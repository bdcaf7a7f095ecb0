use Rattle.std.proofs.Common.{length, ap, ◌∙◌}
use Rattle.ob_tree_tasks.specs.WorkTasks.{WorkTasks, with_tasks, behind}
use Rattle.ob_tree_tasks.proofs.Dropped.{dropped}
use Rattle.ob_tree_tasks.proofs.work_list.WorkList.remove_first.Goals as goal

pub returns : goal.returns
returns c =
    ap (λ ts. record { room = length c.self.inside.tasks.items; tasks = ts }) (dropped c.self.inside.tasks.items c.self.inside.count c.self.invariant)
    ∙ ap (λ (w : WorkTasks). with_tasks w (behind w.tasks)) c.self.view_is
