use Rattle.std.proofs.Common.{◌≡◌, [], ◌∷◌, ap, ◌∙◌, subst}
use Rattle.ob_checked.specs.View.{program_of}
use Rattle.ob_tree_law.specs.Work.{Task, Instruction}
use Rattle.ob_tree_tasks.specs.Tasks.{task_of}
use Rattle.ob_tree_tasks.specs.WorkTasks.{behind}
use Rattle.ob_tree_law.specs.TreeEngine.{TreeRun}
use Rattle.ob_tree.proofs.Acted.{has_first, acts_so, nothing_done}
use Rattle.ob_tree.proofs.body_run.TreeRun.act_first.Goals as goal

pub compute-requires : goal.compute-requires
compute-requires c =
    let run = c.args.self.now in
    let t = task_of c.in-Some.task.now in
    let front = subst (λ (r : TreeRun). r.body.work ≡ t ∷ behind r.body.work) c.self.view_is c.in-Some.ensures in
    has_first run t front c.requires.room

pub act-requires-clause-first : goal.act-requires-clause-first
act-requires-clause-first c =
    let run = c.args.self.now in
    let t = task_of c.in-Some.task.now in
    let front = subst (λ (r : TreeRun). r.body.work ≡ t ∷ behind r.body.work) c.self.view_is c.in-Some.ensures in
    has_first run t front c.requires.room

pub returns-in-Instruction : goal.returns-in-Instruction
returns-in-Instruction c =
    let run = c.args.self.now in
    let t = task_of c.in-Some.task.now in
    let front = subst (λ (r : TreeRun). r.body.work ≡ t ∷ behind r.body.work) c.self.view_is c.in-Some.ensures in
    let same = ap (λ (x : Task). x ∷ behind run.body.work) (ap task_of c.in-Instruction.is) in
    acts_so run (Instruction c.in-Instruction.instr) (front ∙ same) (program_of c.args.program.now) _ _ _ _ (c.compute.ensures (program_of c.args.program.now))

pub returns-in_default-task : goal.returns-in_default-task
returns-in_default-task c =
    let run = c.args.self.now in
    let t = task_of c.in-Some.task.now in
    let front = subst (λ (r : TreeRun). r.body.work ≡ t ∷ behind r.body.work) c.self.view_is c.in-Some.ensures in
    acts_so run t front (program_of c.args.program.now) _ _ _ _ c.act.ensures

pub returns-in_default : goal.returns-in_default
returns-in_default c =
    let run = c.args.self.now in
    let none = subst (λ (r : TreeRun). r.body.work ≡ []) c.self.view_is c.in_default.ensures in
    nothing_done run (program_of c.args.program.now) c.args.block.now none
