-- What is left of a list of which the task in front was dropped.
use Rattle.std.proofs.Common.{◌≡◌, ℕ, zero, suc, ◌-◌, ◌≤◌, List, [], ◌∷◌, length, take, reverse, map, get_or, refl, ap, sym, ◌∙◌, arith}
use Rattle.std.proofs.Math.Seq.{take-suc}
use Rattle.std.proofs.lemmas.List.{reverse-append}
use Rattle.ob_tree_tasks.specs.declared.task.Task.{Task}
use Rattle.ob_tree_tasks.specs.declared.task.Task.TheVariants.{Over}
use Rattle.ob_tree_tasks.specs.Tasks.{task_of, tasks_of}
use Rattle.ob_tree_tasks.specs.WorkTasks.{behind}

pub dropped : (tasks : List Task) (count : ℕ) → count ≤ length tasks → tasks_of tasks (count - 1) ≡ behind (tasks_of tasks count)
dropped tasks zero few = refl
dropped tasks (suc n) few =
    let last : Task = get_or tasks n Over in
    let less : suc n - 1 ≡ n = omega arith in
    ap (tasks_of tasks) less
    ∙ sym (ap (λ (ts : List Task). behind (map task_of ts)) (ap reverse (take-suc tasks n Over (omega (arith, few))) ∙ reverse-append (take n tasks) (last ∷ [])))
