-- A work list of a fixed size.
use Rattle.std.specs.Prelude.{ℕ, ◌+◌, ◌≤◌, List, [], ◌∷◌, ◌++◌, length, refl}
use Rattle.std.specs.Coded.{Coded, coded_ℕ, coded_list, coded×, code_by}
use Rattle.ob_tree_law.specs.Work.{Task}
use Rattle.ob_tree_tasks.specs.Codes.{coded_task}

-- the tasks that there is room for, and those that it holds, the next one first
pub record WorkTasks : Type 0 where
  pub room : ℕ
  pub tasks : List Task

abbrev pub coded_work : Coded WorkTasks
coded_work =
    code_by (ℕ × List Task) (coded× coded_ℕ (coded_list coded_task)) (λ w. (w.room, w.tasks)) (λ p. record { room = p.0; tasks = p.1 }) (λ _. refl)

abbrev pub with_tasks : WorkTasks → List Task → WorkTasks
with_tasks w tasks = record w { tasks = tasks }

-- with these in front
abbrev pub before : List Task → WorkTasks → WorkTasks
before tasks w = with_tasks w (tasks ++ w.tasks)

-- with this one in front
abbrev pub with_first : Task → WorkTasks → WorkTasks
with_first t w = with_tasks w (t ∷ w.tasks)

-- those behind the one in front
abbrev pub behind : List Task → List Task
behind [] = []
behind (t ∷ tasks) = tasks

-- there is room for so many more
abbrev pub HasRoomFor : ℕ → WorkTasks → Type 0
HasRoomFor count w = length w.tasks + count ≤ w.room

-- there is room for the parts that any task gives way to
abbrev pub HasRoom : WorkTasks → Type 0
HasRoom = HasRoomFor 4
