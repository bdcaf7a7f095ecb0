-- What a run comes to by the task in front, before the work behind it is opened.
use Rattle.std.specs.Prelude.{◌≡◌, ℕ, ◌+◌, ◌<◌, ◌≤◌, true, ℤ, List, [], ◌∷◌, length}
use Rattle.ob_code_scheme.specs.Types.{Scope}
use Rattle.ob_typing.specs.Program.{Expression, Program}
use Rattle.wf_table.specs.declared.engine_turn.EngineTurn.{EngineTurn}
use Rattle.wf_table.specs.declared.engine_turn.EngineTurn.TheVariants.{On, Returned, Trapped, Stuck}
use Rattle.wf_table.specs.Meaning.{Turned}
use Rattle.ob_tree_law.specs.Work.{Task, TreeState, Answer}
use Rattle.ob_tree_law.specs.Work as Work
use Rattle.ob_tree_tasks.specs.WorkTasks.{behind}
use Rattle.ob_tree_law.specs.TreeEngine.{TreeRun}

-- all that the run works on
abbrev pub state_in : TreeRun → List ℤ → TreeState
state_in run block = record { block = block; body = run.body }

-- the tasks behind the one in front
abbrev pub rest_of : TreeRun → List Task
rest_of run = behind run.body.work

-- what comes of the task in front: a trap leaves all but that the body is over, and where nothing can be done nothing changes
abbrev pub acted : TreeRun → List ℤ → Answer → Turned TreeRun
acted run block (Work.On t) = record { turn = On; run = record run { body = t.body }; block = t.block }
acted run block (Work.Finished left stack) =
    record { turn = Returned; run = record run { is_over = true; body = record run.body { stack = stack } }; block = left }
acted run block (Work.Failed k) = record { turn = Trapped k; run = record run { is_over = true }; block = block }
acted run block Work.Lost = record { turn = Stuck; run = run; block = block }

-- with this turn the run has come to that
abbrev pub Comes : EngineTurn → (new : TreeRun) → (after : List ℤ) → (old : TreeRun) → (before : List ℤ) → Answer → Type 0
Comes turn new after old before answer = record { turn = turn; run = new; block = after } ≡ acted old before answer

-- what the task does in a program: it is the one in front
abbrev pub Does : Program → Task → EngineTurn → (new : TreeRun) → (after : List ℤ) → (old : TreeRun) → (before : List ℤ) → Type 0
Does program task turn new after old before = Comes turn new after old before (Work.does program old.reserve task (rest_of old) (state_in old before))

-- what comes of the task in front, if there is one
abbrev pub DoesFirst : Program → EngineTurn → (new : TreeRun) → (after : List ℤ) → (old : TreeRun) → (before : List ℤ) → Type 0
DoesFirst program turn new after old before =
    Comes turn new after old before (Work.does_first program old.reserve old.body.work (state_in old before))

-- what a task does that asks for no program and leaves each block as it is
abbrev pub DoesAlways : Task → EngineTurn → (new old : TreeRun) → Type 0
DoesAlways task turn new old = (program : Program) (block : List ℤ) → Does program task turn new block old block

-- what is decided on the value of the left side, which is the whole value where it is this one
abbrev pub Decides : (decides : ℤ) → Scope → Expression → EngineTurn → (new old : TreeRun) → Type 0
Decides decides own right turn new old =
    (block : List ℤ) → Comes turn new block old block (Work.decided decides (rest_of old) (Work.Value own right ∷ rest_of old) (state_in old block))

-- there is a task in front, and room for two more than it
pub record HasFirst (run : TreeRun) : Type 0 where
  pub some : 0 < length run.body.work
  pub room : length run.body.work + 3 ≤ run.room
