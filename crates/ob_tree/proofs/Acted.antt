-- What the task in front of a run's work does.
use Rattle.std.proofs.Common.{◌≡◌, ◌+◌, ◌≤◌, ℤ, List, [], ◌∷◌, length, refl, ap, sym, subst, arith}
use Rattle.ob_typing.specs.Program.{Program}
use Rattle.wf_table.specs.declared.engine_turn.EngineTurn.{EngineTurn}
use Rattle.wf_table.specs.declared.engine_turn.EngineTurn.TheVariants.{Stuck}
use Rattle.ob_tree_law.specs.Work.{Task, does, does_first}
use Rattle.ob_tree_law.specs.TreeEngine.{TreeRun}
use Rattle.ob_tree.specs.Acting.{Comes, HasFirst, rest_of, state_in}

module _ (run : TreeRun) (t : Task) (front : run.body.work ≡ t ∷ rest_of run) where
  pub has_first : length run.body.work + 3 ≤ run.room → HasFirst run
  has_first room = let long = ap (λ (ts : List Task). length ts) front in record { some = omega (arith, long); room = room }

  pub acts_so : (program : Program) (turn : EngineTurn) (new : TreeRun) (after before : List ℤ) → Comes turn new after run before (does program run.reserve t (rest_of run) (state_in run before)) →
      Comes turn new after run before (does_first program run.reserve run.body.work (state_in run before))
  acts_so program turn new after before h =
      subst (λ (ts : List Task). Comes turn new after run before (does_first program run.reserve ts (state_in run before))) (sym front) h

-- where there is none, nothing can be done
pub nothing_done : (run : TreeRun) (program : Program) (before : List ℤ) → run.body.work ≡ [] → Comes Stuck run before run before (does_first program run.reserve run.body.work (state_in run before))
nothing_done run program before none =
    subst (λ (ts : List Task). Comes Stuck run before run before (does_first program run.reserve ts (state_in run before))) (sym none) refl
