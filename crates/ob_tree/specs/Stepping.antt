-- Runs that can be started and stepped over the tree of a program.
use Rattle.std.specs.Prelude.{◌≡◌}
use Rattle.ob_typing.specs.Program.{Program}
use Rattle.ob_code_scheme.specs.Temporaries.{stack_words}
use Rattle.ob_code_scheme.specs.WellFormed.{IsWellFormed}
use Rattle.ob_tree_law.specs.TreeEngine.{TreeRun, work_room, IsTreeReady}

-- the run has the room that the program needs
pub record HasRoomOf (program : Program) (run : TreeRun) : Type 0 where
  pub reserve : run.reserve ≡ stack_words program.procedures
  pub room : run.room ≡ work_room program

-- the program is well formed, and the run is ready for it
pub record CanStep (program : Program) (run : TreeRun) : Type 0 where
  pub well : ∥ IsWellFormed program ∥₁
  pub ready : IsTreeReady program run
