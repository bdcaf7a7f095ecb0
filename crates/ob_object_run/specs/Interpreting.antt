-- Where the interpreter stands.
use Rattle.std.specs.Prelude.{◌≡◌, ℕ}
use Rattle.ob_checked.specs.CheckedModule.{program_in}
use Rattle.ob_object_run.specs.declared.interpreted.Interpreted.{Interpreted}
use Rattle.ob_meaning.specs.ByPositionStore.{Activation}
use Rattle.ob_store.specs.View.{state_of}
use Rattle.ob_typing.specs.Program.{Program}

-- it makes this program's calls, each with so many turns, and this is the state
pub record IsAt (program : Program) (budget : ℕ) (state : Activation) (i : Interpreted) : Type 0 where
  pub program_is : program_in i.checked.now ≡ program
  pub turns : i.budget ≡ budget
  pub state_is : state_of i.state ≡ state
