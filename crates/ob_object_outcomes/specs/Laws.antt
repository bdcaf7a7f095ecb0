-- What holds of all merges of calls on a module's object.
use Rattle.std.specs.Prelude.{ℕ, List}
use Rattle.ob_code_correct.specs.Named.{CallMeans}
use Rattle.ob_interface.specs.Call.{ObjectCall}
use Rattle.ob_meaning.specs.ByNameObject.{State}
use Rattle.ob_typing.specs.Program.{Program}
use Rattle.wf_outcomes.specs.Whole.{AreCompleted}

-- from each configuration that is reached calls lead on until all are made; and the replies that a call may have are those that it has in
-- merges of all calls
abbrev pub MergesAreCompleted : Type 0
MergesAreCompleted = (program : Program) (budget : ℕ) (scripts : List (List ObjectCall)) (opening : State) → AreCompleted (CallMeans program budget) scripts opening
