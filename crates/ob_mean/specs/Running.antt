-- What runs come to.
use Rattle.std.specs.Prelude.{◌≡◌, ℕ, Result, Ok, Err}
use Rattle.ob_checked.specs.View.{program_of}
use Rattle.ob_mean.specs.declared.places.Stop.{Stop}
use Rattle.ob_mean.specs.declared.places.Stop.TheVariants as Stops
use Rattle.ob_meaning.specs.ByPositionStore.{Store}
use Rattle.ob_meaning.specs.ByPositionStatements as Statements
use Rattle.ob_mean.specs.declared.statements.Context.{Context}

-- a run came to this, or memory was wanted
abbrev pub Comes : Statements.Outcome → Result ℕ Stop → Store → Type 0
Comes o (Ok turns) store = o ≡ Statements.Done turns store
Comes o (Err (Stops.Trap k)) store = o ≡ Statements.Trap k
Comes o (Err Stops.NoMemory) store = Unit {0}

-- what calls in the text do where so many more activations may be made
abbrev pub calls_of : Context → Statements.Calls
calls_of context = Statements.calls (program_of context.program.now) context.more
