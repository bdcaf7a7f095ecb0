-- What a statement does with so many turns left to a store whose variables go by their names.
use Rattle.std.specs.Prelude.{ℕ, List, Option}
use Rattle.ob_typing.specs.Program.{Expression, Statement, Statements, Branches, Procedure, Program}
use Rattle.ob_typing.specs.Arithmetic.{Evaluated}
use Rattle.ob_meaning.specs.ByNameStore.{Store, Held}
use Rattle.ob_meaning.specs.OverStore as OverStore
pub use Rattle.ob_meaning.specs.OverStore.{Done, Trap}
pub use Rattle.ob_meaning.specs.ByNameStore.{bound, begun, activation_of}
use Rattle.ob_meaning.specs.ByNameEvaluation.{by_name}

abbrev pub Outcome : Type 0
Outcome = OverStore.Outcome Store

abbrev pub Run : Type 0
Run = ℕ → Store → Outcome

abbrev pub Calls : Type 0
Calls = ℕ → List Held → Run

abbrev pub after : {A : Type 0} → Evaluated A → (A → Outcome) → Outcome
after v go = OverStore.after v go

abbrev pub then_run : Outcome → Run → Outcome
then_run o run = OverStore.then_run o run

abbrev pub with_turn : (ℕ → Outcome) → ℕ → Outcome
with_turn go turns = OverStore.with_turn go turns

abbrev pub loop_once : Expression → Run → Run → Run
loop_once = OverStore.loop_once by_name

abbrev pub loop : ℕ → Expression → Run → Run
loop = OverStore.loop by_name

abbrev pub rounds_once : Run → Expression → Run → Run
rounds_once = OverStore.rounds_once by_name

abbrev pub rounds : ℕ → Run → Expression → Run
rounds = OverStore.rounds by_name

abbrev pub meaning : Calls → Statement → Run
meaning = OverStore.meaning by_name

abbrev pub meaning_of_all : Calls → Statements → Run
meaning_of_all = OverStore.meaning_of_all by_name

abbrev pub meaning_of_branches : Calls → Branches → Run
meaning_of_branches = OverStore.meaning_of_branches by_name

abbrev pub left : Outcome → Outcome
left = OverStore.left by_name

abbrev pub activated : Calls → Option Procedure → List Held → Run
activated = OverStore.activated by_name

abbrev pub calls : Program → ℕ → Calls
calls = OverStore.calls by_name
