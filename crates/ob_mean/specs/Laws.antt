-- What the laws of turns say of a program.
use Rattle.std.specs.Prelude.{◌≡◌, ℕ, ◌+◌, ◌-◌, ◌≤◌, false, [], ◌∷◌, Some, slice_get}
use Rattle.ob_interface.specs.Call.{ObjectCall}
use Rattle.ob_meaning.specs.ByNameObject.{State, effect, most_activations, outside_handed, results_begun}
use Rattle.ob_meaning.specs.ByNameStatements.{Outcome, Done, activation_of, calls, meaning_of_all}
use Rattle.ob_meaning.specs.ByNameStore.{Store}
use Rattle.ob_typing.specs.Program.{Procedure, Program, exports}
use Rattle.ob_mean.specs.Turns.{is_out_of_turns, turns_of}

-- a call that doesn't run out of a number of turns leaves and answers with more what it does with these
abbrev pub MoreTurnsChangeNothing : Program → Type 0
MoreTurnsChangeNothing program =
    (call : ObjectCall) (turns more : ℕ) (state : State)
    → turns ≤ more
    → is_out_of_turns (effect program call turns state).reply ≡ false
    → effect program call more state ≡ effect program call turns state

-- what the statements of an export come to that a call runs with a budget in a state
abbrev pub run_of_call : Program → Procedure → ObjectCall → (budget : ℕ) → State → Outcome
run_of_call program p call budget state =
    meaning_of_all (calls program (most_activations - 1)) p.body budget
    (state ∷ results_begun p.parameters ∷ activation_of p (outside_handed p.parameters call.arguments) ∷ [])

-- a call that is done took the turns of its budget that aren't left
abbrev pub TurnsAreThoseSpent : Program → Type 0
TurnsAreThoseSpent program =
    (call : ObjectCall) (budget left : ℕ) (state : State) (p : Procedure) (store : Store)
    → slice_get (exports program) call.export ≡ Some p
    → run_of_call program p call budget state ≡ Done left store
    → turns_of program call budget state + left ≡ budget
