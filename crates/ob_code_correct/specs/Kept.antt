-- Runs keep the types and ranges of values, on the source alone: so where an opening ends it leaves a state of the module's variables.
use Rattle.std.specs.Prelude.{◌≡◌, ℕ, List}
use Rattle.ob_typing.specs.Program.{Program}
use Rattle.ob_typing.specs.Arithmetic.{Evaluated, Gives, Traps}
use Rattle.ob_meaning.specs.ByPositionStore.{Store, activation_at}
use Rattle.ob_meaning.specs.ByPositionStatements.{Outcome, Done, Trap}
use Rattle.ob_meaning.specs.ByPositionObject.{opening}
use Rattle.ob_code_scheme.specs.Types.{Scope, Fits, IsStateOf}
use Rattle.ob_code_scheme.specs.WellFormed.{IsWellFormed}

-- what is evaluated is of a kind, or a trap
abbrev pub Gets : {A : Type 0} → (A → Type 0) → Evaluated A → Type 0
Gets Is (Gives a) = Is a
Gets Is (Traps k) = Unit {0}

-- a run leaves a store with these scopes, or a trap
abbrev pub Keeps : List Scope → Outcome → Type 0
Keeps scopes (Done left store) = Fits scopes store
Keeps scopes (Trap k) = Unit {0}

-- an opening that is done leaves a state
abbrev pub OpeningsAreStates : Type 0
OpeningsAreStates =
    (program : Program) (budget left : ℕ) (store : Store) → IsWellFormed program → opening program budget ≡ Done left store →
    IsStateOf program.variables (activation_at store 0)
