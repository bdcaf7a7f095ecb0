-- A run from outside, and the opening's.
use Rattle.std.specs.Prelude.{◌≡◌, ℕ, ◌-◌, List, [], ◌∷◌, Result, Ok, Err}
use Rattle.ob_interface.specs.declared.scalar.Scalar.{Scalar}
use Rattle.ob_typing.specs.Program.{Procedure, Program}
use Rattle.ob_meaning.specs.ByNameObject.{most_activations}
use Rattle.ob_meaning.specs.ByPositionStore as Stores
use Rattle.ob_meaning.specs.ByPositionStatements as Statements
use Rattle.ob_meaning.specs.ByPositionObject.{results_begun, outside_handed}
use Rattle.ob_meaning.specs.ByPositionObject as Objects
use Rattle.ob_store.specs.declared.state.State.{State}
use Rattle.ob_store.specs.View.{state_of}
use Rattle.ob_mean.specs.declared.places.Stop.{Stop}
use Rattle.ob_mean.specs.declared.places.Stop.TheVariants as Stops

-- the module, the results, and the first activation
abbrev pub outside_store : Procedure → Stores.Activation → List Scalar → Stores.Store
outside_store p state arguments =
    state ∷ results_begun p.parameters ∷ Statements.activation_of p (outside_handed 0 p.parameters arguments) ∷ []

-- what the procedure's statements come to in a store
abbrev pub run_of : Program → Procedure → ℕ → Stores.Store → Statements.Outcome
run_of program p turns store = Statements.meaning_of_all (Statements.calls program (most_activations - 1)) p.body turns store

-- with so many turns the opening ended in this state, or stopped so
abbrev pub Opens : Program → ℕ → Result State Stop → Type 0
Opens program turns (Ok state) = (left : ℕ) × (Objects.opening program turns ≡ Statements.Done left (state_of state ∷ []))
Opens program turns (Err (Stops.Trap k)) = Objects.opening program turns ≡ Statements.Trap k
Opens program turns (Err Stops.NoMemory) = Unit {0}
