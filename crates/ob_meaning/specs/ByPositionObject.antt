-- One call on the object and the opening state, by position.
use Rattle.std.specs.Prelude.{ℕ, suc, ◌-◌, List, [], ◌∷◌, map, filter, slice_get, Option, Some, None, if◌then◌else◌}
use Rattle.ob_interface.specs.declared.scalar.Scalar.{Scalar}
use Rattle.ob_typing.specs.Program.{Parameter, Procedure, Program, exports}
use Rattle.ob_interface.specs.Call.{ObjectCall, Reply, Answers, Trapped}
use Rattle.ob_meaning.specs.ByNameObject.{first_argument, other_arguments, results_position, most_activations}
use Rattle.ob_meaning.specs.ByPositionValue.{initial, Single, scalar_of}
use Rattle.ob_meaning.specs.ByPositionStore.{Activation, Held, Holds, Refers, activation_at, value_held}
use Rattle.ob_meaning.specs.ByPositionStatements.{Outcome, Done, Trap, meaning_of_all, activation_of, begun, calls}

-- what one call leaves and answers
pub record Effect : Type 0 where
  pub state : Activation
  pub reply : Reply

-- the places that the VAR parameters of a call from outside stand for: places of their own, 0 or FALSE at first
abbrev pub results_begun : List Parameter → Activation
results_begun parameters = map (λ p. Holds (initial p.type)) (filter (λ p. p.is_var) parameters)

-- what a call from outside hands over: arguments for value parameters, and for VAR parameters the places of the results, of which so many stand before
abbrev pub outside_handed : ℕ → List Parameter → List Scalar → List Held
outside_handed n [] arguments = []
outside_handed n (p ∷ parameters) arguments =
    if p.is_var
    then Refers (record { activation = results_position; position = n; path = [] }) ∷ outside_handed (suc n) parameters arguments
    else Holds (Single (first_argument arguments)) ∷ outside_handed n parameters (other_arguments arguments)

-- the values that results have
abbrev pub values_of_results : Activation → List Scalar
values_of_results = map (λ h. scalar_of (value_held h))

-- what a run from outside leaves: the module's variables and the results, or the state as it was and the trap
abbrev pub effect_of : Activation → Outcome → Effect
effect_of before (Done left store) =
    record { state = activation_at store 0; reply = Answers (values_of_results (activation_at store results_position)) }
effect_of before (Trap k) = record { state = before; reply = Trapped k }

-- a call of a procedure from outside with a budget of turns: the module, the results, and the first activation, which takes no turn
abbrev pub effect_of_procedure : Program → Option Procedure → List Scalar → (budget : ℕ) → Activation → Effect
effect_of_procedure program None arguments budget state = record { state = state; reply = Answers [] }
effect_of_procedure program (Some p) arguments budget state =
    effect_of state
    (meaning_of_all (calls program (most_activations - 1)) p.body budget
    (state ∷ results_begun p.parameters ∷ activation_of p (outside_handed 0 p.parameters arguments) ∷ []))

-- one call on the object with a budget of turns
abbrev pub effect : Program → ObjectCall → (budget : ℕ) → Activation → Effect
effect program call budget state =
    effect_of_procedure program (slice_get (exports program) call.export) call.arguments budget state

-- what the opening comes to: all variables 0 or FALSE, and then the module's body, which is none of the activations
abbrev pub opening : Program → (turns : ℕ) → Outcome
opening program turns =
    meaning_of_all (calls program most_activations) program.body turns (begun program.variables ∷ [])
