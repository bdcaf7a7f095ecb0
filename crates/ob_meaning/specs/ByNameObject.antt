-- One call on the object, the opening state, and calls one at a time.
use Rattle.std.specs.Prelude.{◌≡◌, ℕ, ◌-◌, pos, List, [], ◌∷◌, map, filter, slice_get, Option, Some, None, if◌then◌else◌}
use Rattle.ob_interface.specs.declared.scalar.Scalar.{Scalar}
use Rattle.ob_interface.specs.declared.scalar.Scalar.TheVariants.{Int}
use Rattle.ob_interface.specs.Call.{ObjectCall, Reply, Answers, Trapped}
use Rattle.ob_typing.specs.Program.{Parameter, Procedure, Program, exports}
use Rattle.ob_meaning.specs.ByNameValue.{initial, Single, scalar_of}
use Rattle.ob_meaning.specs.ByNameStore.{Activation, Held, Holds, Refers, AreValues, names_of, activation_at, value_held}
use Rattle.ob_meaning.specs.ByNameStatements.{Outcome, Done, Trap, meaning_of_all, activation_of, begun, calls}

-- the module's variables with their values, in text order
abbrev pub State : Type 0
State = Activation

-- a state of this program: its variables in text order, each with a value of its own
pub record HasVariables (program : Program) (state : State) : Type 0 where
  pub names : names_of state ≡ map (λ v. v.name) program.variables
  pub values : AreValues state

-- what one call leaves and answers
pub record Effect : Type 0 where
  pub state : State
  pub reply : Reply

-- the first argument, or 0 where there is none, as never with a call that fits
abbrev pub first_argument : List Scalar → Scalar
first_argument [] = Int (pos 0)
first_argument (a ∷ arguments) = a

abbrev pub other_arguments : List Scalar → List Scalar
other_arguments [] = []
other_arguments (a ∷ arguments) = arguments

-- where the results of a call from outside stand in its store
abbrev pub results_position : ℕ
results_position = 1

-- the places that the VAR parameters of a call from outside stand for: places of their own, 0 or FALSE at first
abbrev pub results_begun : List Parameter → Activation
results_begun parameters =
    map (λ p. record { name = p.name; held = Holds (initial p.type) }) (filter (λ p. p.is_var) parameters)

-- what a call from outside hands over: arguments for value parameters, and for VAR parameters the places of the results
abbrev pub outside_handed : List Parameter → List Scalar → List Held
outside_handed [] arguments = []
outside_handed (p ∷ parameters) arguments =
    if p.is_var
    then Refers (record { activation = results_position; name = p.name; selectors = [] }) ∷ outside_handed parameters arguments
    else Holds (Single (first_argument arguments)) ∷ outside_handed parameters (other_arguments arguments)

-- the values that results have
abbrev pub values_of_results : Activation → List Scalar
values_of_results = map (λ b. scalar_of (value_held b.held))

-- what a run from outside leaves: the module's variables and the results, or the state as it was and the trap
abbrev pub effect_of : State → Outcome → Effect
effect_of before (Done left store) =
    record { state = activation_at store 0; reply = Answers (values_of_results (activation_at store results_position)) }
effect_of before (Trap k) = record { state = before; reply = Trapped k }

-- how many turns an opening has, and the most that a call may have
abbrev pub most_turns : ℕ
most_turns = 1000000

-- how many activations may be active
abbrev pub most_activations : ℕ
most_activations = 64

-- a call of a procedure from outside with a budget of turns: the module, the results, and the first activation, which takes no turn
abbrev pub effect_of_procedure : Program → Option Procedure → List Scalar → (budget : ℕ) → State → Effect
effect_of_procedure program None arguments budget state = record { state = state; reply = Answers [] }
effect_of_procedure program (Some p) arguments budget state =
    effect_of state
    (meaning_of_all (calls program (most_activations - 1)) p.body budget
    (state ∷ results_begun p.parameters ∷ activation_of p (outside_handed p.parameters arguments) ∷ []))

-- one call on the object with a budget of turns
abbrev pub effect : Program → ObjectCall → (budget : ℕ) → State → Effect
effect program call budget state =
    effect_of_procedure program (slice_get (exports program) call.export) call.arguments budget state

-- what the opening comes to: all variables 0 or FALSE, and then the module's body, which is none of the activations
abbrev pub opening : Program → (turns : ℕ) → Outcome
opening program turns =
    meaning_of_all (calls program most_activations) program.body turns (begun program.variables ∷ [])

-- the opening ends in this state
abbrev pub IsOpening : Program → State → Type 0
IsOpening program state = (left : ℕ) × (opening program most_turns ≡ Done left (state ∷ []))

-- the opening traps
abbrev pub OpeningTraps : Program → ℕ → Type 0
OpeningTraps program k = opening program most_turns ≡ Trap k

-- the replies to calls made one at a time from a state, each with the budget
abbrev pub replies_to : Program → (budget : ℕ) → State → List ObjectCall → List Reply
replies_to program budget state [] = []
replies_to program budget state (call ∷ calls) =
    (effect program call budget state).reply ∷ replies_to program budget (effect program call budget state).state calls

-- the state behind them
abbrev pub state_behind : Program → (budget : ℕ) → State → List ObjectCall → State
state_behind program budget state [] = state
state_behind program budget state (call ∷ calls) =
    state_behind program budget (effect program call budget state).state calls

-- these are the replies to calls made one at a time from the opening state
pub record AreReplies (program : Program) (budget : ℕ) (calls : List ObjectCall) (replies : List Reply) : Type 0 where
  pub state : State
  pub opens : IsOpening program state
  pub made : replies ≡ replies_to program budget state calls
