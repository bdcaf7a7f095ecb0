-- What it means that compiled code does what its procedure means, with a budget of turns.
use Rattle.std.specs.Prelude.{◌≡◌, ℕ, suc, ◌*◌, ◌≤◌, true, ℤ, List, [], ◌∷◌, map, length, slice_get, Some, if◌then◌else◌}
use Rattle.std.specs.List.{All}
use Rattle.ob_interface.specs.declared.scalar.Scalar.{Scalar}
use Rattle.ob_interface.specs.declared.scalar.Scalar.TheVariants.{Int, Bool}
use Rattle.ob_interface.specs.declared.scalar.ScalarType.{ScalarType}
use Rattle.ob_interface.specs.declared.scalar.ScalarType.TheVariants.{Integer}
use Rattle.ob_interface.specs.declared.export.Formal.{Formal}
use Rattle.ob_interface.specs.Call.{Reply, Answers, Trapped as TrapReply}
use Rattle.ob_interface.specs.Export as Exports
use Rattle.ob_typing.specs.Program.{DataType, Simple, Variable, Parameter, Procedure, Program}
use Rattle.ob_meaning.specs.ByNameObject.{first_argument, other_arguments}
use Rattle.ob_meaning.specs.ByPositionStore.{Activation}
use Rattle.ob_meaning.specs.ByPositionObject.{Effect, effect_of_procedure}
use Rattle.ob_code_words.specs.declared.instr.Instr.{Instr}
use Rattle.ob_code_machine.specs.declared.argument.Argument.{Argument}
use Rattle.ob_code_machine.specs.declared.argument.Argument.TheVariants as Arguments
use Rattle.ob_code_machine.specs.Code.{CodeParts}
use Rattle.ob_code_machine.specs.Machine.{Configuration, Outcome, Unfinished, Returned, Trapped, exec}
use Rattle.ob_code_machine.specs.Body.{enter}
use Rattle.ob_code_machine.specs.Laws.{IsOver}
use Rattle.ob_code_scheme.specs.Types.{IsInteger, IsStateOf}
use Rattle.ob_code_scheme.specs.Temporaries.{stack_words}
use Rattle.ob_code_scheme.specs.WellFormed.{IsWellFormed}
use Rattle.ob_code_scheme.specs.Layout.{word, encoded, variable_words}
use Rattle.ob_code_scheme.specs.Scheme.{code_of}

-- ---- calls and replies that fit

-- the type of a scalar; INTEGER for a structured type, as no parameter of an export has
abbrev pub scalar_type_of : DataType → ScalarType
scalar_type_of (Simple type) = type
scalar_type_of _ = Integer

-- what a caller knows of parameters
abbrev pub formals_of : List Parameter → List Formal
formals_of = map (λ p. record { is_var = p.is_var; scalar_type = scalar_type_of p.type })

-- an INTEGER of 32 bits, or a BOOLEAN
abbrev pub IsInRange : Scalar → Type 0
IsInRange (Int z) = IsInteger z
IsInRange (Bool b) = Unit {0}

-- for each value parameter one argument, of its type and in its range
pub record ArgumentsFit (parameters : List Parameter) (arguments : List Scalar) : Type 0 where
  pub typed : Exports.ArgumentsFit (formals_of parameters) arguments
  pub ranged : All IsInRange arguments

abbrev pub values_of : Reply → List Scalar
values_of (Answers values) = values
values_of (TrapReply k) = []

-- for each VAR parameter one value, of its type and in its range, where the call ends
pub record ReplyFits (parameters : List Parameter) (reply : Reply) : Type 0 where
  pub typed : Exports.ReplyFits (formals_of parameters) reply
  pub ranged : All IsInRange (values_of reply)

-- ---- a call on the machine

-- what a call hands over for each parameter: nothing for VAR, else the word of its argument
abbrev pub arguments_of : List Parameter → List Scalar → List Argument
arguments_of [] arguments = []
arguments_of (p ∷ parameters) arguments =
    if p.is_var then Arguments.Var ∷ arguments_of parameters arguments
    else Arguments.Value (word (first_argument arguments)) ∷ arguments_of parameters (other_arguments arguments)

-- the machine where a call from outside begins, on the words of a state
abbrev pub beginning : ℕ → List Variable → List Parameter → Activation → List Scalar → (budget : ℕ) → Configuration
beginning entry variables parameters state arguments budget = record {
  block = encoded state;
  body = enter entry (variable_words variables) (arguments_of parameters arguments) budget;
}

-- the words of values
abbrev pub words_of : List Scalar → List ℤ
words_of = map word

-- how the machine ends where a call leaves this state and has this reply: with the words of the state as block and those of the
-- values as results, or with the trap
abbrev pub end_with : Activation → Reply → Outcome
end_with state (Answers values) = Returned (encoded state) (words_of values)
end_with state (TrapReply k) = Trapped k

abbrev pub end_of : Effect → Outcome
end_of effect = end_with effect.state effect.reply

-- ---- how the machine ends is how the source does

-- of a call of a procedure from outside, on a state, with a budget of turns
module _ (program : Program) (code : List Instr) (reserve entry : ℕ) (p : Procedure) (state : Activation) (arguments : List Scalar) (budget : ℕ) where
  -- what so many instructions come to
  abbrev pub after : ℕ → Outcome
  after count =
      exec code reserve count (beginning entry program.variables p.parameters state arguments budget)

  -- what the call comes to in the source
  abbrev pub meant : Effect
  meant = effect_of_procedure program (Some p) arguments budget state

  pub record Behaves : Type 0 where
    -- where the machine is over, it has ended as the source does; so it is never stuck
    pub ends_so : (count : ℕ) → IsOver (after count) → after count ≡ end_of meant
    -- and it ends: each turn, and the call itself, pays for as many instructions as the code has
    pub ends : (count : ℕ) → suc budget * length code ≤ count → IsOver (after count)
    pub state_fits : IsStateOf program.variables meant.state
    pub reply_fits : ReplyFits p.parameters meant.reply
    -- the stack never passes the words reserved for it: a push over them would be stuck
    pub within : (count : ℕ) (c : Configuration) → after count ≡ Unfinished c → length c.body.stack ≤ reserve

-- so it is of each export of a program, wherever its code begins, and each fitting call from a state of the module's variables
abbrev pub IsCorrect : Program → CodeParts → ℕ → Type 0
IsCorrect program code reserve =
    (i : ℕ) (p : Procedure) (entry : ℕ) → slice_get program.procedures i ≡ Some p → p.is_exported ≡ true → slice_get code.entries i ≡ Some entry →
    (state : Activation) (arguments : List Scalar) (budget : ℕ) → IsStateOf program.variables state → ArgumentsFit p.parameters arguments →
    Behaves program code.instructions reserve entry p state arguments budget

-- the code of the scheme is correct for each well-formed program, whatever its length, on a stack of the layout's words
abbrev pub CodeIsCorrect : Type 0
CodeIsCorrect =
    (program : Program) → IsWellFormed program → IsCorrect program (code_of program) (stack_words program.procedures)
