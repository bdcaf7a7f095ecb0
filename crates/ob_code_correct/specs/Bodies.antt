-- What it means that a body of the machine, started and stepped, does what its procedure means.
use Rattle.std.specs.Prelude.{◌≡◌, ◌≢◌, ℕ, suc, ◌*◌, ◌≤◌, true, List, length, slice_get, Some}
use Rattle.ob_interface.specs.declared.scalar.Scalar.{Scalar}
use Rattle.ob_interface.specs.Call.{Reply, Answers, Trapped}
use Rattle.ob_typing.specs.Program.{Procedure, Program}
use Rattle.ob_meaning.specs.ByPositionStore.{Activation}
use Rattle.ob_meaning.specs.ByPositionObject.{Effect, effect_of_procedure}
use Rattle.ob_code_machine.specs.Code.{CodeParts}
use Rattle.ob_code_machine.specs.declared.turn.BodyTurn.TheVariants as Turns
use Rattle.ob_code_machine.specs.Body.{Run, Step, entered, steps}
use Rattle.ob_code_scheme.specs.Types.{IsStateOf}
use Rattle.ob_code_scheme.specs.Temporaries.{stack_words}
use Rattle.ob_code_scheme.specs.WellFormed.{IsWellFormed}
use Rattle.ob_code_scheme.specs.Layout.{encoded, variable_words}
use Rattle.ob_code_scheme.specs.Scheme.{code_of}
use Rattle.ob_code_scheme.specs.Correct.{ArgumentsFit, ReplyFits, arguments_of, words_of}

-- it has returned, with the words of the state as block and those of the values as results; or it has trapped
abbrev pub HasEnded : Step → Activation → Reply → Type 0
HasEnded s state (Answers values) =
    (s.turn ≡ Turns.Returned) × (s.block ≡ encoded state) × (s.run.body.stack ≡ words_of values)
HasEnded s state (Trapped k) = s.turn ≡ Turns.Trapped k

-- of a call of a procedure, by its number, on a state, with a budget of turns
module _ (program : Program) (code : CodeParts) (reserve i : ℕ) (p : Procedure) (state : Activation) (arguments : List Scalar) (budget : ℕ) where
  -- the body, as `start` leaves it
  abbrev pub started : Run
  started =
      entered reserve (variable_words program.variables) (slice_get code.entries i) (arguments_of p.parameters arguments) budget

  -- where it stands after at most so many calls of `step`, on the words of the state
  abbrev pub stepped : ℕ → Step
  stepped count = steps code.instructions count started (encoded state)

  -- what the call comes to in the source
  abbrev pub meant : Effect
  meant = effect_of_procedure program (Some p) arguments budget state

  pub record BodyBehaves : Type 0 where
    -- where it is over, it has ended as the source does; so it is never stuck
    pub ends_so : (count : ℕ) → (stepped count).turn ≢ Turns.On → HasEnded (stepped count) meant.state meant.reply
    -- and it ends: each turn, and the call itself, pays for as many steps as the code has instructions
    pub ends : (count : ℕ) → suc budget * length code.instructions ≤ count → (stepped count).turn ≢ Turns.On
    pub state_fits : IsStateOf program.variables meant.state
    pub reply_fits : ReplyFits p.parameters meant.reply

-- so it is of each export of a well-formed program, and each fitting call from a state of the module's variables, on a stack of the
-- layout's words
abbrev pub BodiesAreCorrect : Type 0
BodiesAreCorrect =
    (program : Program) (i : ℕ) (p : Procedure) → IsWellFormed program → slice_get program.procedures i ≡ Some p → p.is_exported ≡ true →
    (state : Activation) (arguments : List Scalar) (budget : ℕ) → IsStateOf program.variables state → ArgumentsFit p.parameters arguments →
    BodyBehaves program (code_of program) (stack_words program.procedures) i p state arguments budget
