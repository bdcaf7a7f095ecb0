-- What the laws of the meaning say of a program.
use Rattle.std.specs.Prelude.{◌≡◌, ℕ, ◌≤◌, List, [], ◌∷◌, Some}
use Rattle.ob_grammar.specs.Tree.{Expr}
use Rattle.ob_interface.specs.declared.scalar.Scalar.{Scalar}
use Rattle.ob_interface.specs.declared.scalar.ScalarType.{ScalarType}
use Rattle.ob_interface.specs.Call.{ObjectCall}
use Rattle.ob_typing.specs.Program.{Expression, Statements, Program}
use Rattle.ob_typing.specs.Arithmetic.{Gives}
use Rattle.ob_typing.specs.Scopes.{Environment}
use Rattle.ob_typing.specs.Expressions.{InConstant, HasType}
use Rattle.ob_meaning.specs.ByNameStore.{Store, Held}
use Rattle.ob_meaning.specs.ByNameEvaluation.{value_of}
use Rattle.ob_meaning.specs.ByNameStatements.{Done, meaning_of_all, calls}
use Rattle.ob_meaning.specs.ByNameObject.{State, HasVariables, effect, opening}

-- statements that are done leave no more turns than they had
abbrev pub StatementsGainNoTurns : Program → Type 0
StatementsGainNoTurns program =
    (depth : ℕ) (ss : Statements) (turns left : ℕ) (before after : Store)
    → meaning_of_all (calls program depth) ss turns before ≡ Done left after
    → left ≤ turns

-- neither does a call in the text
abbrev pub CallsGainNoTurns : Program → Type 0
CallsGainNoTurns program =
    (depth number : ℕ) (handed : List Held) (turns left : ℕ) (before after : Store)
    → calls program depth number handed turns before ≡ Done left after
    → left ≤ turns

-- an opening that is done leaves a state of the module's variables, and nothing else
abbrev pub OpeningLeavesAState : Program → Type 0
OpeningLeavesAState program =
    (turns left : ℕ) (store : Store)
    → opening program turns ≡ Done left store
    → (state : State) × ((store ≡ state ∷ []) × HasVariables program state)

-- a call from outside leaves such a state again
abbrev pub CallsLeaveAState : Program → Type 0
CallsLeaveAState program =
    (call : ObjectCall) (budget : ℕ) (state : State)
    → HasVariables program state
    → HasVariables program (effect program call budget state).state

-- a constant has the value that its expression has in every store
abbrev pub ConstantsAreValues : Environment → Type 0
ConstantsAreValues env =
    (e : Expr) (t : ScalarType) (c : Expression) (s : Scalar) (store : Store)
    → HasType env InConstant e t c (Some s)
    → value_of store c ≡ Gives s
