-- What the law says of the texts of a program's states.
use Rattle.std.specs.Prelude.{◌≡◌}
use Rattle.ob_meaning.specs.Same.{SameState}
use Rattle.ob_meaning.specs.ByNameObject.{State}
use Rattle.ob_meaning.specs.ByPositionStore.{Activation}
use Rattle.ob_text_record.specs.Named.{named_state_text}
use Rattle.ob_text_record.specs.Variables.{state_text}
use Rattle.ob_typing.specs.Program.{Program}

-- a state by position has the lines of the same state by name
abbrev pub SameStatesHaveSameTexts : Program → Type 0
SameStatesHaveSameTexts program =
    (state : State) (activation : Activation)
    → SameState program state activation
    → state_text program.variables activation ≡ named_state_text state
