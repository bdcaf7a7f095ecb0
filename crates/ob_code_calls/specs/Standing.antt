-- Where calls that are made by code stand.
use Rattle.std.specs.Prelude.{◌≡◌, ℕ}
use Rattle.ob_code_calls.specs.Parts.{parts_in}
use Rattle.ob_code_correct.specs.Parts.{IsCompiledTo}
use Rattle.ob_layout.specs.Layout.{LayoutParts, layout_of}
use Rattle.ob_code_scheme.specs.Layout.{IsEncoding}
use Rattle.ob_code_calls.specs.declared.standing_state.CodedState.{CodedState}
use Rattle.ob_interface.specs.Call.{ObjectCall, Reply}
use Rattle.ob_meaning.specs.ByPositionObject.{effect}
use Rattle.ob_meaning.specs.ByPositionStore.{Activation}
use Rattle.ob_typing.specs.Program.{Program}

-- the code is that of the program, each call with so many turns, and the words are those of this state of its variables
pub record StandsAt (program : Program) (budget : ℕ) (state : Activation) (o : CodedState) : Type 0 where
  pub compiled : IsCompiledTo program (parts_in o.calls)
  pub turns : (parts_in o.calls).budget ≡ budget
  pub encodes : IsEncoding program.variables state o.block.items

-- The call, made in this state, has this reply, and the words behind it are of the state that it leaves. Where it traps, that is the
-- state before it.
pub record IsMade (program : Program) (budget : ℕ) (call : ObjectCall) (before : Activation) (after : CodedState) (reply : Reply) : Type 0 where
  pub reply_is : (effect program call budget before).reply ≡ reply
  pub stands : StandsAt program budget (effect program call budget before).state after

-- the words are of a state of the program that is laid out so
pub record IsLaidOut (layout : LayoutParts) (o : CodedState) : Type 0 where
  pub program : Program
  pub budget : ℕ
  pub state : Activation
  pub layout_is : layout ≡ layout_of program
  pub stands : StandsAt program budget state o
