-- What the engine over the code of a well-formed program meets, with every budget.
use Rattle.std.specs.Prelude.{◌≡◌, ℕ, ◌≤◌, ℤ, List, slice_get, Some}
use Rattle.std.specs.List.{All}
use Rattle.ob_interface.specs.Call.{ObjectCall, Reply}
use Rattle.ob_interface.specs.Export.{CallFits}
use Rattle.ob_typing.specs.Program.{Program}
use Rattle.ob_meaning.specs.ByPositionStatements.{Done}
use Rattle.ob_meaning.specs.ByPositionStore.{Activation, Store, activation_at}
use Rattle.ob_meaning.specs.ByPositionObject.{effect, opening}
use Rattle.ob_code_scheme.specs.WellFormed.{IsWellFormed}
use Rattle.ob_code_scheme.specs.Layout.{encoded, decoded, IsEncoding}
use Rattle.ob_code_scheme.specs.Correct.{IsInRange}
use Rattle.wf_table.specs.Law.{IsLawful}
use Rattle.wf_table.specs.Ends.{EndsWithin, AllEndWithin}
use Rattle.ob_checked.specs.Exports.{signatures}
use Rattle.ob_code_correct.specs.Compiled.{parts_of, engine_of, Fits, HasReserve, IsLawfulBlock, IsEffect, body_limit}

-- the engine is lawful: its steps lead to the effect of each call
abbrev pub CodeIsLawful : Type 0
CodeIsLawful =
    (program : Program) (budget : ℕ) → IsWellFormed program →
    IsLawful (engine_of program budget) (IsLawfulBlock program) (Fits program) (HasReserve (parts_of program budget)) (IsEffect program budget)

-- the calls that fit it are those that fit the signatures of the exports, with arguments in range
pub record FittingIsOfSignatures (program : Program) (call : ObjectCall) : Type 0 where
  pub fits : CallFits (signatures program) call → All IsInRange call.arguments → Fits program call
  pub signed : Fits program call → CallFits (signatures program) call

-- a block is lawful exactly where it is read as a state
abbrev pub DecodedIsLawful : Type 0
DecodedIsLawful =
    (program : Program) (block : List ℤ) (state : Activation) → decoded program.variables block ≡ Some state → IsEncoding program.variables state block

abbrev pub LawfulIsDecoded : Type 0
LawfulIsDecoded =
    (program : Program) (block : List ℤ) (state : Activation) → IsEncoding program.variables state block → decoded program.variables block ≡ Some state

-- an opening that is done leaves a state, and its words are a lawful block
abbrev pub OpeningsAreLawful : Type 0
OpeningsAreLawful =
    (program : Program) (turns left : ℕ) (store : Store) → IsWellFormed program → opening program turns ≡ Done left store →
    IsEncoding program.variables (activation_at store 0) (encoded (activation_at store 0))

-- ---- the effect is total

-- the effect of a call on a block is one block and one reply: never nothing, and never two
pub record HasOneEffect (program : Program) (budget : ℕ) (call : ObjectCall) (block : List ℤ) : Type 0 where
  pub after : List ℤ
  pub reply : Reply
  pub is : IsEffect program budget call block after reply
  pub only : (other : List ℤ) (answer : Reply) → IsEffect program budget call block other answer → (other ≡ after) × (answer ≡ reply)

abbrev pub EffectIsTotal : Type 0
EffectIsTotal =
    (program : Program) (budget : ℕ) → IsWellFormed program → (call : ObjectCall) (block : List ℤ) → IsLawfulBlock program block → Fits program call →
    HasOneEffect program budget call block

-- on the words of a state the effect is what the call comes to, and the other way round
abbrev pub EffectIsCalled : Type 0
EffectIsCalled =
    (program : Program) (budget : ℕ) (call : ObjectCall) (before : Activation) (block after : List ℤ) (reply : Reply) → IsEncoding program.variables before block →
    IsEffect program budget call block after reply →
    ((effect program call budget before).reply ≡ reply) × IsEncoding program.variables (effect program call budget before).state after

abbrev pub CalledIsEffect : Type 0
CalledIsEffect =
    (program : Program) (budget : ℕ) → IsWellFormed program → (call : ObjectCall) (before : Activation) (block : List ℤ) → Fits program call → IsEncoding program.variables before block →
    IsEffect program budget call block (encoded (effect program call budget before).state) (effect program call budget before).reply

-- ---- bodies end

-- a body is over after the instructions that are paid for
abbrev pub BodiesEnd : Type 0
BodiesEnd =
    (program : Program) (budget : ℕ) → IsWellFormed program → (call : ObjectCall) (block : List ℤ) → IsLawfulBlock program block → Fits program call →
    (n : ℕ) → body_limit program budget ≤ n → EndsWithin (engine_of program budget) n block call

-- so the calls of scripts end within them, whatever they are: nothing is asked of the program
abbrev pub ScriptsEnd : Type 0
ScriptsEnd =
    (program : Program) (budget : ℕ) → IsWellFormed program → (scripts : ℕ → List ObjectCall) (opening : List ℤ) →
    ((p k : ℕ) (call : ObjectCall) → slice_get (scripts p) k ≡ Some call → Fits program call) → IsLawfulBlock program opening →
    AllEndWithin (engine_of program budget) (IsEffect program budget) scripts opening (body_limit program budget)
