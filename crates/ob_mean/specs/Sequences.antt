-- The opening state by position, and calls one at a time.
use Rattle.std.specs.Prelude.{◌≡◌, ℕ, List, [], ◌∷◌}
use Rattle.ob_typing.specs.Program.{Program}
use Rattle.ob_interface.specs.Call.{ObjectCall, Reply}
use Rattle.ob_meaning.specs.ByNameObject.{most_turns}
use Rattle.ob_meaning.specs.ByPositionStore.{Activation}
use Rattle.ob_meaning.specs.ByPositionStatements.{Done, Trap}
use Rattle.ob_meaning.specs.ByPositionObject.{effect, opening}

-- the opening ends in this state
abbrev pub IsOpening : Program → Activation → Type 0
IsOpening program state = (left : ℕ) × (opening program most_turns ≡ Done left (state ∷ []))

-- the opening traps
abbrev pub OpeningTraps : Program → ℕ → Type 0
OpeningTraps program k = opening program most_turns ≡ Trap k

-- the replies to calls made one at a time from a state, each with the budget
abbrev pub replies_to : Program → (budget : ℕ) → Activation → List ObjectCall → List Reply
replies_to program budget state [] = []
replies_to program budget state (call ∷ calls) =
    (effect program call budget state).reply ∷ replies_to program budget (effect program call budget state).state calls

-- these are the replies to calls made one at a time from the opening state
pub record AreReplies (program : Program) (budget : ℕ) (calls : List ObjectCall) (replies : List Reply) : Type 0 where
  pub state : Activation
  pub opens : IsOpening program state
  pub made : replies ≡ replies_to program budget state calls
