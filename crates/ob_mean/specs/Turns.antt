-- How many turns calls take of their budget, and which budgets change no reply.
use Rattle.std.specs.Prelude.{◌≡◌, ◌≢◌, ℕ, zero, suc, ◌<◌, ◌==◌, Bool, false, not, List, [], ◌∷◌, if◌then◌else◌}
use Rattle.ob_interface.specs.Call.{ObjectCall, Reply, Answers, Trapped}
use Rattle.ob_meaning.specs.ByNameObject as Named
use Rattle.ob_meaning.specs.ByNameObject.{State}
use Rattle.ob_meaning.specs.ByPositionObject as Positions
use Rattle.ob_meaning.specs.ByPositionStore.{Activation}
use Rattle.ob_typing.specs.Arithmetic.{no_turn_left}
use Rattle.ob_typing.specs.Program.{Program}

-- the first of so many numbers from one on that passes, or the number behind them
abbrev pub first_from : (ℕ → Bool) → (from count : ℕ) → ℕ
first_from passes from zero = from
first_from passes from (suc count) = if passes from then from else first_from passes (suc from) count

-- a reply says that no turn was left
abbrev pub is_out_of_turns : Reply → Bool
is_out_of_turns (Answers values) = false
is_out_of_turns (Trapped k) = k == no_turn_left

-- How many turns a call takes of a budget, by its replies with each budget: the fewest with which it doesn't run out of them; where it
-- runs out of them with the budget too, all.
abbrev pub turns_by : (reply_with : ℕ → Reply) → (budget : ℕ) → ℕ
turns_by reply_with = first_from (λ turns. not (is_out_of_turns (reply_with turns))) 0

-- the turns of a call in a state
abbrev pub turns_of : Program → ObjectCall → (budget : ℕ) → State → ℕ
turns_of program call budget state = turns_by (λ turns. (Named.effect program call turns state).reply) budget

-- of each of the calls that are made one at a time from a state
abbrev pub all_turns_of : Program → (budget : ℕ) → State → List ObjectCall → List ℕ
all_turns_of program budget state [] = []
all_turns_of program budget state (call ∷ calls) =
    turns_of program call budget state ∷ all_turns_of program budget (Named.effect program call budget state).state calls

-- the same in a state by position
abbrev pub turns_at : Program → ObjectCall → (budget : ℕ) → Activation → ℕ
turns_at program call budget state = turns_by (λ turns. (Positions.effect program call turns state).reply) budget

abbrev pub all_turns_at : Program → (budget : ℕ) → Activation → List ObjectCall → List ℕ
all_turns_at program budget state [] = []
all_turns_at program budget state (call ∷ calls) =
    turns_at program call budget state ∷ all_turns_at program budget (Positions.effect program call budget state).state calls

-- the least budget with which all replies are those with a budget, by the replies with each
pub record IsLeastBudget (replies_with : ℕ → List Reply) (budget least : ℕ) : Type 0 where
  pub same : replies_with least ≡ replies_with budget
  pub others : (fewer : ℕ) → fewer < least → replies_with fewer ≢ replies_with budget
