-- What is seen of a run, one moment after the other.
use Rattle.std.specs.Prelude.{ℕ, ◌+◌, List, [], ◌∷◌, ◌++◌, Option, Some, None, slice_get, slice_range, position, drop, max}
use Rattle.ob_interface.specs.Call.{ObjectCall, Reply}
use Rattle.ob_picture_chart.specs.Same.{is_same}
use Rattle.wf_history.specs.declared.event.CallId.{CallId}
use Rattle.wf_history.specs.History.{Event, Begin, Applied, End}

-- a process begins a call; these calls take effect, in this order, by a step of the process, where it is known; a call ends
pub data Moment : Type 0 where
  Begins : CallId → ObjectCall → Moment
  Takes : List CallId → (maker : Option ℕ) → Moment
  Ends : CallId → Reply → Moment

-- an event, as its maker's step showed it
abbrev pub seen : Event ObjectCall Reply → (maker : Option ℕ) → Moment
seen (Begin id call) maker = Begins id call
seen (Applied ids) maker = Takes ids maker
seen (End id reply) maker = Ends id reply

-- the events of a run from the one of a number on, each with its maker
abbrev pub seen_from : (makers : List ℕ) → ℕ → List (Event ObjectCall Reply) → List Moment
seen_from makers k [] = []
seen_from makers k (e ∷ es) = seen e (slice_get makers k) ∷ seen_from makers (k + 1) es

abbrev pub number_at : Option ℕ → ℕ
number_at None = 0
number_at (Some index) = index + 1

-- where a call stands in an order, from 1; 0 where it doesn't
abbrev pub place_in : List CallId → CallId → ℕ
place_in order id = number_at (position (λ other. is_same other id) order)

-- Of a run of which only the Begin and End events and the order are known, the order says when calls take effect: each does as late as the
-- order and the replies let it. So just before a call ends those take effect that stand in the order up to it and haven't yet, and at the end
-- all others. `made` of them have.
module _ (order : List CallId) where
  -- how many have, behind an event
  abbrev pub made_behind : (made : ℕ) → Event ObjectCall Reply → ℕ
  made_behind made (Begin id call) = made
  made_behind made (Applied ids) = made
  made_behind made (End id reply) = max (place_in order id) made

  -- what is seen with an event
  abbrev pub placed_at : (made : ℕ) → Event ObjectCall Reply → List Moment
  placed_at made (Begin id call) = Begins id call ∷ []
  placed_at made (Applied ids) = []
  placed_at made (End id reply) = Takes (slice_range order made (max (place_in order id) made)) None ∷ Ends id reply ∷ []

  -- the events from one on
  abbrev pub placed_from : (made : ℕ) → List (Event ObjectCall Reply) → List Moment
  placed_from made [] = Takes (drop made order) None ∷ []
  placed_from made (e ∷ es) = placed_at made e ++ placed_from (made_behind made e) es
