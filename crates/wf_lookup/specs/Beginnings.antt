-- What the first events of a history come to: which calls are open, and how many processes there are.
use Rattle.std.specs.Prelude.{ℕ, ◌+◌, ◌<◌, ◌==◌, ◌&&◌, ◌||◌, Bool, false, not, List, [], ◌∷◌, ◌++◌, filter, max, Contains}
use Rattle.ob_interface.specs.Call.{ObjectCall, Reply}
use Rattle.wf_history.specs.declared.event.CallId.{CallId}
use Rattle.wf_history.specs.History.{Event, Begin, Applied, End}

abbrev pub is_same : CallId → CallId → Bool
is_same id other = (id.process == other.process) && (id.number == other.number)

-- the calls that have begun, in the order in which they did
abbrev pub begun_calls : List (Event ObjectCall Reply) → List CallId
begun_calls [] = []
begun_calls (Begin id call ∷ events) = id ∷ begun_calls events
begun_calls (Applied ids ∷ events) = begun_calls events
begun_calls (End id reply ∷ events) = begun_calls events

-- whether a call has ended
abbrev pub has_ended : List (Event ObjectCall Reply) → CallId → Bool
has_ended [] id = false
has_ended (Begin other call ∷ events) id = has_ended events id
has_ended (Applied ids ∷ events) id = has_ended events id
has_ended (End other reply ∷ events) id = is_same other id || has_ended events id

-- the calls that have begun and not ended
abbrev pub open_calls : List (Event ObjectCall Reply) → List CallId
open_calls events = filter (λ id. not (has_ended events id)) (begun_calls events)

-- what one more event makes of them: a call that begins is open, and one that ends is not any more
abbrev pub open_behind : List CallId → Event ObjectCall Reply → List CallId
open_behind ids (Begin id call) = ids ++ id ∷ []
open_behind ids (Applied others) = ids
open_behind ids (End id reply) = filter (λ other. not (is_same id other)) ids

-- processes count from 0: an event needs those up to its own, and at least one
abbrev pub needed : Event ObjectCall Reply → ℕ
needed (Begin id call) = id.process + 1
needed (Applied ids) = 1
needed (End id reply) = id.process + 1

-- so many processes are needed for all the events, and for none of them one
abbrev pub process_count : List (Event ObjectCall Reply) → ℕ
process_count [] = 1
process_count (event ∷ events) = max (needed event) (process_count events)

-- the event is of one of so many processes
abbrev pub IsOfProcesses : ℕ → Event ObjectCall Reply → Type 0
IsOfProcesses processes (Begin id call) = id.process < processes
IsOfProcesses processes (Applied ids) = Unit {0}
IsOfProcesses processes (End id reply) = id.process < processes

-- each event is
abbrev pub AreOfProcesses : ℕ → List (Event ObjectCall Reply) → Type 0
AreOfProcesses processes history = (event : Event ObjectCall Reply) → Contains history event → IsOfProcesses processes event
