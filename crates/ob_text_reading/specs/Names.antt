-- Processes by small numbers, and the names that the text has for them.
use Rattle.std.specs.Prelude.{◌≡◌, ℕ, ◌<◌, ◌≤◌, List, [], ◌∷◌, ◌++◌, Contains, get_or, length, map, slice_get, Some}
use Rattle.ob_interface.specs.Call.{ObjectCall, Reply}
use Rattle.ob_text_reading.specs.HistoryLines.{HasFewProcesses, most_different}
use Rattle.ob_text_reading.specs.Seats.{EndsCall}
use Rattle.wf_history.specs.declared.event.CallId.{CallId}
use Rattle.wf_history.specs.History.{Event, Begin, Applied, End, IsHistory, own_events}

-- no name stands at two places
abbrev pub AreApart : List ℕ → Type 0
AreApart names = (i j name : ℕ) → slice_get names i ≡ Some name → slice_get names j ≡ Some name → i ≡ j

-- the process of a Begin or an End is below a number
abbrev pub IsBelow : ℕ → Event ObjectCall Reply → Type 0
IsBelow processes (Begin id call) = id.process < processes
IsBelow processes (Applied ids) = Unit {0}
IsBelow processes (End id reply) = id.process < processes

abbrev pub AreBelow : ℕ → List (Event ObjectCall Reply) → Type 0
AreBelow processes events = (e : Event ObjectCall Reply) → Contains events e → IsBelow processes e

-- each process that has a name has begun a call
abbrev pub HaveBegun : List ℕ → List (Event ObjectCall Reply) → Type 0
HaveBegun names events = (process : ℕ) → process < length names → own_events process events ≡ [] → ⊥

-- the call that the text names so
abbrev pub named_id : List ℕ → CallId → CallId
named_id names id = record { process = get_or names id.process 0; number = id.number }

-- an event, with the name of its process
abbrev pub named : List ℕ → Event ObjectCall Reply → Event ObjectCall Reply
named names (Begin id call) = Begin (named_id names id) call
named names (Applied ids) = Applied ids
named names (End id reply) = End (named_id names id) reply

abbrev pub named_all : List ℕ → List (Event ObjectCall Reply) → List (Event ObjectCall Reply)
named_all names = map (named names)

-- the names of the processes so far, and their events by small numbers
pub record Naming : Type 0 where
  pub names : List ℕ
  pub numbered : List (Event ObjectCall Reply)

-- the events by names
abbrev pub events_of : Naming → List (Event ObjectCall Reply)
events_of n = named_all n.names n.numbered

-- each process has a name of its own and has begun a call
pub record AreNamed (n : Naming) : Type 0 where
  pub whole : IsHistory n.numbered
  pub apart : AreApart n.names
  pub few : length n.names ≤ most_different
  pub below : AreBelow (length n.names) n.numbered
  pub begun : (process : ℕ) → process < length n.names → own_events process n.numbered ≡ [] → ⊥

-- the small number of a process, also of one that is new
pub data IsPlaceOf (names : List ℕ) (process : ℕ) : ℕ → Type 0 where
  known : {place : ℕ} → slice_get names place ≡ Some process → IsPlaceOf names process place
  new : {place : ℕ} → place ≡ length names → place < most_different → ¬ Contains names process → IsPlaceOf names process place

-- the event may come next
pub record MayCome (events : List (Event ObjectCall Reply)) (e : Event ObjectCall Reply) : Type 0 where
  pub turn : IsHistory (events ++ e ∷ [])
  pub few : HasFewProcesses (events ++ e ∷ [])

-- a new process, with which there would be too many
pub record HasNoPlace (names : List ℕ) (process : ℕ) : Type 0 where
  pub full : most_different ≤ length names
  pub new : ¬ Contains names process

-- the call of this name is one of this export, and may end next
pub record MayEnd (events : List (Event ObjectCall Reply)) (id : CallId) (export : ℕ) : Type 0 where
  pub ends : EndsCall events id export
  pub few : (reply : Reply) → HasFewProcesses (events ++ End id reply ∷ [])
