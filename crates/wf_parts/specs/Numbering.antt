-- The calls of a part: in it the calls of each process count from 1, and a row for each process has the numbers that they have in the
-- whole history.
use Rattle.std.specs.Prelude.{◌≡◌, ℕ, ◌-◌, ◌<◌, ◌≤◌, List, map, length, get_or, slice_get, Some, Contains}
use Rattle.ob_interface.specs.Call.{ObjectCall, Reply}
use Rattle.ob_interface.specs.declared.scalar.Scalar.{Scalar}
use Rattle.wf_history.specs.declared.event.CallId.{CallId}
use Rattle.wf_history.specs.History.{Event, Begin, Applied, End, IsHistory}
use Rattle.wf_order.specs.Rows.{row_of}
use Rattle.wf_parts.specs.Parts.{AreValues, Events, IsPart}

-- the call of the whole history
abbrev pub whole_id : List (List ℕ) → CallId → CallId
whole_id rows id = record { process = id.process; number = get_or (row_of rows id.process) (id.number - 1) 0 }

abbrev pub whole_event : List (List ℕ) → Event ObjectCall Reply → Event ObjectCall Reply
whole_event rows (Begin id call) = Begin (whole_id rows id) call
whole_event rows (Applied ids) = Applied ids
whole_event rows (End id reply) = End (whole_id rows id) reply

abbrev pub whole_events : List (List ℕ) → Events → Events
whole_events rows = map (whole_event rows)

-- the call has a number in its process's row
abbrev pub HasNumber : List (List ℕ) → CallId → Type 0
HasNumber rows id = (0 < id.number) × (id.number ≤ length (row_of rows id.process))

abbrev pub IsNumbered : List (List ℕ) → Event ObjectCall Reply → Type 0
IsNumbered rows (Begin id call) = HasNumber rows id
IsNumbered rows (Applied ids) = Unit {0}
IsNumbered rows (End id reply) = HasNumber rows id

-- each call has a number, and no two calls of a process have the same one
pub record AreNumbered (rows : List (List ℕ)) (events : Events) : Type 0 where
  pub within : (e : Event ObjectCall Reply) → Contains events e → IsNumbered rows e
  pub apart : (process i j number : ℕ) → slice_get (row_of rows process) i ≡ Some number → slice_get (row_of rows process) j ≡ Some number → i ≡ j

-- the value of a part, the rows of its processes, and its events
pub record PartView : Type 0 where
  pub value : Scalar
  pub rows : List (List ℕ)
  pub events : Events

abbrev pub value_of : PartView → Scalar
value_of p = p.value

-- a part of a history, numbered
pub record IsPartOf (all : Events) (by : ℕ) (p : PartView) : Type 0 where
  pub whole : IsHistory p.events
  pub part : IsPart all by p.value (whole_events p.rows p.events)
  pub numbered : AreNumbered p.rows p.events

-- a part for each value of the argument, in the order in which the values first come
pub record ArePartsOf (all : Events) (by : ℕ) (parts : List PartView) : Type 0 where
  pub values : AreValues by all (map value_of parts)
  pub each : (k : ℕ) (p : PartView) → slice_get parts k ≡ Some p → IsPartOf all by p
