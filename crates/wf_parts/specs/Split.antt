-- How a history is taken apart, an event after the other.
use Rattle.std.specs.Prelude.{◌≡◌, ◌≢◌, ℕ, ◌+◌, ◌*◌, List, [], ◌∷◌, ◌++◌, Option, None, Some, if◌then◌else◌, length, map, nat_eq, slice_get}
use Rattle.ob_interface.specs.Call.{ObjectCall, Reply}
use Rattle.ob_interface.specs.declared.scalar.Scalar.{Scalar}
use Rattle.wf_history.specs.declared.event.CallId.{CallId}
use Rattle.wf_history.specs.History.{Event, Begin, End, IsHistory, in_turn, own_events}
use Rattle.wf_history.specs.Legal.{HasBegun}
use Rattle.wf_order.specs.Rows.{call_at, row_of}
use Rattle.wf_parts.specs.Label.{label_of}
use Rattle.wf_parts.specs.Numbering.{AreNumbered, PartView, value_of, whole_events}
use Rattle.wf_parts.specs.Parts.{ArePicked, AreValues, Events, IsWith}

-- the part that has no calls yet
abbrev pub empty_part : Scalar → PartView
empty_part value = record { value = value; rows = []; events = [] }

-- the number of a process's next call in a part, and of its last one
abbrev pub next_id : List (List ℕ) → ℕ → CallId
next_id rows process = record { process = process; number = length (row_of rows process) + 1 }

abbrev pub last_id : List (List ℕ) → ℕ → CallId
last_id rows process = record { process = process; number = length (row_of rows process) }

-- rows with one more number in the row of a process
pub record AreLonger (old new : List (List ℕ)) (id : CallId) : Type 0 where
  pub own : row_of new id.process ≡ row_of old id.process ++ id.number ∷ []
  pub others : (q : ℕ) → q ≢ id.process → row_of new q ≡ row_of old q

-- a part with one more call that begins, and with a call that ends
pub record Begins (old : PartView) (id : CallId) (call : ObjectCall) (new : PartView) : Type 0 where
  pub value : new.value ≡ old.value
  pub rows : AreLonger old.rows new.rows id
  pub events : new.events ≡ old.events ++ Begin (next_id old.rows id.process) call ∷ []

pub record Ends (old : PartView) (id : CallId) (reply : Reply) (new : PartView) : Type 0 where
  pub value : new.value ≡ old.value
  pub rows : new.rows ≡ old.rows
  pub events : new.events ≡ old.events ++ End (last_id old.rows id.process) reply ∷ []

-- so many calls of a process have begun, and all have ended; and a further one has begun
abbrev pub IsIdle : Events → ℕ → ℕ → Type 0
IsIdle events process count = own_events process events ≡ in_turn 1 (2 * count)

abbrev pub IsBusy : Events → ℕ → ℕ → Type 0
IsBusy events process count = own_events process events ≡ in_turn 1 (2 * count + 1)

-- where a process stands in a part, whose events are those of the first ones that have the value
pub record IsSeat (all : Events) (by : ℕ) (value : Scalar) (front events : Events) (row : List ℕ) (process : ℕ) : Type 0 where
  pub idle : (m : ℕ) → IsIdle front process m → IsIdle events process (length row)
  pub elsewhere : (m : ℕ) → IsBusy front process m → ¬ IsWith all by value (call_at process m) → IsIdle events process (length row)
  pub busy : (m : ℕ) → IsBusy front process m → IsWith all by value (call_at process m) →
      (j : ℕ) × IsBusy events process j × (length row ≡ j + 1) × (slice_get row j ≡ Some (m + 1))

-- the part of the first events
pub record IsPartSoFar (all : Events) (by : ℕ) (front : Events) (p : PartView) : Type 0 where
  pub whole : IsHistory p.events
  pub picked : ArePicked all by p.value front (whole_events p.rows p.events)
  pub numbered : AreNumbered p.rows p.events
  pub begun : (q i n : ℕ) → slice_get (row_of p.rows q) i ≡ Some n → (call : ObjectCall) × HasBegun front (record { process = q; number = n }) call
  pub seats : (q : ℕ) → IsSeat all by p.value front p.events (row_of p.rows q) q

-- at which place the part of a label stands, and the part of the call that a process began last; and the parts
pub record SplitView : Type 0 where
  pub places : ℕ → Option ℕ
  pub last : ℕ → Option ℕ
  pub parts : List PartView

-- the parts of the first events
pub record AreSplit (all : Events) (by : ℕ) (front : Events) (s : SplitView) : Type 0 where
  pub values : AreValues by front (map value_of s.parts)
  pub placed : (k : ℕ) (p : PartView) → slice_get s.parts k ≡ Some p → s.places (label_of p.value) ≡ Some k
  pub back : (label k : ℕ) → s.places label ≡ Some k → (p : PartView) × (slice_get s.parts k ≡ Some p) × (label_of p.value ≡ label)
  pub each : (k : ℕ) (p : PartView) → slice_get s.parts k ≡ Some p → IsPartSoFar all by front p
  pub unborn : (value : Scalar) → s.places (label_of value) ≡ None → IsPartSoFar all by front (empty_part value)
  pub last : (q m : ℕ) → IsBusy front q m →
      (k : ℕ) × (p : PartView) × (s.last q ≡ Some k) × (slice_get s.parts k ≡ Some p) × IsWith all by p.value (call_at q m)

-- the event comes next in the history, behind the first ones
pub record IsNext (all front : Events) (e : Event ObjectCall Reply) : Type 0 where
  pub whole : IsHistory all
  pub rest : Events
  pub parts : all ≡ front ++ e ∷ rest

-- what is looked up, with one more entry
abbrev pub with_entry : (ℕ → Option ℕ) → (key value : ℕ) → ℕ → Option ℕ
with_entry entries key value q = if nat_eq key q then Some value else entries q

-- the place of the part of a value, which is there or is added
pub data IsPlaced (old new : SplitView) (value : Scalar) (place : ℕ) : Type 0 where
  known : old.places (label_of value) ≡ Some place → new.parts ≡ old.parts → ((q : ℕ) → new.places q ≡ old.places q) → ((q : ℕ) → new.last q ≡ old.last q) →
      IsPlaced old new value place
  added : old.places (label_of value) ≡ None → place ≡ length old.parts → new.parts ≡ old.parts ++ empty_part value ∷ [] →
      ((q : ℕ) → new.places q ≡ with_entry old.places (label_of value) place q) → ((q : ℕ) → new.last q ≡ old.last q) → IsPlaced old new value place
