-- Which calls are tried next.
use Rattle.std.specs.Prelude.{◌≡◌, ℕ, ◌+◌, ◌-◌, ◌<◌, ◌≤◌, List, [], ◌∷◌, length, get_or, slice_get, Option, Some, None, Contains}
use Rattle.wf_history.specs.declared.event.CallId.{CallId}
use Rattle.wf_history.specs.History.{Event, Begin}
use Rattle.wf_order.specs.declared.rows.Begun.{Begun}
use Rattle.wf_order.specs.declared.kept_rows.Rows.{Rows}
use Rattle.wf_order.specs.declared.next_call.Next.{Next}
use Rattle.wf_order.specs.declared.next_call.Turn.{Turn}
use Rattle.wf_order.specs.Rows.{begun_rows, ended_rows, row_of}

-- the call begins at this place or behind it
pub record BeginsFrom {Call Reply : Type 0} (history : List (Event Call Reply)) (from : ℕ) (id : CallId) : Type 0 where
  pub call : Call
  pub place : ℕ
  pub at : slice_get history place ≡ Some (Begin id call)
  pub behind : from ≤ place

-- the next call of a process, where so many are taken
abbrev pub IsNext : Rows → List ℕ → ℕ → Begun → Type 0
IsNext rows counts process begun = slice_get (row_of (begun_rows rows) process) (get_or counts process 0) ≡ Some begun

-- a process has no next call, or there is no such process
abbrev pub HasNone : Rows → List ℕ → ℕ → Type 0
HasNone rows counts process = process < length counts → slice_get (row_of (begun_rows rows) process) (get_or counts process 0) ≡ None

-- this is the next call of its process, with its end, where it ends
pub record IsNextOf (rows : Rows) (counts : List ℕ) (next : Next) : Type 0 where
  pub within : next.process < length counts
  pub begun : IsNext rows counts next.process next.begun
  pub ended : slice_get (row_of (ended_rows rows) next.process) (get_or counts next.process 0) ≡ next.ended

-- Of the next calls that begin at a place or behind it, and before the limit, this one begins first; where there is none, its
-- place is the limit.
pub record IsFirstTurn (rows : Rows) (counts : List ℕ) (from limit : ℕ) (turn : Turn) : Type 0 where
  pub within : turn.place ≤ limit
  pub least : (process : ℕ) (begun : Begun) → process < length counts → IsNext rows counts process begun → from ≤ begun.place → turn.place ≤ begun.place
  pub own : turn.place < limit → (begun : Begun) × (turn.process < length counts) × IsNext rows counts turn.process begun × (begun.place ≡ turn.place) × (from ≤ turn.place)

-- the turns are the next calls of the first processes that begin at a place or behind it, and before the limit
pub record AreTurns (rows : Rows) (counts : List ℕ) (processes from limit : ℕ) (turns : List Turn) : Type 0 where
  pub all : (process : ℕ) (begun : Begun) → process < processes → IsNext rows counts process begun → from ≤ begun.place → begun.place < limit →
      Contains turns (record { process = process; place = begun.place })
  pub own : (turn : Turn) → Contains turns turn →
      (begun : Begun) × (turn.process < processes) × IsNext rows counts turn.process begun × (begun.place ≡ turn.place) × (from ≤ turn.place) × (turn.place < limit)

-- the turns are the next calls that begin before the limit, and at a place no later than this one or behind it
abbrev pub ReachFrom : Rows → List ℕ → (from limit : ℕ) → List Turn → Type 0
ReachFrom rows counts from limit turns = (low : ℕ) × (low ≤ from) × AreTurns rows counts (length counts) low limit turns

-- Of the turns at a place or behind it, and before the limit, this one comes first; where there is none, its place is the limit.
pub record IsFirstIn (turns : List Turn) (from limit : ℕ) (turn : Turn) : Type 0 where
  pub within : turn.place ≤ limit
  pub least : (other : Turn) → Contains turns other → from ≤ other.place → turn.place ≤ other.place
  pub own : turn.place < limit → Contains turns turn × (from ≤ turn.place)

-- one where a call begins at a place or behind it, and else none
abbrev pub one_from : ℕ → Option Begun → ℕ
one_from from None = 0
one_from from (Some begun) = 1 - (from - begun.place)

-- how many of the next calls begin at a place or behind it, where so many are taken
abbrev pub turns : ℕ → List (List Begun) → List ℕ → ℕ
turns from [] counts = 0
turns from (row ∷ rows) [] = one_from from (slice_get row 0) + turns from rows []
turns from (row ∷ rows) (count ∷ counts) = one_from from (slice_get row count) + turns from rows counts
