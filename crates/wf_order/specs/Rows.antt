-- The calls of a history in rows, one for each process.
use Rattle.std.specs.Prelude.{◌≡◌, ℕ, ◌+◌, ◌-◌, ◌<◌, ◌≤◌, List, [], ◌∷◌, map, length, get_or, slice_get, Some, Contains}
use Rattle.ob_interface.specs.Call.{ObjectCall, Reply}
use Rattle.wf_history.specs.declared.event.CallId.{CallId}
use Rattle.wf_history.specs.History.{Event, Begin, End, IsHistory, own_calls, own_answers}
use Rattle.wf_history.specs.Legal.{HasBegun}
use Rattle.wf_history.specs.View.{seen_call, seen_reply}
use Rattle.wf_order.specs.declared.rows.Begun.{Begun}
use Rattle.wf_lookup.specs.Beginnings.{AreOfProcesses}
use Rattle.wf_order.specs.Rising.{up_to}
use Rattle.wf_order.specs.declared.kept_rows.KeptRows.{KeptRows}
use Rattle.wf_order.specs.declared.rows.Ended.{Ended}
use Rattle.wf_order.specs.declared.kept_rows.Rows.{Rows}

-- the rows as lists, as far as the events go
abbrev pub begun_rows : Rows → List (List Begun)
begun_rows rows = map (λ row. up_to (λ b. b.place) rows.events row.items) rows.begun.now

abbrev pub ended_rows : Rows → List (List Ended)
ended_rows rows = map (λ row. up_to (λ e. e.place) rows.events row.items) rows.ended.now

-- what stands at a place in the row of a process
module _ {A : Type 0} where
  abbrev pub row_of : List (List A) → ℕ → List A
  row_of rows process = get_or rows process []

  -- how many items the rows have
  abbrev pub total : List (List A) → ℕ
  total [] = 0
  total (row ∷ rows) = length row + total rows

-- a process's call of this number, counted from 0
abbrev pub call_at : ℕ → ℕ → CallId
call_at process k = record { process = process; number = k + 1 }

-- a process's call of this number, and its reply, stand so in the rows
abbrev pub AreAt : Rows → ℕ → ℕ → Begun → Ended → Type 0
AreAt rows process k begun ended = (slice_get (row_of (begun_rows rows) process) k ≡ Some begun) × (slice_get (row_of (ended_rows rows) process) k ≡ Some ended)

-- the rows hold the calls of the history and their replies
pub record AreRows (history : List (Event ObjectCall Reply)) (processes : ℕ) (rows : Rows) : Type 0 where
  pub whole : IsHistory history
  pub events : rows.events ≡ length history
  pub row_count : length (begun_rows rows) ≡ processes
  -- what stands in a row has begun at its place
  pub begun : (process k : ℕ) (b : Begun) → slice_get (row_of (begun_rows rows) process) k ≡ Some b → slice_get history b.place ≡ Some (Begin (call_at process k) (seen_call b.call))
  -- and what has begun stands there
  pub every_begun : (id : CallId) (call : ObjectCall) → HasBegun history id call →
      (id.process < processes) × (0 < id.number) × (b : Begun) × (slice_get (row_of (begun_rows rows) id.process) (id.number - 1) ≡ Some b)
  -- the replies, in the same way
  pub ended : (process k : ℕ) (e : Ended) → slice_get (row_of (ended_rows rows) process) k ≡ Some e → slice_get history e.place ≡ Some (End (call_at process k) (seen_reply e.reply))
  pub every_ended : (id : CallId) (reply : Reply) → Contains history (End id reply) →
      (id.process < processes) × (0 < id.number) × (e : Ended) × (slice_get (row_of (ended_rows rows) id.process) (id.number - 1) ≡ Some e)

-- the rows as far as a history goes
pub record AreNoted (history : List (Event ObjectCall Reply)) (processes : ℕ) (begun : List (List Begun)) (ended : List (List Ended)) : Type 0 where
  pub begun_count : length begun ≡ processes
  pub ended_count : length ended ≡ processes
  pub calls : (p : ℕ) → p < processes → length (row_of begun p) ≡ length (own_calls p history)
  pub replies : (p : ℕ) → p < processes → length (row_of ended p) ≡ length (own_answers p history)
  pub begun_at : (p k : ℕ) (b : Begun) → slice_get (row_of begun p) k ≡ Some b → slice_get history b.place ≡ Some (Begin (call_at p k) (seen_call b.call))
  pub ended_at : (p k : ℕ) (e : Ended) → slice_get (row_of ended p) k ≡ Some e → slice_get history e.place ≡ Some (End (call_at p k) (seen_reply e.reply))
  pub few : total begun ≤ length history

-- rows of a whole history, as they are kept
pub record AreKept (history : List (Event ObjectCall Reply)) (processes : ℕ) (rows : KeptRows) : Type 0 where
  pub whole : IsHistory history
  pub few : AreOfProcesses processes history
  pub events : rows.events ≡ length history
  pub noted : AreNoted history processes (map (λ row. row.items) rows.begun.items) (map (λ row. row.items) rows.ended.items)
