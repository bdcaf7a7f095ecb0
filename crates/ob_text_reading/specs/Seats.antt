-- Where processes stand in their calls, as the events so far show them.
use Rattle.std.specs.Prelude.{◌≡◌, ℕ, ◌+◌, ◌-◌, ◌*◌, List, [], ◌∷◌, ◌++◌, length, slice_get, Some, MatchOption}
use Rattle.ob_interface.specs.Call.{ObjectCall, Reply}
use Rattle.ob_text_reading.specs.declared.process_calls.Seat.{Seat}
use Rattle.wf_history.specs.declared.event.CallId.{CallId}
use Rattle.wf_history.specs.History.{Event, End, IsHistory, in_turn, own_calls, own_events}

-- how many processes there are, and the events so far
pub record Seen : Type 0 where
  pub processes : ℕ
  pub events : List (Event ObjectCall Reply)

module _ (events : List (Event ObjectCall Reply)) where
  -- all calls that the process has begun have ended
  pub record IsIdle (process begun : ℕ) : Type 0 where
    pub turns : own_events process events ≡ in_turn 1 (2 * begun)
    pub calls : length (own_calls process events) ≡ begun

  -- the last call that the process has begun, one of this export, has not ended
  pub record IsBusy (process begun export : ℕ) : Type 0 where
    pub ended : ℕ
    pub call : ObjectCall
    pub one_more : begun ≡ ended + 1
    pub turns : own_events process events ≡ in_turn 1 (2 * ended + 1)
    pub calls : length (own_calls process events) ≡ begun
    pub last : slice_get (own_calls process events) ended ≡ Some call
    pub of_export : call.export ≡ export

  abbrev pub IsSeat : ℕ → Seat → Type 0
  IsSeat process seat = MatchOption seat.pending (IsIdle process seat.begun) (λ export. IsBusy process seat.begun export)

  pub record AreSeats (seats : List Seat) : Type 0 where
    pub whole : IsHistory events
    pub each : (process : ℕ) (seat : Seat) → slice_get seats process ≡ Some seat → IsSeat process seat

  -- the call of this name is one of this export, and may end next
  pub record EndsCall (id : CallId) (export : ℕ) : Type 0 where
    pub call : ObjectCall
    pub begun : slice_get (own_calls id.process events) (id.number - 1) ≡ Some call
    pub of_export : call.export ≡ export
    pub next : (reply : Reply) → IsHistory (events ++ End id reply ∷ [])
