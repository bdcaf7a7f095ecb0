-- Whether a seat has what a history and a schedule show of its process.
use Rattle.std.specs.Prelude.{◌≡◌, ℕ, List}
use Rattle.ob_interface.specs.Call.{ObjectCall, Reply}
use Rattle.wf_history.specs.declared.event.CallId.{CallId}
use Rattle.wf_history.specs.History.{Event, own_answers}
use Rattle.wf_table.specs.declared.schedule.Turns.{Turns}
use Rattle.ob_desk_floor.specs.Floor.{turns_in}
use Rattle.ob_desk_floor.specs.Seat.{Seat}

-- the seat took just the turns that the schedule has of its process, and has just the answers that the history shows of it
pub record Agrees (history : List (Event ObjectCall Reply)) (schedule : List Turns) (s : Seat) : Type 0 where
  pub turns : s.turns ≡ turns_in s.process schedule
  pub answers : s.answers ≡ own_answers s.process history

-- if the seat is of the process, it took so many turns, and has these answers
pub record AgreesAt (p turns : ℕ) (answers : List (CallId × Reply)) (s : Seat) : Type 0 where
  pub agrees : s.process ≡ p → (s.turns ≡ turns) × (s.answers ≡ answers)
