-- Processes are the numbers below n: in events, in the order and in the schedule.
use Rattle.std.specs.Prelude.{ℕ, ◌<◌}
use Rattle.std.specs.List.{All}
use Rattle.ob_interface.specs.Call.{ObjectCall, Reply}
use Rattle.wf_history.specs.declared.event.CallId.{CallId}
use Rattle.wf_history.specs.History.{Event, Begin, Applied, End}
use Rattle.wf_table.specs.Object.{Records}
use Rattle.wf_table.specs.Schedule.{AreTurns}

abbrev pub IdBelow : ℕ → CallId → Type 0
IdBelow n id = id.process < n

abbrev pub EventBelow : ℕ → Event ObjectCall Reply → Type 0
EventBelow n (Begin id call) = IdBelow n id
EventBelow n (Applied ids) = All (IdBelow n) ids
EventBelow n (End id reply) = IdBelow n id

pub record IsBelow (n : ℕ) (r : Records) : Type 0 where
  pub history : All (EventBelow n) r.history
  pub order : All (IdBelow n) r.order
  pub schedule : All (AreTurns n) r.schedule
