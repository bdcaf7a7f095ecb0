-- Scripts: their calls fit, and a process's events are those of its script's calls, in turn.
use Rattle.std.specs.Prelude.{◌≡◌, ℕ, ◌+◌, ◌-◌, ◌*◌, ◌<◌, List, length, take, if◌then◌else◌}
use Rattle.ob_interface.specs.Call.{ObjectCall, Reply}
use Rattle.wf_history.specs.History.{Event, in_turn, own_events, own_calls}
use Rattle.wf_table.specs.declared.process.Label.{Label}
use Rattle.wf_table.specs.Labels.{at_next}
use Rattle.wf_table.specs.StepTable.{Process, call_at}

-- every call of the script fits the engine
pub record CallsFit {Run : Type 0} (fits : ObjectCall → Type 0) (q : Process Run) : Type 0 where
  pub fit : (k : ℕ) → k < length q.calls → fits (call_at q k)

-- how many events of its own a process has shown
abbrev pub own_count : Label → ℕ → ℕ
own_count l begun = if at_next l then 2 * begun else 2 * (begun - 1) + 1

-- own events: a Begin and an End of each call in turn, and the last call has no End yet but at NEXT
pub record TakesTurns {Run : Type 0} (history : List (Event ObjectCall Reply)) (p : ℕ) (q : Process Run) : Type 0 where
  pub turns : own_events p history ≡ in_turn 1 (own_count q.label q.begun)

-- the calls that it has begun are the first ones of its script
pub record BeginsScript {Run : Type 0} (history : List (Event ObjectCall Reply)) (p : ℕ) (q : Process Run) : Type 0 where
  pub calls : own_calls p history ≡ take q.begun q.calls
