use Rattle.std.proofs.Common.{◌≡◌, ℕ, List, map, Some, ◌<◌, ◌≤◌}
use Rattle.std.specs.List.{slice_get}
use Rattle.ob_interface.specs.Call.{ObjectCall, Reply}
use Rattle.wf_history.specs.History.{Event}
use Rattle.wf_history.specs.View.{event_of}
use Rattle.wf_history.specs.declared.event.Event as Rust
use Rattle.wf_lookup.specs.Beginnings.{IsOfProcesses}
use Rattle.wf_lookup.proofs.counted_processes.processes_of.Given as goal

-- so many processes are enough for the first events
abbrev pub AreFirstOf : List Rust.Event → ℕ → ℕ → Type 0
AreFirstOf events n count = (k : ℕ) (event : Event ObjectCall Reply) → k < n → slice_get (map event_of events) k ≡ Some event → IsOfProcesses count event

abbrev pub invariant-loop-event : goal.invariant-loop-event
invariant-loop-event l = AreFirstOf l.events l.event-index l.count × ((n : ℕ) → AreFirstOf l.events l.event-index n → l.count ≤ n)
