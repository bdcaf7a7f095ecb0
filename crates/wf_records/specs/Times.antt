-- Turns of one process in a row, counted at once.
use Rattle.std.specs.Prelude.{ℕ, zero, suc, ◌-◌, ◌^◌, List, length, slice_get, if◌then◌else◌, nat_eq, Option, Some, None}
use Rattle.wf_table.specs.declared.schedule.Turns.{Turns}
use Rattle.wf_table.specs.Schedule.{counted}

-- so many turns of the process behind the last run of turns
abbrev pub counted_times : List Turns → ℕ → ℕ → List Turns
counted_times ts p zero = ts
counted_times ts p (suc k) = counted (counted_times ts p k) p

-- how many turns of the process a run of turns has room for: none where it is another's
abbrev pub room_in : ℕ → Option Turns → ℕ
room_in p None = 0
room_in p (Some t) = if nat_eq t.process p then 2 ^ 64 - 1 - t.count else 0

-- the last one
abbrev pub room_for : List Turns → ℕ → ℕ
room_for ts p = room_in p (slice_get ts (length ts - 1))
