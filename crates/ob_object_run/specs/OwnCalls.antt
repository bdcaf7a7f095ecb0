-- The calls of one process.
use Rattle.std.specs.Prelude.{◌≡◌, ℕ, ◌-◌, ◌<◌, List, Contains, Some, map, nat_eq, slice_get}
use Rattle.std.specs.List.{filter}
use Rattle.ob_interface.specs.Call.{ObjectCall, Reply}
use Rattle.wf_history.specs.History.{Event, End}

-- those of the scripts, each of which stands with its process
abbrev pub calls_by : ℕ → List (ℕ × ObjectCall) → List ObjectCall
calls_by p scripts = map (λ c. c.1) (filter (λ c. nat_eq c.0 p) scripts)

-- each call of a process that ended has the reply of its place among these
abbrev pub HasReplies : ℕ → List (Event ObjectCall Reply) → List Reply → Type 0
HasReplies p history replies = (number : ℕ) (reply : Reply) → Contains history (End (record { process = p; number = number }) reply) → (0 < number) × (slice_get replies (number - 1) ≡ Some reply)
