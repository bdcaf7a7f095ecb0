-- Who stepped, as runs of turns.
use Rattle.std.specs.Prelude.{ℕ, ◌+◌, ◌-◌, ◌^◌, ◌<◌, ◌&&◌, List, [], ◌∷◌, ◌++◌, length, replicate, slice_get, slice_set, if◌then◌else◌, nat_eq, nat_lt, Option, Some, None}
use Rattle.wf_table.specs.declared.schedule.Turns.{Turns}

-- one more turn of the process after the last run of turns; a full count begins a new run
abbrev pub counted_after : List Turns → ℕ → Option Turns → List Turns
counted_after ts p None = ts ++ record { process = p; count = 1 } ∷ []
counted_after ts p (Some t) =
    if nat_eq t.process p && nat_lt t.count (2 ^ 64 - 1)
    then slice_set ts (length ts - 1) (record { process = t.process; count = t.count + 1 })
    else ts ++ record { process = p; count = 1 } ∷ []

abbrev pub counted : List Turns → ℕ → List Turns
counted ts p = counted_after ts p (slice_get ts (length ts - 1))

-- the process of each turn
abbrev pub steps_of : List Turns → List ℕ
steps_of [] = []
steps_of (t ∷ ts) = replicate t.count t.process ++ steps_of ts

-- turns of a process below n, at least one and fewer than 2^64
pub record AreTurns (n : ℕ) (t : Turns) : Type 0 where
  pub process : t.process < n
  pub some : 0 < t.count
  pub few : t.count < 2 ^ 64
