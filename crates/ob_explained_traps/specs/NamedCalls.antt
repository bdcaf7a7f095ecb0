-- How calls are named: those of a script by their processes, and in which lines they stand; those of a record by their names there.
use Rattle.std.specs.Prelude.{◌≡◌, ℕ, ◌+◌, ◌<◌, ◌==◌, List, [], ◌++◌, codes, count_by, decimal, length, slice_index, slice_index_or, take}
use Rattle.ob_explained_traps.specs.declared.told_calls.Calls as Declared
use Rattle.ob_explained_traps.specs.declared.told_calls.Calls.TheVariants as Variants
use Rattle.wf_history.specs.declared.event.CallId.{CallId}

-- the calls of a script by these processes, in these lines of the file of this name; or those of a record's order
pub data Calls : Type 0 where
  OfScript : (name processes lines : List ℕ) → Calls
  OfRecord : (order : List CallId) → Calls

abbrev pub calls_of : Declared.Calls → Calls
calls_of (Variants.OfScript name callers lines) = OfScript name.now callers.now lines.now
calls_of (Variants.OfRecord order) = OfRecord order.now

-- there are so many of them
abbrev pub AreSoMany : Calls → ℕ → Type 0
AreSoMany (OfScript name processes lines) n = (length processes ≡ n) × (length lines ≡ n)
AreSoMany (OfRecord order) n = length order ≡ n

-- one of them stands at this position
abbrev pub HasCall : Calls → ℕ → Type 0
HasCall (OfScript name processes lines) k = (k < length processes) × (k < length lines)
HasCall (OfRecord order) k = k < length order

-- how many of these calls a process made
abbrev pub made_by : ℕ → List ℕ → ℕ
made_by process processes = count_by (λ p. p == process) processes

-- the call of a process behind these: they count from 1
abbrev pub call_behind : (process : ℕ) → (before : List ℕ) → CallId
call_behind process before = record { process = process; number = made_by process before + 1 }

-- which call stands at a position
abbrev pub id_at : Calls → ℕ → CallId
id_at (OfScript name processes lines) k = call_behind (slice_index processes k) (take k processes)
id_at (OfRecord order) k = slice_index_or order k (record { process = 0; number = 0 })

-- how a call is named
unfoldable pub call_text : CallId → List ℕ
call_text id = codes "call " ++ decimal id.process ++ codes "." ++ decimal id.number

-- where a call stands in a script
unfoldable pub line_text : (name : List ℕ) → (line : ℕ) → List ℕ
line_text name line = codes ", line " ++ decimal line ++ codes " of " ++ name

-- the line of the call at a position, where there are lines
abbrev pub line_at : Calls → ℕ → List ℕ
line_at (OfScript name processes lines) k = line_text name (slice_index lines k)
line_at (OfRecord order) k = []

-- which call stands at a position, and where
abbrev pub name_at : Calls → ℕ → List ℕ
name_at calls k = call_text (id_at calls k) ++ line_at calls k
