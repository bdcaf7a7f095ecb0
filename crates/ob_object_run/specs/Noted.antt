-- What is noted at the names of calls.
use Rattle.std.specs.Prelude.{ℕ, ◌↔◌, List, Option, None, Some, map, Contains, IsSome}
use Rattle.std.specs.HashMap as hash
use Rattle.wf_history.specs.declared.event.CallId.{CallId}
use Rattle.ob_object_run.specs.declared.noted.Noted.{Noted}
use Rattle.ob_object_run.specs.Places.{same_id}
use Rattle.ob_object_run.specs.Rows.{in_rows}

-- the first number, or else the second
abbrev pub first_of : Option ℕ → Option ℕ → Option ℕ
first_of (Some number) other = Some number
first_of None other = other

-- what is looked up at a name, or else what stands in its row
abbrev pub noted_in : Noted → CallId → Option ℕ
noted_in noted id = first_of (hash.get same_id noted.others id) (in_rows (map (λ row. row.items) noted.rows.items) id)

-- something is noted of just the calls of the list
abbrev pub AreNoted : Noted → List CallId → Type 0
AreNoted noted order = (q : CallId) → IsSome (noted_in noted q) ↔ Contains order q
