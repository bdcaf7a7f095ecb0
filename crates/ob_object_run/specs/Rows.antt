-- Numbers that stand in rows, one for each process, each from number 1 on.
use Rattle.std.specs.Prelude.{ℕ, List, [], Option, None, get_or, slice_get, zero, suc}
use Rattle.wf_history.specs.declared.event.CallId.{CallId}

-- what stands in a row at a number
abbrev pub in_row : List ℕ → ℕ → Option ℕ
in_row row zero = None
in_row row (suc before) = slice_get row before

-- what stands at a name in the row of its process
abbrev pub in_rows : List (List ℕ) → CallId → Option ℕ
in_rows rows id = in_row (get_or rows id.process []) id.number
