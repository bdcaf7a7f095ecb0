-- No row so far has a name.
use Rattle.std.proofs.Common.{◌≡◌, None, map}
use Rattle.ob_object_run.proofs.noted.empty_rows.Given as goal
use Rattle.ob_object_run.specs.Rows.{in_rows}
use Rattle.wf_history.specs.declared.event.CallId.{CallId}

abbrev pub invariant-loop : goal.invariant-loop
invariant-loop l = (q : CallId) → in_rows (map (λ row. row.items) l.rows.items) q ≡ None
