use Rattle.std.proofs.Common.{◌≡◌, map, replicate, []}
use Rattle.wf_order.proofs.rows.empty_rows.Given as goal

abbrev pub invariant-loop : goal.invariant-loop
invariant-loop g l = map (λ row. row.items) l.rows.items ≡ replicate l.counter []
