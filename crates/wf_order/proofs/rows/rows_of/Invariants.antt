use Rattle.std.proofs.Common.{map, take}
use Rattle.wf_history.specs.View.{event_of}
use Rattle.wf_order.specs.Rows.{AreNoted}
use Rattle.wf_order.proofs.rows.rows_of.Given as goal

abbrev pub invariant-loop-place : goal.invariant-loop-place
invariant-loop-place l = AreNoted (take l.place (map event_of l.events)) l.processes (map (λ row. row.items) l.begun.items) (map (λ row. row.items) l.ended.items)
