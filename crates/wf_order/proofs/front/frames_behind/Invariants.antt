-- The frames of the first ones.
use Rattle.std.proofs.Common.{ℕ, List, map, take}
use Rattle.ob_interface.specs.Call.{ObjectCall, Reply}
use Rattle.wf_history.specs.History.{Event}
use Rattle.wf_order.specs.Fronts.{AreFramed, AreSized}
use Rattle.wf_order.specs.Rows.{AreRows}
use Rattle.wf_order.proofs.front.frames_behind.Given as goal

abbrev pub invariant-loop-at : goal.invariant-loop-at
invariant-loop-at g l =
    (history : List (Event ObjectCall Reply)) (processes : ℕ) → AreRows history processes l.rows → AreSized processes (map (λ f. f.counts.items) l.all) → AreFramed history l.rows (take l.at (map (λ f. f.counts.items) l.all)) l.place l.frames.items
