-- The calls so far have ended.
use Rattle.std.proofs.Common.{ℕ, List, take}
use Rattle.ob_interface.specs.Call.{ObjectCall, Reply}
use Rattle.wf_history.specs.History.{Event}
use Rattle.wf_needed.specs.Listed.{NoneIsOpen}
use Rattle.wf_order.specs.Rows.{AreRows}
use Rattle.wf_needed.proofs.listed_calls.have_ended.Given as goal

abbrev pub invariant-loop-id : goal.invariant-loop-id
invariant-loop-id l = (history : List (Event ObjectCall Reply)) (processes : ℕ) → AreRows history processes l.rows → NoneIsOpen history (take l.id-index l.order)
