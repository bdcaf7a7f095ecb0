use Rattle.std.proofs.Common.{take}
use Rattle.ob_checked.specs.CheckedModule.{program_in}
use Rattle.ob_object_search.specs.NumberedParts.{AreOrdersHere}
use Rattle.ob_object_search.specs.View.{orders_in}
use Rattle.ob_store.specs.View.{state_of}
use Rattle.wf_parts.specs.View.{parts_in}
use Rattle.ob_object_search.proofs.searching_parts.orders_found.Given as goal

-- each of the parts so far has its order
abbrev pub invariant-loop-part : goal.invariant-loop-part
invariant-loop-part l =
    AreOrdersHere (program_in l.object.checked.now) l.object.budget (state_of l.object.opening.now) l.names (take l.part-index (parts_in l.parts)) (orders_in l.found.items)
