use Rattle.std.proofs.Common.{◌∙◌, List, ap, map, subst, sym}
use Rattle.ob_checked.specs.CheckedModule.{program_in}
use Rattle.ob_object_run.specs.LegalOrder.{CallEnds}
use Rattle.ob_object_search.proofs.Found.{legal_found, none_here, order_here}
use Rattle.ob_object_search.specs.NumberedParts.{named_call}
use Rattle.ob_meaning.specs.ByPositionStore.{Activation}
use Rattle.ob_store.specs.View.{state_of}
use Rattle.wf_history.specs.Legal.{IsLegal}
use Rattle.wf_history.specs.declared.event.CallId.{CallId}
use Rattle.wf_parts.specs.View.{part_in, rows_in}
use Rattle.ob_object_search.proofs.searching_parts.part_order.Goals as goal

pub needed_order-requires : goal.needed_order-requires
needed_order-requires c =
    subst (λ (ids : List CallId). (last : Activation) × IsLegal (CallEnds (program_in c.args.object.now.checked.now) c.args.object.now.budget) (state_of c.args.object.now.opening.now) (part_in c.args.part.now).events ids last) (sym c.as_slice.ensures.value)
    (legal_found (program_in c.args.object.now.checked.now) c.args.object.now.budget (state_of c.args.object.now.opening.now) c.args.names.now c.args.search.now.most c.requires.apart (part_in c.args.part.now) c.requires.here
    _ c.in_ok-order.ensures.verdict c.in-Legal.order c.in-Legal.is)

pub returns-in_ok-calls_named-in-Legal-clause-order : goal.returns-in_ok-calls_named-in-Legal-clause-order
returns-in_ok-calls_named-in-Legal-clause-order c =
    order_here (program_in c.args.object.now.checked.now) c.args.object.now.budget (state_of c.args.object.now.opening.now) c.args.names.now c.args.search.now.most c.requires.apart (part_in c.args.part.now) c.requires.here
    _ c.in_ok-needed-in-Legal.ensures.legal c.in_ok-needed-in-Legal.ensures.needed _
    (rw c.as_slice-numbers.ensures.value at c.in_ok-calls_named-in-Legal.ensures ∙ ap (map (named_call c.args.names.now (rows_in c.args.part.now.numbers.items))) c.as_slice-in-Legal.ensures.value)

pub returns-in-Illegal-clause-fault : goal.returns-in-Illegal-clause-fault
returns-in-Illegal-clause-fault c =
    none_here (program_in c.args.object.now.checked.now) c.args.object.now.budget (state_of c.args.object.now.opening.now) c.args.names.now c.args.search.now.most c.requires.apart (part_in c.args.part.now) c.requires.here
    _ c.in_ok-order.ensures.verdict _ _ c.in-Illegal.is _ (rw c.as_slice-numbers.ensures.value at c.call_named-call.ensures)
