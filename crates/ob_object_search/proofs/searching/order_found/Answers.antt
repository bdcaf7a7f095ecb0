use Rattle.std.proofs.Common.{◌∙◌, List, ap, map, subst, sym}
use Rattle.ob_checked.specs.CheckedModule.{program_in}
use Rattle.ob_object_run.specs.LegalOrder.{CallEnds}
use Rattle.ob_object_search.proofs.Verdicts.{legal_found, needed_named, none_named, order_named}
use Rattle.ob_meaning.specs.ByPositionStore.{Activation}
use Rattle.ob_store.specs.View.{state_of}
use Rattle.ob_text_reading.specs.Names.{named_id}
use Rattle.wf_history.specs.Legal.{IsLegal}
use Rattle.wf_history.specs.declared.event.CallId.{CallId}
use Rattle.ob_object_search.proofs.searching.order_found.Goals as goal

pub needed_order-requires : goal.needed_order-requires
needed_order-requires c =
    subst (λ (ids : List CallId). (last : Activation) × IsLegal (CallEnds (program_in c.args.object.now.checked.now) c.args.object.now.budget) (state_of c.args.object.now.opening.now) c.args.history.now ids last) (sym c.as_slice.ensures.value)
    (legal_found (program_in c.args.object.now.checked.now) c.args.object.now.budget (state_of c.args.object.now.opening.now) c.args.history.now c.args.names.now c.args.search.now.most c.requires.apart c.requires.below _ c.in_ok-order.ensures.verdict c.in-Legal.order c.in-Legal.is)

pub returns-in_ok-named_all-in-Legal-clause-order : goal.returns-in_ok-named_all-in-Legal-clause-order
returns-in_ok-named_all-in-Legal-clause-order c =
    order_named (program_in c.args.object.now.checked.now) c.args.object.now.budget (state_of c.args.object.now.opening.now) c.args.history.now c.args.names.now c.args.search.now.most c.requires.apart c.requires.below
    _ c.in_ok-needed-in-Legal.ensures.legal _ (c.in_ok-named_all-in-Legal.ensures ∙ ap (map (named_id c.args.names.now)) c.as_slice-in-Legal.ensures.value)

pub returns-in_ok-named_all-in-Legal-clause-needed : goal.returns-in_ok-named_all-in-Legal-clause-needed
returns-in_ok-named_all-in-Legal-clause-needed c =
    needed_named (program_in c.args.object.now.checked.now) c.args.object.now.budget (state_of c.args.object.now.opening.now) c.args.history.now c.args.names.now c.args.search.now.most c.requires.apart c.requires.below
    _ c.in_ok-needed-in-Legal.ensures.legal c.in_ok-needed-in-Legal.ensures.needed _ (c.in_ok-named_all-in-Legal.ensures ∙ ap (map (named_id c.args.names.now)) c.as_slice-in-Legal.ensures.value)

pub returns-in-Illegal-clause-fault : goal.returns-in-Illegal-clause-fault
returns-in-Illegal-clause-fault c =
    none_named (program_in c.args.object.now.checked.now) c.args.object.now.budget (state_of c.args.object.now.opening.now) c.args.history.now c.args.names.now c.args.search.now.most c.requires.apart c.requires.below _ c.in_ok-order.ensures.verdict _ _ c.in-Illegal.is
    _ c.named.ensures
