-- An equal state and an equal order.
use Rattle.std.proofs.Common.{◌∙◌, ap, List}
use Rattle.ob_meaning.specs.ByPositionStore.{Activation}
use Rattle.wf_history.specs.declared.event.CallId.{CallId}
use Rattle.wf_outcomes.specs.OutcomeOrders.{End}
use Rattle.ob_object_outcomes.proofs.finding.last_state.Goals as goal

abbrev end_of : Activation → List CallId → End Activation
end_of state order = record { state = state; order = order }

pub returns : goal.returns
returns c =
    ap (λ (a : Activation). end_of a c.in_ok-order.order.items) c.in_ok-state.ensures ∙ ap (end_of _) (c.in_ok-order.ensures.items ∙ c.deref.ensures.value)
