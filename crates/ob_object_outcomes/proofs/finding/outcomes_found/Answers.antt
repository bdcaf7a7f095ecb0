-- With copies of the states.
use Rattle.std.proofs.Common.{◌∙◌, List, ap, map, subst, sym}
use Rattle.ob_checked.specs.CheckedModule.{program_in}
use Rattle.ob_object_run.specs.LegalOrder.{CallEnds}
use Rattle.ob_meaning.specs.ByPositionStore.{Activation}
use Rattle.ob_object_search.specs.Kept.{kept_in}
use Rattle.ob_object_search.specs.declared.kept_states.KeptState.{KeptState}
use Rattle.ob_store.specs.View.{state_of}
use Rattle.wf_outcomes.specs.Explored.{calls_in}
use Rattle.wf_outcomes.specs.OutcomeOrders.{AreOutcomes, End, IsItself}
use Rattle.wf_outcomes.specs.View.{call_in, end_in}
use Rattle.wf_outcomes.specs.declared.end_states.ToldEnd.{ToldEnd}
use Rattle.ob_object_outcomes.proofs.finding.outcomes_found.Goals as goal

abbrev ends_in : List (ToldEnd KeptState) → List (End Activation)
ends_in = map (end_in kept_in)

pub returns : goal.returns
returns c =
    let object = c.args.explored.now.object.now in
    subst (λ (ends : List (End Activation)). AreOutcomes IsItself (CallEnds (program_in object.checked.now) object.budget) (calls_in c.args.explored.now.scripts.now) (state_of object.opening.now)
    (map call_in c.in_ok-calls.field-0.calls.items) ends) (sym (c.in_ok-ends.ensures ∙ ap ends_in c.deref.ensures.value)) c.in_ok-calls.ensures
