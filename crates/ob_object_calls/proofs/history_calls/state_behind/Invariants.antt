-- The calls so far lead to the state.
use Rattle.std.proofs.Common.{map, take}
use Rattle.ob_checked.specs.CheckedModule.{program_in}
use Rattle.ob_object_run.specs.LegalOrder.{CallEnds}
use Rattle.ob_object_calls.proofs.history_calls.state_behind.Given as goal
use Rattle.ob_object_calls.specs.MadeCalls.{LeadTo}
use Rattle.ob_store.specs.View.{state_of}
use Rattle.wf_history.specs.View.{event_of}

abbrev pub invariant-loop-id : goal.invariant-loop-id
invariant-loop-id l = LeadTo (CallEnds (program_in l.checked) l.budget) (state_of l.fn.opening) (map event_of l.events) (take l.id-index l.ids) (state_of l.state)
