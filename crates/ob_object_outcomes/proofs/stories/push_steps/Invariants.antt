-- What happened so far, and what happens at the calls that are left.
use Rattle.std.proofs.Common.{◌≡◌, ◌++◌, drop, string_bytes}
use Rattle.ob_checked.specs.CheckedModule.{program_in}
use Rattle.ob_object_outcomes.specs.Stories.{steps_lines}
use Rattle.ob_store.specs.View.{state_of}
use Rattle.wf_outcomes.specs.Explored.{calls_in}
use Rattle.ob_object_outcomes.proofs.stories.push_steps.Given as goal

abbrev pub invariant-loop-id : goal.invariant-loop-id
invariant-loop-id l =
    string_bytes l.text ++ steps_lines (program_in l.told.checked.now) l.told.budget (calls_in l.told.scripts.now) (drop l.id-index l.path) (state_of l.state)
    ≡ string_bytes l.fn.text ++ steps_lines (program_in l.told.checked.now) l.told.budget (calls_in l.told.scripts.now) l.path (state_of l.initial.state)
