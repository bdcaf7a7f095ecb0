use Rattle.std.proofs.Common.{◌++◌, ◌<◌, length, get_or, arith, refl, string_bytes}
use Rattle.ob_checked.specs.CheckedModule.{program_in}
use Rattle.ob_object_outcomes.proofs.Steps.{told_all, told_next}
use Rattle.ob_object_outcomes.specs.Stories.{steps_lines}
use Rattle.ob_store.specs.View.{state_of}
use Rattle.wf_history.specs.declared.event.CallId.{CallId}
use Rattle.wf_outcomes.specs.Explored.{calls_in}
use Rattle.ob_object_outcomes.proofs.stories.push_steps.Goals as goal

abbrev default : CallId
default = record { process = 0; number = 0 }

pub loop-id-preserved : goal.loop-id-preserved
loop-id-preserved c =
    let told = c.args.told in
    let path = c.args.path.now in
    let i = c.loop-id.id-index in
    let below : i < length path = omega arith in
    told_next (program_in told.checked.now) told.budget (calls_in told.scripts.now) path
    (string_bytes c.args.text.now ++ steps_lines (program_in told.checked.now) told.budget (calls_in told.scripts.now) path (state_of c.args.before))
    i (get_or path i default) default (state_of c.loop-id.state) (state_of c.in_ok-state.state) (string_bytes c.loop-id.text) (string_bytes c.push_step.new.text)
    below refl c.in_ok-state.ensures.lines c.in_ok-state.ensures.behind c.loop-id.invariant

pub returns : goal.returns
returns c =
    let told = c.args.told in
    let path = c.args.path.now in
    told_all (program_in told.checked.now) told.budget (calls_in told.scripts.now) path
    (string_bytes c.args.text.now ++ steps_lines (program_in told.checked.now) told.budget (calls_in told.scripts.now) path (state_of c.args.before))
    c.loop-id.id-index (state_of c.loop-id.state) (string_bytes c.loop-id.text) c.loop-id-test.false c.loop-id.invariant
