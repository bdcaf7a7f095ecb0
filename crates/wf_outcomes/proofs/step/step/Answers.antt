-- The next call is the script's, and has one outcome.
use Rattle.std.proofs.Common.{sym, ◌<◌, length}
use Rattle.wf_history.specs.View.{kept_call}
use Rattle.wf_outcomes.specs.Explored.{kept_in, calls_in}
use Rattle.wf_outcomes.proofs.Stepping.{only_step}
use Rattle.wf_outcomes.proofs.step.step.Goals as goal

pub after-requires-clause-before : goal.after-requires-clause-before
after-requires-clause-before g c = c.requires.words

pub returns-clause-only : goal.returns-clause-only
returns-clause-only g c =
    let task = c.args.task.now in
    let scripts = calls_in task.scripts.now in
    let process = c.args.process in
    let here = (kept_in g.O.Object.meaning c.args.here.now).here in
    let call = kept_call c.in-Some.call.now in
    let within : process < length c.args.here.now.counts.items = c.requires.process in
    let at = sym c.in-Some.ensures in
    let after = c.in_ok-kept.ensures.after in
    only_step (g.O.Object.effect task.object.now) (λ call. g.met.O.Object.determined task.object.now call) scripts here process call at within
    (g.O.Object.meaning c.in_ok-kept.kept.value.state) after.1.0 c.in_ok-counts.counts.items c.in_ok-counts.ensures after.1.1

pub returns-clause-words : goal.returns-clause-words
returns-clause-words g c = c.in_ok-kept.ensures.after.0
