-- The next call is the script's, and has one outcome.
use Rattle.std.proofs.Common.{sym, subst, ◌<◌, length}
use Rattle.ob_interface.specs.View.{reply_of}
use Rattle.wf_history.specs.View.{kept_call}
use Rattle.wf_outcomes.specs.declared.seen.Stated.{Stated}
use Rattle.wf_outcomes.specs.Explored.{kept_in, calls_in}
use Rattle.wf_outcomes.specs.RememberedCalls.{IsStated}
use Rattle.wf_outcomes.proofs.Stepping.{only_step_with}
use Rattle.wf_outcomes.proofs.step.stepped.Goals as goal

pub returns-clause-only : goal.returns-clause-only
returns-clause-only g c =
    let task = c.args.task.now in
    let scripts = calls_in task.scripts.now in
    let process = c.args.process in
    let meaning = g.O.Object.meaning in
    let does = g.O.Object.effect task.object.now in
    let here = (kept_in meaning c.args.here.now).here in
    let call = kept_call c.in-Some.call.now in
    let reply = reply_of c.in_ok-state.reply in
    let within : process < length c.args.here.now.counts.items = c.requires in
    let at = sym c.in-Some.ensures in
    let before = subst (λ (s : g.row.O-State.Denot). does call (meaning s) (meaning c.in_ok-state.state) reply) c.state.ensures c.in_ok-state.ensures in
    let effect = subst (λ (s : Stated g.row.O-State.Denot). does call here.state (meaning s.state) reply) (sym c.in_ok-kept.ensures.ok) before in
    only_step_with does (λ call. g.met.O.Object.determined task.object.now call) scripts here process call at within
    (meaning c.in_ok-kept.kept.value.state) reply c.in_ok-counts.counts.items c.in_ok-counts.ensures effect

pub returns-clause-words : goal.returns-clause-words
returns-clause-words g c =
    subst (λ (s : Stated g.row.O-State.Denot). IsStated g.O.Object.meaning g.O.Object.words_of s) (sym c.in_ok-kept.ensures.ok) c.in_ok-words.ensures
