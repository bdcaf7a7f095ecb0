use Rattle.std.proofs.Common.{◌≡◌, map}
use Rattle.ob_text_words.specs.ScriptCalls.{script_call_of}
use Rattle.wf_play.specs.Makers.{makers_in}
use Rattle.wf_play.specs.Played.{scripts_of}
use Rattle.wf_play.proofs.Makings.{makers_of_run}
use Rattle.wf_play.proofs.Plays.{of_started}
use Rattle.wf_table.specs.Schedule.{steps_of}
use Rattle.wf_play.proofs.event_makers.makers.Goals as goal

pub returns-clause-makers : goal.returns-clause-makers
returns-clause-makers g c =
    let e = g.E.Engine in
    let engine = c.args.engine in
    let n = c.args.n in
    let start = c.in_ok-machine.machine in
    let before = c.submit_all.new.machine in
    let scripts = scripts_of (map script_call_of c.args.calls.items) in
    let steps = steps_of c.args.schedule.now in
    let found = c.take_all.new.makers.items in
    let nothing_before = c.new-makers.ensures.items in
    makers_of_run (e.meaning engine) (e.ready engine) n c.args.opening.now scripts steps found start.state c.in_ok-machine.ensures.state
    (of_started e.meaning (λ x z s. found ≡ makers_in (e.meaning x) z steps s) engine n scripts start before c.in_ok-machine.ensures.engine c.in_ok-machine.ensures.sizes c.in_ok-submit_all.ensures.object c.in_ok-submit_all.ensures.state
    (rw nothing_before at c.in_ok-take_all.ensures))
