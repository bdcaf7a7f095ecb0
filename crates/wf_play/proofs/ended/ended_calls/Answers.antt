use Rattle.std.proofs.Common.{map}
use Rattle.ob_text_words.specs.ScriptCalls.{script_call_of}
use Rattle.wf_play.specs.Played.{scripts_of}
use Rattle.wf_table.specs.Schedule.{steps_of}
use Rattle.wf_play.proofs.Leading.{ended_of_run}
use Rattle.wf_play.proofs.ended.ended_calls.Goals as goal

pub returns : goal.returns
returns g c =
    let scripts = scripts_of (map script_call_of c.args.calls.items) in
    let found = c.take_all.new.ended.items in
    ended_of_run g.E.Engine.meaning (g.E.Engine.ready c.args.engine) c.args.engine c.args.n c.args.opening.now scripts (steps_of c.args.schedule.now)
    c.in-Ok.machine c.submit_all.new.machine c.take_all.new.machine found
    c.in-Ok.ensures.engine c.in-Ok.ensures.sizes c.in-Ok.ensures.unspent c.in-Ok.ensures.state
    c.in_ok-submit_all.ensures (rw c.new-ended.ensures.items at c.in_ok-take_all.ensures)
