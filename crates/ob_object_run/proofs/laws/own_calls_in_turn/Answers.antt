use Rattle.std.proofs.Common.{sym}
use Rattle.ob_object_run.proofs.Engines.{engine_in}
use Rattle.ob_object_run.proofs.Submissions.{submitted_by}
use Rattle.wf_table.specs.Runs.{performed}
use Rattle.wf_table.specs.Schedule.{steps_of}
use Rattle.ob_object_run.proofs.laws.own_calls_in_turn.Goals as goal

pub returns : goal.returns
returns c = λ parts n p block scripts items r lt h.
    let s = h.state in
    let e = engine_in parts block h.played.runs.opens in
    rw (h.history, h.order, sym (submitted_by p scripts (steps_of s.records.schedule)))
    (c.every_process.ensures.calls e n p block (performed scripts s.records.schedule) s lt h.played.runs)
