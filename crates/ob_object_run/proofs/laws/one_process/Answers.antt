use Rattle.std.proofs.Common.{◌<◌, ◌∙◌, sym}
use Rattle.std.proofs.lemmas.List.Elements.{recursion_from_All}
use Rattle.ob_object_run.proofs.Engines.{engine_in}
use Rattle.ob_object_run.proofs.Submissions.{all_calls, submitted_by}
use Rattle.wf_table.specs.Runs.{performed}
use Rattle.wf_table.specs.Schedule.{steps_of}
use Rattle.ob_object_run.proofs.laws.one_process.Goals as goal

pub returns : goal.returns
returns c = λ parts block scripts items r callers h.
    let s = h.state in
    let e = engine_in parts block h.played.runs.opens in
    let all = submitted_by 0 scripts (steps_of s.records.schedule) ∙ all_calls scripts (recursion_from_All (λ c. c.0 < 1) scripts callers) in
    rw (h.history, h.order, sym all)
    (c.process_alone.ensures e block (performed scripts s.records.schedule) s h.played.runs)
