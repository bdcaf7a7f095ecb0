use Rattle.std.proofs.Common.{◌++◌, ◌∙◌, ap, sym}
use Rattle.ob_code_correct.specs.CodeMeaning.{code_meaning}
use Rattle.ob_code_correct.specs.Compiled.{IsFitting}
use Rattle.ob_object_run.proofs.Engines.{reached}
use Rattle.ob_object_run.proofs.Submissions.{acts_split, fits_first}
use Rattle.wf_table.specs.Runs.{performed, run, submissions, turns}
use Rattle.wf_table.specs.Schedule.{steps_of}
use Rattle.wf_table.specs.Start.{sizes_of}
use Rattle.ob_object_run.proofs.laws.runs_keep_total.Goals as goal

pub returns : goal.returns
returns c = λ parts n block scripts items r h first rest split.
    let m = code_meaning parts in
    let s = h.state in
    let runs = h.played.runs in
    let acts = submissions scripts ++ turns first in
    let all = acts_split scripts s.records.schedule first rest (ap steps_of (sym h.schedule) ∙ split) in
    let fit = fits_first (IsFitting parts.exports) (performed scripts s.records.schedule) acts (turns rest) all runs.fit in
    c.engines_keep_total.ensures parts n block acts (run m (sizes_of m n) acts runs.start)
    (reached parts n block (performed scripts s.records.schedule) s runs acts fit)
