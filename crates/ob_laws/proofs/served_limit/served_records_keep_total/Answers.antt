use Rattle.std.proofs.Common.{◌++◌, ◌∙◌, ap, sym}
use Rattle.ob_code_correct.specs.CodeMeaning.{code_meaning}
use Rattle.ob_code_correct.specs.Compiled.{IsFitting}
use Rattle.ob_code_scheme.specs.Layout.{encoded}
use Rattle.ob_object_run.proofs.Engines.{reached}
use Rattle.ob_object_run.proofs.Submissions.{acts_split, fits_first}
use Rattle.wf_play.specs.Played.{scripts_of}
use Rattle.wf_table.specs.Runs.{performed, run, submissions, turns}
use Rattle.wf_table.specs.Schedule.{steps_of}
use Rattle.wf_table.specs.Start.{sizes_of}
use Rattle.ob_laws.proofs.served_limit.served_records_keep_total.Goals as goal

pub returns : goal.returns
returns c = λ a scripts output s first rest split.
    let parts = s.object.engine in
    let n = s.object.processes in
    let m = code_meaning parts in
    let block = encoded s.object.opening in
    let own = scripts_of s.calls in
    let record_of = s.is_record in
    let last = record_of.state in
    let runs = record_of.runs in
    let acts = submissions own ++ turns first in
    let all = acts_split own last.records.schedule first rest (ap steps_of (sym record_of.schedule) ∙ split) in
    let fit = fits_first (IsFitting parts.exports) (performed own last.records.schedule) acts (turns rest) all runs.fit in
    c.engines_keep_total.ensures parts n block acts (run m (sizes_of m n) acts runs.start)
    (reached parts n block (performed own last.records.schedule) last runs acts fit)
