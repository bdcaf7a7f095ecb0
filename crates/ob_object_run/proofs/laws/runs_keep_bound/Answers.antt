use Rattle.std.proofs.Common.{List, ◌++◌, ◌∙◌, ap, append_assoc, sym}
use Rattle.ob_code_correct.specs.CodeMeaning.{code_meaning}
use Rattle.ob_code_correct.specs.Compiled.{IsFitting}
use Rattle.ob_object_run.proofs.Engines.{engine_in, reached}
use Rattle.ob_object_run.proofs.Submissions.{acts_split, fits_first, two_pieces}
use Rattle.wf_table.specs.Runs.{Act, performed, run, submissions, turns}
use Rattle.wf_table.specs.Schedule.{steps_of}
use Rattle.wf_table.specs.Start.{sizes_of}
use Rattle.ob_object_run.proofs.laws.runs_keep_bound.Goals as goal

pub returns-clause-moments : goal.returns-clause-moments
returns-clause-moments c = λ parts n block scripts items r h first rest split.
    let m = code_meaning parts in
    let s = h.state in
    let runs = h.played.runs in
    let acts = submissions scripts ++ turns first in
    let all = acts_split scripts s.records.schedule first rest (ap steps_of (sym h.schedule) ∙ split) in
    let fit = fits_first (IsFitting parts.exports) (performed scripts s.records.schedule) acts (turns rest) all runs.fit in
    c.every_bound.ensures.bound (engine_in parts block runs.opens) n block acts (run m (sizes_of m n) acts runs.start)
    (reached parts n block (performed scripts s.records.schedule) s runs acts fit)

pub returns-clause-calls : goal.returns-clause-calls
returns-clause-calls c = λ parts n block scripts items r h first piece rest p last split begins.
    let m = code_meaning parts in
    let s = h.state in
    let runs = h.played.runs in
    let before = submissions scripts ++ turns first in
    let acts = before ++ turns piece in
    let all = acts_split scripts s.records.schedule (first ++ piece) rest (ap steps_of (sym h.schedule) ∙ split ∙ sym (append_assoc first piece rest)) ∙ ap (λ (a : List Act). a ++ turns rest) (two_pieces scripts first piece) in
    let fit = fits_first (IsFitting parts.exports) (performed scripts s.records.schedule) acts (turns rest) all runs.fit in
    c.every_call.ensures.bound (engine_in parts block runs.opens) n block before (turns piece) (run m (sizes_of m n) acts runs.start) p last
    (reached parts n block (performed scripts s.records.schedule) s runs acts fit) begins
