use Rattle.std.proofs.Common.{ℕ, ap, subst}
use Rattle.ob_code_engine.specs.Total as Total
use Rattle.ob_code_correct.specs.CodeMeaning.{EngineParts, code_meaning}
use Rattle.ob_code_scheme.specs.Layout.{encoded}
use Rattle.ob_object_run.specs.KeepsBound.{KeepsLimit}
use Rattle.wf_play.specs.Played.{scripts_of}
use Rattle.ob_object_perform.proofs.tree_laws.performances_keep_total.Goals as goal

pub returns : goal.returns
returns c = λ t r p.
    let o = p.object in
    let calls = scripts_of p.calls in
    let start = p.shows.recorded.played.runs.start in
    let limit = ap (λ (e : EngineParts). Total.body_limit e) p.compiled.engine_is in
    subst (λ (k : ℕ). KeepsLimit (code_meaning o.engine) t.asked.processes calls start k r.schedule) limit
    (subst (λ (k : ℕ). KeepsLimit (code_meaning o.engine) k calls start (Total.body_limit o.engine) r.schedule) p.compiled.processes
    (c.runs_keep_total.ensures o.engine o.processes (encoded o.opening) calls p.items r p.shows.recorded))
