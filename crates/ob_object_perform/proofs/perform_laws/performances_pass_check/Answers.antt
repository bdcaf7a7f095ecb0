use Rattle.std.proofs.Common.{ℕ, ap, subst, sym}
use Rattle.ob_code_correct.specs.CodeMeaning.{EngineParts}
use Rattle.ob_code_scheme.specs.Layout.{encoded}
use Rattle.ob_object_run.specs.OrderFaults.{IsOrderFault}
use Rattle.ob_object_perform.proofs.PerformObjects.{is_object}
use Rattle.wf_play.specs.Played.{scripts_of}
use Rattle.ob_object_perform.proofs.perform_laws.performances_pass_check.Goals as goal

pub returns : goal.returns
returns c = λ t r p fault is.
    let o = p.object in
    let sound = c.compilations_are_sound.ensures.coded t.asked o p.compiled in
    c.runs_pass_check.ensures o.program o.engine o.opening o.processes (encoded o.opening) (scripts_of p.calls) p.items r p.shows.recorded
    (is_object o sound c.states_are_objects.ensures) fault
    (subst (λ (k : ℕ). IsOrderFault o.program k o.opening r.history r.order fault) (sym (ap (λ (e : EngineParts). e.budget) p.compiled.engine_is)) is)
