use Rattle.std.proofs.Common.{◌∙◌, ℕ, List, map, ap, subst}
use Rattle.ob_checked.specs.Exports.{signatures}
use Rattle.ob_code_correct.specs.CodeMeaning.{EngineParts}
use Rattle.ob_code_scheme.specs.Layout.{encoded}
use Rattle.ob_interface.specs.Call.{ObjectCall}
use Rattle.ob_meaning.specs.ByNameObject.{replies_to}
use Rattle.ob_object_perform.proofs.Alone.{calls_in, of_one_process}
use Rattle.ob_object_perform.proofs.PerformObjects.{named_object}
use Rattle.ob_object_run.specs.OwnCalls.{HasReplies}
use Rattle.ob_object_run.specs.Recorded.{IsRecorded}
use Rattle.ob_text_scripts.specs.Script.{IsScript}
use Rattle.wf_play.specs.Played.{scripts_of}
use Rattle.wf_theorems.specs.FirstCalls.{AreFirstCalls}
use Rattle.ob_object_perform.proofs.perform_laws.one_process.Goals as goal

pub returns-clause-in_turn : goal.returns-clause-in_turn
returns-clause-in_turn c = λ t r one p.
    let o = p.object in
    let calls = scripts_of p.calls in
    let shown = subst (λ (k : ℕ). IsRecorded o.engine k (encoded o.opening) calls p.items r) (p.compiled.processes ∙ one) p.shows.recorded in
    subst (λ (cs : List ObjectCall). AreFirstCalls 0 cs r.history r.order) (calls_in p.calls)
    (c.one_process.ensures o.engine (encoded o.opening) calls p.items r (of_one_process (signatures o.program) t.scripts p.calls (subst (λ (k : ℕ). IsScript (signatures o.program) k t.scripts p.calls) one p.calls_are)) shown)

pub returns-clause-answers : goal.returns-clause-answers
returns-clause-answers c = λ t r one p.
    let o = p.object in
    let calls = scripts_of p.calls in
    let opening = p.compiled.opens.state in
    let sound = c.compilations_are_sound.ensures.coded t.asked o p.compiled in
    let shown = subst (λ (k : ℕ). IsRecorded o.engine k (encoded o.opening) calls p.items r) (p.compiled.processes ∙ one) p.shows.recorded in
    subst (λ (cs : List ObjectCall). HasReplies 0 r.history (replies_to o.program t.asked.budget opening cs)) (calls_in p.calls)
    (subst (λ (k : ℕ). HasReplies 0 r.history (replies_to o.program k opening (map (λ x. x.1) calls))) (ap (λ (e : EngineParts). e.budget) p.compiled.engine_is)
    (c.one_process_answers.ensures o.program o.engine opening (encoded o.opening) calls p.items r (of_one_process (signatures o.program) t.scripts p.calls (subst (λ (k : ℕ). IsScript (signatures o.program) k t.scripts p.calls) one p.calls_are)) shown
    (named_object o sound c.states_are_objects.ensures opening p.compiled.opens.same)))
