-- What is found of the object that an exploration takes, as what is said of the object with scripts.
use Rattle.std.proofs.Common.{◌∙◌, ap, Err}
use Rattle.std.proofs.lemmas.Result.{err_from_is_err_and, IfErr-weaker, IfOk-weaker}
use Rattle.ob_checked.specs.CheckedModule.{program_in}
use Rattle.ob_object_outcomes.proofs.OutcomesAsked.{always_here}
use Rattle.ob_object_outcomes.specs.Scripted.{scripted_in}
use Rattle.ob_object_outcomes.specs.OutcomesView.{always_in}
use Rattle.ob_object_search.specs.declared.instance.ModuleObject.{ModuleObject}
use Rattle.ob_object_outcomes.proofs.WholesAsked.{exploring_told, none_asked, trouble_here, wholes_placed}
use Rattle.ob_object_outcomes.specs.WholesView.{outcomes_in}
use Rattle.ob_store.specs.View.{state_of}
use Rattle.wf_outcomes.specs.Explored.{calls_in}
use Rattle.ob_object_outcomes.proofs.wholes.wholes_of.Goals as goal

pub returns-in_err-question-clause-fault : goal.returns-in_err-question-clause-fault
returns-in_err-question-clause-fault c =
    let p = err_from_is_err_and c.from_residual.result c.from_residual.ensures.1 in
    rw (p.1, p.2) (none_asked (scripted_in c.args.scripted.now) (always_in c.args.bounds.now) c.args.bounds.now.most c.in_err-question.field-0.0 c.in_err-question.ensures.none)

pub returns-in_err-explored-clause-fault : goal.returns-in_err-explored-clause-fault
returns-in_err-explored-clause-fault c =
    let p = err_from_is_err_and c.from_residual-in_err-explored.result c.from_residual-in_err-explored.ensures.1 in
    let s = scripted_in c.args.scripted.now in
    let o = c.in_ok-object.object in
    let is = c.in_ok-object.ensures in
    rw (p.1, p.2)
    (exploring_told s (program_in o.checked.now) o.budget (calls_in c.scripts.result.now) (state_of o.opening.now) is.program is.budget c.scripts.ensures is.opening
    (always_in c.args.bounds.now) c.args.bounds.now.most c.in_err-explored.field-0.0 (λ many. c.in_err-explored.ensures.most (ap Err many)))

pub returns-clause-wholes : goal.returns-clause-wholes
returns-clause-wholes c =
    let s = scripted_in c.args.scripted.now in
    let e = c.in_ok-explored.explored in
    let is = c.in_ok-object.ensures in
    let same = c.in_ok-explored.ensures.object in
    IfOk-weaker c.wholes_where_held-found.result _ _
    (λ w. wholes_placed s (program_in e.object.now.checked.now) e.object.now.budget (calls_in e.scripts.now) (state_of e.object.now.opening.now)
    (ap (λ (m : ModuleObject). program_in m.checked.now) same ∙ is.program) (ap (λ (m : ModuleObject). m.budget) same ∙ is.budget) (ap calls_in c.in_ok-explored.ensures.scripts ∙ c.scripts.ensures)
    (ap (λ (m : ModuleObject). state_of m.opening.now) same ∙ is.opening)
    (outcomes_in w))
    c.wholes_where_held-found.ensures.wholes

pub returns-clause-always : goal.returns-clause-always
returns-clause-always c =
    let s = scripted_in c.args.scripted.now in
    let e = c.in_ok-explored.explored in
    let is = c.in_ok-object.ensures in
    let same = c.in_ok-explored.ensures.object in
    IfOk-weaker c.wholes_where_held-found.result _ _
    (λ _. always_here s (program_in e.object.now.checked.now) e.object.now.budget (calls_in e.scripts.now) (state_of e.object.now.opening.now)
    (ap (λ (m : ModuleObject). program_in m.checked.now) same ∙ is.program) (ap (λ (m : ModuleObject). m.budget) same ∙ is.budget) (ap calls_in c.in_ok-explored.ensures.scripts ∙ c.scripts.ensures)
    (ap (λ (m : ModuleObject). state_of m.opening.now) same ∙ is.opening)
    (always_in c.args.bounds.now) c.in_ok-question.question c.in_ok-question.ensures.asked)
    c.wholes_where_held-found.ensures.always

pub returns-clause-fault : goal.returns-clause-fault
returns-clause-fault c =
    let s = scripted_in c.args.scripted.now in
    let e = c.in_ok-explored.explored in
    let is = c.in_ok-object.ensures in
    let same = c.in_ok-explored.ensures.object in
    IfErr-weaker c.wholes_where_held-found.result _ _
    (λ f. trouble_here s (program_in e.object.now.checked.now) e.object.now.budget (calls_in e.scripts.now) (state_of e.object.now.opening.now)
    (ap (λ (m : ModuleObject). program_in m.checked.now) same ∙ is.program) (ap (λ (m : ModuleObject). m.budget) same ∙ is.budget) (ap calls_in c.in_ok-explored.ensures.scripts ∙ c.scripts.ensures)
    (ap (λ (m : ModuleObject). state_of m.opening.now) same ∙ is.opening)
    (always_in c.args.bounds.now) c.in_ok-question.question c.args.bounds.now.most f c.in_ok-question.ensures.asked)
    c.wholes_where_held-found.ensures.fault
