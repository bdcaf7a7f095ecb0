-- By what is read, and what is found of it.
use Rattle.std.proofs.lemmas.Result.{err_from_is_err_and}
use Rattle.ob_object_compile.specs.View.{asked_of}
use Rattle.ob_object_outcomes.proofs.OutcomesNamed.{always_all}
use Rattle.ob_object_outcomes.specs.Scripted.{scripted_in}
use Rattle.ob_object_outcomes.specs.OutcomesView.{always_in}
use Rattle.ob_object_outcomes.proofs.WholesNamed.{wholes_are, wholes_fault_is, wholes_texts_told}
use Rattle.ob_object_outcomes.specs.WholesView.{outcomes_in}
use Rattle.ob_object_outcomes.proofs.wholes.wholes_text.Goals as goal

pub returns-in_err-scripted-clause-fault : goal.returns-in_err-scripted-clause-fault
returns-in_err-scripted-clause-fault c =
    let p = err_from_is_err_and c.from_residual.result c.from_residual.ensures.1 in
    rw (p.1, p.2) (wholes_texts_told (asked_of c.args.asked) c.args.script.now (always_in c.args.bounds.now) c.args.bounds.now.most c.in_err-scripted.field-0.0 c.in_err-scripted.ensures.refused)

pub returns-in_err-found-clause-fault : goal.returns-in_err-found-clause-fault
returns-in_err-found-clause-fault c =
    let p = err_from_is_err_and c.from_residual-in_err-found.result c.from_residual-in_err-found.ensures.1 in
    let s = scripted_in c.in_ok-scripted.scripted in
    rw (p.1, p.2)
    (wholes_fault_is (asked_of c.args.asked) c.args.script.now s c.in_ok-scripted.ensures.scripted c.in_ok-scripted.ensures.fitting (always_in c.args.bounds.now) c.args.bounds.now.most
    c.in_err-found.field-0.0 c.in_err-found.ensures.fault)

pub returns-clause-wholes : goal.returns-clause-wholes
returns-clause-wholes c =
    wholes_are (asked_of c.args.asked) c.args.script.now (scripted_in c.in_ok-scripted.scripted) c.in_ok-scripted.ensures.scripted c.in_ok-scripted.ensures.fitting
    (outcomes_in c.in_ok-found.found) c.in_ok-found.ensures.wholes

pub returns-clause-always : goal.returns-clause-always
returns-clause-always c =
    always_all (asked_of c.args.asked) c.args.script.now (scripted_in c.in_ok-scripted.scripted) c.in_ok-scripted.ensures.scripted c.in_ok-scripted.ensures.fitting
    (always_in c.args.bounds.now) c.in_ok-found.ensures.always
