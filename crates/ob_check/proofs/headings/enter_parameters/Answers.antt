use Rattle.std.proofs.Common.{map, ap, ◌∙◌}
use Rattle.std.proofs.lemmas.Result.{IfOk-weaker, IfErr-weaker}
use Rattle.ob_grammar.specs.View.{section_of}
use Rattle.ob_scopes.specs.Names.{types_in, env_of}
use Rattle.ob_scopes.proofs.Declared.{scope_of-empty}
use Rattle.ob_rules.proofs.Steps.{fails_as}
use Rattle.ob_check.specs.CheckingProcedures.{around}
use Rattle.ob_check.proofs.Around.{parameters_right}
use Rattle.ob_check.proofs.HeadingSteps.{parameters_entered}
use Rattle.ob_check.proofs.headings.enter_parameters.Goals as goal

pub returns-clause-typed : goal.returns-clause-typed
returns-clause-typed c =
    let empty = scope_of-empty (types_in c.args.scopes.now) c.new.result c.new.ensures.empty in
    let same = parameters_entered _ _ _ _ _ c.sections_in.ensures c.in_ok-enter.ensures.ok empty in
    IfOk-weaker c.declare_parameters.result _ _ (λ ps h. same ∙ h) c.declare_parameters.ensures.typed

pub returns-clause-around : goal.returns-clause-around
returns-clause-around c =
    IfOk-weaker c.declare_parameters.result _ _
    (λ ps h. parameters_right (map section_of c.sections_in.result.now) (env_of c.enter.new.self) 0 _ h ∙ ap around c.in_ok-enter.ensures.ok)
    c.declare_parameters.ensures.typed

pub returns-clause-fault : goal.returns-clause-fault
returns-clause-fault c =
    let empty = scope_of-empty (types_in c.args.scopes.now) c.new.result c.new.ensures.empty in
    let same = parameters_entered _ _ _ _ _ c.sections_in.ensures c.in_ok-enter.ensures.ok empty in
    IfErr-weaker c.declare_parameters.result _ _ (λ f h. fails_as f _ _ same h) c.declare_parameters.ensures.fault
