use Rattle.std.proofs.Common.{ap, ◌∙◌}
use Rattle.ob_typing.specs.Program as Programs
use Rattle.ob_typing.specs.ExpressionVerdicts as Verdicts
use Rattle.ob_checked.specs.View.{expression_of, operations_in}
use Rattle.ob_checked.proofs.Rows.{expression_of-computed}
use Rattle.ob_rules.proofs.expressions.joined.Goals as goal

pub returns-clause-typed : goal.returns-clause-typed
returns-clause-typed c =
    let rest = c.args.rest.operations in
    let with_code : Programs.Expression → Verdicts.Typed = λ e. record { type = c.args.first.data_type; code = e; value = c.args.rest.value } in
    ap with_code (expression_of-computed c.in_ok-new.field-0 rest ∙ ap (λ e. Programs.Computed (expression_of e) (operations_in rest.items)) c.in_ok-new.ensures.ok)
