use Rattle.std.proofs.Common.{◌∙◌, Bool, ap₂, option_map, subst}
use Rattle.std.proofs.lemmas.Result.{IfOk-weaker}
use Rattle.ob_explained_lines.specs.Causes.{cause_of}
use Rattle.ob_explained_records.specs.FormRemarks.{IsBodyCause, is_budget_line}
use Rattle.ob_explained_records.proofs.record_remark.form_cause.Goals as goal

pub returns-in_ok-budget : goal.returns-in_ok-budget
returns-in_ok-budget c =
    rw c.if-apart.false
    (IfOk-weaker c.body_cause.result _ _
    (λ cause is. subst (λ (budget : Bool). IsBodyCause budget c.args.object.now c.args.text.now c.args.number (option_map cause_of cause))
    (c.is_budget_line.ensures ∙ ap₂ is_budget_line c.said_number-own.ensures c.in_ok-budget.ensures) is) c.body_cause.ensures)
