use Rattle.std.proofs.Common.{◌∙◌, Bool, ap, ap₂, option_map, subst}
use Rattle.std.proofs.lemmas.Result.{IfOk-weaker}
use Rattle.ob_explained_lines.specs.Causes.{cause_of}
use Rattle.ob_explained_records.specs.FormRemarks.{IsFormCause, is_apart, told_form}
use Rattle.ob_explained_records.proofs.record_remark.form_remark.Goals as goal

pub returns-clause-remark : goal.returns-clause-remark
returns-clause-remark c =
    let object = c.args.object.now in
    let text = c.args.text.now in
    let number = c.args.number in
    let cause = option_map cause_of c.in_ok-cause.cause in
    IfOk-weaker c.told_form.result _ _
    (λ remark told. record {
      order = c.in_ok-order.order;
      is_order = c.in_ok-order.ensures;
      cause = cause;
      is_cause =
          subst (λ (apart : Bool). IsFormCause apart object text number cause) (c.is_apart-apart.ensures ∙ ap₂ is_apart c.said_number.ensures c.is_behind-behind_order.ensures)
          c.in_ok-cause.ensures;
      says = told ∙ ap (λ (behind : Bool). told_form text number behind cause) c.is_behind-behind_order.ensures;
    }) c.told_form.ensures.remark
