use Rattle.std.proofs.Common.{Bool, option_map, subst}
use Rattle.std.proofs.lemmas.Result.{IfOk-weaker}
use Rattle.ob_explained_lines.specs.Causes.{cause_of}
use Rattle.ob_explained_records.specs.HistoryForms.{IsHistoryCause}
use Rattle.ob_explained_records.proofs.history_remark.form_remark.Goals as goal

pub returns : goal.returns
returns c =
    let cause = option_map cause_of c.in_ok-cause.cause in
    IfOk-weaker c.told_form.result _ _
    (λ remark told. record {
      order = c.in_ok-order.order;
      is_order = c.in_ok-order.ensures;
      cause = cause;
      is_cause = subst (λ (behind : Bool). IsHistoryCause behind c.args.object.now c.args.text.now c.args.number cause) c.is_behind-behind_order.ensures c.in_ok-cause.ensures;
      says = told;
    }) c.told_form.ensures
