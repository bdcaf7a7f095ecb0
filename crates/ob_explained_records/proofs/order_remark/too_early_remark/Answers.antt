use Rattle.std.proofs.Common.{◌∙◌, List, ℕ, false, option_map, subst}
use Rattle.std.proofs.lemmas.Result.{IfOk-weaker}
use Rattle.ob_explain_sentences.specs.Remarks.{remark_of}
use Rattle.ob_explained_records.specs.OrderRemarks.{IsOrderLineRemark}
use Rattle.ob_explained_records.proofs.order_remark.too_early_remark.Goals as goal

pub returns : goal.returns
returns c =
    IfOk-weaker c.order_line_remark.result _ _
    (λ remark h. (
      c.in-Ok.other,
      c.in-Ok.ensures,
      c.in_ok-line.line,
      c.in_ok-line.ensures,
      subst (λ (what : List ℕ). IsOrderLineRemark c.args.text.now c.args.id false what (option_map remark_of remark)) (c.as_str.ensures.value ∙ c.in_ok-what.ensures) h,
    ))
    c.order_line_remark.ensures
