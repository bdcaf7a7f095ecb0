use Rattle.std.proofs.Common.{◌∙◌, List, ℕ, option_map, subst}
use Rattle.std.proofs.lemmas.Result.{IfOk-weaker}
use Rattle.ob_explain_sentences.specs.Remarks.{remark_of}
use Rattle.ob_object_calls.specs.View.{made_of}
use Rattle.ob_explained_records.specs.OrderRemarks.{IsEndRemark}
use Rattle.ob_explained_records.proofs.order_remark.other_reply_remark.Goals as goal

pub returns : goal.returns
returns c =
    IfOk-weaker c.end_remark.result _ _
    (λ remark h. (
      option_map made_of c.in-Ok.made,
      c.in-Ok.ensures,
      subst (λ (what : List ℕ). IsEndRemark c.args.text.now c.args.id what (option_map remark_of remark)) (c.as_str.ensures.value ∙ c.in_ok-what.ensures) h,
    ))
    c.end_remark.ensures
