use Rattle.std.proofs.Common.{Option, sym, subst, ◌∙◌}
use Rattle.std.proofs.lemmas.Result.{IfOk-weaker}
use Rattle.ob_explain_sentences.specs.Remarks.{Remark}
use Rattle.ob_explained.specs.CallRemarks.{IsCallRemark, of_none}
use Rattle.ob_explained.proofs.call_remark.no_exports.Goals as goal

pub returns-else-is_memory-clause-remark : goal.returns-else-is_memory-clause-remark
returns-else-is_memory-clause-remark c =
    IfOk-weaker c.script_remark.result _ _
    (λ remark e. subst (λ (r : Option Remark). IsCallRemark c.args.text.now c.args.script.now c.args.line c.args.fault r) (sym e)
    (of_none (c.requires.none (sym c.is_memory.ensures ∙ c.if-is_memory.false, c.requires.apart))))
    c.script_remark.ensures.remark
