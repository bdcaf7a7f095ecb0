use Rattle.std.proofs.Common.{List, subst, option_map}
use Rattle.std.proofs.lemmas.Result.{IfOk-weaker}
use Rattle.ob_checked.specs.CheckedModule.{program_in}
use Rattle.ob_explain_sentences.specs.Remarks.{remark_of}
use Rattle.ob_explained.specs.CallRemarks.{IsExportsRemark, of_module}
use Rattle.ob_interface.specs.Export.{Signature}
use Rattle.ob_explained.proofs.call_remark.call_remark.Goals as goal

pub returns-in-Ok-clause-remark : goal.returns-in-Ok-clause-remark
returns-in-Ok-clause-remark c =
    IfOk-weaker c.exports_remark.result _ _
    (λ remark e. of_module (program_in c.in-Ok.checked) c.in-Ok.ensures.program
    (subst (λ (ss : List Signature). IsExportsRemark c.args.text.now ss c.args.script.now c.args.line c.args.fault (option_map remark_of remark)) c.exports.ensures e))
    c.exports_remark.ensures.remark
