use Rattle.std.proofs.Common.{subst, sym}
use Rattle.ob_explained.proofs.Marked.{ToldMarked, behind}
use Rattle.ob_text_scripts.specs.declared.script.ScriptFault.{ScriptFault}
use Rattle.ob_explained.proofs.call_remark.calls_remark.Goals as goal

pub returns-in-Procedure-clause-marked : goal.returns-in-Procedure-clause-marked
returns-in-Procedure-clause-marked c =
    subst (λ (f : ScriptFault). ToldMarked c.args.script.now f c.call_remark.result) (sym c.in-Procedure.is)
    (behind c.args.script.now c.in-Procedure.line c.call_remark.result c.call_remark.ensures.marked)

pub returns-in-Arguments-clause-marked : goal.returns-in-Arguments-clause-marked
returns-in-Arguments-clause-marked c =
    subst (λ (f : ScriptFault). ToldMarked c.args.script.now f c.call_remark-in-Arguments.result) (sym c.in-Arguments.is)
    (behind c.args.script.now c.in-Arguments.line c.call_remark-in-Arguments.result c.call_remark-in-Arguments.ensures.marked)
