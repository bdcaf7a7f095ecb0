use Rattle.ob_state_replies.proofs.Exported.{told_of_all}
use Rattle.ob_state_replies.proofs.told_exports.told_of_exports.Goals as goal

pub returns : goal.returns
returns c = told_of_all c.args.procedures.now c.loop-procedure.procedure-index c.loop-procedure.told.items c.loop-procedure-test.false c.loop-procedure.invariant
