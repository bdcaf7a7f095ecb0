use Rattle.std.proofs.lemmas.Result.{IfOk-weaker}
use Rattle.ob_command.proofs.mistakes.with_number_tip.Goals as goal

pub returns : goal.returns
returns c = IfOk-weaker c.tipped.result _ _ (λ text is. (_, _, is)) c.tipped.ensures
