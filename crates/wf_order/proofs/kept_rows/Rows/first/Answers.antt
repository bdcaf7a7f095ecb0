-- The rows of the first events.
use Rattle.std.proofs.Common.{refl}
use Rattle.wf_order.proofs.Rowing.{first_are}
use Rattle.wf_order.proofs.kept_rows.Rows.first.Goals as goal

pub returns : goal.returns
returns c = λ history processes are within. first_are history processes c.args.self.now are c.args.count within _ refl refl refl
