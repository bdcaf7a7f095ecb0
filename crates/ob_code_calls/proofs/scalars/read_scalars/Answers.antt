use Rattle.std.proofs.Common.{arith}
use Rattle.ob_code_calls.proofs.Words.{read_all}
use Rattle.ob_code_calls.proofs.scalars.read_scalars.Goals as goal

pub returns : goal.returns
returns c = read_all c.args.variables.now c.args.words.now c.loop-place.place (omega arith) (omega arith) c.loop-place.scalars.items c.loop-place.invariant
