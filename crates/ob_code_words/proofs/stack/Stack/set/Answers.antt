use Rattle.std.proofs.Common.{ℤ, arith}
use Rattle.std.proofs.lemmas.Grind.{common_steps}
use Rattle.std.proofs.Math.Seq.{take-set-lt}
use Rattle.ob_code_words.proofs.stack.Stack.set.Goals as goal

pub returns : goal.returns
returns c = grind (arith, common_steps, take-set-lt {A = ℤ})
