use Rattle.ob_code_machine.specs.Leaps.{Goes}
use Rattle.ob_code_machine.proofs.body.Body.walk.Given as goal

-- the steps that were made lead here, and the body goes on
abbrev pub invariant-loop-count : goal.invariant-loop-count
invariant-loop-count l = Goes l.code.instructions l.count l.initial.self l.initial.block l.self l.block
