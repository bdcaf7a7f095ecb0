use Rattle.std.proofs.Common.{arith}
use Rattle.ob_code_machine.proofs.Handed.{room_left, count_step, stack_more}
use Rattle.ob_code_machine.proofs.entering.push_arguments.Goals as goal

pub push_argument-requires-clause-room : goal.push_argument-requires-clause-room
push_argument-requires-clause-room c =
    room_left _ _ _ c.loop-argument.argument-index c.args.arguments.now c.loop-argument.invariant.stack (omega arith) c.requires.room

pub loop-argument-preserved : goal.loop-argument-preserved
loop-argument-preserved c =
    let inv = c.loop-argument.invariant in
    let more = c.results_of-before.ensures in
    let xs = c.args.arguments.now in
    let i = c.loop-argument.argument-index in
    record {
      stack = stack_more _ _ _ c.args.variables i c.loop-argument.before xs _ inv.stack inv.results c.loop-argument-test.true c.push_argument.ensures;
      results = count_step _ _ xs i _ inv.results more.value c.loop-argument-test.true;
      few = omega (arith, inv.few, more.small);
    }
