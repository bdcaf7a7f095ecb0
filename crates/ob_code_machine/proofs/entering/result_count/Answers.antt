use Rattle.std.proofs.Common.{arith}
use Rattle.ob_code_machine.proofs.Handed.{count_step}
use Rattle.ob_code_machine.proofs.entering.result_count.Goals as goal

pub loop-argument-preserved : goal.loop-argument-preserved
loop-argument-preserved c =
    let inv = c.loop-argument.invariant in
    let more = c.results_of-count.ensures in (
      count_step _ _ c.args.arguments.now c.loop-argument.argument-index _ inv.0 more.value c.loop-argument-test.true,
      omega (arith, inv.1, more.small),
    )
