use Rattle.std.proofs.Common.{◌≡◌, ◌≤◌, take}
use Rattle.ob_code_machine.specs.Body.{result_count}
use Rattle.ob_code_machine.proofs.entering.result_count.Given as goal

abbrev pub invariant-loop-argument : goal.invariant-loop-argument
invariant-loop-argument l =
    (l.count ≡ result_count (take l.argument-index l.arguments)) × (l.count ≤ l.argument-index)
