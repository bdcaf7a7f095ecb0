use Rattle.std.proofs.Common.{◌≡◌, ◌+◌, ◌≤◌, drop}
use Rattle.ob_code_machine.specs.Parameters.{var_count}
use Rattle.ob_code_machine.proofs.entering.var_count.Given as goal

abbrev pub invariant-loop-parameter : goal.invariant-loop-parameter
invariant-loop-parameter l = record {
  count : l.count + var_count (drop l.parameter-index l.parameters) ≡ var_count l.parameters;
  few : l.count ≤ l.parameter-index;
}
