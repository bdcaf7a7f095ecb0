use Rattle.std.proofs.Common.{◌≡◌, ◌+◌, ◌≤◌, ◌++◌, drop, length}
use Rattle.ob_code_machine.specs.Body.{handed}
use Rattle.ob_code_machine.specs.Parameters.{arguments_in}
use Rattle.ob_code_machine.proofs.entering.push_parameters.Given as goal

-- the words so far, and those of the parameters that are left
abbrev pub invariant-loop-parameter : goal.invariant-loop-parameter
invariant-loop-parameter l = record {
  words : l.stack.words ++ handed l.variables l.before (arguments_in (drop l.parameter-index l.parameters) l.rest) ≡ l.initial.stack.words ++ handed l.variables 0 (arguments_in l.parameters l.words);
  reserve : l.stack.reserve ≡ l.initial.stack.reserve;
  height : length l.stack.words ≡ length l.initial.stack.words + l.parameter-index;
  few : l.before ≤ l.parameter-index;
}
