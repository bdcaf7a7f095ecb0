use Rattle.std.proofs.Common.{◌≡◌, ◌≤◌, ◌++◌, take}
use Rattle.ob_code_machine.specs.Body.{result_count, handed}
use Rattle.ob_code_words.specs.StackWords.{with_words}
use Rattle.ob_code_machine.proofs.entering.push_arguments.Given as goal

abbrev pub invariant-loop-argument : goal.invariant-loop-argument
invariant-loop-argument l = record {
  stack : l.stack ≡ with_words l.initial.stack (l.initial.stack.words ++ handed l.variables 0 (take l.argument-index l.arguments));
  results : l.before ≡ result_count (take l.argument-index l.arguments);
  few : l.before ≤ l.argument-index;
}
