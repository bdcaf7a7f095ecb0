use Rattle.std.proofs.Common.{◌≡◌, ◌≤◌, ◌++◌, drop, length}
use Rattle.ob_code_correct.specs.CodeMeaning.{arguments_in}
use Rattle.ob_code_engine.proofs.call_words.arguments_in.Given as goal

-- those so far, and those of the parameters that are left
abbrev pub invariant-loop-parameter : goal.invariant-loop-parameter
invariant-loop-parameter l = record {
  found : l.arguments.items ++ arguments_in (drop l.parameter-index l.parameters) l.rest ≡ arguments_in l.parameters l.words;
  few : length l.arguments.items ≤ l.parameter-index;
  place : l.arguments.capacity ≡ 8;
}
