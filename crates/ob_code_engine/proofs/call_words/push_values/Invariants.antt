use Rattle.std.proofs.Common.{◌≡◌, ◌≤◌, ◌+◌, ◌++◌, drop, length}
use Rattle.ob_code_correct.specs.CodeMeaning.{values_of}
use Rattle.ob_code_engine.proofs.call_words.push_values.Given as goal

-- those so far, and those of the parameters that are left
abbrev pub invariant-loop-parameter : goal.invariant-loop-parameter
invariant-loop-parameter l = record {
  found : l.values.items ++ values_of (drop l.parameter-index l.parameters) l.rest ≡ l.initial.values.items ++ values_of l.parameters l.words;
  few : length l.values.items + length l.parameters ≤ 8 + l.parameter-index;
  place : l.values.capacity ≡ 8;
}
