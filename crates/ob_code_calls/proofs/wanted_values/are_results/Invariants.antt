use Rattle.std.proofs.Common.{◌≡◌, ◌≤◌, ◌+◌, drop}
use Rattle.std.specs.Prelude.{◌↔◌}
use Rattle.ob_code_calls.specs.Calls.{meaning_of, results_of}
use Rattle.ob_code_correct.specs.CodeMeaning.{result_count, values_of}
use Rattle.ob_code_calls.proofs.wanted_values.are_results.Given as goal

-- the results that are left are the values that are left just where all are all, and there are as many as the parameters that are left need
abbrev pub invariant-loop-parameter : goal.invariant-loop-parameter
invariant-loop-parameter l = record {
  same : (values_of (drop l.parameter-index l.parameters) (drop l.place (results_of (meaning_of l.engine.parts) l.run)) ≡ l.others) ↔ (values_of l.parameters (results_of (meaning_of l.engine.parts) l.run) ≡ l.values);
  behind : l.place ≤ l.parameter-index;
  enough : l.place + result_count (drop l.parameter-index l.parameters) ≤ (meaning_of l.engine.parts).replies;
}
