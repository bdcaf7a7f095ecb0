-- The calls so far.
use Rattle.std.proofs.Common.{◌≡◌, ◌++◌, map, take, string_bytes}
use Rattle.std.specs.List.{flat_map}
use Rattle.ob_object_outcomes.specs.OutcomeLines.{call_lines}
use Rattle.wf_outcomes.specs.View.{call_in}
use Rattle.ob_object_outcomes.proofs.outcome_text.push_calls.Given as goal

abbrev pub invariant-loop-call : goal.invariant-loop-call
invariant-loop-call l = string_bytes l.text ≡ string_bytes l.fn.text ++ flat_map call_lines (map call_in (take l.call-index l.calls))
