-- The states so far.
use Rattle.std.proofs.Common.{◌≡◌, ◌++◌, map, take, string_bytes}
use Rattle.std.specs.List.{flat_map}
use Rattle.ob_checked.specs.View.{program_of}
use Rattle.ob_object_outcomes.specs.OutcomesView.{last_in}
use Rattle.ob_object_outcomes.specs.OutcomeLines.{end_lines}
use Rattle.ob_object_outcomes.proofs.outcome_text.push_ends.Given as goal

abbrev pub invariant-loop-end : goal.invariant-loop-end
invariant-loop-end l =
    string_bytes l.text ≡ string_bytes l.fn.text ++ flat_map (end_lines (program_of l.program).variables) (map last_in (take l.end-index l.ends))
