-- The replies so far.
use Rattle.std.proofs.Common.{◌≡◌, ◌++◌, map, take, string_bytes}
use Rattle.std.specs.List.{flat_map}
use Rattle.ob_object_outcomes.specs.OutcomeLines.{told_lines}
use Rattle.wf_outcomes.specs.View.{told_in}
use Rattle.ob_object_outcomes.proofs.outcome_text.push_replies.Given as goal

abbrev pub invariant-loop-told : goal.invariant-loop-told
invariant-loop-told l = string_bytes l.text ≡ string_bytes l.fn.text ++ flat_map (told_lines l.id) (map told_in (take l.told-index l.replies))
