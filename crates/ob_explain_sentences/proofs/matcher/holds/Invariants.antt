use Rattle.std.proofs.Common.{◌≡◌, length, map}
use Rattle.ob_explain_sentences.specs.Rows.{holds, when_of}
use Rattle.ob_explain_sentences.proofs.matcher.holds.Given as goal

abbrev pub invariant-loop-conditions : goal.invariant-loop-conditions
invariant-loop-conditions l = holds l.view (map when_of l.conditions) ≡ holds l.view (map when_of l.initial.conditions)

abbrev pub decreases-loop-conditions : goal.decreases-loop-conditions
decreases-loop-conditions l = length l.conditions
