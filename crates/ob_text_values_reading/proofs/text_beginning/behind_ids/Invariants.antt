-- The calls that the words so far name.
use Rattle.std.proofs.Common.{length}
use Rattle.ob_text_values_reading.proofs.WrittenWords.{NamesTo}
use Rattle.ob_text_values_reading.proofs.text_beginning.behind_ids.Given as goal

abbrev pub invariant-loop-id : goal.invariant-loop-id
invariant-loop-id l = NamesTo l.processes l.text l.left

abbrev pub decreases-loop-id : goal.decreases-loop-id
decreases-loop-id l = length l.left
