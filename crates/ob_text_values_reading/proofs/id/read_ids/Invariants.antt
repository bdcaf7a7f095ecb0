-- The calls that the words so far name.
use Rattle.std.proofs.Common.{length}
use Rattle.ob_text_words.specs.Words.{words}
use Rattle.ob_text_values_reading.proofs.IdsTaken.{NamedTo}
use Rattle.ob_text_values_reading.proofs.id.read_ids.Given as goal

abbrev pub invariant-loop-id : goal.invariant-loop-id
invariant-loop-id l = NamedTo l.processes (words l.line) (words l.left) l.ids.items

abbrev pub decreases-loop-id : goal.decreases-loop-id
decreases-loop-id l = length l.left
