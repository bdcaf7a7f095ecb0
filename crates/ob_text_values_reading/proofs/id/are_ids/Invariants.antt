-- The words so far name calls.
use Rattle.std.proofs.Common.{List, length}
use Rattle.wf_history.specs.declared.event.CallId.{CallId}
use Rattle.ob_text_words.specs.Words.{words}
use Rattle.ob_text_values_reading.proofs.IdsTaken.{NamedTo}
use Rattle.ob_text_values_reading.proofs.id.are_ids.Given as goal

abbrev pub invariant-loop-id : goal.invariant-loop-id
invariant-loop-id l = (ids : List CallId) × NamedTo l.processes (words l.line) (words l.left) ids

abbrev pub decreases-loop-id : goal.decreases-loop-id
decreases-loop-id l = length l.left
