-- So many calls are made; the lines of the state there, and the changes so far.
use Rattle.std.proofs.Common.{map, string_bytes}
use Rattle.ob_object_compile.specs.View.{object_in}
use Rattle.ob_object_calls.proofs.SequenceByCode.{HasChanged, asked_in}
use Rattle.ob_object_calls.proofs.changes.changes_in_turn.Given as goal

abbrev pub invariant-loop-call : goal.invariant-loop-call
invariant-loop-call l =
    HasChanged (object_in l.object).program (object_in l.object).engine.budget (object_in l.object).opening (asked_in l.calls) l.call-index l.coded
    (map string_bytes l.lines.items) (map string_bytes l.changes.items)
