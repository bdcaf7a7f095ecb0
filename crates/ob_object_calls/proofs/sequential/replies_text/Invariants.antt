-- So many calls are made, and their lines are printed.
use Rattle.std.proofs.Common.{string_bytes}
use Rattle.ob_object_compile.specs.View.{object_in}
use Rattle.ob_object_calls.proofs.SequenceByCode.{HasTold}
use Rattle.ob_object_calls.proofs.sequential.replies_text.Given as goal

abbrev pub invariant-loop-call : goal.invariant-loop-call
invariant-loop-call l = HasTold (object_in l.object) l.calls l.call-index l.coded (string_bytes l.text) l.made.items
