-- So many calls are made, and have these replies.
use Rattle.std.proofs.Common.{map}
use Rattle.ob_interface.specs.View.{reply_of}
use Rattle.ob_object_compile.specs.View.{object_in}
use Rattle.ob_object_calls.proofs.SequenceByCode.{HasReplied, asked_in}
use Rattle.ob_object_calls.proofs.code_replies.replies_on.Given as goal

abbrev pub invariant-loop-call : goal.invariant-loop-call
invariant-loop-call l =
    HasReplied (object_in l.object).program (object_in l.object).engine.budget (object_in l.object).opening (asked_in l.calls) l.call-index l.coded (map reply_of l.replies.items)
