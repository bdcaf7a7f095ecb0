-- What the program's calls, replies and exports stand for: no pointers, and vectors as lists.
use Rattle.std.specs.Prelude.{string_bytes}
use Rattle.ob_interface.specs.declared.call.Call.{Call}
use Rattle.ob_interface.specs.declared.call.Reply.{Reply}
use Rattle.ob_interface.specs.declared.call.Reply.TheVariants as Replies
use Rattle.ob_interface.specs.declared.export.Export.{Export}
use Rattle.ob_interface.specs.Call as Calls
use Rattle.ob_interface.specs.Export.{Signature}

abbrev pub call_of : Call → Calls.ObjectCall
call_of c = record { export = c.proc; arguments = c.args.items }

abbrev pub reply_of : Reply → Calls.Reply
reply_of (Replies.Done values) = Calls.Answers values.items
reply_of (Replies.Trap k) = Calls.Trapped k

-- the signature that an export stands for
abbrev pub signature_of : Export → Signature
signature_of e = record { name = string_bytes e.name; formals = e.formals.items }
