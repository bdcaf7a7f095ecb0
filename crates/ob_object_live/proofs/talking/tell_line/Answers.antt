use Rattle.std.proofs.Common.{◌∙◌}
use Rattle.ob_object_live.specs.Living.{ground_of}
use Rattle.ob_object_live.proofs.Talked.{fault_told, lines_told}
use Rattle.ob_object_live.proofs.talking.tell_line.Goals as goal
use Rattle.ob_object_live.proofs.talking.tell_line.Goals.{in-Lines+in_ok-tell-in-Lines, in-Fault+in_ok-text-in-Fault+in_ok-tell-in-Fault}

pub returns : goal.returns
returns g c calls at =
    let answered = c.in_ok-next.ensures calls at in
    elim c.match-told.branch [
      | in-Lines+in_ok-tell-in-Lines w ↦
          lines_told g.C.Conversation.tells (ground_of c.args.live.ground) calls c.args.number c.args.line.now c.args.conversation.now w.tell.new.self c.match-told.conversation
          c.in_ok-next.next c.in_ok-next.told w.as_bytes.result.now w.conversation-is answered w.in_ok-tell-in-Lines.ensures
          w.in-Lines.lines w.in-Lines.is w.as_bytes.ensures.value
      | in-Fault+in_ok-text-in-Fault+in_ok-tell-in-Fault w ↦
          fault_told g.C.Conversation.tells (ground_of c.args.live.ground) calls c.args.number c.args.line.now c.args.conversation.now w.tell-in-Fault.new.self
          c.match-told.conversation c.in_ok-next.next c.in_ok-next.told w.as_bytes-in-Fault.result.now w.conversation-is answered w.in_ok-tell-in-Fault.ensures
          w.in-Fault.fault w.in-Fault.is (w.as_bytes-in-Fault.ensures.value ∙ w.in_ok-text-in-Fault.ensures)
    ]
