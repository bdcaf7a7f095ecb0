use Rattle.std.proofs.Common.{◌∙◌, ◌+◌, ◌==◌, ℕ, add-one, ap, sym}
use Rattle.ob_object_live.specs.Living.{ground_of}
use Rattle.ob_object_live.proofs.Talked.{begun, ended, none_there, one_more, some_there}
use Rattle.ob_object_live.proofs.talking.talk.Goals as goal

pub loop-number-init : goal.loop-number-init
loop-number-init g c calls at = begun g.C.Conversation.hears g.C.Conversation.tells (ground_of c.args.live.ground) calls c.args.conversation.now c.args.live at

pub returns-then-is_empty : goal.returns-then-is_empty
returns-then-is_empty g c calls at =
    let line = c.in_ok-line.line in
    let none = none_there line.items (ap (λ (n : ℕ). n == 0) (sym line.ok.0) ∙ (sym c.is_empty.ensures ∙ c.if-is_empty.true)) in
    ended g.C.Conversation.hears g.C.Conversation.tells (ground_of c.args.live.ground) c.tell_record.result calls c.loop-number.number c.args.conversation.now
    c.loop-number.conversation c.next_line.new.self c.tell_record.new.conversation c.loop-number.live line.items none c.in_ok-line.ensures
    (c.loop-number.invariant calls at) c.tell_record.ensures

pub loop-number-preserved : goal.loop-number-preserved
loop-number-preserved g c calls at =
    let line = c.in_ok-line.line in
    let some = some_there line.items (ap (λ (n : ℕ). n == 0) (sym line.ok.0) ∙ (sym c.is_empty.ensures ∙ c.if-is_empty.false)) in
    one_more g.C.Conversation.hears g.C.Conversation.tells (ground_of c.args.live.ground) calls c.loop-number.number (c.loop-number.number + 1) (add-one c.loop-number.number)
    c.args.conversation.now c.loop-number.conversation c.next_line.new.self c.tell_line.new.conversation c.loop-number.live c.in_ok-live.live line.items some c.in_ok-line.ensures
    (c.loop-number.invariant calls at) (λ cs is. rw (← c.deref.ensures.value) (c.in_ok-live.ensures cs is))
