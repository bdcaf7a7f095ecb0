use Rattle.std.proofs.Common.{◌≡◌, ◌∙◌, ap, sym}
use Rattle.ob_interface.specs.Call.{ObjectCall, Reply}
use Rattle.ob_object_calls.proofs.SameNames.{same_is, same_true}
use Rattle.ob_object_calls.proofs.overtaking.begins.Goals as goal
use Rattle.wf_history.specs.History.{Begin, Event}
use Rattle.wf_history.specs.View.{seen_call, seen_event}
use Rattle.wf_history.specs.declared.event.CallId.{CallId}

same_name : (a b : CallId) (call other : ObjectCall) → ◌≡◌ {A = Event ObjectCall Reply} (Begin a call) (Begin b other) → a ≡ b
same_name a b call other e = cc

pub returns-in-Begin : goal.returns-in-Begin
returns-in-Begin c =
    let other = c.in-Begin.other in
    let call = seen_call c.in-Begin.field-1 in
    let is = sym c.seen.ensures ∙ ap seen_event c.in-Begin.is in (
      (λ t. (call, is ∙ ap (λ (i : CallId). Begin i call) (same_true other c.args.id (sym c.is_same.ensures ∙ t)))),
      λ h. c.is_same.ensures ∙ same_is other c.args.id (same_name other c.args.id call h.0 (sym is ∙ h.1)),
    )
