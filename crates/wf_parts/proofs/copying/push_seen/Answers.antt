use Rattle.std.proofs.Common.{◌≡◌, ◌∙◌, List, [], ◌∷◌, ◌++◌, ap, subst, sym}
use Rattle.ob_interface.specs.Call.{ObjectCall, Reply}
use Rattle.wf_history.specs.History.{Event, Begin, Applied, End, IsHistory}
use Rattle.wf_history.specs.View.{kept_call, kept_reply, seen_event}
use Rattle.wf_history.specs.declared.event.CallId.{CallId}
use Rattle.wf_parts.proofs.copying.push_seen.Goals as goal

pub push_begin-requires : goal.push_begin-requires
push_begin-requires c =
    let same : seen_event c.args.event ≡ Begin c.in-Begin.id (kept_call c.in_ok-call-in-Begin.call) =
    ap seen_event c.in-Begin.is ∙ ap (λ (call : ObjectCall). Begin c.in-Begin.id call) (sym c.in_ok-call-in-Begin.ensures) in
    subst (λ (e : Event ObjectCall Reply). IsHistory (c.args.history.now ++ e ∷ [])) same c.requires

pub push_applied-requires : goal.push_applied-requires
push_applied-requires c =
    let same : seen_event c.args.event ≡ Applied c.in_ok-ids-in-Applied.ids.items =
    ap seen_event c.in-Applied.is ∙ ap (λ (ids : List CallId). Applied ids) (sym c.in_ok-ids-in-Applied.ensures.ok) in
    subst (λ (e : Event ObjectCall Reply). IsHistory (c.args.history.now ++ e ∷ [])) same c.requires

pub push_end-requires : goal.push_end-requires
push_end-requires c =
    let same : seen_event c.args.event ≡ End c.in-End.id (kept_reply c.in_ok-reply-in-End.reply) =
    ap seen_event c.in-End.is ∙ ap (λ (reply : Reply). End c.in-End.id reply) (sym c.in_ok-reply-in-End.ensures) in
    subst (λ (e : Event ObjectCall Reply). IsHistory (c.args.history.now ++ e ∷ [])) same c.requires
