use Rattle.std.proofs.Common.{[], ◌∷◌, ◌++◌, map}
use Rattle.std.proofs.lemmas.List.Elements.{All-push, All-same}
use Rattle.ob_checked.specs.CheckedModule.{program_in}
use Rattle.ob_interface.specs.View.{reply_of}
use Rattle.ob_interface.specs.declared.call.Reply as Rust
use Rattle.ob_object_run.specs.LegalOrder.{CallEnds}
use Rattle.ob_store.specs.View.{state_of}
use Rattle.wf_history.specs.History.{End}
use Rattle.wf_history.specs.View.{event_of}
use Rattle.wf_order.specs.Verdict.{HasLegal}
use Rattle.ob_object_search.proofs.possible.possible_replies.Goals as goal

pub loop-reply-preserved-in-Continue-branch-3 : goal.loop-reply-preserved-in-Continue-branch-3
loop-reply-preserved-in-Continue-branch-3 c =
    let o = c.args.object.now in
    let P : Rust.Reply → Type 0 =
    λ (r : Rust.Reply). HasLegal (CallEnds (program_in o.checked.now) o.budget) (state_of o.opening.now) (map event_of c.args.calls.now.before.now ++ End c.args.end (reply_of r) ∷ []) in
    All-same P c.push.new.self.items (c.loop-reply.replies.items ++ c.in-Some.reply ∷ []) c.in_ok-push.ensures.items
    (All-push P c.loop-reply.replies.items c.in-Some.reply c.loop-reply.invariant (c.in_ok-could_end.ensures c.if-branch.true))
