-- The reply that is known is compared with that of the call.
use Rattle.std.proofs.Common.{◌≡◌, ◌∙◌, ap, sym, subst}
use Rattle.std.specs.Prelude.{ℕ, Option, IfSome, IsTrue, option_map, ◌↔◌}
use Rattle.ob_code_calls.specs.Calls.{asked}
use Rattle.ob_code_calls.specs.Led.{reply_behind}
use Rattle.ob_code_calls.specs.Parts.{parts_in}
use Rattle.ob_interface.specs.Call.{Answers}
use Rattle.wf_history.specs.View.{seen_reply}
use Rattle.wf_history.specs.declared.seen_event.SeenReply.{SeenReply}
use Rattle.ob_code_calls.proofs.scalar_calls.ScalarCalls.has_known_reply.Goals as goal

pub returns-in-Done-None : goal.returns-in-Done-None
returns-in-Done-None c = λ arguments.
    let behind = reply_behind (parts_in c.args.self.now.calls) (asked c.args.proc arguments) c.args.room.now.run in
    let is = c.has_replied.result in
    let replied = c.has_replied.ensures arguments in
    let values = ap Answers (c.as_slice.ensures ∙ c.lent-lent.ensures) ∙ sym (ap seen_reply c.in-Done-None.is-0) in
    subst (λ (k : Option SeenReply). IsTrue is ↔ IfSome (option_map seen_reply k) (λ x. x ≡ behind c.args.trap)) (sym c.in-Some.is)
    (subst (λ (t : Option ℕ). IsTrue is ↔ (seen_reply c.in-Some.reply ≡ behind t)) (sym c.in-Done-None.is-1)
    (λ t. sym (replied.0 t ∙ values), λ e. replied.1 (sym (values ∙ e))))
