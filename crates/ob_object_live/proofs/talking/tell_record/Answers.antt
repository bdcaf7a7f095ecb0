use Rattle.std.proofs.Common.{◌∙◌, ℕ, List, true, OnOk, ap, subst}
use Rattle.ob_object_live.specs.Living.{remarked}
use Rattle.ob_object_live.proofs.talking.tell_record.Goals as goal

pub returns : goal.returns
returns g c calls at =
    let record_is = c.as_bytes.ensures.value ∙ c.in_ok-record.ensures calls at in
    let text_is = c.deref.ensures.value ∙ (c.in_ok-text.ensures ∙ ap (remarked true) record_is) in
    subst (λ (t : List ℕ). OnOk c.tell.result (g.C.Conversation.tells c.args.conversation.now t c.tell.new.self)) text_is c.tell.ensures
