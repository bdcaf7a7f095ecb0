-- By the call that stands there.
use Rattle.std.proofs.Common.{◌≡◌, sym, ap, ◌∙◌, option_map}
use Rattle.std.proofs.lemmas.Option.{same_Some}
use Rattle.std.specs.Prelude.{option_copied}
use Rattle.ob_interface.specs.View.{reply_of}
use Rattle.wf_history.specs.View.{seen_reply}
use Rattle.wf_order.specs.declared.made_calls.MadeCall.{MadeCall}
use Rattle.wf_order.proofs.made_calls.outcome.Goals as goal

pub returns-then-not-is_same_reply-clause-outcome : goal.returns-then-not-is_same_reply-clause-outcome
returns-then-not-is_same_reply-clause-outcome g c =
    let has = c.in_ok-row.ensures.there in
    let made = c.in-Some-made_at.made.now in
    let is : made ≡ has.made = same_Some made has.made (sym (ap option_copied c.in-Some-made_at.is) ∙ c.made_at.ensures ∙ has.at) in (
      g.O.Object.meaning has.made.state,
      reply_of has.made.reply,
      has.effect,
      seen_reply c.in-Some-known.reply,
      ap (option_map seen_reply) c.in-Some-known.is,
      λ e. let so = c.is_same_reply.ensures.1 (ap (λ (m : MadeCall g.row.O-State.Denot). reply_of m.reply) is ∙ sym e) in let f = c.if-not-is_same_reply.true in absurd (cc),
    )
