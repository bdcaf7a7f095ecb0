-- By whether it is there.
use Rattle.std.proofs.Common.{◌≡◌, refl, sym, ap, ◌∙◌, subst, List, [], ◌∷◌, map, inl, inr}
use Rattle.std.proofs.lemmas.List.{map-append}
use Rattle.std.specs.List.{Contains}
use Rattle.ob_interface.specs.Call.{Reply}
use Rattle.ob_interface.specs.View.{reply_of}
use Rattle.wf_outcomes.specs.declared.call_replies.Possible.{Possible}
use Rattle.wf_outcomes.specs.Outcomes.{reply_had}
use Rattle.wf_outcomes.specs.Possible.{had_in, reply_in}
use Rattle.wf_outcomes.proofs.call_replies.add_reply.Goals as goal

-- the replies, of what is kept and of what is had
both : (items : List Possible) → map reply_had (map had_in items) ≡ map reply_in items
both [] = refl
both (x ∷ items) = ap (λ (l : List Reply). reply_in x ∷ l) (both items)

pub returns-then-has_reply : goal.returns-then-has_reply
returns-then-has_reply c =
    let items = c.args.replies.now.items in
    let same = ap (map reply_in) c.deref.ensures.value ∙ sym (both items) in
    inl (subst (λ (l : List Reply). Contains l (reply_of c.args.reply)) same (c.has_reply.ensures.0 c.if-has_reply.true), refl)

pub returns : goal.returns
returns c =
    let items = c.args.replies.now.items in
    let same = ap (map reply_in) c.deref.ensures.value ∙ sym (both items) in
    let one : Possible = record { reply = c.args.reply; place = c.args.place } in
    inr (
      (λ there. let t = c.has_reply.ensures.1 (subst (λ (l : List Reply). Contains l (reply_of c.args.reply)) (sym same) there) in let f = c.if-has_reply.false in absurd (cc)),
      ap (map had_in) c.in_ok-push.ensures.items ∙ map-append had_in items (one ∷ []),
    )
