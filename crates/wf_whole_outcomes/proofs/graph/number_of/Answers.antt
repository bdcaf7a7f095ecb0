-- By the number that it has, or by the next one.
use Rattle.std.proofs.Common.{◌≡◌, ◌∙◌, ◌++◌, ◌∷◌, [], ap, List, Some, map, subst, sym}
use Rattle.std.proofs.lemmas.List.{length-map, map-append}
use Rattle.std.specs.List.{slice_get, Contains}
use Rattle.ob_interface.specs.Call.{Reply}
use Rattle.ob_interface.specs.View.{reply_of}
use Rattle.wf_history.specs.View.{kept_reply}
use Rattle.wf_history.specs.declared.kept.KeptReply.{KeptReply}
use Rattle.wf_whole_outcomes.proofs.Advancing.{goes_nowhere}
use Rattle.wf_whole_outcomes.proofs.Numbering.{one_here, one_more_apart, one_more_on}
use Rattle.wf_whole_outcomes.proofs.graph.number_of.Goals as goal

-- one reply more, as it is kept
pushed_on : (old : List KeptReply) (one : KeptReply) (reply : Reply) → kept_reply one ≡ reply → (after : List KeptReply) → after ≡ old ++ one ∷ [] → map kept_reply after ≡ map kept_reply old ++ reply ∷ []
pushed_on old one reply same after pushed = ap (map kept_reply) pushed ∙ map-append kept_reply old (one ∷ []) ∙ ap (λ (r : Reply). map kept_reply old ++ r ∷ []) same

pub returns-in-Some-clause-number : goal.returns-in-Some-clause-number
returns-in-Some-clause-number c =
    subst (λ (l : List KeptReply). slice_get (map kept_reply l) c.in-Some.number ≡ Some (reply_of c.args.reply.now)) c.deref.ensures.value c.in-Some.ensures

pub returns-in-Some-clause-more : goal.returns-in-Some-clause-more
returns-in-Some-clause-more c = goes_nowhere (map kept_reply c.args.replies.now.items)

pub returns-clause-number : goal.returns-clause-number
returns-clause-number c =
    let old = c.args.replies.now.items in
    let is = pushed_on old _ (reply_of c.args.reply.now) c.in_ok-keep.ensures c.push.new.self.items c.in_ok-push.ensures.items in
    one_here (map kept_reply old) (reply_of c.args.reply.now) (map kept_reply c.push.new.self.items) is c.len-number.result (c.len-number.ensures ∙ c.args.replies.now.ok.0 ∙ sym (length-map old kept_reply))

pub returns-clause-apart : goal.returns-clause-apart
returns-clause-apart c =
    let old = c.args.replies.now.items in
    let is = pushed_on old _ (reply_of c.args.reply.now) c.in_ok-keep.ensures c.push.new.self.items c.in_ok-push.ensures.items in
    one_more_apart (map kept_reply old) (reply_of c.args.reply.now) (map kept_reply c.push.new.self.items) is c.requires
    (λ there. c.in_default.ensures (subst (λ (l : List KeptReply). Contains (map kept_reply l) (reply_of c.args.reply.now)) (sym c.deref.ensures.value) there))

pub returns-clause-more : goal.returns-clause-more
returns-clause-more c =
    let old = c.args.replies.now.items in
    let is = pushed_on old _ (reply_of c.args.reply.now) c.in_ok-keep.ensures c.push.new.self.items c.in_ok-push.ensures.items in
    one_more_on (map kept_reply old) (reply_of c.args.reply.now) (map kept_reply c.push.new.self.items) is
