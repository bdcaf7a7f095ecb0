use Rattle.std.proofs.Common.{◌≡◌, ap, subst, sym}
use Rattle.std.specs.Prelude.{Option, IfSome, option_map}
use Rattle.ob_interface.specs.Call.{Reply}
use Rattle.ob_interface.specs.View.{reply_of}
use Rattle.ob_object_search.specs.Kept.{kept_in}
use Rattle.wf_history.specs.View.{seen_reply}
use Rattle.ob_object_search.proofs.instance.ModuleObject.outcome_by_tree.Goals as goal

pub returns-in-None : goal.returns-in-None
returns-in-None c =
    let known = ap (option_map seen_reply) c.in-None.is in
    (reply_of c.in_ok-next.reply, c.in_ok-next.ensures, subst (λ (k : Option Reply). IfSome k (λ r. r ≡ reply_of c.in_ok-next.reply)) (sym known) tt)

pub returns-then-is_same_reply : goal.returns-then-is_same_reply
returns-then-is_same_reply c =
    let known = ap (option_map seen_reply) c.in-Some.is in
    let same = c.is_same_reply.ensures.0 c.if-is_same_reply.true in
    (reply_of c.in_ok-next.reply, c.in_ok-next.ensures, subst (λ (k : Option Reply). IfSome k (λ r. r ≡ reply_of c.in_ok-next.reply)) (sym known) (sym same))

pub returns-else-is_same_reply : goal.returns-else-is_same_reply
returns-else-is_same_reply c = (
  kept_in c.in_ok-next.next,
  reply_of c.in_ok-next.reply,
  c.in_ok-next.ensures,
  seen_reply c.in-Some.other,
  ap (option_map seen_reply) c.in-Some.is,
  (λ e. let t = c.is_same_reply.ensures.1 (sym e) in let f = c.if-is_same_reply.false in absurd (cc)),
)
