-- The reply, or none.
use Rattle.std.proofs.Common.{◌≡◌, ◌∙◌, ◌++◌, ◌∷◌, [], ap, sym, None, Option, Some, map, option_map}
use Rattle.std.proofs.lemmas.List.{append-nil, map-append}
use Rattle.std.proofs.lemmas.Option.{slice_get-map}
use Rattle.std.specs.Borrow.{Bor}
use Rattle.std.specs.List.{cons_option, slice_get}
use Rattle.std.specs.Option.{option_copied}
use Rattle.ob_interface.specs.Call.{Reply}
use Rattle.wf_history.specs.View.{kept_reply}
use Rattle.wf_history.specs.declared.kept.KeptReply.{KeptReply}
use Rattle.ob_answer_searches.proofs.listed_replies.push_known.Goals as goal

abbrev reply_at : Bor KeptReply → Reply
reply_at reply = kept_reply reply.now

pub returns-in_ok-push-in-Some : goal.returns-in_ok-push-in-Some
returns-in_ok-push-in-Some c =
    let there : slice_get (map kept_reply c.args.replies.now) c.args.number ≡ Some (kept_reply c.in-Some.reply.now) =
    slice_get-map kept_reply c.args.replies.now c.args.number ∙ ap (option_map kept_reply) (sym c.item_at.ensures ∙ ap option_copied c.in-Some.is) in
    ap (map reply_at) c.in_ok-push-in-Some.ensures.items ∙ map-append reply_at c.args.row.now.items (c.in-Some.reply ∷ [])
    ∙ ap (λ (o : Option Reply). map reply_at c.args.row.now.items ++ cons_option o []) (sym there)

pub returns-in-None : goal.returns-in-None
returns-in-None c =
    let none : slice_get (map kept_reply c.args.replies.now) c.args.number ≡ None =
    slice_get-map kept_reply c.args.replies.now c.args.number ∙ ap (option_map kept_reply) (sym c.item_at.ensures ∙ ap option_copied c.in-None.is) in
    sym (ap (λ (o : Option Reply). map reply_at c.args.row.now.items ++ cons_option o []) none ∙ append-nil (map reply_at c.args.row.now.items))
