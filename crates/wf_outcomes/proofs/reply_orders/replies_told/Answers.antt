-- Each reply that the call may have is told.
use Rattle.std.proofs.Common.{sym, ap, ◌∙◌, subst, List, ◌∷◌, [], map, arith}
use Rattle.std.proofs.Math.Bridge.{le_prop}
use Rattle.std.proofs.Math.Logic.{∥∥₁_map, ∥∥₁_elim}
use Rattle.std.proofs.Props.{props}
use Rattle.std.proofs.lemmas.List.{length-map, map-append}
use Rattle.std.proofs.lemmas.Option.{slice_get_within}
use Rattle.wf_outcomes.proofs.OutcomesLists.{item_here}
use Rattle.wf_outcomes.specs.Explored.{all_kept, calls_in}
use Rattle.wf_outcomes.specs.Outcomes.{AreReplies}
use Rattle.wf_outcomes.specs.Possible.{had_in}
use Rattle.wf_outcomes.specs.declared.call_replies.Possible.{Possible}
use Rattle.wf_outcomes.proofs.Matching.{match_more, match_none}
use Rattle.wf_outcomes.proofs.TellingOrders.{TellsReply, replies_are, told_behind}
use Rattle.wf_outcomes.specs.View.{told_in}
use Rattle.wf_outcomes.proofs.reply_orders.replies_told.Goals as goal

pub loop-possible-init : goal.loop-possible-init
loop-possible-init g c =
    let explored = c.args.explored.now in
    let object = explored.object.now in
    match_none (TellsReply (g.O.Object.effect object) (calls_in explored.scripts.now) (g.O.Object.opening object) (all_kept g.O.Object.meaning explored.seen) c.args.id)
    (map had_in c.deref-possible-items.result.now) (map told_in c.new-told.result.items) (ap (map told_in) c.new-told.ensures.items)

pub told_reply-requires : goal.told_reply-requires
told_reply-requires g c =
    let explored = c.args.explored.now in
    let object = explored.object.now in
    let kept = all_kept g.O.Object.meaning explored.seen in
    let items = c.deref-possible-items.result.now in
    let index = c.loop-possible.possible-index in
    let at = item_here had_in items index c.possible-item.result c.loop-possible-test.true c.possible-item.is in
    let all = subst (λ (l : List Possible). ∥ AreReplies (g.O.Object.effect object) (calls_in explored.scripts.now) (g.O.Object.opening object) kept c.args.id (map had_in l) ∥₁)
    (sym c.deref-possible-items.ensures.value) c.in_ok-replies.ensures in
    ∥∥₁_elim all le_prop (λ a. let h = a.had index (had_in c.possible-item.result) at in slice_get_within kept c.possible-item.result.place h.it h.there)

pub loop-possible-preserved : goal.loop-possible-preserved
loop-possible-preserved g c =
    let explored = c.args.explored.now in
    let object = explored.object.now in
    let effect = g.O.Object.effect object in
    let scripts = calls_in explored.scripts.now in
    let opening = g.O.Object.opening object in
    let kept = all_kept g.O.Object.meaning explored.seen in
    let items = c.deref-possible-items.result.now in
    let index = c.loop-possible.possible-index in
    let one = had_in c.possible-item.result in
    let at = item_here had_in items index c.possible-item.result c.loop-possible-test.true c.possible-item.is in
    let all = subst (λ (l : List Possible). ∥ AreReplies effect scripts opening kept c.args.id (map had_in l) ∥₁) (sym c.deref-possible-items.ensures.value) c.in_ok-replies.ensures in
    let told = told_in c.in_ok-told_reply.field-0 in
    match_more (TellsReply effect scripts opening kept c.args.id) (map had_in items) (map told_in c.loop-possible.told.items) index c.loop-possible.invariant one at told
    (record {
      same = sym c.in_ok-told_reply.ensures.reply;
      behind = ∥∥₁_elim all (hlevel props) (λ a. ∥∥₁_map c.in_ok-told_reply.ensures.behind (λ led.
          told_behind effect scripts opening kept c.args.id one (a.had index one at) told c.in_ok-told_reply.ensures.reply led));
    })
    (map told_in c.push.new.self.items) (ap (map told_in) c.in_ok-push.ensures.items ∙ map-append told_in c.loop-possible.told.items (c.in_ok-told_reply.field-0 ∷ []))

pub returns : goal.returns
returns g c =
    let explored = c.args.explored.now in
    let object = explored.object.now in
    let effect = g.O.Object.effect object in
    let scripts = calls_in explored.scripts.now in
    let opening = g.O.Object.opening object in
    let kept = all_kept g.O.Object.meaning explored.seen in
    let items = c.deref-possible-items.result.now in
    let all = subst (λ (l : List Possible). ∥ AreReplies effect scripts opening kept c.args.id (map had_in l) ∥₁) (sym c.deref-possible-items.ensures.value) c.in_ok-replies.ensures in
    let size = length-map items had_in in
    let end = c.loop-possible-test.false in
    ∥∥₁_map all (λ a.
    replies_are effect scripts opening kept c.args.id (map had_in items) a (map told_in c.loop-possible.told.items) c.loop-possible.possible-index c.loop-possible.invariant (omega (arith, size, end)))
