-- None of the replies before has it.
use Rattle.std.proofs.Common.{sym, ap, ◌∙◌, map, Some, arith, inl, inr}
use Rattle.std.specs.List.{slice_get}
use Rattle.std.proofs.lemmas.Bool.{cases_eq}
use Rattle.std.proofs.lemmas.List.{length-map}
use Rattle.std.proofs.lemmas.Option.{slice_get_within}
use Rattle.ob_interface.specs.View.{reply_of}
use Rattle.wf_history.proofs.Positions.{place_of}
use Rattle.wf_history.specs.View.{kept_reply}
use Rattle.wf_outcomes.proofs.OutcomesLists.{item_here, item_at}
use Rattle.wf_whole_outcomes.proofs.graph.number_in.Goals as goal

pub returns-then-same_reply : goal.returns-then-same_reply
returns-then-same_reply c =
    let replies = c.args.replies.now in
    let number = c.loop-number.number in
    item_here kept_reply replies number c.index-replies-number.result c.loop-number-test.true c.index-replies-number.is ∙ ap Some (sym (c.same_reply.ensures.0 c.if-same_reply.true))

pub loop-number-preserved : goal.loop-number-preserved
loop-number-preserved c = λ k less at.
    let replies = c.args.replies.now in
    let number = c.loop-number.number in
    elim (cases_eq k number) [
      | inl now ↦
          let is = item_at kept_reply replies number c.index-replies-number.result (reply_of c.args.reply.now) c.loop-number-test.true c.index-replies-number.is (ap (slice_get (map kept_reply replies)) (sym now) ∙ at) in
          let t = c.same_reply.ensures.1 (sym is) in
          let f = c.if-same_reply.false in absurd (cc)
      | inr before ↦ c.loop-number.invariant k (omega (arith, less, before)) at
    ]

pub returns : goal.returns
returns c = λ h.
    let replies = c.args.replies.now in
    let size = length-map replies kept_reply in
    let end = c.loop-number-test.false in
    let p = place_of (map kept_reply replies) (reply_of c.args.reply.now) h in
    let inside = slice_get_within (map kept_reply replies) p.0 (reply_of c.args.reply.now) p.1 in
    c.loop-number.invariant p.0 (omega (arith, inside, size, end)) p.1
