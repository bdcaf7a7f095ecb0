-- None of the replies so far is this one.
use Rattle.std.proofs.Common.{refl, sym, ap, ◌∙◌, map, Some, arith, inl, inr}
use Rattle.std.specs.List.{slice_get}
use Rattle.std.proofs.lemmas.Bool.{cases_eq}
use Rattle.std.proofs.lemmas.List.{length-map}
use Rattle.std.proofs.lemmas.Option.{slice_get_within}
use Rattle.ob_interface.specs.View.{reply_of}
use Rattle.wf_outcomes.specs.Possible.{reply_in}
use Rattle.wf_history.proofs.Positions.{place_of, contains_at}
use Rattle.wf_outcomes.proofs.OutcomesLists.{item_here, item_at}
use Rattle.wf_outcomes.proofs.call_replies.has_reply.Goals as goal

pub returns-then-is_same_reply : goal.returns-then-is_same_reply
returns-then-is_same_reply c =
    let replies = c.args.replies.now in
    let index = c.loop-other.other-index in
    let other = c.other-item.result in
    let at = item_here reply_in replies index other c.loop-other-test.true c.other-item.is in
    (λ t. contains_at (map reply_in replies) index (reply_of c.args.reply.now) (at ∙ ap Some (c.is_same_reply.ensures.0 c.if-is_same_reply.true)), λ h. refl)

pub loop-other-preserved : goal.loop-other-preserved
loop-other-preserved c = λ k r lt at same.
    let replies = c.args.replies.now in
    let index = c.loop-other.other-index in
    elim (cases_eq k index) [
      | inl now ↦
          let is = item_at reply_in replies index c.other-item.result r c.loop-other-test.true c.other-item.is (ap (slice_get (map reply_in replies)) (sym now) ∙ at) in
          let t = c.is_same_reply.ensures.1 (is ∙ same) in
          let f = c.if-is_same_reply.false in absurd (cc)
      | inr before ↦ c.loop-other.invariant k r (omega (arith, lt, before)) at same
    ]

pub returns : goal.returns
returns c =
    let replies = c.args.replies.now in
    let size = length-map replies reply_in in
    let end = c.loop-other-test.false in (
      λ t. absurd (cc),
      λ h. let p = place_of (map reply_in replies) (reply_of c.args.reply.now) h in let inside = slice_get_within (map reply_in replies) p.0 (reply_of c.args.reply.now) p.1 in
          absurd (c.loop-other.invariant p.0 (reply_of c.args.reply.now) (omega (arith, inside, size, end)) p.1 refl),
    )
