use Rattle.std.proofs.Common.{◌++◌, ◌∷◌, [], ◌∙◌, refl, sym, subst}
use Rattle.std.proofs.lemmas.Result.{on_ok_weaker}
use Rattle.ob_interface.specs.Call.{Reply}
use Rattle.wf_history.specs.History.{End, IsHistory}
use Rattle.wf_history.specs.View.{seen_reply}
use Rattle.wf_parts.proofs.Splitting.{ends_next, ends_within, has_last, split_ends}
use Rattle.wf_parts.specs.Split.{Ends, last_id}
use Rattle.wf_parts.specs.SplitView.{split_in}
use Rattle.wf_parts.proofs.split.Split.end.Goals as goal

pub unreachable-requires : goal.unreachable-requires
unreachable-requires c =
    let r = c.requires in
    has_last r.0 r.2 r.1 c.args.id (seen_reply c.args.reply) (split_in c.args.self.now) r.3 r.4 (sym c.look_up.ensures ∙ c.in_default.is)

pub end_at-requires : goal.end_at-requires
end_at-requires c =
    let r = c.requires in
    let old = split_in c.args.self.now in
    let there = sym c.look_up.ensures ∙ c.in-Some.is in
    let w = ends_within r.0 r.2 r.1 c.args.id (seen_reply c.args.reply) old r.3 r.4 c.in-Some.place there in (
      w.0,
      w.1,
      subst (λ (reply : Reply). IsHistory (w.0.events ++ End (last_id w.0.rows c.args.id.process) reply ∷ [])) (sym c.in_ok-kept.ensures)
          (ends_next r.0 r.2 r.1 c.args.id (seen_reply c.args.reply) old r.3 r.4 c.in-Some.place there w.0 w.1),
    )

pub returns : goal.returns
returns c = λ all front by s n.
    let old = split_in c.args.self.now in
    let there = sym c.look_up.ensures ∙ c.in-Some.is in
    let w = ends_within all by front c.args.id (seen_reply c.args.reply) old s n c.in-Some.place there in
    on_ok_weaker c.end_at.result
    (λ b. split_ends all by front c.args.id (seen_reply c.args.reply) old s n c.in-Some.place there w.0 w.1 b.0
    (subst (λ (reply : Reply). Ends w.0 c.args.id reply b.0) c.in_ok-kept.ensures b.1) _ b.2 (λ k. refl) (λ k. refl))
    (c.end_at.ensures w.0 w.1)
