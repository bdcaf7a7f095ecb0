use Rattle.std.proofs.Common.{◌++◌, ◌∷◌, [], refl, sym, subst}
use Rattle.ob_interface.specs.Call.{ObjectCall}
use Rattle.wf_history.specs.History.{Begin, IsHistory}
use Rattle.wf_history.specs.View.{seen_call}
use Rattle.wf_parts.proofs.Splitting.{begins_next, place_within, split_begins}
use Rattle.wf_parts.specs.Split.{Begins, next_id}
use Rattle.wf_parts.specs.SplitView.{split_in}
use Rattle.wf_parts.proofs.split.Split.begin.Goals as goal

pub begin_at-requires : goal.begin_at-requires
begin_at-requires c =
    let r = c.requires in
    let old = split_in c.args.self.now in
    let mid = split_in c.place_of.new.self in
    let w = place_within r.0 r.2 r.1 c.args.id (seen_call c.args.call) c.args.value old mid r.3 r.4 r.5 c.in_ok-place.place c.in_ok-place.ensures in (
      w.0,
      w.1,
      subst (λ (call : ObjectCall). IsHistory (w.0.events ++ Begin (next_id w.0.rows c.args.id.process) call ∷ [])) (sym c.in_ok-kept.ensures)
          (begins_next r.0 r.2 r.1 c.args.id (seen_call c.args.call) c.args.value old mid r.3 r.4 r.5 c.in_ok-place.place c.in_ok-place.ensures w.0 w.1),
    )

pub returns : goal.returns
returns c = λ all front by s n argument.
    let old = split_in c.args.self.now in
    let mid = split_in c.place_of.new.self in
    let w = place_within all by front c.args.id (seen_call c.args.call) c.args.value old mid s n argument c.in_ok-place.place c.in_ok-place.ensures in
    let b = c.in_ok-begin_at.ensures w.0 w.1 in
    split_begins all by front c.args.id (seen_call c.args.call) c.args.value old mid s n argument c.in_ok-place.place c.in_ok-place.ensures w.0 b.0 w.1
    (subst (λ (call : ObjectCall). Begins w.0 c.args.id call b.0) c.in_ok-kept.ensures b.1) _ b.2 (λ k. refl) c.in_ok-insert.ensures
