use Rattle.std.proofs.Common.{◌++◌, ◌∷◌, ◌∙◌, [], subst, sym}
use Rattle.std.proofs.lemmas.Slice.Zip.{all_zipped_more}
use Rattle.ob_desk_serve.specs.Joined.{AreJoined, IsJoined}
use Rattle.ob_desk_serve.proofs.gathering.join_all.Goals as goal

pub loop-start-preserved : goal.loop-start-preserved
loop-start-preserved g c =
    let passes = g.G.Gate.passes in
    let refuses = g.G.Gate.refuses in
    let hears = g.G.Gate.hears in
    let halts = g.D.TakeTurn.halts in
    subst (AreJoined passes refuses hears halts (c.loop-start.yielded ++ c.in-Some.start ∷ [])) (sym c.in_ok-push.ensures.items)
    (all_zipped_more (IsJoined passes refuses hears halts) c.loop-start.yielded c.loop-start.workers.items c.in-Some.start c.joined.result c.loop-start.invariant c.joined.ensures)
