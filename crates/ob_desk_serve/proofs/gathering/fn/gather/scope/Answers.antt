use denote.Exit.{no}
use denote.Param.Send.{arg_send, param_send}
use mir.Syntax.{named}
use Rattle.std.proofs.Common.{◌≡◌, ◌++◌, ◌∷◌, ◌∙◌, [], List, map-id, subst, sym}
use Rattle.ob_desk_floor.specs.Seat.{Seat}
use Rattle.std.proofs.lemmas.Iterator.Adapters.{YieldsList-from_vec}
use Rattle.std.proofs.lemmas.Iterator.Consumers.{YieldsList-end}
use Rattle.std.proofs.lemmas.Result.{IfOk-weaker}
use Rattle.std.proofs.lemmas.Slice.Zip.{all_zipped_more}
use Rattle.std.proofs.Crossing.{send}
use Rattle.ob_desk_serve.proofs.Crossing.{work_row}
use Rattle.ob_desk_serve.proofs.Joins.{have_worked, start_of_seat}
use Rattle.ob_desk_serve.specs.Joined.{AreJoined, AreStartsOf, IsStartOf}
use Rattle.ob_desk_serve.specs.WorkersGathered.{HaveWorked}
use Rattle.ob_desk_serve.proofs.gathering.fn.gather.scope.Goals as goal

pub spawn_with-started-requires-send-F : goal.spawn_with-started-requires-send-F
spawn_with-started-requires-send-F g c κs within =
    let shared = c.requires.shared in
    param_send 2 _ (arg_send _ no _ (work_row (named 6) (named 7) (named 8) (named 9) κs.1.1.1.1.1.1.0 κs.1.1.1.1.1.1.1.0 κs.1.1.1.1.1.1.1.1.0 κs.1.1.1.1.1.1.1.1.1.0 g.row.R _ g.row.D g.row.G _ shared.0 send shared.1 shared.2))

pub loop-seat-preserved : goal.loop-seat-preserved
loop-seat-preserved g c =
    let desk = c.captures.desk.now in
    let gate = c.captures.gate.now in
    let limit = c.captures.limit in
    let kept = c.promise-kept in
    let is = start_of_seat desk gate limit c.in-Some.seat kept.result c.spawn_with-started.result c.ok.result c.ok.ensures.value c.spawn_with-started.ensures.ok kept.ensures.desk kept.ensures.gate kept.ensures.limit kept.ensures.seat in
    subst (AreStartsOf desk gate limit (c.loop-seat.yielded ++ c.in-Some.seat ∷ [])) (sym c.in_ok-push.ensures.items)
    (all_zipped_more (IsStartOf desk gate limit) c.loop-seat.yielded c.loop-seat.starts.items c.in-Some.seat c.ok.result c.loop-seat.invariant is)

pub returns : goal.returns
returns g c =
    let desk = c.captures.desk.now in
    let gate = c.captures.gate.now in
    let limit = c.captures.limit in
    let passes = g.G.Gate.passes in
    let refuses = g.G.Gate.refuses in
    let hears = g.G.Gate.hears in
    let halts = g.D.TakeTurn.halts in
    let seats = c.captures.seats.items in
    let starts = c.loop-seat.starts.items in
    let given = c.into_iter-seat-iterator.ensures.into_iter_gives in
    let all = YieldsList-end (YieldsList-from_vec {s = c.into_iter-seat-iterator.result} seats given.0 (given.1 ∙ c.captures.seats.ok.0)) c.loop-seat.yielded c.loop-seat.seat-iterator c.loop-seat.yielded_by c.next.result c.next.new.self c.in-None.is c.next.ensures.steps in
    let whole : c.loop-seat.yielded ≡ seats = sym (map-id c.loop-seat.yielded) ∙ all.0 in
    let are = subst (λ (ss : List Seat). AreStartsOf desk gate limit ss starts) whole c.loop-seat.invariant in
    IfOk-weaker c.join_all.result
    (λ v. AreJoined passes refuses hears halts starts v.items)
    (λ v. HaveWorked (passes gate) (refuses gate) (hears gate) (halts desk) limit seats v.items)
    (λ v joined. have_worked passes refuses hears halts desk gate limit seats starts v.items are joined)
    c.join_all.ensures
