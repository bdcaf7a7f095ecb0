-- By the turns, one after the other.
use Rattle.std.proofs.Common.{sym, subst, ◌+◌, get_or, List, [], arith}
use Rattle.std.proofs.lemmas.List.{take_all}
use Rattle.std.proofs.lemmas.Option.{slice_get-get_or}
use Rattle.std.specs.List.{Contains}
use Rattle.wf_history.proofs.Positions.{place_of}
use Rattle.wf_order.specs.declared.next_call.Turn.{Turn}
use Rattle.wf_order.specs.Search.{found_in, AreAnswered}
use Rattle.wf_order.proofs.Attempts.{covered_by_turns, covered_none, tried_more}
use Rattle.wf_order.proofs.attempt.next_place.Goals.{then-turn-tried-via-then-turn-tried, then-turn-tried-via-else-turn-tried+then-turn-first}
use Rattle.wf_order.proofs.attempt.next_place.Goals as goal

abbrev default : Turn
default = record { process = 0; place = 0 }

pub loop-turn-init : goal.loop-turn-init
loop-turn-init g c = λ history found at. (
  λ turn there behind before. let p = place_of [] turn there in let e = p.1 in absurd (cc),
  let early = c.requires.early in let within = at.1.within in let events = at.0.events in omega (arith, early, within, events),
)

pub returns-in_default : goal.returns-in_default
returns-in_default g c = λ history found at.
    let effect = g.O.Object.effect c.args.task.now.object.now in
    let here = found_in g.O.Object.meaning c.args.here.now.found.now in
    (covered_none effect history c.args.task.now.rows.now found here at.0 c.args.here.now.limit at.1 (c.args.tried.now.begun.place + 1), omega arith)

pub returns : goal.returns
returns g c = λ history found at.
    let effect = g.O.Object.effect c.args.task.now.object.now in
    let here = found_in g.O.Object.meaning c.args.here.now.found.now in
    let turns = c.requires.turns in
    let low = turns.1 in
    let all = take_all c.loop-turn.turn-index c.args.turns.now (let past = c.loop-turn-test.false in omega (arith, past)) in
    let tried = c.loop-turn.invariant history found at in (
      covered_by_turns effect history c.args.task.now.rows.now found here at.0 c.args.here.now.limit at.1 turns.0 (c.args.tried.now.begun.place + 1) c.loop-turn.first c.args.turns.now (omega (arith, low)) turns.2
          (λ turn there behind before. tried.0 turn (subst (λ (l : List Turn). Contains l turn) (sym all) there) (omega (arith, behind)) before),
      tried.1,
    )

pub loop-turn-preserved-then-turn-tried : goal.loop-turn-preserved-then-turn-tried
loop-turn-preserved-then-turn-tried g c = λ history found at.
    let effect = g.O.Object.effect c.args.task.now.object.now in
    let here = found_in g.O.Object.meaning c.args.here.now.found.now in
    let i = c.loop-turn.turn-index in
    let list = c.args.turns.now in
    let turn = get_or list i default in
    let old = c.loop-turn.invariant history found at in (
      tried_more (AreAnswered effect history found here) list i turn c.args.tried.now.begun.place c.loop-turn.first c.loop-turn.first (slice_get-get_or list i default c.loop-turn-test.true) old.0 (omega arith)
          (λ behind before. elim c.then-turn-tried.branch [
            | then-turn-tried-via-then-turn-tried w ↦ let past = w.if-turn-tried.true in absurd (omega (arith, past, behind))
            | then-turn-tried-via-else-turn-tried+then-turn-first w ↦ let late = w.if-turn-first.true in absurd (omega (arith, late, before))
          ]),
      old.1,
    )

pub loop-turn-preserved-then-is_dropped : goal.loop-turn-preserved-then-is_dropped
loop-turn-preserved-then-is_dropped g c = λ history found at.
    let effect = g.O.Object.effect c.args.task.now.object.now in
    let here = found_in g.O.Object.meaning c.args.here.now.found.now in
    let i = c.loop-turn.turn-index in
    let list = c.args.turns.now in
    let turn = get_or list i default in
    let old = c.loop-turn.invariant history found at in (
      tried_more (AreAnswered effect history found here) list i turn c.args.tried.now.begun.place c.loop-turn.first c.loop-turn.first (slice_get-get_or list i default c.loop-turn-test.true) old.0 (omega arith)
          (λ behind before. subst (AreAnswered effect history found here) c.in-Some.ensures.0 (c.is_dropped.ensures history found at c.if-is_dropped.true)),
      old.1,
    )

pub loop-turn-preserved : goal.loop-turn-preserved
loop-turn-preserved g c = λ history found at.
    let effect = g.O.Object.effect c.args.task.now.object.now in
    let here = found_in g.O.Object.meaning c.args.here.now.found.now in
    let i = c.loop-turn.turn-index in
    let list = c.args.turns.now in
    let turn = get_or list i default in
    let old = c.loop-turn.invariant history found at in
    let late = c.if-turn-first.false in
    let past = c.if-turn-tried.false in (
      tried_more (AreAnswered effect history found here) list i turn c.args.tried.now.begun.place c.loop-turn.first turn.place (slice_get-get_or list i default c.loop-turn-test.true) old.0 (omega (arith, late))
          (λ behind before. absurd (omega (arith, before))),
      omega (arith, past),
    )
