-- By the turns, one after the other.
use Rattle.std.proofs.Common.{◌≡◌, sym, ap, subst, ◌∙◌, ℕ, ◌+◌, ◌<◌, List, length, get_or, Option, Some, None, arith}
use Rattle.std.specs.Prelude.{MatchOption, slice_get}
use Rattle.std.proofs.lemmas.Option.{MatchOption-at_none, MatchOption-at_some}
use Rattle.wf_order.specs.declared.next_call.Turn.{Turn}
use Rattle.wf_order.specs.declared.rows.Begun.{Begun}
use Rattle.wf_order.specs.Rows.{begun_rows, call_at, row_of}
use Rattle.wf_order.specs.Search.{found_in, AreAnswered, AreCovered, IsNextStep}
use Rattle.wf_order.specs.Steps.{one_more}
use Rattle.wf_order.specs.Turns.{AreTurns}
use Rattle.wf_order.proofs.Turning.{first_here, next_begins}
use Rattle.wf_order.proofs.Attempts.{all_covered, all_tried, attempt, attempt_later, covered_more, covered_none, turns_left}
use Rattle.wf_order.proofs.attempt.next_attempt.Goals as goal

pub loop-start-init : goal.loop-start-init
loop-start-init g c = (
  c.requires.made,
  λ history found at. (
    covered_none (g.O.Object.effect c.args.task.now.object.now) history c.args.task.now.rows.now found (found_in g.O.Object.meaning c.args.here.now.found.now) at.0 c.args.here.now.limit at.1 c.args.from,
    omega arith,
  ),
  omega arith,
)

pub tried-requires-clause-made : goal.tried-requires-clause-made
tried-requires-clause-made g c = c.loop-start.invariant.0

pub returns-then-turn-limit-clause-next : goal.returns-then-turn-limit-clause-next
returns-then-turn-limit-clause-next g c = λ history found at.
    let here = found_in g.O.Object.meaning c.args.here.now.found.now in
    let limit = c.args.here.now.limit in
    let turn = c.first_turn-turn.result in
    let first = first_here c.args.task.now.rows.now c.deref.result.now c.args.here.now.found.now.counts.items c.deref.ensures c.args.from c.loop-start.start limit c.turns_from.new.turns.items c.as_slice.result.now c.as_slice.ensures turn
    c.in_ok-turns_from.ensures c.loop-start.invariant.2 c.first_turn-turn.ensures in
    all_tried (g.O.Object.effect c.args.task.now.object.now) history c.args.task.now.rows.now found here at.0 limit at.1 c.args.from
    c.loop-start.start (c.loop-start.invariant.1 history found at).0 turn first c.if-turn-limit.true

pub unreachable-requires : goal.unreachable-requires
unreachable-requires g c =
    let turn = c.first_turn-turn.result in
    let row = row_of (begun_rows c.args.task.now.rows.now) turn.process in
    let first = first_here c.args.task.now.rows.now c.deref.result.now c.args.here.now.found.now.counts.items c.deref.ensures c.args.from c.loop-start.start c.args.here.now.limit c.turns_from.new.turns.items c.as_slice.result.now c.as_slice.ensures turn
    c.in_ok-turns_from.ensures c.loop-start.invariant.2 c.first_turn-turn.ensures in
    let own = first.own (let f = c.if-turn-limit.false in omega (arith, f)) in
    let none = c.in_default.ensures (subst (λ (l : List ℕ). turn.process < length l) (sym c.deref-in-loop-start.ensures) own.1) in
    let there : ◌≡◌ {A = Option Begun} None (Some own.0) = sym none ∙ ap (λ (l : List ℕ). slice_get row (get_or l turn.process 0)) c.deref-in-loop-start.ensures ∙ own.2 in
    absurd (cc)

pub next_place-requires-clause-turns : goal.next_place-requires-clause-turns
next_place-requires-clause-turns g c =
    let limit = c.args.here.now.limit in
    let rows = c.args.task.now.rows.now in
    let counts = c.args.here.now.found.now.counts.items in
    let turn = c.first_turn-turn.result in
    let le = c.loop-start.invariant.2 in
    let first = first_here rows c.deref.result.now counts c.deref.ensures c.args.from c.loop-start.start limit c.turns_from.new.turns.items c.as_slice.result.now c.as_slice.ensures turn
    c.in_ok-turns_from.ensures le c.first_turn-turn.ensures in
    let own = first.own (let f = c.if-turn-limit.false in omega (arith, f)) in
    let low = own.4 in
    let place = next_begins rows counts c.deref-in-loop-start.result.now c.deref-in-loop-start.ensures turn c.in-Some.call c.in-Some.ensures.0 c.in-Some.ensures.1 own.0 own.2 own.3 in (
      c.args.from,
      omega (arith, le, low, place),
      subst (λ (l : List Turn). AreTurns rows counts (length counts) c.args.from limit l) (sym c.as_slice-in-Some-2.ensures)
          (subst (λ (l : List ℕ). AreTurns rows l (length l) c.args.from limit c.turns_from.new.turns.items) c.deref.ensures c.in_ok-turns_from.ensures),
    )

pub next_place-requires-clause-early : goal.next_place-requires-clause-early
next_place-requires-clause-early g c =
    let limit = c.args.here.now.limit in
    let rows = c.args.task.now.rows.now in
    let counts = c.args.here.now.found.now.counts.items in
    let turn = c.first_turn-turn.result in
    let first = first_here rows c.deref.result.now counts c.deref.ensures c.args.from c.loop-start.start limit c.turns_from.new.turns.items c.as_slice.result.now c.as_slice.ensures turn
    c.in_ok-turns_from.ensures c.loop-start.invariant.2 c.first_turn-turn.ensures in
    let early = c.if-turn-limit.false in
    let own = first.own (omega (arith, early)) in
    let place = next_begins rows counts c.deref-in-loop-start.result.now c.deref-in-loop-start.ensures turn c.in-Some.call c.in-Some.ensures.0 c.in-Some.ensures.1 own.0 own.2 own.3 in
    omega (arith, early, place)

pub returns-in-Some-2-clause-next : goal.returns-in-Some-2-clause-next
returns-in-Some-2-clause-next g c = λ history found at.
    let effect = g.O.Object.effect c.args.task.now.object.now in
    let view = found_in g.O.Object.meaning in
    let here = view c.args.here.now.found.now in
    let limit = c.args.here.now.limit in
    let turn = c.first_turn-turn.result in
    let first = first_here c.args.task.now.rows.now c.deref.result.now c.args.here.now.found.now.counts.items c.deref.ensures c.args.from c.loop-start.start limit c.turns_from.new.turns.items c.as_slice.result.now c.as_slice.ensures turn
    c.in_ok-turns_from.ensures c.loop-start.invariant.2 c.first_turn-turn.ensures in
    let early : turn.place < limit = let f = c.if-turn-limit.false in omega (arith, f) in
    let covered = c.loop-start.invariant.1 history found at in
    let after = g.O.Object.meaning c.in-Some-2.state in
    let tried = subst (λ (p : ℕ). MatchOption c.in_ok-state.field-0 (AreAnswered effect history found here p) (λ s. IsNextStep effect history here p (g.O.Object.meaning s))) c.in-Some.ensures.0
    (c.in_ok-state.ensures.tried history found at) in
    let only = MatchOption-at_some (AreAnswered effect history found here turn.process) (λ s. IsNextStep effect history here turn.process (g.O.Object.meaning s)) c.in-Some-2.state c.in-Some-2.is tried in
    let id = call_at turn.process (get_or here.counts turn.process 0) in
    let to = one_more here.counts turn.process after in
    let own_turn = first.own early in
    let place = next_begins c.args.task.now.rows.now here.counts c.deref-in-loop-start.result.now c.deref-in-loop-start.ensures turn c.in-Some.call c.in-Some.ensures.0 c.in-Some.ensures.1 own_turn.0 own_turn.2 own_turn.3 in
    let own = attempt effect history c.args.task.now.rows.now found here at.0 limit at.1 c.args.from c.loop-start.start covered.0 turn first early covered.1 id to only in
    let later = c.next_place.ensures history found at in
    let le = later.1 in
    attempt_later effect history c.args.task.now.rows.now found here at.0 limit at.1 c.args.from (turn.place + 1) c.next_place.result id to own (omega (arith, le, place))
    (subst (λ (n : ℕ). AreCovered effect history found here (n + 1) c.next_place.result) place later.0)

pub returns-in-Some-2-clause-within : goal.returns-in-Some-2-clause-within
returns-in-Some-2-clause-within g c =
    let turn = c.first_turn-turn.result in
    let first = first_here c.args.task.now.rows.now c.deref.result.now c.args.here.now.found.now.counts.items c.deref.ensures c.args.from c.loop-start.start c.args.here.now.limit c.turns_from.new.turns.items c.as_slice.result.now c.as_slice.ensures turn
    c.in_ok-turns_from.ensures c.loop-start.invariant.2 c.first_turn-turn.ensures in
    let own = first.own (let f = c.if-turn-limit.false in omega (arith, f)) in
    own.1

pub loop-start-preserved : goal.loop-start-preserved
loop-start-preserved g c = (
  c.in_ok-state.ensures.made,
  λ history found at.
      let effect = g.O.Object.effect c.args.task.now.object.now in
      let view = found_in g.O.Object.meaning in
      let here = view c.args.here.now.found.now in
      let limit = c.args.here.now.limit in
      let turn = c.first_turn-turn.result in
      let first = first_here c.args.task.now.rows.now c.deref.result.now c.args.here.now.found.now.counts.items c.deref.ensures c.args.from c.loop-start.start limit c.turns_from.new.turns.items c.as_slice.result.now c.as_slice.ensures turn
      c.in_ok-turns_from.ensures c.loop-start.invariant.2 c.first_turn-turn.ensures in
      let early : turn.place < limit = let f = c.if-turn-limit.false in omega (arith, f) in
      let covered = c.loop-start.invariant.1 history found at in
      let tried = subst (λ (p : ℕ). MatchOption c.in_ok-state.field-0 (AreAnswered effect history found here p) (λ s. IsNextStep effect history here p (g.O.Object.meaning s))) c.in-Some.ensures.0
      (c.in_ok-state.ensures.tried history found at) in
      let answered = MatchOption-at_none (AreAnswered effect history found here turn.process) (λ s. IsNextStep effect history here turn.process (g.O.Object.meaning s)) c.in-None.is tried in
      let left = turns_left effect history c.args.task.now.rows.now found here at.0 limit at.1 c.args.from c.loop-start.start covered.0 turn first early covered.1 in (
        covered_more effect history c.args.task.now.rows.now found here at.0 limit at.1 c.args.from c.loop-start.start covered.0 turn first early answered,
        omega (arith, left),
      ),
  (let le = c.loop-start.invariant.2 in let low = c.first_turn-turn.ensures.own (let f = c.if-turn-limit.false in omega (arith, f)) in let behind = low.1 in omega (arith, le, behind)),
)

pub returns-clause-next : goal.returns-clause-next
returns-clause-next g c = λ history found at.
    all_covered (g.O.Object.effect c.args.task.now.object.now) history c.args.task.now.rows.now found (found_in g.O.Object.meaning c.args.here.now.found.now) at.0 c.args.here.now.limit at.1 c.args.from
    c.loop-start.start (c.loop-start.invariant.1 history found at).0 (let past = c.loop-start-test.false in omega (arith, past))
