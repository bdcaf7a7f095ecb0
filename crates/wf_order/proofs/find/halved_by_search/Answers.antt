-- By what the search of the first half says.
use Rattle.std.proofs.Common.{◌≡◌, sym, subst, map, length, arith, ◌<◌, ◌≤◌, Result, Ok}
use Rattle.std.specs.Prelude.{IfOk}
use Rattle.wf_history.specs.View.{event_of}
use Rattle.wf_order.proofs.Deciding.{between_upper, between_lower, at_order, at_none, at_many}
use Rattle.wf_order.proofs.find.halved_by_search.Goals.{in-Order, in-NoOrder, in-TooMany}
use Rattle.wf_order.proofs.find.halved_by_search.Goals as goal

at_ok : {V E : Type 0} (P : V → Type 0) (r : Result V E) (v : V) → r ≡ Ok v → P v → IfOk r P
at_ok {V} {E} P r v e h = subst (λ (x : Result V E). IfOk x P) (sym e) h

pub returns-clause-halved : goal.returns-clause-halved
returns-clause-halved g c =
    let effect = g.O.Object.effect c.args.question.now.object.now in
    let opening = g.O.Object.opening c.args.question.now.object.now in
    let history = map event_of c.args.question.now.events.now in
    let processes = c.args.question.now.processes in
    let most = c.args.question.now.most in
    let legal = c.args.legal in
    let illegal = c.args.illegal in
    let between = c.requires.between in
    let middle = c.args.middle in
    let lower : legal < middle = c.requires.lower in
    let upper : middle < illegal = c.requires.upper in
    let within = between.within in
    let inside : middle ≤ length history = omega (arith, upper, within) in
    elim c.match-branch-2.branch [
      | in-Order w ↦ at_ok _ c.match-branch-2.result _ w.result-is (
        between_upper effect history opening legal illegal middle between lower upper (at_order effect history opening processes most middle inside c.in_ok-front_answer.field-0 c.in_ok-front_answer.ensures w.in-Order.field-0 w.in-Order.is),
        omega (arith, lower, upper),
      )
      | in-NoOrder w ↦ at_ok _ c.match-branch-2.result _ w.result-is (
        between_lower effect history opening legal illegal middle between lower upper (at_none effect history opening processes most middle inside c.in_ok-front_answer.field-0 c.in_ok-front_answer.ensures w.in-NoOrder.is),
        omega (arith, lower, upper),
      )
      | in-TooMany w ↦ at_ok _ c.match-branch-2.result _ w.result-is (at_many effect history opening processes most middle inside c.in_ok-front_answer.field-0 c.in_ok-front_answer.ensures w.in-TooMany.is)
    ]

pub returns-clause-higher : goal.returns-clause-higher
returns-clause-higher g c =
    let lower = c.requires.lower in
    elim c.match-branch-2.branch [
      | in-Order w ↦ at_ok _ c.match-branch-2.result _ w.result-is (omega (arith, lower))
      | in-NoOrder w ↦ at_ok _ c.match-branch-2.result _ w.result-is (omega arith)
      | in-TooMany w ↦ at_ok _ c.match-branch-2.result _ w.result-is tt
    ]
