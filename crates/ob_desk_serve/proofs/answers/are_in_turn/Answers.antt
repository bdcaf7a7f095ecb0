use Rattle.std.proofs.Common.{◌<◌, ◌+◌, ◌∙◌, sym, get_or, length, arith}
use Rattle.ob_desk_serve.proofs.Numbered.{in_turn_at, in_turn_length, one_more, other_name, same_name}
use Rattle.wf_history.specs.declared.event.CallId.{CallId}
use Rattle.ob_desk_serve.proofs.answers.are_in_turn.Goals as goal

pub loop-i-preserved : goal.loop-i-preserved
loop-i-preserved c =
    let answer = c.index-answers-i.result in
    let here : c.loop-i.i < length c.args.answers.now = omega (arith, c.loop-i-test.true, c.if-answers-count.false) in
    one_more c.args.process c.loop-i.i c.args.answers.now answer here c.loop-i.invariant
    (same_name (get_or c.args.answers.now c.loop-i.i answer).id (record { process = c.args.process; number = c.loop-i.i + 1 }) (sym c.ne.ensures ∙ c.if-ne.false))

pub returns-then-answers-count-clause-no : goal.returns-then-answers-count-clause-no
returns-then-answers-count-clause-no c = λ _ same. c.if-answers-count.true (in_turn_length c.args.process c.args.count c.args.answers.now same)

pub returns-then-ne-clause-no : goal.returns-then-ne-clause-no
returns-then-ne-clause-no c =
    let answer = c.index-answers-i.result in
    let here : CallId = record { process = c.args.process; number = c.loop-i.i + 1 } in
    λ _ same.
    other_name (get_or c.args.answers.now c.loop-i.i answer).id here (sym c.ne.ensures ∙ c.if-ne.true)
    (in_turn_at c.args.process c.args.count c.loop-i.i c.args.answers.now answer c.loop-i-test.true same)
