-- What the rows hold of the two calls, and the places of the two ends.
use Rattle.std.proofs.Common.{sym, ◌∙◌}
use Rattle.std.proofs.lemmas.Bool.Decides.{Decides-ltb}
use Rattle.wf_order.proofs.Replacing.{alike_are, first_of_two, first_of_one, first_of_open}
use Rattle.wf_order.proofs.sooner.are_alike.Goals as goal

pub returns-in-Some-Some : goal.returns-in-Some-Some
returns-in-Some-Some c = λ history processes are t.
    let a = c.args.first in
    let b = c.args.other in
    alike_are history processes c.args.rows.now are a.process a.place b.process b.place c.in-Some.begun c.in-Some-begun_at.other_begun
    (sym c.begun_at.ensures.item ∙ c.in-Some.is) (sym c.begun_at-2.ensures.item ∙ c.in-Some-begun_at.is)
    (c.is_same_call.ensures c.if-not-is_same_call.false)
    (first_of_two history processes c.args.rows.now are a.process a.place b.process b.place c.in-Some-Some.end c.in-Some-Some.later
    (sym c.ended_at.ensures ∙ c.in-Some-Some.is-0) (sym c.ended_at-2.ensures ∙ c.in-Some-Some.is-1) ((Decides-ltb c.in-Some-Some.end.place c.in-Some-Some.later.place).0 t))

pub returns-in-Some-None : goal.returns-in-Some-None
returns-in-Some-None c = λ history processes are t.
    let a = c.args.first in
    let b = c.args.other in
    alike_are history processes c.args.rows.now are a.process a.place b.process b.place c.in-Some.begun c.in-Some-begun_at.other_begun
    (sym c.begun_at.ensures.item ∙ c.in-Some.is) (sym c.begun_at-2.ensures.item ∙ c.in-Some-begun_at.is)
    (c.is_same_call.ensures c.if-not-is_same_call.false)
    (first_of_one history processes c.args.rows.now are a.process a.place b.process b.place c.in-Some-None.field-0-0
    (sym c.ended_at.ensures ∙ c.in-Some-None.is-0) (sym c.ended_at-2.ensures ∙ c.in-Some-None.is-1))

pub returns-in-None-None : goal.returns-in-None-None
returns-in-None-None c = λ history processes are t.
    let a = c.args.first in
    let b = c.args.other in
    alike_are history processes c.args.rows.now are a.process a.place b.process b.place c.in-Some.begun c.in-Some-begun_at.other_begun
    (sym c.begun_at.ensures.item ∙ c.in-Some.is) (sym c.begun_at-2.ensures.item ∙ c.in-Some-begun_at.is)
    (c.is_same_call.ensures c.if-not-is_same_call.false)
    (first_of_open history processes c.args.rows.now are a.process a.place b.process b.place
    (sym c.ended_at.ensures ∙ c.in-None-None.is-0) (sym c.ended_at-2.ensures ∙ c.in-None-None.is-1) ((Decides-ltb a.process b.process).0 t))
