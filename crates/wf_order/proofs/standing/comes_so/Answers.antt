-- By the rows, and by what the call does.
use Rattle.std.proofs.Common.{ap, sym, ◌∙◌}
use Rattle.std.proofs.lemmas.Result.{IfOk-weaker}
use Rattle.wf_history.specs.View.{seen_call, seen_reply}
use Rattle.wf_order.specs.Search.{found_in}
use Rattle.wf_order.proofs.StandingFor.{none_replied, some_replied, so_does, so_late, so_none, so_open, so_other}
use Rattle.wf_order.proofs.Taken.{taken_is}
use Rattle.wf_order.proofs.standing.comes_so.Goals as goal

pub returns-in_default-begun_at-clause-so : goal.returns-in_default-begun_at-clause-so
returns-in_default-begun_at-clause-so g c = λ history at t.
    let process = c.args.process in
    let found = c.args.here.now.found.now in
    let is = taken_is c.deref.result.now found.counts.items process c.in-Some.taken.now c.in-Some.ensures.lookup.0 c.in-Some.ensures.lookup.1 c.deref.ensures in
    so_none (g.O.Object.effect c.args.task.now.object.now) history c.args.task.now.rows.now (found_in g.O.Object.meaning found) at.0 c.args.here.now.limit at.1
    (g.O.Object.meaning c.args.before.now.state) process c.in-Some.taken.now is (sym c.begun_at.ensures.item ∙ c.in_default-begun_at.is)

pub returns-then-begun-here-clause-so : goal.returns-then-begun-here-clause-so
returns-then-begun-here-clause-so g c = λ history at t.
    let process = c.args.process in
    let found = c.args.here.now.found.now in
    let is = taken_is c.deref.result.now found.counts.items process c.in-Some.taken.now c.in-Some.ensures.lookup.0 c.in-Some.ensures.lookup.1 c.deref.ensures in
    so_late (g.O.Object.effect c.args.task.now.object.now) history c.args.task.now.rows.now (found_in g.O.Object.meaning found) at.0 c.args.here.now.limit at.1
    (g.O.Object.meaning c.args.before.now.state) process c.in-Some.taken.now is c.in-Some-begun_at.begun (sym c.begun_at.ensures.item ∙ c.in-Some-begun_at.is) c.if-begun-here.true

pub returns-then-not-is_reader-clause-so : goal.returns-then-not-is_reader-clause-so
returns-then-not-is_reader-clause-so g c = λ history at.
    let process = c.args.process in
    let found = c.args.here.now.found.now in
    let is = taken_is c.deref.result.now found.counts.items process c.in-Some.taken.now c.in-Some.ensures.lookup.0 c.in-Some.ensures.lookup.1 c.deref.ensures in
    IfOk-weaker c.does_so.result _ _
    (λ so h t. so_does (g.O.Object.effect c.args.task.now.object.now) history c.args.task.now.rows.now (found_in g.O.Object.meaning found) at.0 c.args.here.now.limit at.1
    (g.O.Object.meaning c.args.before.now.state) process c.in-Some.taken.now is c.in-Some-begun_at.begun (sym c.begun_at.ensures.item ∙ c.in-Some-begun_at.is) (h t))
    c.does_so.ensures.so

pub returns-in_default-reply_at-clause-so : goal.returns-in_default-reply_at-clause-so
returns-in_default-reply_at-clause-so g c = λ history at t.
    let process = c.args.process in
    let found = c.args.here.now.found.now in
    let is = taken_is c.deref.result.now found.counts.items process c.in-Some.taken.now c.in-Some.ensures.lookup.0 c.in-Some.ensures.lookup.1 c.deref.ensures in
    so_open (g.O.Object.effect c.args.task.now.object.now) history c.args.task.now.rows.now (found_in g.O.Object.meaning found) at.0 c.args.here.now.limit at.1
    (g.O.Object.meaning c.args.before.now.state) process c.in-Some.taken.now is c.in-Some-begun_at.begun (sym c.begun_at.ensures.item ∙ c.in-Some-begun_at.is)
    (c.is_reader.ensures c.if-not-is_reader.false) (none_replied _ (sym c.reply_at.ensures ∙ c.in_default-reply_at.is))

pub returns-clause-so : goal.returns-clause-so
returns-clause-so g c = λ history at t.
    let process = c.args.process in
    let found = c.args.here.now.found.now in
    let effect = g.O.Object.effect c.args.task.now.object.now in
    let begun = c.in-Some-begun_at.begun in
    let is = taken_is c.deref.result.now found.counts.items process c.in-Some.taken.now c.in-Some.ensures.lookup.0 c.in-Some.ensures.lookup.1 c.deref.ensures in
    let e = some_replied _ _ (sym c.reply_at.ensures ∙ c.in-Some-reply_at.is) in
    let asked = c.in_ok-so.ensures.so in
    so_other effect history c.args.task.now.rows.now (found_in g.O.Object.meaning found) at.0 c.args.here.now.limit at.1
    (g.O.Object.meaning c.args.before.now.state) process c.in-Some.taken.now is begun (sym c.begun_at.ensures.item ∙ c.in-Some-begun_at.is)
    (c.is_reader.ensures c.if-not-is_reader.false) e.0 e.1
    (λ after made.
    let one = g.met.O.Object.determined c.args.task.now.object.now (seen_call begun.call) (g.O.Object.meaning found.state) after asked.after (seen_reply e.0.reply) asked.answer made asked.effect in
    let so = asked.same.1 (sym one.1 ∙ ap seen_reply e.2) in absurd (cc))
