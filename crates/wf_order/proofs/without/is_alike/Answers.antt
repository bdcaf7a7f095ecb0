-- By the rows, and by the outcomes.
use Rattle.std.proofs.Common.{◌≡◌, refl, ap, sym, subst, ◌∙◌, Bool, false, not, Option, option_map, None, Some}
use Rattle.std.specs.Option.{is_some}
use Rattle.std.specs.Prelude.{IfSome, IsTrue}
use Rattle.std.proofs.lemmas.Result.{IfOk-weaker}
use Rattle.wf_history.specs.declared.seen_event.SeenReply.{SeenReply}
use Rattle.wf_history.specs.View.{seen_call, seen_reply}
use Rattle.wf_order.specs.Rules.{IsOutcome, IsSameOutcome}
use Rattle.wf_order.specs.Search.{found_in}
use Rattle.wf_order.proofs.LeftOut.{alike_late, alike_none, alike_outcome, alike_reader, same_none, same_some}
use Rattle.wf_order.proofs.Taken.{taken_is}
use Rattle.wf_order.proofs.without.is_alike.Goals as goal

none_mapped : {A B : Type 0} (f : A → B) (o : Option A) → option_map f o ≡ None → o ≡ None
none_mapped f None e = cc
none_mapped f (Some x) e = absurd (cc)

none_is : {A : Type 0} (o : Option A) → is_some o ≡ false → o ≡ None
none_is None e = refl
none_is (Some x) e = absurd (cc)

pub returns-in_default-begun_at-clause-alike : goal.returns-in_default-begun_at-clause-alike
returns-in_default-begun_at-clause-alike g c = λ history by at t.
    let process = c.args.process in
    let found = c.args.here.now.found.now in
    let is = taken_is c.deref.result.now found.counts.items process c.in-Some.taken.now c.in-Some.ensures.lookup.0 c.in-Some.ensures.lookup.1 c.deref.ensures in
    alike_none (g.O.Object.effect c.args.task.now.object.now) (λ call. g.met.O.Object.determined c.args.task.now.object.now call) history c.args.task.now.rows.now
    (found_in g.O.Object.meaning found) at.0 c.args.here.now.limit at.1 by (g.O.Object.meaning c.args.behind.now.state) process c.in-Some.taken.now is (sym c.begun_at.ensures.item ∙ c.in_default-begun_at.is)

pub returns-then-begun-here-clause-alike : goal.returns-then-begun-here-clause-alike
returns-then-begun-here-clause-alike g c = λ history by at t.
    let process = c.args.process in
    let found = c.args.here.now.found.now in
    let is = taken_is c.deref.result.now found.counts.items process c.in-Some.taken.now c.in-Some.ensures.lookup.0 c.in-Some.ensures.lookup.1 c.deref.ensures in
    alike_late (g.O.Object.effect c.args.task.now.object.now) (λ call. g.met.O.Object.determined c.args.task.now.object.now call) history c.args.task.now.rows.now
    (found_in g.O.Object.meaning found) at.0 c.args.here.now.limit at.1 by (g.O.Object.meaning c.args.behind.now.state) process c.in-Some.taken.now is
    c.in-Some-begun_at.begun (sym c.begun_at.ensures.item ∙ c.in-Some-begun_at.is) c.if-begun-here.true

pub returns-then-is_reader-clause-alike : goal.returns-then-is_reader-clause-alike
returns-then-is_reader-clause-alike g c = λ history by at t.
    let process = c.args.process in
    let found = c.args.here.now.found.now in
    let is = taken_is c.deref.result.now found.counts.items process c.in-Some.taken.now c.in-Some.ensures.lookup.0 c.in-Some.ensures.lookup.1 c.deref.ensures in
    let none = none_mapped (λ e. e.reply) _ (sym c.reply_at-known.ensures ∙ none_is c.reply_at-known.result (c.is_none.ensures ∙ ap not c.if-is_none.true)) in
    alike_reader (g.O.Object.effect c.args.task.now.object.now) (λ call. g.met.O.Object.determined c.args.task.now.object.now call) history c.args.task.now.rows.now
    (found_in g.O.Object.meaning found) at.0 c.args.here.now.limit at.1 by (g.O.Object.meaning c.args.behind.now.state) process c.in-Some.taken.now is
    c.in-Some-begun_at.begun (sym c.begun_at.ensures.item ∙ c.in-Some-begun_at.is) none (c.is_reader.ensures c.if-is_reader.true)

pub returns-in_default-3-clause-alike : goal.returns-in_default-3-clause-alike
returns-in_default-3-clause-alike g c = λ history by at t.
    let process = c.args.process in
    let found = c.args.here.now.found.now in
    let here = found_in g.O.Object.meaning found in
    let begun = c.in-Some-begun_at.begun in
    let effects = g.O.Object.effect c.args.task.now.object.now in
    let effect = effects (seen_call begun.call) in
    let behind = g.O.Object.meaning c.args.behind.now.state in
    let known = option_map seen_reply c.reply_at-known.result in
    let is = taken_is c.deref.result.now found.counts.items process c.in-Some.taken.now c.in-Some.ensures.lookup.0 c.in-Some.ensures.lookup.1 c.deref.ensures in
    let outcome = subst (λ (o : Option g.row.O-State.Denot). IsOutcome effect behind known (option_map g.O.Object.meaning o)) c.in_default-3.is c.in_ok-after.ensures.outcome in
    let same = same_none effect (g.met.O.Object.determined c.args.task.now.object.now (seen_call begun.call)) here.state behind known outcome in
    alike_outcome effects (λ call. g.met.O.Object.determined c.args.task.now.object.now call) history c.args.task.now.rows.now
    here at.0 c.args.here.now.limit at.1 by behind process c.in-Some.taken.now is begun (sym c.begun_at.ensures.item ∙ c.in-Some-begun_at.is)
    (subst (λ (o : Option SeenReply). IsSameOutcome effect here.state behind (option_map seen_reply o)) c.reply_at-known.ensures same)

pub returns-clause-alike : goal.returns-clause-alike
returns-clause-alike g c = λ history by at.
    let process = c.args.process in
    let found = c.args.here.now.found.now in
    let here = found_in g.O.Object.meaning found in
    let begun = c.in-Some-begun_at.begun in
    let effects = g.O.Object.effect c.args.task.now.object.now in
    let effect = effects (seen_call begun.call) in
    let behind = g.O.Object.meaning c.args.behind.now.state in
    let known = option_map seen_reply c.reply_at-known.result in
    let is = taken_is c.deref.result.now found.counts.items process c.in-Some.taken.now c.in-Some.ensures.lookup.0 c.in-Some.ensures.lookup.1 c.deref.ensures in
    let there = subst (λ (o : Option g.row.O-State.Denot). IsOutcome effect behind known (option_map g.O.Object.meaning o)) c.in-Some-3.is c.in_ok-after.ensures.outcome in
    let other = subst (λ (o : Option g.row.O-State.Denot). IsOutcome effect here.state known (option_map g.O.Object.meaning o)) c.in-Some-4.is c.in_ok-other.ensures.outcome in
    IfOk-weaker c.is_same.result _ _
    (λ same h t. alike_outcome effects (λ call. g.met.O.Object.determined c.args.task.now.object.now call) history c.args.task.now.rows.now
    here at.0 c.args.here.now.limit at.1 by behind process c.in-Some.taken.now is begun (sym c.begun_at.ensures.item ∙ c.in-Some-begun_at.is)
    (subst (λ (o : Option SeenReply). IsSameOutcome effect here.state behind (option_map seen_reply o)) c.reply_at-known.ensures
    (same_some effect (g.met.O.Object.determined c.args.task.now.object.now (seen_call begun.call)) here.state behind known (g.O.Object.meaning c.in-Some-3.after) (g.O.Object.meaning c.in-Some-4.other) there other (h.0 t))))
    c.is_same.ensures

pub returns-in-Some-2-clause-alike : goal.returns-in-Some-2-clause-alike
returns-in-Some-2-clause-alike g c = λ history by at t.
    let process = c.args.process in
    let found = c.args.here.now.found.now in
    let here = found_in g.O.Object.meaning found in
    let begun = c.in-Some-begun_at.begun in
    let effects = g.O.Object.effect c.args.task.now.object.now in
    let effect = effects (seen_call begun.call) in
    let behind = g.O.Object.meaning c.args.behind.now.state in
    let known = option_map seen_reply c.reply_at-known.result in
    let is = taken_is c.deref.result.now found.counts.items process c.in-Some.taken.now c.in-Some.ensures.lookup.0 c.in-Some.ensures.lookup.1 c.deref.ensures in
    let same = subst (λ (o : Option Bool). IfSome o (λ alike. IsTrue alike → IsSameOutcome effect here.state behind known)) c.in-Some-2.is c.in_ok-alike.ensures in
    alike_outcome effects (λ call. g.met.O.Object.determined c.args.task.now.object.now call) history c.args.task.now.rows.now
    here at.0 c.args.here.now.limit at.1 by behind process c.in-Some.taken.now is begun (sym c.begun_at.ensures.item ∙ c.in-Some-begun_at.is)
    (subst (λ (o : Option SeenReply). IsSameOutcome effect here.state behind (option_map seen_reply o)) c.reply_at-known.ensures (same t))
