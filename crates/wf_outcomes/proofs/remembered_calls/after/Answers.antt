-- As it is remembered, or as it is made now.
use Rattle.std.proofs.Common.{sym, subst, List, Option}
use Rattle.wf_history.specs.View.{kept_call}
use Rattle.wf_outcomes.specs.RememberedCalls.{AreMade, IsAfter, IsStated}
use Rattle.wf_outcomes.specs.declared.remembered_calls.Made.{Made}
use Rattle.wf_outcomes.specs.declared.seen.Stated.{Stated}
use Rattle.wf_outcomes.proofs.Making.{recalled_after, made_after, still_made}
use Rattle.wf_outcomes.proofs.remembered_calls.after.Goals as goal

pub returns-in-Some-clause-after : goal.returns-in-Some-clause-after
returns-in-Some-clause-after g c =
    let meaning = g.O.Object.meaning in
    let words_of = g.O.Object.words_of in
    let effect = g.O.Object.effect c.args.task.now.object.now in
    let is = subst (λ (s : Stated g.row.O-State.Denot). IsStated meaning words_of s) (sym c.as_ref.ensures) c.requires.before in
    subst (λ (s : Stated g.row.O-State.Denot). IsAfter meaning words_of effect (kept_call c.args.call.now) s c.in_ok-known.known.value) c.as_ref.ensures
    (recalled_after meaning words_of effect (λ a b. g.met.O.Object.told_apart a b) c.args.memory.now.made.items c.requires.memory c.as_ref.result.now is c.args.call.now c.in-Some.made.now c.in-Some.ensures c.in_ok-known.known.value c.in_ok-known.ensures.cases)

pub returns-clause-memory : goal.returns-clause-memory
returns-clause-memory g c =
    still_made g.O.Object.meaning g.O.Object.words_of (g.O.Object.effect c.args.task.now.object.now) c.args.memory.now.made.items c.remember.new.memory.made.items c.requires.memory c.in_ok-made.made c.in_ok-made.ensures.made c.in_ok-remember.ensures

pub returns-clause-after : goal.returns-clause-after
returns-clause-after g c =
    made_after g.O.Object.meaning g.O.Object.words_of (g.O.Object.effect c.args.task.now.object.now) c.args.before.now.value c.args.call.now c.in_ok-made.made c.in_ok-made.ensures.made c.in_ok-made.ensures.before c.in_ok-made.ensures.call
    c.in_ok-after.after.value c.in_ok-after.ensures.cases
