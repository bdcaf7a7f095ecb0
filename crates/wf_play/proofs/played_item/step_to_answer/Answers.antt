use Rattle.std.proofs.Common.{rules, ap, arith}
use Rattle.ob_text_words.specs.declared.item.Item.TheVariants as Items
use Rattle.wf_table.specs.Object.{answer_of}
use Rattle.wf_table.specs.Schedule.{steps_of}
use Rattle.wf_play.proofs.Ends.{answered, goes_on, halted, is_reply, more_behind, no_reply, one_more, one_turn_more, played_by, same_quiet, same_seen, same_step, same_steps, silent, still_same, still_silent, turns_behind, unanswered}
use Rattle.wf_play.proofs.played_item.step_to_answer.Goals as goal

pub returns-then-eq-clause-played : goal.returns-then-eq-clause-played
returns-then-eq-clause-played g c =
    let a = c.args.machine.now in
    let b = c.loop-taken.machine in
    let m = g.E.Engine.meaning a.engine in
    let k = c.loop-taken.taken in
    let h = c.loop-taken.invariant in
    let on = goes_on m a.sizes (Items.ToAnswer c.args.p) k a.state c.is_halted.result c.if-is_halted.false h.goes_on (halted m a.sizes c.args.p k a.state b.state c.is_halted.result h.leads h.no_answer c.is_halted.ensures) in
    answered m a.sizes c.args.p k c.args.limit a.state b.state c.advance.new.self.state c.loop-taken-test.true on h.leads
    (same_step g.E.Engine.meaning a b c.advance.new.self.state c.args.p h.object (ap (λ o. o.state) c.in_ok-advance.ensures.stepped))
    (is_reply c.in_ok-advance.field-0 (answer_of m a.sizes b.state c.args.p) (same_seen g.E.Engine.meaning a b c.in_ok-advance.field-0 c.args.p h.object c.in_ok-advance.ensures.seen) (search (rules, c.if-eq.true)))
    (one_turn_more (steps_of a.state.records.schedule) (steps_of b.state.records.schedule) (steps_of c.advance.new.self.state.records.schedule) k c.args.p h.turns c.in_ok-advance.ensures.turn)

pub loop-taken-preserved : goal.loop-taken-preserved
loop-taken-preserved g c =
    let a = c.args.machine.now in
    let b = c.loop-taken.machine in
    let u = c.advance.new.self in
    let v = c.go_on.new.self in
    let m = g.E.Engine.meaning a.engine in
    let p = c.args.p in
    let k = c.loop-taken.taken in
    let j = c.go_on.result in
    let h = c.loop-taken.invariant in
    let stepped = c.in_ok-advance.ensures.stepped in
    let stayed = c.go_on.ensures in
    let same = still_same b u a _ _ stepped h.object in
    let step = same_step g.E.Engine.meaning a b u.state p h.object (ap (λ o. o.state) stepped) in
    let leads = one_more m a.sizes p k a.state b.state u.state h.leads step in
    let quiet = same_quiet g.E.Engine.meaning a u p j same stayed.quiet in
    let below = goes_on m a.sizes (Items.ToAnswer p) k a.state c.is_halted.result c.if-is_halted.false h.goes_on (halted m a.sizes p k a.state b.state c.is_halted.result h.leads h.no_answer c.is_halted.ensures) in
    let silence = silent m a.sizes p k a.state b.state h.leads (no_reply c.in_ok-advance.field-0 (answer_of m a.sizes b.state p) (same_seen g.E.Engine.meaning a b c.in_ok-advance.field-0 p h.object c.in_ok-advance.ensures.seen) (λ is. absurd (search (rules, is, c.if-eq.false)))) in
    record {
      object = still_same u v a _ _ stayed.stepped same;
      few = omega (arith, stayed.few);
      leads = more_behind m a.sizes p k j a.state b.state u.state v.state h.leads step (same_steps g.E.Engine.meaning a u v.state p j same (ap (λ o. o.state) stayed.stepped));
      turns = turns_behind (steps_of a.state.records.schedule) (steps_of b.state.records.schedule) (steps_of u.state.records.schedule) (steps_of v.state.records.schedule) k j p h.turns c.in_ok-advance.ensures.turn stayed.turns;
      goes_on = unanswered m a.sizes p k j a.state u.state leads quiet silence below;
      no_answer = still_silent m a.sizes p k j a.state u.state leads quiet j (omega arith) silence;
    }

pub returns-clause-played : goal.returns-clause-played
returns-clause-played g c =
    let a = c.args.machine.now in
    let b = c.loop-taken.machine in
    let m = g.E.Engine.meaning a.engine in
    let k = c.loop-taken.taken in
    let h = c.loop-taken.invariant in
    played_by m a.sizes (Items.ToAnswer c.args.p) k c.args.limit a.state b.state c.is_halted-2.result c.loop-taken-test.false h.few h.goes_on
    (halted m a.sizes c.args.p k a.state b.state c.is_halted-2.result h.leads h.no_answer c.is_halted-2.ensures) h.leads h.turns
