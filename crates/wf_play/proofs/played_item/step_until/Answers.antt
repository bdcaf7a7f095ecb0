use Rattle.std.proofs.Common.{ap, arith}
use Rattle.ob_text_words.specs.declared.item.Item.TheVariants as Items
use Rattle.wf_table.specs.Schedule.{steps_of}
use Rattle.wf_play.proofs.Ends.{elsewhere, goes_on, more_behind, one_more, played_by, quiet_inside, same_inside, same_object, same_step, same_steps, still_same, there, turns_behind}
use Rattle.wf_play.proofs.played_item.step_until.Goals as goal

pub loop-taken-preserved : goal.loop-taken-preserved
loop-taken-preserved g c =
    let a = c.args.machine.now in
    let b = c.loop-taken.machine in
    let u = c.step_once.new.machine in
    let v = c.stay_elsewhere-taken.new.machine in
    let m = g.E.Engine.meaning a.engine in
    let p = c.args.p in
    let k = c.loop-taken.taken in
    let j = c.stay_elsewhere-taken.result in
    let h = c.loop-taken.invariant in
    let stepped = c.in_ok-step_once.ensures.stepped in
    let stayed = c.stay_elsewhere-taken.ensures in
    let same = still_same b u a _ _ stepped h.object in
    let step = same_step g.E.Engine.meaning a b u.state p h.object (ap (λ o. o.state) stepped) in
    let inside = same_inside g.E.Engine.meaning a u p j same stayed.inside in
    let below = goes_on m a.sizes (Items.Until p c.args.label) k a.state c.is_there.result c.if-is_there.false h.goes_on (there m a.sizes p k c.args.label a.state b.state c.is_there.result h.leads c.is_there.ensures) in
    record {
      object = same_object u v a stayed.object same;
      few = omega (arith, stayed.few);
      leads = more_behind m a.sizes p k j a.state b.state u.state v.state h.leads step (same_steps g.E.Engine.meaning a u v.state p j same stayed.leads);
      turns = turns_behind (steps_of a.state.records.schedule) (steps_of b.state.records.schedule) (steps_of u.state.records.schedule) (steps_of v.state.records.schedule) k j p h.turns c.in_ok-step_once.ensures.turn stayed.turns;
      goes_on = elsewhere m a.sizes p k j a.state u.state (one_more m a.sizes p k a.state b.state u.state h.leads step) (quiet_inside m a.sizes p j u.state inside) inside c.args.label stayed.elsewhere below;
    }

pub returns-clause-played : goal.returns-clause-played
returns-clause-played g c =
    let a = c.args.machine.now in
    let b = c.loop-taken.machine in
    let m = g.E.Engine.meaning a.engine in
    let k = c.loop-taken.taken in
    let h = c.loop-taken.invariant in
    played_by m a.sizes (Items.Until c.args.p c.args.label) k c.args.limit a.state b.state c.is_there-2.result c.loop-taken-test.false h.few h.goes_on
    (there m a.sizes c.args.p k c.args.label a.state b.state c.is_there-2.result h.leads c.is_there-2.ensures) h.leads h.turns
