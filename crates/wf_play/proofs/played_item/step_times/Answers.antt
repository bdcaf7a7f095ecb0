use Rattle.std.proofs.Common.{ap, arith}
use Rattle.wf_table.specs.Schedule.{steps_of}
use Rattle.wf_play.proofs.Ends.{more_behind, played_times, same_step, same_steps, still_same, turns_behind}
use Rattle.wf_play.proofs.played_item.step_times.Goals as goal

pub loop-taken-preserved : goal.loop-taken-preserved
loop-taken-preserved g c =
    let a = c.args.machine.now in
    let b = c.loop-taken.machine in
    let u = c.step_once.new.machine in
    let v = c.go_far-taken.new.machine in
    let m = g.E.Engine.meaning a.engine in
    let k = c.loop-taken.taken in
    let h = c.loop-taken.invariant in
    let stepped = c.in_ok-step_once.ensures.stepped in
    let stayed = c.go_far-taken.ensures.stepped in
    let same = still_same b u a _ _ stepped h.object in
    record {
      object = still_same u v a _ _ stayed same;
      few = omega (arith, c.go_far-taken.ensures.few);
      leads = more_behind m a.sizes c.args.p k c.go_far-taken.result a.state b.state u.state v.state h.leads
          (same_step g.E.Engine.meaning a b u.state c.args.p h.object (ap (λ o. o.state) stepped))
          (same_steps g.E.Engine.meaning a u v.state c.args.p c.go_far-taken.result same (ap (λ o. o.state) stayed));
      turns = turns_behind (steps_of a.state.records.schedule) (steps_of b.state.records.schedule) (steps_of u.state.records.schedule) (steps_of v.state.records.schedule) k c.go_far-taken.result c.args.p h.turns c.in_ok-step_once.ensures.turn c.go_far-taken.ensures.turns;
    }

pub returns-clause-played : goal.returns-clause-played
returns-clause-played g c =
    let a = c.args.machine.now in
    let h = c.loop-taken.invariant in
    played_times (g.E.Engine.meaning a.engine) a.sizes c.args.p c.args.count c.args.limit c.loop-taken.taken a.state c.loop-taken.machine.state (omega (arith, h.few)) (omega arith) h.leads h.turns
