use Rattle.std.proofs.Common.{◌∙◌, sym}
use Rattle.wf_table.specs.Object.{State}
use Rattle.wf_table.proofs.HelpAndOrderLaws.{order_once}
use Rattle.wf_table.proofs.Timed.{never_before}
use Rattle.wf_table.proofs.Legal.{legal}
use Rattle.wf_object.proofs.machine.Machine.order.Goals as goal

pub returns-clause-legal : goal.returns-clause-legal
returns-clause-legal g c =
    let s = c.self.inside in
    let e = g.E.Engine in
    let kept = c.self.invariant in
    let state : State _ = record { cell = s.shared.cell; processes = s.processes.items; records = s.records } in
    rw (← c.self.view_is, c.order.ensures) (legal (e.meaning s.engine) (e.lawful s.engine) (e.fits s.engine) (e.ready s.engine) (e.effect s.engine) (g.met.E.Engine.law s.engine) s.sizes s.opening.items state kept.sound kept.committed kept.helped.root kept.answered)

pub returns-clause-once : goal.returns-clause-once
returns-clause-once g c = let s = c.self.inside in rw (c.order.ensures) (order_once s.sizes s.shared.cell s.processes.items s.records c.self.invariant.committed.ordered)

pub returns-clause-in_time : goal.returns-clause-in_time
returns-clause-in_time g c =
    let s = c.self.inside in
    let kept = c.self.invariant.committed in
    rw (← c.self.view_is)
    (λ first second third a b split before. never_before s.records.history s.records.order first second third a b (order_once s.sizes s.shared.cell s.processes.items s.records kept.ordered) kept.timed (sym c.order.ensures ∙ split) before)
