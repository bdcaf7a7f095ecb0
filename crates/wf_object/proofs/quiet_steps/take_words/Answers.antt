use Rattle.std.proofs.Common.{arith}
use Rattle.wf_object.specs.Progress.{progress}
use Rattle.wf_object.proofs.Progressing.{in_object_so, in_processes, in_range, in_shape, room_outside}
use Rattle.wf_object.proofs.quiet_steps.take_words.Goals as goal

pub post-requires-clause-shaped : goal.post-requires-clause-shaped
post-requires-clause-shaped g c =
    let e = g.E.Engine in
    let engine = c.args.engine.now in
    let m = e.meaning engine in
    let first = progress c.args.shared.now.cell c.args.q.now c.args.spent.now in
    let here = in_object_so m (e.lawful engine) (e.fits engine) (e.ready engine) (e.effect engine) (g.met.E.Engine.law engine) c.args.z c.args.p c.loop-count.count first _ c.requires.object c.loop-count.invariant.leads in
    in_shape m (e.lawful engine) (e.fits engine) (e.ready engine) (e.effect engine) (g.met.E.Engine.law engine) c.args.z c.args.p _ here

pub post-requires-clause-process : goal.post-requires-clause-process
post-requires-clause-process g c =
    let e = g.E.Engine in
    let engine = c.args.engine.now in
    let m = e.meaning engine in
    let first = progress c.args.shared.now.cell c.args.q.now c.args.spent.now in
    in_processes m (e.lawful engine) (e.fits engine) (e.ready engine) (e.effect engine) (g.met.E.Engine.law engine) c.args.z c.args.p _ c.requires.object

pub post-requires-clause-in_range : goal.post-requires-clause-in_range
post-requires-clause-in_range g c =
    let e = g.E.Engine in
    let engine = c.args.engine.now in
    let m = e.meaning engine in
    let first = progress c.args.shared.now.cell c.args.q.now c.args.spent.now in
    let here = in_object_so m (e.lawful engine) (e.fits engine) (e.ready engine) (e.effect engine) (g.met.E.Engine.law engine) c.args.z c.args.p c.loop-count.count first _ c.requires.object c.loop-count.invariant.leads in
    in_range m (e.lawful engine) (e.fits engine) (e.ready engine) (e.effect engine) (g.met.E.Engine.law engine) c.args.z c.args.p _ here

pub take_reply-requires-clause-shaped : goal.take_reply-requires-clause-shaped
take_reply-requires-clause-shaped g c =
    let e = g.E.Engine in
    let engine = c.args.engine.now in
    let m = e.meaning engine in
    let first = progress c.args.shared.now.cell c.args.q.now c.args.spent.now in
    let here = in_object_so m (e.lawful engine) (e.fits engine) (e.ready engine) (e.effect engine) (g.met.E.Engine.law engine) c.args.z c.args.p c.loop-count.count first _ c.requires.object c.loop-count.invariant.leads in
    in_shape m (e.lawful engine) (e.fits engine) (e.ready engine) (e.effect engine) (g.met.E.Engine.law engine) c.args.z c.args.p _ here

pub take_reply-requires-clause-process : goal.take_reply-requires-clause-process
take_reply-requires-clause-process g c =
    let e = g.E.Engine in
    let engine = c.args.engine.now in
    let m = e.meaning engine in
    let first = progress c.args.shared.now.cell c.args.q.now c.args.spent.now in
    in_processes m (e.lawful engine) (e.fits engine) (e.ready engine) (e.effect engine) (g.met.E.Engine.law engine) c.args.z c.args.p _ c.requires.object

pub take_reply-requires-clause-in_range : goal.take_reply-requires-clause-in_range
take_reply-requires-clause-in_range g c =
    let e = g.E.Engine in
    let engine = c.args.engine.now in
    let m = e.meaning engine in
    let first = progress c.args.shared.now.cell c.args.q.now c.args.spent.now in
    let here = in_object_so m (e.lawful engine) (e.fits engine) (e.ready engine) (e.effect engine) (g.met.E.Engine.law engine) c.args.z c.args.p c.loop-count.count first _ c.requires.object c.loop-count.invariant.leads in
    in_range m (e.lawful engine) (e.fits engine) (e.ready engine) (e.effect engine) (g.met.E.Engine.law engine) c.args.z c.args.p _ here

pub count_outside-requires : goal.count_outside-requires
count_outside-requires g c =
    let e = g.E.Engine in
    let engine = c.args.engine.now in
    let m = e.meaning engine in
    let first = progress c.args.shared.now.cell c.args.q.now c.args.spent.now in
    let here = in_object_so m (e.lawful engine) (e.fits engine) (e.ready engine) (e.effect engine) (g.met.E.Engine.law engine) c.args.z c.args.p c.loop-count.count first _ c.requires.object c.loop-count.invariant.leads in
    omega (arith, room_outside m (e.lawful engine) (e.fits engine) (e.ready engine) (e.effect engine) (g.met.E.Engine.law engine) c.args.z c.args.p _ here)
