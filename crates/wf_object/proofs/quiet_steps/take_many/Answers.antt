use Rattle.std.proofs.Common.{◌≡◌, ◌+◌, ap, ◌∙◌, subst, arith}
use Rattle.wf_table.specs.declared.spent.Spent.{Spent}
use Rattle.wf_object.specs.Progress.{AreUnmarked, Progress, by_rows, progress}
use Rattle.wf_object.proofs.Progressing.{bit_stored, in_object_so, in_processes, in_range, in_shape, in_sizes, room_outside, rows_inside, rows_join, unmarked_join}
use Rattle.wf_object.proofs.quiet_steps.take_many.Goals as goal
use Rattle.wf_object.proofs.quiet_steps.take_many.Goals.{else-loop-count-test, then-loop-count-test+then-some-eq0}

pub take_some-some-requires-clause-object : goal.take_some-some-requires-clause-object
take_some-some-requires-clause-object g c =
    let e = g.E.Engine in
    let engine = c.args.engine.now in
    let m = e.meaning engine in
    let first = progress c.args.shared.now.cell c.args.q.now c.args.spent.now in
    in_object_so m (e.lawful engine) (e.fits engine) (e.ready engine) (e.effect engine) (g.met.E.Engine.law engine) c.args.z c.args.p c.loop-count.count first _ c.requires.object c.loop-count.invariant.leads

pub take_some-some-requires-clause-sized : goal.take_some-some-requires-clause-sized
take_some-some-requires-clause-sized g c =
    let e = g.E.Engine in
    let engine = c.args.engine.now in
    let m = e.meaning engine in
    in_sizes m (e.lawful engine) (e.fits engine) (e.ready engine) (e.effect engine) (g.met.E.Engine.law engine) c.args.z c.args.p _ c.requires.object

pub take_some-some-requires-clause-process : goal.take_some-some-requires-clause-process
take_some-some-requires-clause-process g c =
    let e = g.E.Engine in
    let engine = c.args.engine.now in
    let m = e.meaning engine in
    in_processes m (e.lawful engine) (e.fits engine) (e.ready engine) (e.effect engine) (g.met.E.Engine.law engine) c.args.z c.args.p _ c.requires.object

pub take_some-some-requires-clause-shaped : goal.take_some-some-requires-clause-shaped
take_some-some-requires-clause-shaped g c =
    let e = g.E.Engine in
    let engine = c.args.engine.now in
    let m = e.meaning engine in
    let first = progress c.args.shared.now.cell c.args.q.now c.args.spent.now in
    let here = in_object_so m (e.lawful engine) (e.fits engine) (e.ready engine) (e.effect engine) (g.met.E.Engine.law engine) c.args.z c.args.p c.loop-count.count first _ c.requires.object c.loop-count.invariant.leads in
    in_shape m (e.lawful engine) (e.fits engine) (e.ready engine) (e.effect engine) (g.met.E.Engine.law engine) c.args.z c.args.p _ here

pub take_some-some-requires-clause-in_range : goal.take_some-some-requires-clause-in_range
take_some-some-requires-clause-in_range g c =
    let e = g.E.Engine in
    let engine = c.args.engine.now in
    let m = e.meaning engine in
    let first = progress c.args.shared.now.cell c.args.q.now c.args.spent.now in
    let here = in_object_so m (e.lawful engine) (e.fits engine) (e.ready engine) (e.effect engine) (g.met.E.Engine.law engine) c.args.z c.args.p c.loop-count.count first _ c.requires.object c.loop-count.invariant.leads in
    in_range m (e.lawful engine) (e.fits engine) (e.ready engine) (e.effect engine) (g.met.E.Engine.law engine) c.args.z c.args.p _ here

pub take_some-some-requires-clause-stores_bit : goal.take_some-some-requires-clause-stores_bit
take_some-some-requires-clause-stores_bit g c =
    let e = g.E.Engine in
    let engine = c.args.engine.now in
    let m = e.meaning engine in
    let first = progress c.args.shared.now.cell c.args.q.now c.args.spent.now in
    let here = in_object_so m (e.lawful engine) (e.fits engine) (e.ready engine) (e.effect engine) (g.met.E.Engine.law engine) c.args.z c.args.p c.loop-count.count first _ c.requires.object c.loop-count.invariant.leads in
    bit_stored m (e.lawful engine) (e.fits engine) (e.ready engine) (e.effect engine) (g.met.E.Engine.law engine) c.args.z c.args.p _ here

pub take_some-some-requires-clause-room : goal.take_some-some-requires-clause-room
take_some-some-requires-clause-room g c =
    let m = g.E.Engine.meaning c.args.engine.now in
    let first = progress c.args.shared.now.cell c.args.q.now c.args.spent.now in
    let k = c.loop-count.count in
    let same : c.loop-count.spent.inside ≡ (by_rows m c.args.z c.args.p k first).spent.inside = ap (λ (u : Progress _). u.spent.inside) c.loop-count.invariant.leads in
    omega (arith, same, rows_inside m c.args.z c.args.p k first, c.requires.room, c.loop-count.invariant.few)

pub loop-count-preserved : goal.loop-count-preserved
loop-count-preserved g c =
    let m = g.E.Engine.meaning c.args.engine.now in
    let z = c.args.z in
    let p = c.args.p in
    let first = progress c.args.shared.now.cell c.args.q.now c.args.spent.now in
    let k = c.loop-count.count in
    let j = c.take_some-some.result in
    let h = c.loop-count.invariant in
    let taken = c.take_some-some.ensures in
    record {
      few = omega (arith, h.few, taken.few);
      outside = omega (arith, h.outside, taken.outside);
      form = taken.form ∙ h.form;
      leads = taken.leads ∙ ap (by_rows m z p j) h.leads ∙ rows_join m z p k j first;
      unmarked = unmarked_join m z p k j first h.unmarked (subst (λ (u : Progress _). AreUnmarked m z p j u) h.leads taken.unmarked);
    }

pub count_outside-requires : goal.count_outside-requires
count_outside-requires g c =
    let e = g.E.Engine in
    let engine = c.args.engine.now in
    let m = e.meaning engine in
    let z = c.args.z in
    let p = c.args.p in
    let first = progress c.args.shared.now.cell c.args.q.now c.args.spent.now in
    let k = c.loop-count.count in
    let h = c.loop-count.invariant in
    elim c.loop-count-test.branch [
      | else-loop-count-test w ↦
          let here = in_object_so m (e.lawful engine) (e.fits engine) (e.ready engine) (e.effect engine) (g.met.E.Engine.law engine) z p k first _ c.requires.object h.leads in
          omega (arith, ap (λ (x : Spent). x.outside) w.spent-is, w.outside-is, room_outside m (e.lawful engine) (e.fits engine) (e.ready engine) (e.effect engine) (g.met.E.Engine.law engine) z p _ here)
      | then-loop-count-test+then-some-eq0 w ↦
          let taken = w.take_some-some.ensures in
          let j = w.take_some-some.result in
          let here = in_object_so m (e.lawful engine) (e.fits engine) (e.ready engine) (e.effect engine) (g.met.E.Engine.law engine) z p (k + j) first _ c.requires.object (taken.leads ∙ ap (by_rows m z p j) h.leads ∙ rows_join m z p k j first) in
          omega (arith, ap (λ (x : Spent). x.outside) w.spent-is, w.outside-is, room_outside m (e.lawful engine) (e.fits engine) (e.ready engine) (e.effect engine) (g.met.E.Engine.law engine) z p _ here)
    ]
