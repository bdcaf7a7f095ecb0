use Rattle.std.proofs.Common.{rules, ◌≡◌, ◌+◌, ap, arith, refl, sym, subst, ◌∙◌}
use Rattle.wf_table.specs.declared.process.Label.TheVariants.{Load}
use Rattle.wf_object.specs.Progress.{AreUnmarked, IsInObject, Progress, by_rows, progress}
use Rattle.wf_records.specs.Spending.{outside_more}
use Rattle.wf_object.proofs.Progressing.{bit_stored, in_object_after, in_range, in_shape, plain_row, rows_join, unmarked_join, word_brought, word_unmarked}
use Rattle.wf_object.proofs.quiet_steps.copy_words.Goals as goal

pub load-requires-clause-shaped : goal.load-requires-clause-shaped
load-requires-clause-shaped g c =
    let e = g.E.Engine in
    let engine = c.args.engine.now in
    let m = e.meaning engine in
    let first = progress c.args.shared.now.cell c.args.q.now (outside_more c.args.spent.now c.args.outside.now) in
    let here = subst (IsInObject m (e.lawful engine) (e.fits engine) (e.ready engine) c.args.z c.args.p) (sym c.loop-count.invariant.leads)
    (in_object_after m (e.lawful engine) (e.fits engine) (e.ready engine) (e.effect engine) (g.met.E.Engine.law engine) c.args.z c.args.p c.loop-count.count first c.requires.object) in
    in_shape m (e.lawful engine) (e.fits engine) (e.ready engine) (e.effect engine) (g.met.E.Engine.law engine) c.args.z c.args.p _ here

pub load-requires-clause-in_range : goal.load-requires-clause-in_range
load-requires-clause-in_range g c =
    let e = g.E.Engine in
    let engine = c.args.engine.now in
    let m = e.meaning engine in
    let first = progress c.args.shared.now.cell c.args.q.now (outside_more c.args.spent.now c.args.outside.now) in
    let here = subst (IsInObject m (e.lawful engine) (e.fits engine) (e.ready engine) c.args.z c.args.p) (sym c.loop-count.invariant.leads)
    (in_object_after m (e.lawful engine) (e.fits engine) (e.ready engine) (e.effect engine) (g.met.E.Engine.law engine) c.args.z c.args.p c.loop-count.count first c.requires.object) in
    in_range m (e.lawful engine) (e.fits engine) (e.ready engine) (e.effect engine) (g.met.E.Engine.law engine) c.args.z c.args.p _ here

pub store-requires-clause-shaped : goal.store-requires-clause-shaped
store-requires-clause-shaped g c =
    let e = g.E.Engine in
    let engine = c.args.engine.now in
    let m = e.meaning engine in
    let first = progress c.args.shared.now.cell c.args.q.now (outside_more c.args.spent.now c.args.outside.now) in
    let here = subst (IsInObject m (e.lawful engine) (e.fits engine) (e.ready engine) c.args.z c.args.p) (sym c.loop-count.invariant.leads)
    (in_object_after m (e.lawful engine) (e.fits engine) (e.ready engine) (e.effect engine) (g.met.E.Engine.law engine) c.args.z c.args.p c.loop-count.count first c.requires.object) in
    in_shape m (e.lawful engine) (e.fits engine) (e.ready engine) (e.effect engine) (g.met.E.Engine.law engine) c.args.z c.args.p _ here

pub store-requires-clause-in_range : goal.store-requires-clause-in_range
store-requires-clause-in_range g c =
    let e = g.E.Engine in
    let engine = c.args.engine.now in
    let m = e.meaning engine in
    let first = progress c.args.shared.now.cell c.args.q.now (outside_more c.args.spent.now c.args.outside.now) in
    let here = subst (IsInObject m (e.lawful engine) (e.fits engine) (e.ready engine) c.args.z c.args.p) (sym c.loop-count.invariant.leads)
    (in_object_after m (e.lawful engine) (e.fits engine) (e.ready engine) (e.effect engine) (g.met.E.Engine.law engine) c.args.z c.args.p c.loop-count.count first c.requires.object) in
    let inside : c.q.inside.label ≡ Load = search (rules, c.if-eq.true) in
    let is : c.loop-count.q.label ≡ Load = rw (← c.q.view_is) inside in
    let row = plain_row m c.args.z c.args.p Load c.loop-count.shared.cell c.loop-count.shared.cell c.loop-count.q c.load.new.q c.args.spent.now c.loop-count.outside (c.loop-count.outside + 1) 1 refl is refl refl refl c.load.ensures in
    let loaded = subst (IsInObject m (e.lawful engine) (e.fits engine) (e.ready engine) c.args.z c.args.p) (sym row) (in_object_after m (e.lawful engine) (e.fits engine) (e.ready engine) (e.effect engine) (g.met.E.Engine.law engine) c.args.z c.args.p 1 _ here) in
    in_range m (e.lawful engine) (e.fits engine) (e.ready engine) (e.effect engine) (g.met.E.Engine.law engine) c.args.z c.args.p _ loaded

pub store-requires-clause-stores_bit : goal.store-requires-clause-stores_bit
store-requires-clause-stores_bit g c =
    let e = g.E.Engine in
    let engine = c.args.engine.now in
    let m = e.meaning engine in
    let first = progress c.args.shared.now.cell c.args.q.now (outside_more c.args.spent.now c.args.outside.now) in
    let here = subst (IsInObject m (e.lawful engine) (e.fits engine) (e.ready engine) c.args.z c.args.p) (sym c.loop-count.invariant.leads)
    (in_object_after m (e.lawful engine) (e.fits engine) (e.ready engine) (e.effect engine) (g.met.E.Engine.law engine) c.args.z c.args.p c.loop-count.count first c.requires.object) in
    let inside : c.q.inside.label ≡ Load = search (rules, c.if-eq.true) in
    let is : c.loop-count.q.label ≡ Load = rw (← c.q.view_is) inside in
    let row = plain_row m c.args.z c.args.p Load c.loop-count.shared.cell c.loop-count.shared.cell c.loop-count.q c.load.new.q c.args.spent.now c.loop-count.outside (c.loop-count.outside + 1) 1 refl is refl refl refl c.load.ensures in
    let loaded = subst (IsInObject m (e.lawful engine) (e.fits engine) (e.ready engine) c.args.z c.args.p) (sym row) (in_object_after m (e.lawful engine) (e.fits engine) (e.ready engine) (e.effect engine) (g.met.E.Engine.law engine) c.args.z c.args.p 1 _ here) in
    bit_stored m (e.lawful engine) (e.fits engine) (e.ready engine) (e.effect engine) (g.met.E.Engine.law engine) c.args.z c.args.p _ loaded

pub loop-count-preserved : goal.loop-count-preserved
loop-count-preserved g c =
    let m = g.E.Engine.meaning c.args.engine.now in
    let z = c.args.z in
    let p = c.args.p in
    let x = c.args.spent.now in
    let first = progress c.args.shared.now.cell c.args.q.now (outside_more x c.args.outside.now) in
    let k = c.loop-count.count in
    let h = c.loop-count.invariant in
    let inside : c.q.inside.label ≡ Load = search (rules, c.if-eq.true) in
    let is : c.loop-count.q.label ≡ Load = rw (← c.q.view_is) inside in
    record {
      few = omega arith;
      outside = omega (arith, h.outside);
      form = c.store.ensures.form ∙ h.form;
      leads = word_brought m z p c.loop-count.shared.cell c.store.new.shared.cell c.loop-count.q c.load.new.q c.store.new.q x c.loop-count.outside _ is refl c.load.ensures c.store.ensures.cell c.store.ensures.process ∙ ap (by_rows m z p 2) h.leads ∙ rows_join m z p k 2 first;
      unmarked = unmarked_join m z p k 2 first h.unmarked (subst (λ (u : Progress _). AreUnmarked m z p 2 u) h.leads (word_unmarked m z p c.loop-count.shared.cell c.loop-count.q (outside_more x c.loop-count.outside) is));
    }
