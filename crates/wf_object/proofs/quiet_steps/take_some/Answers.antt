use Rattle.std.proofs.Common.{◌≡◌, ◌+◌, ap, refl, sym, subst, ◌∙◌}
use Rattle.wf_table.specs.declared.process.Label.{Label}
use Rattle.wf_table.specs.declared.process.Label.TheVariants.{Try, Link, Store, Check1, Mine, Seen, Fetch, Check2, Enter, Body, Undo, Keep}
use Rattle.wf_table.specs.StepTable.{cell_after, check, row}
use Rattle.wf_table.specs.declared.spent.Spent.{Spent}
use Rattle.wf_table.specs.Spent.{has_more, spent_after}
use Rattle.wf_object.specs.Progress.{progress}
use Rattle.wf_records.specs.Spending.{outside_more}
use Rattle.wf_object.specs.Quiet.{is_unmarked}
use Rattle.wf_object.proofs.Progressing.{in_body, one_unmarked, outside_next, plain_row, plain_row_unmarked, room_of_bodies, same_progress}
use Rattle.wf_object.proofs.quiet_steps.take_some.Goals as goal

pub returns-in-Body-clause-leads : goal.returns-in-Body-clause-leads
returns-in-Body-clause-leads g c =
    let e = g.E.Engine in
    let engine = c.args.engine.now in
    let n = c.args.outside.now in
    let h = progress c.args.shared.now.cell c.args.q.now (outside_more c.args.spent.now n) in
    let is : c.args.q.now.label ≡ Body = rw (← c.q.view_is) c.in-Body.is in
    let rows = in_body (e.meaning engine) (e.lawful engine) (e.fits engine) (e.ready engine) (e.effect engine) (g.met.E.Engine.law engine) c.args.z c.args.p h c.requires.object is c.stay-count.result c.stay-count.ensures.on in
    same_progress (progress c.stay-count.new.shared.cell c.stay-count.new.q (outside_more c.count_inside.new.spent n)) _ c.stay-count.ensures.cell c.stay-count.ensures.process (ap (λ (x : Spent). outside_more x n) c.count_inside.ensures) ∙ rows.0

pub returns-in-Body-clause-unmarked : goal.returns-in-Body-clause-unmarked
returns-in-Body-clause-unmarked g c =
    let e = g.E.Engine in
    let engine = c.args.engine.now in
    let h = progress c.args.shared.now.cell c.args.q.now (outside_more c.args.spent.now c.args.outside.now) in
    let is : c.args.q.now.label ≡ Body = rw (← c.q.view_is) c.in-Body.is in
    let rows = in_body (e.meaning engine) (e.lawful engine) (e.fits engine) (e.ready engine) (e.effect engine) (g.met.E.Engine.law engine) c.args.z c.args.p h c.requires.object is c.stay-count.result c.stay-count.ensures.on in
    rows.1

pub returns-in-Enter-clause-leads : goal.returns-in-Enter-clause-leads
returns-in-Enter-clause-leads g c =
    let m = g.E.Engine.meaning c.args.engine.now in
    let q = c.args.q.now in
    let cell = c.args.shared.now.cell in
    let x = c.args.spent.now in
    let n = c.args.outside.now in
    let begun = record x { bodies = x.bodies + 1 } in
    let is : q.label ≡ Enter = rw (← c.q.view_is) c.in-Enter.is in
    subst
    (λ (l : Label). progress cell c.enter.new.q (outside_more begun (n + 1)) ≡ progress (cell_after cell c.args.p (row l m c.args.z cell c.args.p q).change) (row l m c.args.z cell c.args.p q).process (spent_after l (has_more q) (outside_more x n)))
    (sym is)
    (same_progress (progress cell c.enter.new.q (outside_more begun (n + 1))) _ refl c.enter.ensures (outside_next begun n))

pub returns-in-Enter-clause-unmarked : goal.returns-in-Enter-clause-unmarked
returns-in-Enter-clause-unmarked g c =
    let is : c.args.q.now.label ≡ Enter = rw (← c.q.view_is) c.in-Enter.is in
    one_unmarked (g.E.Engine.meaning c.args.engine.now) c.args.z c.args.p (progress c.args.shared.now.cell c.args.q.now (outside_more c.args.spent.now c.args.outside.now)) (ap is_unmarked is)

pub returns-in-Try-clause-leads : goal.returns-in-Try-clause-leads
returns-in-Try-clause-leads g c =
    plain_row (g.E.Engine.meaning c.args.engine.now) c.args.z c.args.p Try c.args.shared.now.cell c.args.shared.now.cell c.args.q.now c.try_round.new.q c.args.spent.now c.args.outside.now c.counted.new.outside c.counted.result refl (rw (← c.q.view_is) c.in-Try.is) c.counted.ensures.more c.counted.ensures.one (refl) (c.try_round.ensures.process)

pub returns-in-Try-clause-unmarked : goal.returns-in-Try-clause-unmarked
returns-in-Try-clause-unmarked g c =
    plain_row_unmarked (g.E.Engine.meaning c.args.engine.now) c.args.z c.args.p Try c.args.shared.now.cell c.args.q.now (outside_more c.args.spent.now c.args.outside.now) c.counted.result refl (rw (← c.q.view_is) c.in-Try.is) c.counted.ensures.one

pub returns-in-Link-clause-leads : goal.returns-in-Link-clause-leads
returns-in-Link-clause-leads g c =
    plain_row (g.E.Engine.meaning c.args.engine.now) c.args.z c.args.p Link c.args.shared.now.cell c.link.new.shared.cell c.args.q.now c.link.new.q c.args.spent.now c.args.outside.now c.counted-in-Link.new.outside c.counted-in-Link.result refl (rw (← c.q.view_is) c.in-Link.is) c.counted-in-Link.ensures.more c.counted-in-Link.ensures.one (c.link.ensures.cell) (c.link.ensures.process)

pub returns-in-Link-clause-unmarked : goal.returns-in-Link-clause-unmarked
returns-in-Link-clause-unmarked g c =
    plain_row_unmarked (g.E.Engine.meaning c.args.engine.now) c.args.z c.args.p Link c.args.shared.now.cell c.args.q.now (outside_more c.args.spent.now c.args.outside.now) c.counted-in-Link.result refl (rw (← c.q.view_is) c.in-Link.is) c.counted-in-Link.ensures.one

pub returns-in-Store-clause-leads : goal.returns-in-Store-clause-leads
returns-in-Store-clause-leads g c =
    plain_row (g.E.Engine.meaning c.args.engine.now) c.args.z c.args.p Store c.args.shared.now.cell c.store.new.shared.cell c.args.q.now c.store.new.q c.args.spent.now c.args.outside.now c.counted-in-Store.new.outside c.counted-in-Store.result refl (rw (← c.q.view_is) c.in-Store.is) c.counted-in-Store.ensures.more c.counted-in-Store.ensures.one (c.store.ensures.cell) (c.store.ensures.process)

pub returns-in-Store-clause-unmarked : goal.returns-in-Store-clause-unmarked
returns-in-Store-clause-unmarked g c =
    plain_row_unmarked (g.E.Engine.meaning c.args.engine.now) c.args.z c.args.p Store c.args.shared.now.cell c.args.q.now (outside_more c.args.spent.now c.args.outside.now) c.counted-in-Store.result refl (rw (← c.q.view_is) c.in-Store.is) c.counted-in-Store.ensures.one

pub returns-in-Check1-clause-leads : goal.returns-in-Check1-clause-leads
returns-in-Check1-clause-leads g c =
    plain_row (g.E.Engine.meaning c.args.engine.now) c.args.z c.args.p Check1 c.args.shared.now.cell c.args.shared.now.cell c.args.q.now c.check.new.q c.args.spent.now c.args.outside.now c.counted-in-Check1.new.outside c.counted-in-Check1.result refl (rw (← c.q.view_is) c.in-Check1.is) c.counted-in-Check1.ensures.more c.counted-in-Check1.ensures.one (refl) (c.check.ensures)

pub returns-in-Check1-clause-unmarked : goal.returns-in-Check1-clause-unmarked
returns-in-Check1-clause-unmarked g c =
    plain_row_unmarked (g.E.Engine.meaning c.args.engine.now) c.args.z c.args.p Check1 c.args.shared.now.cell c.args.q.now (outside_more c.args.spent.now c.args.outside.now) c.counted-in-Check1.result refl (rw (← c.q.view_is) c.in-Check1.is) c.counted-in-Check1.ensures.one

pub returns-in-Mine-clause-leads : goal.returns-in-Mine-clause-leads
returns-in-Mine-clause-leads g c =
    plain_row (g.E.Engine.meaning c.args.engine.now) c.args.z c.args.p Mine c.args.shared.now.cell c.args.shared.now.cell c.args.q.now c.mine.new.q c.args.spent.now c.args.outside.now c.counted-in-Mine.new.outside c.counted-in-Mine.result refl (rw (← c.q.view_is) c.in-Mine.is) c.counted-in-Mine.ensures.more c.counted-in-Mine.ensures.one (refl) (c.mine.ensures)

pub returns-in-Mine-clause-unmarked : goal.returns-in-Mine-clause-unmarked
returns-in-Mine-clause-unmarked g c =
    plain_row_unmarked (g.E.Engine.meaning c.args.engine.now) c.args.z c.args.p Mine c.args.shared.now.cell c.args.q.now (outside_more c.args.spent.now c.args.outside.now) c.counted-in-Mine.result refl (rw (← c.q.view_is) c.in-Mine.is) c.counted-in-Mine.ensures.one

pub returns-in-Seen-clause-leads : goal.returns-in-Seen-clause-leads
returns-in-Seen-clause-leads g c =
    plain_row (g.E.Engine.meaning c.args.engine.now) c.args.z c.args.p Seen c.args.shared.now.cell c.args.shared.now.cell c.args.q.now c.seen.new.q c.args.spent.now c.args.outside.now c.counted-in-Seen.new.outside c.counted-in-Seen.result refl (rw (← c.q.view_is) c.in-Seen.is) c.counted-in-Seen.ensures.more c.counted-in-Seen.ensures.one (refl) (c.seen.ensures)

pub returns-in-Seen-clause-unmarked : goal.returns-in-Seen-clause-unmarked
returns-in-Seen-clause-unmarked g c =
    plain_row_unmarked (g.E.Engine.meaning c.args.engine.now) c.args.z c.args.p Seen c.args.shared.now.cell c.args.q.now (outside_more c.args.spent.now c.args.outside.now) c.counted-in-Seen.result refl (rw (← c.q.view_is) c.in-Seen.is) c.counted-in-Seen.ensures.one

pub returns-in-Fetch-clause-leads : goal.returns-in-Fetch-clause-leads
returns-in-Fetch-clause-leads g c =
    plain_row (g.E.Engine.meaning c.args.engine.now) c.args.z c.args.p Fetch c.args.shared.now.cell c.args.shared.now.cell c.args.q.now c.fetch.new.q c.args.spent.now c.args.outside.now c.counted-in-Fetch.new.outside c.counted-in-Fetch.result refl (rw (← c.q.view_is) c.in-Fetch.is) c.counted-in-Fetch.ensures.more c.counted-in-Fetch.ensures.one (refl) (c.fetch.ensures)

pub returns-in-Fetch-clause-unmarked : goal.returns-in-Fetch-clause-unmarked
returns-in-Fetch-clause-unmarked g c =
    plain_row_unmarked (g.E.Engine.meaning c.args.engine.now) c.args.z c.args.p Fetch c.args.shared.now.cell c.args.q.now (outside_more c.args.spent.now c.args.outside.now) c.counted-in-Fetch.result refl (rw (← c.q.view_is) c.in-Fetch.is) c.counted-in-Fetch.ensures.one

pub returns-in-Check2-clause-leads : goal.returns-in-Check2-clause-leads
returns-in-Check2-clause-leads g c =
    plain_row (g.E.Engine.meaning c.args.engine.now) c.args.z c.args.p Check2 c.args.shared.now.cell c.args.shared.now.cell c.args.q.now c.check-in-Check2.new.q c.args.spent.now c.args.outside.now c.counted-in-Check2.new.outside c.counted-in-Check2.result refl (rw (← c.q.view_is) c.in-Check2.is) c.counted-in-Check2.ensures.more c.counted-in-Check2.ensures.one (refl) (c.check-in-Check2.ensures ∙ ap (λ (t : Label). (check t c.args.shared.now.cell c.args.p c.args.q.now).process) c.behind_fetch.ensures)

pub returns-in-Check2-clause-unmarked : goal.returns-in-Check2-clause-unmarked
returns-in-Check2-clause-unmarked g c =
    plain_row_unmarked (g.E.Engine.meaning c.args.engine.now) c.args.z c.args.p Check2 c.args.shared.now.cell c.args.q.now (outside_more c.args.spent.now c.args.outside.now) c.counted-in-Check2.result refl (rw (← c.q.view_is) c.in-Check2.is) c.counted-in-Check2.ensures.one

pub returns-in-Undo-clause-leads : goal.returns-in-Undo-clause-leads
returns-in-Undo-clause-leads g c =
    plain_row (g.E.Engine.meaning c.args.engine.now) c.args.z c.args.p Undo c.args.shared.now.cell c.undo.new.shared.cell c.args.q.now c.undo.new.q c.args.spent.now c.args.outside.now c.counted-in-Undo.new.outside c.counted-in-Undo.result refl (rw (← c.q.view_is) c.in-Undo.is) c.counted-in-Undo.ensures.more c.counted-in-Undo.ensures.one (c.undo.ensures.cell) (c.undo.ensures.process)

pub returns-in-Undo-clause-unmarked : goal.returns-in-Undo-clause-unmarked
returns-in-Undo-clause-unmarked g c =
    plain_row_unmarked (g.E.Engine.meaning c.args.engine.now) c.args.z c.args.p Undo c.args.shared.now.cell c.args.q.now (outside_more c.args.spent.now c.args.outside.now) c.counted-in-Undo.result refl (rw (← c.q.view_is) c.in-Undo.is) c.counted-in-Undo.ensures.one

pub returns-in-Keep-clause-leads : goal.returns-in-Keep-clause-leads
returns-in-Keep-clause-leads g c =
    plain_row (g.E.Engine.meaning c.args.engine.now) c.args.z c.args.p Keep c.args.shared.now.cell c.keep.new.shared.cell c.args.q.now c.keep.new.q c.args.spent.now c.args.outside.now c.counted-in-Keep.new.outside c.counted-in-Keep.result refl (rw (← c.q.view_is) c.in-Keep.is) c.counted-in-Keep.ensures.more c.counted-in-Keep.ensures.one (c.keep.ensures.cell) (c.keep.ensures.process)

pub returns-in-Keep-clause-unmarked : goal.returns-in-Keep-clause-unmarked
returns-in-Keep-clause-unmarked g c =
    plain_row_unmarked (g.E.Engine.meaning c.args.engine.now) c.args.z c.args.p Keep c.args.shared.now.cell c.args.q.now (outside_more c.args.spent.now c.args.outside.now) c.counted-in-Keep.result refl (rw (← c.q.view_is) c.in-Keep.is) c.counted-in-Keep.ensures.one

pub overflow_add-spent : goal.overflow_add-spent
overflow_add-spent g c =
    let e = g.E.Engine in
    let engine = c.args.engine.now in
    record { fits = room_of_bodies (e.meaning engine) (e.lawful engine) (e.fits engine) (e.ready engine) (e.effect engine) (g.met.E.Engine.law engine) c.args.z c.args.p _ c.requires.object }
