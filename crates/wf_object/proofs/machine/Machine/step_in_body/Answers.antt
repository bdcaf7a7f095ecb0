use Rattle.std.proofs.Common.{◌≡◌, ◌^◌, ◌<◌, List, length, set, sym, ap, ◌∙◌, refl, arith}
use Rattle.std.proofs.lemmas.Option.{slice_get_read, get_or_from_slice_get}
use Rattle.ll_cell.specs.Cell.{Cell}
use Rattle.wf_table.specs.declared.process.Label.TheVariants.{Body}
use Rattle.wf_table.specs.Object.{State, Records}
use Rattle.wf_table.specs.Schedule.{steps_of}
use Rattle.wf_table.specs.StepTable.{Process}
use Rattle.wf_table.specs.declared.spent.Spent.{Spent}
use Rattle.wf_table.specs.Spent.{unspent}
use Rattle.wf_table.specs.Counted.{spent_of}
use Rattle.wf_object.specs.InARow.{after_steps, spent_after_steps}
use Rattle.wf_object.specs.InBody.{cell_behind, process_behind}
use Rattle.wf_object.proofs.Staying.{body_inside, body_kept, body_spends, body_steps}
use Rattle.wf_records.proofs.Counting.{times_longer}
use Rattle.wf_object.proofs.InBody.{inside_more}
use Rattle.wf_object.proofs.OneStep.{label_is, stands}
use Rattle.wf_object.proofs.Spends.{inside_room_for}
use Rattle.wf_object.proofs.machine.Machine.step_in_body.Goals as goal

pub stay-count-requires-clause-ready : goal.stay-count-requires-clause-ready
stay-count-requires-clause-ready g c =
    let s = c.self.inside in
    let within : c.args.p < s.sizes.processes = rw (← c.self.view_is) at c.requires.process in
    c.self.invariant.sound.runs_ready _ _ (stands s.processes.items s.sizes.processes c.args.p c.index_mut.result.now c.self.invariant.sound.count within c.index_mut.ensures.value)

pub count_inside-requires : goal.count_inside-requires
count_inside-requires g c =
    let s = c.self.inside in
    let kept = c.self.invariant in
    let within : c.args.p < s.sizes.processes = rw (← c.self.view_is) at c.requires.process in
    let y = c.index_mut.result.now in
    let also = stands s.processes.items s.sizes.processes c.args.p y kept.sound.count within c.index_mut.ensures.value in
    let x = c.index_mut-spent.result.now in
    let count : c.args.p < length s.spent.items = omega (arith, within, kept.spends.count, kept.sound.count) in
    let is : x ≡ spent_of s.spent.items c.args.p = sym (get_or_from_slice_get s.spent.items c.args.p x unspent (slice_get_read s.spent.items (length s.spent.items) c.args.p x refl count c.index_mut-spent.ensures.value)) in
    let short : c.stay-count.result < 2 ^ 64 = omega arith in
    rw is (inside_room_for s.sizes.processes s.records.schedule _ c.stay-count.result kept.sound.below.schedule c.few_turns.ensures (kept.among _ _ also) short)

pub invariant_of-self : goal.invariant_of-self
invariant_of-self g c =
    let s = c.self.inside in
    let e = g.E.Engine in
    let m = e.meaning s.engine in
    let within : c.args.p < s.sizes.processes = rw (← c.self.view_is) at c.requires.process in
    let x = c.index_mut.result.now in
    let at = stands s.processes.items s.sizes.processes c.args.p x c.self.invariant.sound.count within c.index_mut.ensures.value in
    let state : State _ = record { cell = s.shared.cell; processes = s.processes.items; records = s.records } in
    let body : x.label ≡ Body = label_is m s.sizes state c.args.p x at ∙ (rw (← c.self.view_is) at c.requires.body) in
    let sp = c.index_mut-spent.result.now in
    let count : c.args.p < length s.spent.items = omega (arith, within, c.self.invariant.spends.count, c.self.invariant.sound.count) in
    let is : sp ≡ spent_of s.spent.items c.args.p = sym (get_or_from_slice_get s.spent.items c.args.p sp unspent (slice_get_read s.spent.items (length s.spent.items) c.args.p sp refl count c.index_mut-spent.ensures.value)) in
    let spends : c.count_inside.new.spent ≡ inside_more (spent_of s.spent.items c.args.p) c.stay-count.result = c.count_inside.ensures ∙ ap (λ (k : Spent). inside_more k c.stay-count.result) is in
    rw (c.stay-count.ensures.cell, c.stay-count.ensures.form, c.stay-count.ensures.process, c.count_more.ensures, spends)
    (body_kept m (e.lawful s.engine) (e.fits s.engine) (e.ready s.engine) (e.effect s.engine) (g.met.E.Engine.law s.engine) s.sizes s.opening.items state c.args.p x at s.spent.items s.shared.form c.self.invariant body c.stay-count.result c.stay-count.ensures.on)

pub returns-clause-stepped : goal.returns-clause-stepped
returns-clause-stepped g c =
    let s = c.self.inside in
    let e = g.E.Engine in
    let m = e.meaning s.engine in
    let p = c.args.p in
    let within : p < s.sizes.processes = rw (← c.self.view_is) at c.requires.process in
    let x = c.index_mut.result.now in
    let at = stands s.processes.items s.sizes.processes p x c.self.invariant.sound.count within c.index_mut.ensures.value in
    let state : State _ = record { cell = s.shared.cell; processes = s.processes.items; records = s.records } in
    let body : x.label ≡ Body = label_is m s.sizes state p x at ∙ (rw (← c.self.view_is) at c.requires.body) in
    let k = c.stay-count.result in
    let sp = c.index_mut-spent.result.now in
    let count : p < length s.spent.items = omega (arith, within, c.self.invariant.spends.count, c.self.invariant.sound.count) in
    let is : sp ≡ spent_of s.spent.items p = sym (get_or_from_slice_get s.spent.items p sp unspent (slice_get_read s.spent.items (length s.spent.items) p sp refl count c.index_mut-spent.ensures.value)) in
    let moved : ◌≡◌ {A = State _} (record { cell = c.stay-count.new.shared.cell; processes = set s.processes.items p c.stay-count.new.q; records = c.count_more.new.self }) (after_steps m s.sizes p k state) =
    ap (λ (y : Cell). record { cell = y; processes = set s.processes.items p c.stay-count.new.q; records = c.count_more.new.self }) c.stay-count.ensures.cell
    ∙ ap (λ (y : Process _). record { cell = cell_behind m s.sizes s.shared.cell p x k; processes = set s.processes.items p y; records = c.count_more.new.self }) c.stay-count.ensures.process
    ∙ ap (λ (y : Records). record { cell = cell_behind m s.sizes s.shared.cell p x k; processes = set s.processes.items p (process_behind m s.sizes s.shared.cell p x k); records = y }) c.count_more.ensures
    ∙ sym (body_steps m (e.lawful s.engine) (e.fits s.engine) (e.ready s.engine) (e.effect s.engine) (g.met.E.Engine.law s.engine) s.sizes s.opening.items state p x at s.spent.items s.shared.form c.self.invariant body k c.stay-count.ensures.on) in
    let paid : set s.spent.items p c.count_inside.new.spent ≡ spent_after_steps m s.sizes p k state s.spent.items =
    ap (λ (y : Spent). set s.spent.items p y) (c.count_inside.ensures ∙ ap (λ (y : Spent). inside_more y k) is)
    ∙ sym (body_spends m (e.lawful s.engine) (e.fits s.engine) (e.ready s.engine) (e.effect s.engine) (g.met.E.Engine.law s.engine) s.sizes s.opening.items state p x at s.spent.items s.shared.form c.self.invariant body k c.stay-count.ensures.on) in
    rw (← c.self.view_is)
    (ap (λ (y : State _). record { engine = s.engine; sizes = s.sizes; opening = s.opening.items; state = y; spent = set s.spent.items p c.count_inside.new.spent }) moved
    ∙ ap (λ (y : List Spent). record { engine = s.engine; sizes = s.sizes; opening = s.opening.items; state = after_steps m s.sizes p k state; spent = y }) paid)

pub returns-clause-inside : goal.returns-clause-inside
returns-clause-inside g c =
    let s = c.self.inside in
    let e = g.E.Engine in
    let m = e.meaning s.engine in
    let within : c.args.p < s.sizes.processes = rw (← c.self.view_is) at c.requires.process in
    let x = c.index_mut.result.now in
    let at = stands s.processes.items s.sizes.processes c.args.p x c.self.invariant.sound.count within c.index_mut.ensures.value in
    let state : State _ = record { cell = s.shared.cell; processes = s.processes.items; records = s.records } in
    let body : x.label ≡ Body = label_is m s.sizes state c.args.p x at ∙ (rw (← c.self.view_is) at c.requires.body) in
    rw (← c.self.view_is)
    (body_inside m (e.lawful s.engine) (e.fits s.engine) (e.ready s.engine) (e.effect s.engine) (g.met.E.Engine.law s.engine) s.sizes s.opening.items state c.args.p x at s.spent.items s.shared.form c.self.invariant body c.stay-count.result c.stay-count.ensures.on)

pub returns-clause-turns : goal.returns-clause-turns
returns-clause-turns g c =
    let s = c.self.inside in
    rw (← c.self.view_is) (ap (λ (r : Records). steps_of r.schedule) c.count_more.ensures ∙ times_longer s.records.schedule c.args.p c.stay-count.result)
