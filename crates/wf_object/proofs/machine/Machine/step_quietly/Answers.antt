use Rattle.std.proofs.Common.{◌≡◌, ◌<◌, List, length, set, true, false, sym, ap, ◌∙◌, refl, arith}
use Rattle.std.specs.Prelude.{None}
use Rattle.std.proofs.lemmas.Option.{same_Some, slice_get_read, get_or_from_slice_get}
use Rattle.wf_table.specs.Object.{State, Records, step_of, noted}
use Rattle.wf_table.specs.Schedule.{steps_of}
use Rattle.wf_table.specs.StepTable.{Process}
use Rattle.wf_table.proofs.Counted.{one_turn}
use Rattle.wf_table.specs.declared.spent.Spent.{Spent}
use Rattle.wf_table.specs.Spent.{unspent, spent_after, has_more}
use Rattle.wf_table.specs.Counted.{spent_of, spent_by_step, count_by}
use Rattle.wf_object.specs.Quiet.{is_quiet}
use Rattle.wf_object.proofs.Keeps.{step_kept}
use Rattle.wf_object.proofs.QuietSteps.{counts_same, noted_quiet}
use Rattle.wf_object.proofs.Spends.{bodies_room, inside_room, outside_room, later}
use Rattle.wf_object.proofs.OneStep.{stands, step_is, label_is}
use Rattle.wf_object.proofs.machine.Machine.step_quietly.Goals as goal

pub count_step-requires-clause-bodies : goal.count_step-requires-clause-bodies
count_step-requires-clause-bodies g c =
    let s = c.self.inside in
    let kept = c.self.invariant in
    let within : c.args.p < s.sizes.processes = rw (← c.self.view_is) at c.requires.process in
    let y = c.index-process.result.now in
    let also = stands s.processes.items s.sizes.processes c.args.p y kept.sound.count within c.index-process.ensures in
    let x = c.index_mut-spent.result.now in
    let count : c.args.p < length s.spent.items = omega (arith, within, kept.spends.count, kept.sound.count) in
    let is : x ≡ spent_of s.spent.items c.args.p = sym (get_or_from_slice_get s.spent.items c.args.p x unspent (slice_get_read s.spent.items (length s.spent.items) c.args.p x refl count c.index_mut-spent.ensures.value)) in
    rw is (bodies_room (g.E.Engine.meaning s.engine) s.sizes y _ kept.sound.sized (kept.sound.in_range _ _ also) (kept.spends.each _ _ also))

pub count_step-requires-clause-inside : goal.count_step-requires-clause-inside
count_step-requires-clause-inside g c =
    let s = c.self.inside in
    let kept = c.self.invariant in
    let within : c.args.p < s.sizes.processes = rw (← c.self.view_is) at c.requires.process in
    let y = c.index-process.result.now in
    let also = stands s.processes.items s.sizes.processes c.args.p y kept.sound.count within c.index-process.ensures in
    let x = c.index_mut-spent.result.now in
    let count : c.args.p < length s.spent.items = omega (arith, within, kept.spends.count, kept.sound.count) in
    let is : x ≡ spent_of s.spent.items c.args.p = sym (get_or_from_slice_get s.spent.items c.args.p x unspent (slice_get_read s.spent.items (length s.spent.items) c.args.p x refl count c.index_mut-spent.ensures.value)) in
    rw is (inside_room s.sizes.processes s.records.schedule _ kept.sound.below.schedule c.few_turns.ensures (kept.among _ _ also))

pub count_step-requires-clause-outside : goal.count_step-requires-clause-outside
count_step-requires-clause-outside g c =
    let s = c.self.inside in
    let kept = c.self.invariant in
    let within : c.args.p < s.sizes.processes = rw (← c.self.view_is) at c.requires.process in
    let y = c.index-process.result.now in
    let also = stands s.processes.items s.sizes.processes c.args.p y kept.sound.count within c.index-process.ensures in
    let x = c.index_mut-spent.result.now in
    let count : c.args.p < length s.spent.items = omega (arith, within, kept.spends.count, kept.sound.count) in
    let is : x ≡ spent_of s.spent.items c.args.p = sym (get_or_from_slice_get s.spent.items c.args.p x unspent (slice_get_read s.spent.items (length s.spent.items) c.args.p x refl count c.index_mut-spent.ensures.value)) in
    rw is (outside_room (g.E.Engine.meaning s.engine) s.sizes y _ kept.sound.sized (kept.sound.in_range _ _ also) (kept.spends.each _ _ also))

pub act-requires-clause-in_range : goal.act-requires-clause-in_range
act-requires-clause-in_range g c =
    let s = c.self.inside in
    let within : c.args.p < s.sizes.processes = rw (← c.self.view_is) at c.requires.process in
    c.self.invariant.sound.in_range _ _ (stands s.processes.items s.sizes.processes c.args.p c.index_mut.result.now c.self.invariant.sound.count within c.index_mut.ensures.value)

pub act-requires-clause-quiet : goal.act-requires-clause-quiet
act-requires-clause-quiet g c =
    let s = c.self.inside in
    let m = g.E.Engine.meaning s.engine in
    let within : c.args.p < s.sizes.processes = rw (← c.self.view_is) at c.requires.process in
    let x = c.index_mut.result.now in
    let at = stands s.processes.items s.sizes.processes c.args.p x c.self.invariant.sound.count within c.index_mut.ensures.value in
    let state : State _ = record { cell = s.shared.cell; processes = s.processes.items; records = s.records } in
    ap is_quiet (label_is m s.sizes state c.args.p x at) ∙ (rw (← c.self.view_is) at c.requires.quiet)

pub act-requires-clause-ready : goal.act-requires-clause-ready
act-requires-clause-ready g c =
    let s = c.self.inside in
    let within : c.args.p < s.sizes.processes = rw (← c.self.view_is) at c.requires.process in
    c.self.invariant.sound.runs_ready _ _ (stands s.processes.items s.sizes.processes c.args.p c.index_mut.result.now c.self.invariant.sound.count within c.index_mut.ensures.value)

pub act-requires-clause-stores_bit : goal.act-requires-clause-stores_bit
act-requires-clause-stores_bit g c =
    let s = c.self.inside in
    let within : c.args.p < s.sizes.processes = rw (← c.self.view_is) at c.requires.process in
    c.self.invariant.sound.stores_bit _ _ (stands s.processes.items s.sizes.processes c.args.p c.index_mut.result.now c.self.invariant.sound.count within c.index_mut.ensures.value)

pub invariant_of-self-2 : goal.invariant_of-self-2
invariant_of-self-2 g c =
    let s = c.self.inside in
    let e = g.E.Engine in
    let m = e.meaning s.engine in
    let within : c.args.p < s.sizes.processes = rw (← c.self.view_is) at c.requires.process in
    let x = c.index_mut.result.now in
    let y = c.index-process.result.now in
    let at = stands s.processes.items s.sizes.processes c.args.p x c.self.invariant.sound.count within c.index_mut.ensures.value in
    let also = stands s.processes.items s.sizes.processes c.args.p y c.self.invariant.sound.count within c.index-process.ensures in
    let same : y ≡ x = same_Some y x (sym also ∙ at) in
    let state : State _ = record { cell = s.shared.cell; processes = s.processes.items; records = s.records } in
    let quiet : is_quiet x.label ≡ true = ap is_quiet (label_is m s.sizes state c.args.p x at) ∙ (rw (← c.self.view_is) at c.requires.quiet) in
    let records = c.in_ok-note_quiet.ensures.ok
    ∙ ap (λ (k : Process _). noted s.records c.args.p k.label 0 None) c.process.view_is
    ∙ ap (λ (k : Process _). noted s.records c.args.p k.label 0 None) same
    ∙ noted_quiet m s.sizes s.records s.shared.cell s.processes.items c.args.p x quiet in
    let sp = c.index_mut-spent.result.now in
    let count : c.args.p < length s.spent.items = omega (arith, within, c.self.invariant.spends.count, c.self.invariant.sound.count) in
    let is : sp ≡ spent_of s.spent.items c.args.p = sym (get_or_from_slice_get s.spent.items c.args.p sp unspent (slice_get_read s.spent.items (length s.spent.items) c.args.p sp refl count c.index_mut-spent.ensures.value)) in
    let spends : c.count_step.new.spent ≡ later m s.sizes state c.args.p x at s.spent.items =
    c.count_step.ensures ∙ ap (λ (k : Spent). spent_after c.process.inside.label false k) is
    ∙ ap (λ (k : Process _). spent_after k.label false (spent_of s.spent.items c.args.p)) c.process.view_is
    ∙ ap (λ (k : Process _). spent_after k.label false (spent_of s.spent.items c.args.p)) same
    ∙ counts_same x.label (has_more x) (spent_of s.spent.items c.args.p) quiet in
    rw (c.act.ensures.cell, c.act.ensures.form, c.act.ensures.process, records, spends)
    (step_kept m (e.lawful s.engine) (e.fits s.engine) (e.ready s.engine) (e.effect s.engine) (g.met.E.Engine.law s.engine) s.sizes s.opening.items state c.args.p x at s.spent.items s.shared.form c.self.invariant)

pub returns-clause-stepped : goal.returns-clause-stepped
returns-clause-stepped g c =
    let s = c.self.inside in
    let e = g.E.Engine in
    let m = e.meaning s.engine in
    let within : c.args.p < s.sizes.processes = rw (← c.self.view_is) at c.requires.process in
    let x = c.index_mut.result.now in
    let y = c.index-process.result.now in
    let at = stands s.processes.items s.sizes.processes c.args.p x c.self.invariant.sound.count within c.index_mut.ensures.value in
    let also = stands s.processes.items s.sizes.processes c.args.p y c.self.invariant.sound.count within c.index-process.ensures in
    let same : y ≡ x = same_Some y x (sym also ∙ at) in
    let state : State _ = record { cell = s.shared.cell; processes = s.processes.items; records = s.records } in
    let quiet : is_quiet x.label ≡ true = ap is_quiet (label_is m s.sizes state c.args.p x at) ∙ (rw (← c.self.view_is) at c.requires.quiet) in
    let records = c.in_ok-note_quiet.ensures.ok
    ∙ ap (λ (k : Process _). noted s.records c.args.p k.label 0 None) c.process.view_is
    ∙ ap (λ (k : Process _). noted s.records c.args.p k.label 0 None) same
    ∙ noted_quiet m s.sizes s.records s.shared.cell s.processes.items c.args.p x quiet in
    let sp = c.index_mut-spent.result.now in
    let count : c.args.p < length s.spent.items = omega (arith, within, c.self.invariant.spends.count, c.self.invariant.sound.count) in
    let is : sp ≡ spent_of s.spent.items c.args.p = sym (get_or_from_slice_get s.spent.items c.args.p sp unspent (slice_get_read s.spent.items (length s.spent.items) c.args.p sp refl count c.index_mut-spent.ensures.value)) in
    let spends : c.count_step.new.spent ≡ later m s.sizes state c.args.p x at s.spent.items =
    c.count_step.ensures ∙ ap (λ (k : Spent). spent_after c.process.inside.label false k) is
    ∙ ap (λ (k : Process _). spent_after k.label false (spent_of s.spent.items c.args.p)) c.process.view_is
    ∙ ap (λ (k : Process _). spent_after k.label false (spent_of s.spent.items c.args.p)) same
    ∙ counts_same x.label (has_more x) (spent_of s.spent.items c.args.p) quiet in
    let moved = step_is m s.sizes state c.args.p x at c.act.new.shared.cell c.act.new.q c.note_quiet.new.self c.act.ensures.cell c.act.ensures.process records in
    let paid : set s.spent.items c.args.p c.count_step.new.spent ≡ spent_by_step state s.spent.items c.args.p =
    ap (λ (k : Spent). set s.spent.items c.args.p k) spends ∙ sym (ap (count_by spent_after unspent s.spent.items c.args.p) at) in
    rw (← c.self.view_is)
    (ap (λ (k : State _). record { engine = s.engine; sizes = s.sizes; opening = s.opening.items; state = k; spent = set s.spent.items c.args.p c.count_step.new.spent }) moved
    ∙ ap (λ (k : List Spent). record { engine = s.engine; sizes = s.sizes; opening = s.opening.items; state = step_of m s.sizes state c.args.p; spent = k }) paid)

pub returns-clause-turn : goal.returns-clause-turn
returns-clause-turn g c =
    let s = c.self.inside in
    rw (← c.self.view_is) (ap (λ (r : Records). steps_of r.schedule) c.in_ok-note_quiet.ensures.ok ∙ one_turn s.records.schedule c.args.p)
