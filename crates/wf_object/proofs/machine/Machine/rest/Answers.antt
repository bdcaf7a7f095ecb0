use Rattle.std.proofs.Common.{◌≡◌, ◌<◌, true, List, sym, ap, ◌∙◌, arith}
use Rattle.std.specs.Prelude.{Option, Some}
use Rattle.wf_table.specs.Object.{State, Records}
use Rattle.wf_table.specs.Schedule.{steps_of}
use Rattle.wf_table.specs.StepTable.{Process}
use Rattle.wf_table.specs.declared.spent.Spent.{Spent}
use Rattle.wf_object.specs.Halted.{is_halted, is_halted_by}
use Rattle.wf_object.specs.InARow.{after_steps, spent_after_steps}
use Rattle.wf_object.proofs.Halting.{rests, rests_free, rests_kept}
use Rattle.wf_object.proofs.OneStep.{some_at}
use Rattle.wf_records.proofs.Counting.{times_longer}
use Rattle.wf_object.proofs.machine.Machine.rest.Goals as goal

pub invariant_of-self : goal.invariant_of-self
invariant_of-self g c =
    let s = c.self.inside in
    let e = g.E.Engine in
    let kept = c.self.invariant in
    let p = c.args.p in
    let within : p < s.sizes.processes = rw (← c.self.view_is) at c.requires in
    let (q, at) = some_at s.processes.items p (omega (arith, within, kept.sound.count)) in
    let state : State _ = record { cell = s.shared.cell; processes = s.processes.items; records = s.records } in
    let halts : is_halted state p ≡ true = rw (← c.self.view_is) at (sym c.is_halted.ensures ∙ c.if-not-is_halted.false) in
    let halted : is_halted_by (Some q) ≡ true = sym (ap (λ (o : Option (Process _)). is_halted_by o) at) ∙ halts in
    rw c.count_more.ensures
    (rests_kept (e.meaning s.engine) (e.lawful s.engine) (e.fits s.engine) (e.ready s.engine) (e.effect s.engine) (g.met.E.Engine.law s.engine) s.sizes s.opening.items state p q at halted s.spent.items s.shared.form c.room-count.result kept)

pub returns-clause-stepped : goal.returns-clause-stepped
returns-clause-stepped g c =
    let s = c.self.inside in
    let m = g.E.Engine.meaning s.engine in
    let kept = c.self.invariant in
    let p = c.args.p in
    let k = c.room-count.result in
    let within : p < s.sizes.processes = rw (← c.self.view_is) at c.requires in
    let (q, at) = some_at s.processes.items p (omega (arith, within, kept.sound.count)) in
    let state : State _ = record { cell = s.shared.cell; processes = s.processes.items; records = s.records } in
    let halts : is_halted state p ≡ true = rw (← c.self.view_is) at (sym c.is_halted.ensures ∙ c.if-not-is_halted.false) in
    let halted : is_halted_by (Some q) ≡ true = sym (ap (λ (o : Option (Process _)). is_halted_by o) at) ∙ halts in
    let moved : ◌≡◌ {A = State _} (record { cell = s.shared.cell; processes = s.processes.items; records = c.count_more.new.self }) (after_steps m s.sizes p k state) =
    ap (λ (r : Records). record { cell = s.shared.cell; processes = s.processes.items; records = r }) c.count_more.ensures
    ∙ sym (rests m s.sizes p q halted state at k) in
    let paid : s.spent.items ≡ spent_after_steps m s.sizes p k state s.spent.items = sym (rests_free m s.sizes p q halted state s.spent.items at k) in
    rw (← c.self.view_is)
    (ap (λ (y : State _). record { engine = s.engine; sizes = s.sizes; opening = s.opening.items; state = y; spent = s.spent.items }) moved
    ∙ ap (λ (y : List Spent). record { engine = s.engine; sizes = s.sizes; opening = s.opening.items; state = after_steps m s.sizes p k state; spent = y }) paid)

pub returns-clause-turns : goal.returns-clause-turns
returns-clause-turns g c =
    let s = c.self.inside in
    rw (← c.self.view_is) (ap (λ (r : Records). steps_of r.schedule) c.count_more.ensures ∙ times_longer s.records.schedule c.args.p c.room-count.result)
