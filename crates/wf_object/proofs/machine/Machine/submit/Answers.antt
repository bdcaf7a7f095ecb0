use Rattle.std.proofs.Common.{◌<◌, ℕ, sym, ap}
use Rattle.ob_interface.specs.View.{call_of}
use Rattle.wf_table.specs.Object.{State, submit_by}
use Rattle.wf_table.specs.StepTable.{Process}
use Rattle.wf_object.proofs.Keeps.{submit_kept}
use Rattle.wf_object.proofs.OneStep.{stands, number_is}
use Rattle.wf_object.proofs.machine.Machine.submit.Goals as goal

pub invariant_of-self-2 : goal.invariant_of-self-2
invariant_of-self-2 g c =
    let s = c.self.inside in
    let within : c.args.p < s.sizes.processes = rw (← c.self.view_is) at c.requires.process in
    let fit = rw (← c.self.view_is) at c.requires.fits in
    let x = c.index_mut-process.result.now in
    let at = stands s.processes.items s.sizes.processes c.args.p x c.self.invariant.sound.count within c.index_mut-process.ensures.value in
    let e = g.E.Engine in
    let state : State _ = record { cell = s.shared.cell; processes = s.processes.items; records = s.records } in
    rw (c.in_ok-number.ensures.submitted)
    (submit_kept (e.meaning s.engine) (e.lawful s.engine) (e.fits s.engine) (e.ready s.engine) (e.effect s.engine) (g.met.E.Engine.law s.engine) s.sizes s.opening.items state c.args.p x at s.spent.items s.shared.form c.self.invariant (call_of c.args.call) fit)

pub returns-clause-submitted : goal.returns-clause-submitted
returns-clause-submitted g c =
    let s = c.self.inside in
    let within : c.args.p < s.sizes.processes = rw (← c.self.view_is) at c.requires.process in
    let x = c.index_mut-process.result.now in
    let at = stands s.processes.items s.sizes.processes c.args.p x c.self.invariant.sound.count within c.index_mut-process.ensures.value in
    let state : State _ = record { cell = s.shared.cell; processes = s.processes.items; records = s.records } in
    rw (← c.self.view_is, c.in_ok-number.ensures.submitted) (ap (λ (k : State _). record { engine = s.engine; sizes = s.sizes; opening = s.opening.items; state = k; spent = s.spent.items }) (sym (ap (submit_by state c.args.p (call_of c.args.call)) at)))

pub returns-clause-id : goal.returns-clause-id
returns-clause-id g c =
    let s = c.self.inside in
    let within : c.args.p < s.sizes.processes = rw (← c.self.view_is) at c.requires.process in
    let x = c.index_mut-process.result.now in
    let at = stands s.processes.items s.sizes.processes c.args.p x c.self.invariant.sound.count within c.index_mut-process.ensures.value in
    let state : State _ = record { cell = s.shared.cell; processes = s.processes.items; records = s.records } in
    rw (← c.self.view_is) (ap (λ (n : ℕ). record { process = c.args.p; number = n }) (number_is (g.E.Engine.meaning s.engine) s.sizes state c.args.p x at c.in_ok-number.number c.submit.new.self.calls (call_of c.args.call) c.in_ok-number.ensures.number (ap (λ (q : Process _). q.calls) c.in_ok-number.ensures.submitted)))
