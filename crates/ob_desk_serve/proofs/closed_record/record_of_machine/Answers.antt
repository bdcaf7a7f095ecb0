use Rattle.std.proofs.Common.{◌≡◌, ◌<◌, ◌∙◌, All, ap, subst, sym, ℕ}
use Rattle.ob_code_correct.specs.CodeMeaning.{EngineParts}
use Rattle.ob_desk_serve.proofs.Closed.{is_object, legal_of, meant_of}
use Rattle.ob_object_compile.specs.View.{object_in}
use Rattle.ob_text_record.specs.Record.{Record, record_of}
use Rattle.ob_object_run.specs.Recorded.{DoFit}
use Rattle.ob_desk_serve.specs.PromisesOfServe.{IsLegalRecord, IsMeantRecord}
use Rattle.wf_table.specs.declared.schedule.Turns.{Turns}
use Rattle.ob_desk_serve.proofs.closed_record.record_of_machine.Goals as goal

pub recorded-requires : goal.recorded-requires
recorded-requires c =
    let o = object_in c.args.object.now in
    let m = c.args.machine in
    is_object o m.engine.parts m.opening c.requires.sound c.requires.code c.requires.opening _ c.layout.ensures

-- the record is that of the run but for the values that were carried over

pub returns-clause-legal : goal.returns-clause-legal
returns-clause-legal c =
    let o = object_in c.args.object.now in
    let m = c.args.machine in
    subst (λ (r : Record). IsLegalRecord o r) (sym c.begun_by.ensures)
    (legal_of o m.engine.parts m.opening c.requires.sound c.requires.code c.requires.opening _ c.layout.ensures (record_of c.in_ok-shown.shown) c.in_ok-shown.ensures.legal)

pub returns-clause-meant : goal.returns-clause-meant
returns-clause-meant c =
    let o = object_in c.args.object.now in
    let m = c.args.machine in
    subst (λ (r : Record). IsMeantRecord o r) (sym c.begun_by.ensures)
    (meant_of o m.engine.parts m.opening c.requires.sound c.requires.code c.requires.opening _ c.layout.ensures (record_of c.in_ok-shown.shown) _ c.in_ok-shown.ensures.meant)

pub returns-clause-budget : goal.returns-clause-budget
returns-clause-budget c =
    ap (λ (r : Record). r.budget) c.begun_by.ensures
    ∙ subst (λ (p : EngineParts). c.in_ok-shown.shown.budget ≡ p.budget) c.requires.code c.in_ok-shown.ensures.budget

pub returns-clause-begun : goal.returns-clause-begun
returns-clause-begun c =
    subst (λ (r : Record). DoFit (object_in c.args.object.now).engine r.history) (sym c.begun_by.ensures)
    (subst (λ (p : EngineParts). DoFit p c.in_ok-shown.shown.history) c.requires.code c.in_ok-shown.ensures.begun)

pub returns-clause-turns : goal.returns-clause-turns
returns-clause-turns c =
    subst (λ (r : Record). All (λ (t : Turns). t.process < (object_in c.args.object.now).processes) r.schedule) (sym c.begun_by.ensures)
    (subst (λ (n : ℕ). All (λ (t : Turns). t.process < n) c.in_ok-shown.shown.schedule.items) c.requires.processes c.in_ok-shown.ensures.turns)
