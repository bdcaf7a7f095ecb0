use Rattle.std.proofs.Common.{List, ◌∙◌, subst}
use Rattle.std.specs.Prelude.{ℤ}
use Rattle.ob_code_engine.specs.CodeEngine.{CompiledParts}
use Rattle.ob_code_correct.specs.Compiled.{IsFitting}
use Rattle.ob_layout.specs.Layout.{parts_of}
use Rattle.ob_text_record.specs.Record.{record_of}
use Rattle.ob_object_run.specs.Recorded.{IsLegalFor, IsMeantFor}
use Rattle.ob_object_run.proofs.recording.record_run.Goals as goal

pub returns-clause-legal : goal.returns-clause-legal
returns-clause-legal c =
    let variables = (parts_of c.args.layout.now).variables in
    let r = record_of c.in_ok-recorded.field-0 in
    let block = c.in_ok-machine.ensures.opening ∙ c.as_slice.ensures.value ∙ c.in_ok-words.ensures in
    subst (λ (b : List ℤ). IsLegalFor variables c.args.engine.parts b r) block
    (subst (λ (e : CompiledParts). IsLegalFor variables e.parts c.in_ok-machine.machine.opening r) c.in_ok-machine.ensures.engine c.in_ok-recorded.ensures.legal)

pub returns-clause-meant : goal.returns-clause-meant
returns-clause-meant c =
    let variables = (parts_of c.args.layout.now).variables in
    let r = record_of c.in_ok-recorded.field-0 in
    let block = c.in_ok-machine.ensures.opening ∙ c.as_slice.ensures.value ∙ c.in_ok-words.ensures in
    subst (λ (b : List ℤ). IsMeantFor variables c.args.engine.parts b r) block
    (subst (λ (e : CompiledParts). IsMeantFor variables e.parts c.in_ok-machine.machine.opening r) c.in_ok-machine.ensures.engine c.in_ok-recorded.ensures.meant)

pub returns-clause-begun : goal.returns-clause-begun
returns-clause-begun c = λ id call has.
    subst (λ (e : CompiledParts). IsFitting e.parts.exports call) c.in_ok-machine.ensures.engine (c.in_ok-recorded.ensures.begun id call has)
