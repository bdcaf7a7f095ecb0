use Rattle.std.proofs.Common.{List, ap, ◌∙◌, subst}
use Rattle.std.specs.Prelude.{ℤ}
use Rattle.std.proofs.lemmas.Result.{err_from_is_err_and}
use Rattle.ob_checked.specs.CheckedModule.{program_in}
use Rattle.ob_layout.specs.Layout.{parts_of}
use Rattle.ob_text_record.specs.Record.{record_of}
use Rattle.ob_object_run.specs.Recorded.{IsMeantFor, IsNoRun, IsRecorded, scripts_in}
use Rattle.ob_object_perform.proofs.ByCode.{no_run_by_code, recorded_by_code}
use Rattle.ob_tree.specs.View.{tree_parts_in}
use Rattle.ob_tree.specs.declared.engine.TreeEngine.{TreeEngine}
use Rattle.ob_object_perform.proofs.tree_recording.record_tree_run.Goals as goal

pub returns-in_err-machine-clause-fault : goal.returns-in_err-machine-clause-fault
returns-in_err-machine-clause-fault c =
    let e = c.args.engine in
    let scripts = scripts_in c.args.calls.items in
    let items = c.args.items.now in
    let fault = c.in_err-machine.field-0.0 in
    let p = err_from_is_err_and c.from_residual-in_err-machine.result c.from_residual-in_err-machine.ensures.1 in
    rw (p.1, p.2)
    (subst (λ (b : List ℤ). IsNoRun (tree_parts_in e) c.args.n b scripts items fault) (c.as_slice.ensures.value ∙ c.in_ok-words.ensures)
    (no_run_by_code (program_in e.checked.now) e.budget c.args.n c.as_slice.result.now scripts items fault c.in_err-machine.ensures.fault))

pub returns-clause-recorded : goal.returns-clause-recorded
returns-clause-recorded c =
    let e = c.args.engine in
    let scripts = scripts_in c.args.calls.items in
    let items = c.args.items.now in
    let r = record_of c.in_ok-recorded.field-0 in
    let is = c.in_ok-recorded.ensures in
    subst (λ (b : List ℤ). IsRecorded (tree_parts_in e) c.args.n b scripts items r) (c.as_slice.ensures.value ∙ c.in_ok-words.ensures)
    (recorded_by_code (program_in e.checked.now) e.budget c.args.n c.as_slice.result.now scripts items c.in_ok-machine.machine.state c.in_ok-machine.ensures.played r
    is.processes (is.budget ∙ ap (λ (x : TreeEngine). x.budget) c.in_ok-machine.ensures.engine) is.history is.order is.schedule)

pub returns-clause-meant : goal.returns-clause-meant
returns-clause-meant c =
    let variables = (parts_of c.args.layout.now).variables in
    let r = record_of c.in_ok-recorded.field-0 in
    let block = c.in_ok-machine.ensures.opening ∙ c.as_slice.ensures.value ∙ c.in_ok-words.ensures in
    subst (λ (b : List ℤ). IsMeantFor variables (tree_parts_in c.args.engine) b r) block
    (subst (λ (e : TreeEngine). IsMeantFor variables (tree_parts_in e) c.in_ok-machine.machine.opening r) c.in_ok-machine.ensures.engine c.in_ok-recorded.ensures.meant)
