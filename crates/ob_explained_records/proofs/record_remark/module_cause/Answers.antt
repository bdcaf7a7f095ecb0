use Rattle.std.proofs.Common.{◌≡◌, ◌∙◌, ap, ap₂, sym, map, subst, option_map, string_bytes}
use Rattle.std.proofs.lemmas.Result.{IfOk-weaker}
use Rattle.ob_checked.specs.CheckedModule.{program_in}
use Rattle.ob_checked.specs.Exports.{signatures}
use Rattle.ob_checked.specs.View.{table_of, variable_of}
use Rattle.ob_explained_lines.specs.Causes.{cause_of, has_openings, head_words}
use Rattle.ob_explained_records.proofs.VariableNames.{names_of}
use Rattle.ob_explained_records.specs.FormRemarks.{IsPlacedCause, of_module, of_none, opened_at}
use Rattle.ob_typing.specs.Program.{Program}
use Rattle.ob_explained_records.proofs.record_remark.module_cause.Goals as goal

pub returns-in_ok-openings-in-Ok : goal.returns-in_ok-openings-in-Ok
returns-in_ok-openings-in-Ok c =
    let program = program_in c.in-Ok.checked in
    let types = table_of c.program.result.now.types in
    let own : map (variable_of types) c.as_slice-variables.result.now ≡ program.variables =
    ap (map (variable_of types)) c.as_slice-variables.ensures.value ∙ ap (λ (p : Program). p.variables) c.program.ensures.program in
    let names : map (λ v. string_bytes v.name) c.as_slice-variables.result.now ≡ map (λ v. v.name) program.variables =
    sym (names_of types c.as_slice-variables.result.now) ∙ ap (map (λ v. v.name)) own in
    let opened =
    c.opened_at-opened.ensures ∙ ap₂ (λ b ns. opened_at b ns c.said_number.result) c.in_ok-openings-in-Ok.ensures names
    ∙ ap (opened_at (has_openings (head_words c.args.text.now 1)) (map (λ v. v.name) program.variables)) c.said_number.ensures in
    IfOk-weaker c.placed_cause.result _ _
    (λ cause is. of_module program c.in-Ok.ensures.program
    (subst (λ name. IsPlacedCause name (record { text = c.args.object.now; exports = signatures program }) c.args.text.now c.args.number (option_map cause_of cause)) opened
    (rw c.exports.ensures at is)))
    c.placed_cause.ensures

pub returns-in-Err : goal.returns-in-Err
returns-in-Err c = IfOk-weaker c.no_cause.result _ _ (λ cause no. rw no.0 (of_none no.1)) c.no_cause.ensures
