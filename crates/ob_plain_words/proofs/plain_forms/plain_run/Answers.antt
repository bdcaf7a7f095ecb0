-- By the law of `run`.
use Rattle.std.proofs.Common.{◌∙◌, sym, ap, refl, [], ◌∷◌, is_some}
use Rattle.ob_command.specs.CommandLine.{CallsRequest, Run}
use Rattle.ob_command_laws.specs.PlainForms.{Count}
use Rattle.ob_plain_words.proofs.plain_forms.plain_run.Goals as goal

pub returns : goal.returns
returns c =
    let is_module = c.names_file.ensures c.if-not-names_file.false in
    let is_script = c.names_file-else-not-names_file.ensures c.if-not-names_file-2.false in
    let is_schedule = c.names_file-else-not-names_file-2.ensures c.if-not-names_file-3.false in
    let is_count = c.in_ok-processes.ensures in
    ap (λ (calls : CallsRequest). Run (record { calls = calls; schedule_name = c.args.schedule_name.now })) c.calls_of-calls.ensures
    ∙ sym (c.run_is_asked.ensures.code c.args.module_name.now c.args.script_name.now c.args.schedule_name.now (Count c.args.count.now ∷ [])
    c.in_ok-processes.processes is_module is_script is_schedule (refl, ap is_some is_count, refl, tt) is_count
    (refl, (refl, (refl, (refl, (refl, tt))))))
