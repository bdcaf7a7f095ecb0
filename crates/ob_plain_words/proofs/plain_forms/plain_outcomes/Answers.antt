-- By the law of `outcomes`.
use Rattle.std.proofs.Common.{◌∙◌, sym, ap, refl, [], ◌∷◌, None, false, is_some}
use Rattle.ob_command.specs.CommandLine.{CallsRequest, Outcomes}
use Rattle.ob_command_laws.specs.PlainForms.{Count}
use Rattle.ob_plain_words.proofs.plain_forms.plain_outcomes.Goals as goal

pub returns : goal.returns
returns c =
    let is_module = c.names_file.ensures c.if-not-names_file.false in
    let is_script = c.names_file-else-not-names_file.ensures c.if-not-names_file-2.false in
    let is_count = c.in_ok-processes.ensures in
    ap (λ (calls : CallsRequest). Outcomes (record { calls = calls; always = None; whole = false; most = 1000000 })) c.calls_of-calls.ensures
    ∙ sym (c.outcomes_is_asked.ensures.runs c.in_ok-processes.processes c.args.module_name.now c.args.script_name.now (Count c.args.count.now ∷ [])
    is_module is_script (refl, ap is_some is_count, refl, tt) (is_count, refl, λ both. let bad = both.0 in cc))
