-- By the law of `seq`.
use Rattle.std.proofs.Common.{◌∙◌, sym, ap, [], false}
use Rattle.ob_command.specs.CommandLine.{CallsRequest, Seq}
use Rattle.ob_plain_words.proofs.plain_forms.plain_seq.Goals as goal

pub returns : goal.returns
returns c =
    let is_module = c.names_file.ensures c.if-not-names_file.false in
    let is_script = c.names_file-else-not-names_file.ensures c.if-not-names_file-2.false in
    ap (λ (calls : CallsRequest). Seq (record { calls = calls; state = false; turns = false })) c.calls_of-calls.ensures
    ∙ sym (c.seq_is_asked.ensures.calls c.args.module_name.now c.args.script_name.now [] is_module is_script tt tt)
