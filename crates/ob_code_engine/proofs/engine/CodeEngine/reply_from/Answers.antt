use Rattle.std.proofs.Common.{List, ap, ◌∙◌}
use Rattle.ob_interface.specs.Call.{Answers}
use Rattle.ob_interface.specs.declared.export.Formal.{Formal}
use Rattle.ob_code_correct.specs.CodeMeaning.{values_of}
use Rattle.ob_code_engine.proofs.engine.CodeEngine.reply_from.Goals as goal

pub returns : goal.returns
returns c =
    c.reply_in.ensures ∙ ap (λ (fs : List Formal). Answers (values_of fs c.args.words.now)) c.parameters_of.ensures.value
