use Rattle.std.proofs.Common.{◌∙◌, ap, string_bytes}
use Rattle.ob_checked.specs.CheckedModule.{program_in}
use Rattle.ob_object_perform.specs.Texts.{texts_of}
use Rattle.ob_text_record.specs.Record.{record_of}
use Rattle.ob_object_perform.proofs.Spending.{printed}
use Rattle.ob_object_perform.specs.Spent.{steps_text}
use Rattle.ob_object_perform.proofs.spent_printing.run_text_with_steps.Goals as goal

pub returns-clause-run : goal.returns-clause-run
returns-clause-run c =
    printed (texts_of c.args.texts) (program_in c.in_ok-checked.checked) (record_of c.in_ok-checked.record) c.in_ok-checked.ended.items
    (string_bytes c.in_ok-lines.lines) (string_bytes c.in_ok-steps.steps) c.in_ok-checked.ensures.run c.count_events.ensures c.in_ok-lines.ensures (c.in_ok-steps.ensures ∙ ap steps_text c.as_slice.ensures.value)
