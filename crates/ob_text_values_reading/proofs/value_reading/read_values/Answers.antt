use Rattle.std.proofs.Common.{◌∙◌, ap, map}
use Rattle.ob_text_values_reading.proofs.VariableLines.{are_distinct, counted_from_one, one_list, text_fault}
use Rattle.ob_text_values_reading.specs.Comments.{line_number}
use Rattle.ob_text_words.specs.Words.{lines, words}
use Rattle.ob_text_values_reading.proofs.value_reading.read_values.Goals as goal

pub line_number-requires : goal.line_number-requires
line_number-requires c = counted_from_one (rw c.in-Err-Form.field-0-is at c.in-Err-Form.ensures.fault)

pub returns-in-Err-Form-clause-fault : goal.returns-in-Err-Form-clause-fault
returns-in-Err-Form-clause-fault c =
    text_fault c.args.text.now _
    (record {
      own = c.in-Err-Form.own;
      stands = rw (c.in-Err-Form.field-0-is, c.without_last_feed-text.ensures) at c.in-Err-Form.ensures.fault;
      counted = c.line_number.ensures ∙ ap (λ text. line_number (map words (lines text)) c.in-Err-Form.own) c.without_last_feed-text.ensures;
    })

pub returns-in-Ok-clause-alone : goal.returns-in-Ok-clause-alone
returns-in-Ok-clause-alone c = λ other h. one_list h (rw c.without_last_feed-text.ensures at c.in-Ok.ensures.values)

pub returns-in-Ok-clause-distinct : goal.returns-in-Ok-clause-distinct
returns-in-Ok-clause-distinct c = are_distinct _ _ c.in-Ok.ensures.values
