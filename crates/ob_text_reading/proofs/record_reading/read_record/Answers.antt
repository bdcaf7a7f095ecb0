use Rattle.std.proofs.Common.{◌∙◌, ap, map}
use Rattle.ob_text_reading.proofs.RecordHeads.{counted_from_one, one_record, text_fault}
use Rattle.ob_text_values_reading.specs.Comments.{line_number}
use Rattle.ob_text_words.specs.Words.{lines, words}
use Rattle.ob_text_reading.proofs.record_reading.read_record.Goals as goal

pub line_number-requires : goal.line_number-requires
line_number-requires c = counted_from_one _ (rw c.in-Err-Form.field-0-is at c.in-Err-Form.ensures.fault)

pub returns-in-Err-Form-clause-fault : goal.returns-in-Err-Form-clause-fault
returns-in-Err-Form-clause-fault c =
    text_fault _ c.args.text.now _
    (record {
      own = c.in-Err-Form.own;
      stands = rw (c.in-Err-Form.field-0-is, c.without_last_feed-text.ensures) at c.in-Err-Form.ensures.fault;
      counted = c.line_number.ensures ∙ ap (λ text. line_number (map words (lines text)) c.in-Err-Form.own) c.without_last_feed-text.ensures;
    })

pub returns-in-Ok-clause-alone : goal.returns-in-Ok-clause-alone
returns-in-Ok-clause-alone c = λ other h. one_record _ h (rw c.without_last_feed-text.ensures at c.in-Ok.ensures.record)
