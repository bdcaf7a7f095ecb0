use Rattle.std.proofs.Common.{◌∙◌, ap, count_by, map}
use Rattle.ob_fault_lines.specs.Counts.{begins_with}
use Rattle.ob_text_words.specs.Words.{lines, words}
use Rattle.ob_fault_lines.proofs.Counted.{counts_events, letter_of_begin}
use Rattle.ob_fault_lines.proofs.call_counts.begun_calls.Goals as goal

pub returns : goal.returns
returns c =
    counts_events _ _ letter_of_begin c.args.text.now c.lines_with.result
    (c.lines_with.ensures ∙ ap (λ text. count_by (begins_with 66) (map words (lines text))) c.without_last_feed.ensures)
