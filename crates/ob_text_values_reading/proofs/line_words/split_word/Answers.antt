use Rattle.std.proofs.Common.{◌+◌, ◌∙◌, sym}
use Rattle.std.proofs.lemmas.List.{take_rest}
use Rattle.ob_text_values_reading.proofs.WordsTaken.{nothing_left, word_to, word_whole}
use Rattle.ob_text_values_reading.proofs.line_words.split_word.Goals as goal

pub returns-in-Some-clause-words : goal.returns-in-Some-clause-words
returns-in-Some-clause-words c =
    rw (take_rest c.args.text.now (c.in-Some.place + 1)) (word_to c.args.text.now c.in-Some.place c.requires (sym c.blank_in.ensures ∙ c.in-Some.is))

pub returns-in-None-clause-words : goal.returns-in-None-clause-words
returns-in-None-clause-words c =
    rw (nothing_left c.args.text.now) (word_whole c.args.text.now c.requires (sym c.blank_in.ensures ∙ c.in-None.is))
