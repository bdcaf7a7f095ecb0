-- What is said of the first line of a record.
use Rattle.std.specs.Prelude.{ℕ, List, codes, if◌then◌else◌}
use Rattle.ob_explain_arguments.specs.Marks.{begins, byte_order_mark, order_mark_sentence}

-- by what it has from its first word on
abbrev pub title_sentence : List ℕ → List ℕ
title_sentence from =
    if begins byte_order_mark from then order_mark_sentence
    else codes "the first line of a record is obl0 record 2, or obl0 record 1, which has no budget, or obl0 record 3, which has I lines"
