use Rattle.std.proofs.Common.{rules, tests}
use Rattle.std.specs.Char.{is_ascii_digit}
use Rattle.std.proofs.lemmas.Iterator.{YieldsList-from_slice}
use Rattle.std.proofs.lemmas.Iterator.Search.{YieldsList-from_take_while}
use Rattle.std.proofs.lemmas.Iterator.Consumers.{YieldsList-at, count_from_yields_List}
use Rattle.ob_text_words.proofs.DigitParts.{split_here}
use Rattle.ob_text_words.proofs.numbers.split_digits.Goals as goal

pub returns-clause-alone : goal.returns-clause-alone
returns-clause-alone c =
    split_here c.args.word.now _ _ _
    (count_from_yields_List c.take_while.result _ c.count-count.ensures.ran
    (YieldsList-from_take_while _ is_ascii_digit
    (YieldsList-at c.take_while.ensures.source (YieldsList-from_slice c.args.word.now c.iter.ensures.rest))
    c.take_while.ensures.closure c.take_while.ensures.done (λ x b q k. search (rules, tests))))
    c.split_at.ensures.front c.split_at.ensures.back
