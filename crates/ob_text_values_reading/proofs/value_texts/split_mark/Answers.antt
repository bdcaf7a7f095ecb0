use Rattle.std.proofs.Common.{not, rules, tests}
use Rattle.std.proofs.lemmas.Iterator.{YieldsList-from_slice}
use Rattle.std.proofs.lemmas.Iterator.Search.{YieldsList-from_take_while}
use Rattle.std.proofs.lemmas.Iterator.Consumers.{YieldsList-at, count_from_yields_List}
use Rattle.ob_text_values_reading.proofs.Marks.{split_alone, split_ends}
use Rattle.ob_text_values_reading.specs.Taking.{is_mark}
use Rattle.ob_text_values_reading.proofs.value_texts.split_mark.Goals as goal

pub returns-clause-ends : goal.returns-clause-ends
returns-clause-ends c =
    split_ends c.args.text.now _ _
    (count_from_yields_List c.take_while.result _ c.count-count.ensures.ran
    (YieldsList-from_take_while _ (λ b. not (is_mark b))
    (YieldsList-at c.take_while.ensures.source (YieldsList-from_slice c.args.text.now c.iter.ensures.rest))
    c.take_while.ensures.closure c.take_while.ensures.done (λ x b q k. search (rules, tests))))
    c.split_at.ensures.back

pub returns-clause-alone : goal.returns-clause-alone
returns-clause-alone c =
    split_alone c.args.text.now _ _ _
    (count_from_yields_List c.take_while.result _ c.count-count.ensures.ran
    (YieldsList-from_take_while _ (λ b. not (is_mark b))
    (YieldsList-at c.take_while.ensures.source (YieldsList-from_slice c.args.text.now c.iter.ensures.rest))
    c.take_while.ensures.closure c.take_while.ensures.done (λ x b q k. search (rules, tests))))
    c.split_at.ensures.front c.split_at.ensures.back (search rules)
