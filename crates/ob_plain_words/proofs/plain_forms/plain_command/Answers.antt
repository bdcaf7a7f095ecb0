-- By the words one by one.
use Rattle.ob_plain_words.proofs.WordsInOrder.{by_one, by_two, by_three_counted, by_two_counted, same_word}
use Rattle.ob_plain_words.proofs.plain_forms.plain_command.Goals as goal

pub returns-in-len2 : goal.returns-in-len2
returns-in-len2 c =
    let named = same_word _ _ c.eq.result c.eq.ensures c.if-eq.true in
    by_one c.plain_check.result c.args.words.now _ _ _ c.in-len2.len_at_least c.in-len2.len_below named c.plain_check.ensures

pub returns-in-len3 : goal.returns-in-len3
returns-in-len3 c =
    let named = same_word _ _ c.eq-then-words-lt4.result c.eq-then-words-lt4.ensures c.if-eq-2.true in
    by_two c.plain_seq.result c.args.words.now _ _ _ _ c.in-len3.len_at_least c.in-len3.len_below named c.plain_seq.ensures

pub returns-in-len5 : goal.returns-in-len5
returns-in-len5 c =
    let named = same_word _ _ c.eq-then-words-lt6.result c.eq-then-words-lt6.ensures c.if-eq-3.true in
    let optional = same_word _ _ c.eq-then-eq-3.result c.eq-then-eq-3.ensures c.if-eq-4.true in
    by_two_counted c.plain_outcomes.result c.args.words.now _ _ _ _ _ _ _ c.in-len5.len_at_least c.in-len5.len_below named optional c.plain_outcomes.ensures

pub returns-in-len6 : goal.returns-in-len6
returns-in-len6 c =
    let named = same_word _ _ c.eq-then-words-lt7.result c.eq-then-words-lt7.ensures c.if-eq-5.true in
    let optional = same_word _ _ c.eq-then-eq-5.result c.eq-then-eq-5.ensures c.if-eq-6.true in
    by_three_counted c.plain_run.result c.args.words.now _ _ _ _ _ _ _ _ c.in-len6.len_at_least c.in-len6.len_below named optional c.plain_run.ensures
