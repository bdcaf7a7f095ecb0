use Rattle.std.proofs.Common.{rules, tests}
use Rattle.std.proofs.lemmas.Iterator.{YieldsList-from_slice}
use Rattle.std.proofs.lemmas.Iterator.Search.{YieldsList-from_take_while}
use Rattle.std.proofs.lemmas.Iterator.Consumers.{YieldsList-at, count_from_yields_List}
use Rattle.ob_explain_sentences.proofs.WordLemmas.{taken_while}
use Rattle.ob_explain_sentences.specs.Shown.{goes_on_word}
use Rattle.ob_explain_sentences.proofs.shown.word_bytes.Goals as goal

pub returns : goal.returns
returns c =
    taken_while goes_on_word c.args.line.now c.count-length.result
    (count_from_yields_List c.take_while.result _ c.count-length.ensures.ran
    (YieldsList-from_take_while _ goes_on_word
    (YieldsList-at c.take_while.ensures.source (YieldsList-from_slice c.args.line.now c.iter.ensures.rest))
    c.take_while.ensures.closure c.take_while.ensures.done (λ x b q k. search (rules, tests))))
