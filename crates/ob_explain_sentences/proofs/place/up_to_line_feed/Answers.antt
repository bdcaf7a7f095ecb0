use Rattle.std.proofs.Common.{rules, tests, not}
use Rattle.std.proofs.lemmas.Iterator.{YieldsList-from_slice}
use Rattle.std.proofs.lemmas.Iterator.Search.{YieldsList-from_take_while}
use Rattle.std.proofs.lemmas.Iterator.Consumers.{YieldsList-at, count_from_yields_List}
use Rattle.ob_explain_sentences.proofs.WordLemmas.{taken_while}
use Rattle.ob_explain_sentences.specs.Places.{is_line_feed}
use Rattle.ob_explain_sentences.proofs.place.up_to_line_feed.Goals as goal

pub returns : goal.returns
returns c =
    taken_while (λ b. not (is_line_feed b)) c.args.text.now c.count-length.result
    (count_from_yields_List c.take_while.result _ c.count-length.ensures.ran
    (YieldsList-from_take_while _ (λ b. not (is_line_feed b))
    (YieldsList-at c.take_while.ensures.source (YieldsList-from_slice c.args.text.now c.iter.ensures.rest))
    c.take_while.ensures.closure c.take_while.ensures.done (λ x b q k. search (rules, tests))))
