use Rattle.std.proofs.Common.{sym}
use Rattle.ob_parser.proofs.Phrases.{reads_word, reads_no_word}
use Rattle.ob_parser.proofs.States.{at_here, away, false_at, true_at, stays, went_as, went_one}
use Rattle.ob_parser.proofs.parser.Parser.word.Goals as goal

pub returns-then-is_here : goal.returns-then-is_here
returns-then-is_here g c = λ continues e.
    went_as (sym c.if-is_here.true) (went_one c.take.ensures.steps (λ _ _ w. reads_word (at_here w (true_at c.if-is_here.ensures.kind)) e))

pub returns-else-is_here : goal.returns-else-is_here
returns-else-is_here g c = λ continues e.
    went_as (sym c.if-is_here.false) (stays (λ _ _ w. reads_no_word (away w (false_at c.if-is_here.ensures.kind))))
