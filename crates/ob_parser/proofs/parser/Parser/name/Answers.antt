use Rattle.ob_parser.proofs.Names.{went_name}
use Rattle.ob_parser.proofs.States.{true_at}
use Rattle.ob_parser.proofs.parser.Parser.name.Goals as goal

pub returns : goal.returns
returns g c =
    went_name _ _ c.take-place.ensures.steps (true_at c.if-not-at.ensures.kind) c.bytes.ensures.spelling c.in_ok-text.ensures
    c.take-place.ensures.place
