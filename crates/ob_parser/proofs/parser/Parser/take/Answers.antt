use Rattle.std.proofs.Common.{Option, sym, ap}
use Rattle.std.specs.Option.{option_map_or}
use Rattle.ob_scan.specs.Lexemes.{Lexeme, place_of}
use Rattle.ob_parser.proofs.States.{went_token}
use Rattle.ob_parser.proofs.parser.Parser.take.Goals as goal

pub returns-clause-place : goal.returns-clause-place
returns-clause-place g c = sym (ap (λ (t : Option Lexeme). option_map_or place_of t 0) c.here-place.ensures.there)

pub returns-clause-took : goal.returns-clause-took
returns-clause-took g c = λ k h.
    went_token _ c.step.ensures h (sym (ap (λ (t : Option Lexeme). option_map_or place_of t 0) c.here-place.ensures.there))
