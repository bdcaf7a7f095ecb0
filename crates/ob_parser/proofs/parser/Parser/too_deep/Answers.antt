use Rattle.std.proofs.Common.{Option, ap, sym}
use Rattle.std.specs.Option.{option_map_or}
use Rattle.ob_scan.specs.Lexemes.{Lexeme, place_of}
use Rattle.ob_parser.specs.declared.parser.ParseFault.TheVariants.{TooDeep}
use Rattle.ob_parser.proofs.parser.Parser.too_deep.Goals as goal

pub returns : goal.returns
returns g c = sym (ap (λ (t : Option Lexeme). TooDeep (option_map_or place_of t 0)) c.here.ensures.there)
