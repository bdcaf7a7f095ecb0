use Rattle.std.proofs.Common.{Option, length, ap, ◌∙◌}
use Rattle.std.specs.Option.{option_map_or}
use Rattle.ob_scan.specs.Lexemes.{Lexeme, place_of}
use Rattle.ob_parser.specs.declared.parser.ParseFault.TheVariants.{Unexpected}
use Rattle.ob_parser.proofs.parser.Parser.unexpected.Goals as goal

pub returns-in-Some : goal.returns-in-Some
returns-in-Some g c =
    ap (λ (t : Option Lexeme). Unexpected (option_map_or place_of t (length (g.S.TokenSource.state c.args.self.now.source).text))) c.in-Some.ensures.token

pub returns-in-None : goal.returns-in-None
returns-in-None g c =
    ap Unexpected c.end.ensures
    ∙ ap (λ (t : Option Lexeme). Unexpected (option_map_or place_of t (length (g.S.TokenSource.state c.args.self.now.source).text))) c.in-None.ensures.token
