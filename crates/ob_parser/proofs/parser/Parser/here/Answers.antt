use Rattle.std.proofs.Common.{sym, ◌∙◌, ap, is_some}
use Rattle.ob_parser.proofs.parser.Parser.here.Goals as goal

pub unreachable-requires : goal.unreachable-requires
unreachable-requires g c = let e = ap is_some c.in-None.ensures.token ∙ c.requires in cc
