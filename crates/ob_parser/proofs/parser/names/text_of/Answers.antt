use Rattle.ob_parser.proofs.Texts.{utf8_bytes}
use Rattle.ob_parser.proofs.parser.names.text_of.Goals as goal

pub unreachable-requires : goal.unreachable-requires
unreachable-requires c = c.in-Err.ensures.cases.0 (utf8_bytes c.args.bytes.now c.requires)
