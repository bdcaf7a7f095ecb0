use Rattle.ob_layout.proofs.Decoded.{whole_is}
use Rattle.ob_layout.proofs.decoding.whole.Goals as goal

pub returns : goal.returns
returns c words = whole_is c.in_ok-parts.parts c.in_ok-parts.behind words c.args.read c.in_ok-parts.was
