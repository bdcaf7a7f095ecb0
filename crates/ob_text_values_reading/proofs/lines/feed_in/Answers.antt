use Rattle.ob_text_values_reading.proofs.FirstLines.{found_first}
use Rattle.ob_text_values_reading.proofs.lines.feed_in.Goals as goal

pub returns : goal.returns
returns c = found_first c.args.text.now c.memchr.result c.memchr.ensures
