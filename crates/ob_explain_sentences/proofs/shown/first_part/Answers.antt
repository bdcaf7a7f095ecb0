use Rattle.std.proofs.Common.{arith, sym, length-take-le}
use Rattle.ob_explain_sentences.proofs.shown.first_part.Goals as goal

pub slice_bounds-result-length : goal.slice_bounds-result-length
slice_bounds-result-length c = sym (length-take-le 79 c.args.bytes.now (omega arith))
