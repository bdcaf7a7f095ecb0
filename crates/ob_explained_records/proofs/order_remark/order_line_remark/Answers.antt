use Rattle.std.proofs.Common.{string_bytes}
use Rattle.ob_explained_records.proofs.order_remark.order_line_remark.Goals as goal

pub returns : goal.returns
returns c =
    record {
      place = c.in_ok-place.place;
      stands = c.in_ok-place.ensures;
      sentence = string_bytes c.in_ok-sentence.sentence;
      says = c.in_ok-sentence.ensures;
      told = c.told_at.ensures;
    }
