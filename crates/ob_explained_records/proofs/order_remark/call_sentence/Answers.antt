use Rattle.std.proofs.Common.{rules}
use Rattle.ob_explained_records.proofs.order_remark.call_sentence.Goals as goal

pub returns : goal.returns
returns c =
    record {
      begin = c.in_ok-begin.begin;
      begins = c.in_ok-begin.ensures;
      end = c.in_ok-end.end;
      ends = c.in_ok-end.ensures;
      says = search rules;
    }
