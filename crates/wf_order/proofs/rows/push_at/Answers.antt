-- One row is longer.
use Rattle.std.proofs.Common.{arith}
use Rattle.wf_order.proofs.Lists.{pushed_at}
use Rattle.wf_order.proofs.rows.push_at.Goals as goal

pub returns : goal.returns
returns g c = pushed_at (λ row. row.items) c.args.rows.now.items c.args.row c.index_mut.result.now c.push.new.self c.args.item (let k = c.args.rows.now.ok.0 in omega arith) c.index_mut.ensures.value c.in_ok-push.ensures.items
