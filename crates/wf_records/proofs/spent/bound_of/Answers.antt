use Rattle.std.proofs.Common.{refl}
use Rattle.wf_table.specs.Bound.{bound}
use Rattle.wf_records.proofs.spent.bound_of.Goals as goal

pub returns : goal.returns
unfolding bound
returns c = refl
