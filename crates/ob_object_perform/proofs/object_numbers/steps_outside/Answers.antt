use Rattle.std.proofs.Common.{refl}
use Rattle.wf_table.specs.Bound.{bound}
use Rattle.wf_table.proofs.Sums.{bound_few}
use Rattle.ob_object_perform.proofs.object_numbers.steps_outside.Goals as goal

pub returns-clause-bound : goal.returns-clause-bound
unfolding bound
returns-clause-bound c = refl

pub returns-clause-few : goal.returns-clause-few
unfolding bound
returns-clause-few c = bound_few c.args.sizes c.requires
