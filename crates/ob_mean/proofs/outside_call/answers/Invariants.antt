use Rattle.std.proofs.Common.{◌≡◌, map, take}
use Rattle.ob_store.specs.View.{held_in}
use Rattle.ob_meaning.specs.ByPositionObject as Objects
use Rattle.ob_mean.proofs.outside_call.answers.Given as goal

abbrev pub invariant-loop-held : goal.invariant-loop-held
invariant-loop-held l = l.all.items ≡ Objects.values_of_results (map held_in (take l.held-index l.held-items))
