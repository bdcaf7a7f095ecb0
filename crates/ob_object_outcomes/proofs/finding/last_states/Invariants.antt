use Rattle.std.proofs.Common.{◌≡◌, map, take}
use Rattle.ob_object_outcomes.specs.OutcomesView.{last_in}
use Rattle.ob_object_search.specs.Kept.{kept_in}
use Rattle.wf_outcomes.specs.View.{end_in}
use Rattle.ob_object_outcomes.proofs.finding.last_states.Given as goal

abbrev pub invariant-loop-end : goal.invariant-loop-end
invariant-loop-end l = map last_in l.lasts.items ≡ map (end_in kept_in) (take l.end-index l.ends)
