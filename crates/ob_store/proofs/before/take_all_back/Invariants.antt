use Rattle.std.proofs.Common.{◌≡◌, length}
use Rattle.ob_store.specs.View.{variables_in}
use Rattle.ob_store.specs.Begun.{taken_back}
use Rattle.ob_store.proofs.before.take_all_back.Given as goal

-- the writes that are left lead to where all of them lead
abbrev pub invariant-left : goal.invariant-left
invariant-left l = taken_back l.writes.items (variables_in l.variables) ≡ taken_back l.initial.writes.items (variables_in l.initial.variables)

abbrev pub decreases-left : goal.decreases-left
decreases-left l = length l.writes.items
