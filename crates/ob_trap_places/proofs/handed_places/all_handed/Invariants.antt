use Rattle.std.proofs.Common.{◌≡◌, ◌+◌, ◌++◌, drop, map}
use Rattle.ob_checked.specs.View.{actual_of}
use Rattle.ob_meaning.specs.ByPositionEvaluation.{by_position}
use Rattle.ob_store.specs.View.{store_in, activation_in}
use Rattle.ob_trap_places.specs.Site.{Yields, ◌>>=◌}
use Rattle.ob_trap_places.specs.SitesOverStore as Sited
use Rattle.ob_trap_places.proofs.handed_places.all_handed.Given as goal

-- what the actuals that are left hand over, behind what is handed over so far, is what all hand over
abbrev pub invariant-loop-number : goal.invariant-loop-number
invariant-loop-number l =
    ◌>>=◌ (Sited.all_handed by_position (store_in l.store) (l.number + 1) (map actual_of (drop l.number l.actuals))) (λ rest. Yields (activation_in l.all ++ rest))
    ≡ Sited.all_handed by_position (store_in l.store) 1 (map actual_of l.actuals)
