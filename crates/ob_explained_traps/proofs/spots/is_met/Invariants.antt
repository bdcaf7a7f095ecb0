-- None of the calls that were looked at traps there, and the others are some of all calls.
use Rattle.std.proofs.Common.{◌≡◌, ◌≤◌, length}
use Rattle.std.specs.List.{list_any}
use Rattle.ob_explained_traps.specs.TrapPlaces.{traps_at}
use Rattle.ob_explained_traps.proofs.spots.is_met.Given as goal

abbrev pub invariant-loop-left : goal.invariant-loop-left
invariant-loop-left l = (list_any (traps_at l.spot) l.left ≡ list_any (traps_at l.spot) l.spots) × (length l.left ≤ length l.spots)

abbrev pub decreases-loop-left : goal.decreases-loop-left
decreases-loop-left l = length l.left
