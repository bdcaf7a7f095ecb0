-- The lines that are passed, and the items that are left.
use Rattle.std.proofs.Common.{length}
use Rattle.ob_explained.proofs.ItemPlaces.{Passed}
use Rattle.ob_explained.proofs.item_place.item_place.Given as goal

abbrev pub invariant-loop-index : goal.invariant-loop-index
invariant-loop-index l = Passed l.text l.number (length l.yielded) l.left
