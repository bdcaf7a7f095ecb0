use Rattle.std.proofs.Common.{◌≡◌, take}
use Rattle.ob_desk_floor.proofs.seat.in_place.Given as goal

abbrev pub invariant-loop-value : goal.invariant-loop-value
invariant-loop-value l = record {
  so_far : l.kept.items ≡ take l.value-index l.values;
  room : l.kept.capacity ≡ 2;
}
