-- The calls that are left lead from here to where all lead from the words that were kept.
use Rattle.std.proofs.Common.{◌≡◌, drop, map}
use Rattle.ob_code_calls.specs.Calls.{left_by_all}
use Rattle.ob_code_calls.specs.Parts.{parts_in, IsRoomFor}
use Rattle.ob_code_calls.proofs.noted_calls.made_again.Given as goal
use Rattle.ob_interface.specs.View.{call_of}

abbrev pub invariant-loop-call : goal.invariant-loop-call
invariant-loop-call l = record {
  room : IsRoomFor (parts_in l.calls) l.room;
  left : left_by_all (parts_in l.calls) l.block (drop l.call-index (map call_of l.since)) ≡ left_by_all (parts_in l.calls) l.kept (map call_of l.since);
}
