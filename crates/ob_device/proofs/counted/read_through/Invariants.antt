use Rattle.std.proofs.Common.{◌≡◌, length}
use Rattle.std.specs.Io.KnownBytes.{Keeps}
use Rattle.ob_device.proofs.counted.read_through.Given as goal

-- a read that a signal cut short took nothing
abbrev pub invariant-loop : goal.invariant-loop
invariant-loop g l = record {
  room : length l.room ≡ length l.initial.room;
  kept : Keeps (g.T.Read.remaining l.initial.reader) (g.T.Read.remaining l.reader);
}
