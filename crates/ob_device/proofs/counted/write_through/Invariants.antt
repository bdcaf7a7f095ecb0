use Rattle.std.specs.Io.KnownBytes.{Keeps}
use Rattle.ob_device.proofs.counted.write_through.Given as goal

-- a write that a signal cut short wrote nothing
abbrev pub invariant-loop : goal.invariant-loop
invariant-loop g l = Keeps (g.T.Write.contents l.initial.writer) (g.T.Write.contents l.writer)
