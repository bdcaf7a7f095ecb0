-- The bytes so far, with a blank for each but a line feed.
use Rattle.std.proofs.Common.{◌≡◌, map, take}
use Rattle.ob_mendings.specs.Mendings.{blank_for}
use Rattle.ob_mendings.proofs.mending.blanks_for.Given as goal

abbrev pub invariant-loop-byte : goal.invariant-loop-byte
invariant-loop-byte l = l.blanks.items ≡ map blank_for (take l.byte-index l.bytes)
