-- The bytes so far, with a letter for each `_`.
use Rattle.std.proofs.Common.{◌≡◌, map, take}
use Rattle.ob_mendings.specs.Mendings.{letter_for}
use Rattle.ob_mendings.proofs.mending.lettered.Given as goal

abbrev pub invariant-loop-byte : goal.invariant-loop-byte
invariant-loop-byte l = l.whole.items ≡ map letter_for (take l.byte-index l.text)
