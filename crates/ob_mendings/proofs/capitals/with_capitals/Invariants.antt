-- The bytes so far, but for their case.
use Rattle.std.proofs.Common.{◌≡◌, map, take}
use Rattle.std.specs.Char.{to_ascii_uppercase}
use Rattle.ob_mendings.proofs.capitals.with_capitals.Given as goal

abbrev pub invariant-loop-at : goal.invariant-loop-at
invariant-loop-at l = map to_ascii_uppercase l.whole.items ≡ map to_ascii_uppercase (take l.at l.text)
