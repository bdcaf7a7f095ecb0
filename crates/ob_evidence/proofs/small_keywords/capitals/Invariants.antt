-- The bytes so far.
use Rattle.std.proofs.Common.{◌≡◌, map, take}
use Rattle.std.specs.Char.{to_ascii_uppercase}
use Rattle.ob_evidence.proofs.small_keywords.capitals.Given as goal

abbrev pub invariant-loop-byte : goal.invariant-loop-byte
invariant-loop-byte l = l.whole.items ≡ map to_ascii_uppercase (take l.byte-index l.word)
