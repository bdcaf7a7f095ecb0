use Rattle.std.proofs.Common.{◌≡◌, take}
use Rattle.ob_code_engine.proofs.entrance.copied.Given as goal

abbrev pub invariant-loop-entrance : goal.invariant-loop-entrance
invariant-loop-entrance l = l.copies.items ≡ take l.entrance-index l.entrances
