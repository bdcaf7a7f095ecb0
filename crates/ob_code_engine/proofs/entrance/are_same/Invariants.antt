use Rattle.std.proofs.Common.{◌≡◌, take}
use Rattle.ob_code_engine.proofs.entrance.are_same.Given as goal

abbrev pub invariant-loop-place : goal.invariant-loop-place
invariant-loop-place l = take l.place l.entrances ≡ take l.place l.others
