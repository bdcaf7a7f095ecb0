use Rattle.std.proofs.Common.{◌≡◌, map, take}
use Rattle.std.specs.List.{range_with_len}
use Rattle.ob_code_calls.specs.Calls.{meaning_of}
use Rattle.ob_code_calls.proofs.running.note_results.Given as goal

-- the results so far
abbrev pub invariant-loop-place : goal.invariant-loop-place
invariant-loop-place l = take l.place l.words ≡ map ((meaning_of l.engine.parts).result l.run) (range_with_len 0 l.place)
