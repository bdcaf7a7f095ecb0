-- The calls so far, and those of the scripts that are left.
use Rattle.std.proofs.Common.{◌≡◌, ◌+◌, drop, length, map}
use Rattle.wf_outcomes.specs.Explored.{calls_in}
use Rattle.wf_outcomes.specs.Merges.{total}
use Rattle.wf_whole_outcomes.proofs.wholes.all_calls.Given as goal

abbrev pub invariant-loop-script : goal.invariant-loop-script
invariant-loop-script l = l.calls + total (map length (calls_in (drop l.script-index l.scripts))) ≡ total (map length (calls_in l.scripts))
