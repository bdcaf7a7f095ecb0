use Rattle.std.proofs.Common.{◌≡◌, map, take, length}
use Rattle.wf_outcomes.specs.Explored.{calls_in}
use Rattle.wf_outcomes.proofs.finals.lengths.Given as goal

abbrev pub invariant-loop-script : goal.invariant-loop-script
invariant-loop-script l = l.counts.items ≡ map length (calls_in (take l.script-index l.scripts))
