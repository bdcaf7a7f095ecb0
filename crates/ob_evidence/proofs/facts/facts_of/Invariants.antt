-- Of the facts so far those that hold.
use Rattle.std.proofs.Common.{◌≡◌, take}
use Rattle.ob_evidence.specs.Facts.{facts_in}
use Rattle.ob_evidence.proofs.facts.facts_of.Given as goal

abbrev pub invariant-loop-pair : goal.invariant-loop-pair
invariant-loop-pair l = l.facts.items ≡ facts_in (take l.pair-index l.pairs)
