use Rattle.ob_evidence.proofs.Noted.{noted}
use Rattle.ob_evidence.proofs.facts.facts_of.Goals as goal

pub loop-pair-preserved : goal.loop-pair-preserved
loop-pair-preserved c =
    noted c.args.pairs.now c.loop-pair.pair-index _ c.loop-pair.facts.items _ c.loop-pair-test.true c.loop-pair.invariant c.in_ok-note.ensures
