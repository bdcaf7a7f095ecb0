use Rattle.wf_play.specs.Played.{IsSameObject}
use Rattle.ob_code_refusals.proofs.again.play.Given as goal

abbrev pub invariant-loop-item : goal.invariant-loop-item
invariant-loop-item g l = IsSameObject l.machine l.initial.machine
