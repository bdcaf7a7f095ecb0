use Rattle.wf_play.specs.Played.{IsSameObject}
use Rattle.ob_code_refusals.proofs.again.submit_all.Given as goal

abbrev pub invariant-loop-call : goal.invariant-loop-call
invariant-loop-call g l = IsSameObject l.machine l.initial.machine
