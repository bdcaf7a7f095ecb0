use Rattle.wf_play.specs.Played.{IsSameObject}
use Rattle.ob_code_refusals.proofs.again.play_item.Given as goal

abbrev pub invariant-loop-taken : goal.invariant-loop-taken
invariant-loop-taken g l = IsSameObject l.machine l.initial.machine
