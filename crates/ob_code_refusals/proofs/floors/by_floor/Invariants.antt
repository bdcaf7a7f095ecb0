use Rattle.wf_play.specs.Played.{IsSameObject}
use Rattle.ob_code_refusals.proofs.floors.by_floor.Given as goal

abbrev pub invariant-loop-process : goal.invariant-loop-process
invariant-loop-process g l = IsSameObject l.floor.machine l.initial.floor.machine
