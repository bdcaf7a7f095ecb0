use Rattle.wf_play.specs.Played.{IsSameObject}
use Rattle.ob_code_refusals.proofs.floors.take_turns.Given as goal

abbrev pub invariant-loop : goal.invariant-loop
invariant-loop g l = IsSameObject l.floor.machine l.initial.floor.machine
