-- The calls so far lead to where it stands.
use Rattle.std.proofs.Common.{map}
use Rattle.ob_object_run.proofs.InTurn.{ReachesFrom}
use Rattle.ob_object_run.proofs.order_checker.replay.Given as goal
use Rattle.wf_history.specs.View.{event_of}

abbrev pub invariant-loop-id : goal.invariant-loop-id
invariant-loop-id g l = ReachesFrom g.M.CallMaker.stands (map event_of l.events) l.order l.initial.maker l.id-index l.maker
