use Rattle.std.proofs.Common.{All, map, take}
use Rattle.ob_desk_floor.specs.Agreeing.{AgreesAt}
use Rattle.wf_history.specs.History.{own_answers}
use Rattle.wf_history.specs.View.{event_of}
use Rattle.ob_desk_floor.proofs.agreeing.agree.Given as goal

abbrev pub invariant-loop-seat : goal.invariant-loop-seat
invariant-loop-seat l = All (AgreesAt l.process l.turns (own_answers l.process (map event_of l.events))) (take l.seat-index l.seats)
