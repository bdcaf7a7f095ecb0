use Rattle.std.proofs.Common.{take}
use Rattle.wf_table.specs.Schedule.{steps_of}
use Rattle.wf_play.specs.Ended.{Leads}
use Rattle.wf_play.proofs.ended.take_all.Given as goal

abbrev pub invariant-loop-turns : goal.invariant-loop-turns
invariant-loop-turns g l = Leads g.E.Engine.meaning (steps_of (take l.turns-index l.schedule)) l.initial.machine l.initial.ended.items l.machine l.ended.items
