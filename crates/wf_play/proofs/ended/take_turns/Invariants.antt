use Rattle.std.proofs.Common.{replicate}
use Rattle.wf_play.specs.Ended.{Leads}
use Rattle.wf_play.proofs.ended.take_turns.Given as goal

abbrev pub invariant-loop-turn : goal.invariant-loop-turn
invariant-loop-turn g l = Leads g.E.Engine.meaning (replicate l._turn l.p) l.initial.machine l.initial.ended.items l.machine l.ended.items
