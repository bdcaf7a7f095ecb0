-- The calls that are left lead on from the state with the open call; and from the one without it where all do from the first one.
use Rattle.std.proofs.Common.{drop}
use Rattle.wf_needed.proofs.Replaying.{LeadAlike}
use Rattle.wf_needed.proofs.replay.replays.Given as goal
use Rattle.wf_needed.specs.Listed.{Replays}

abbrev pub invariant-loop-listed : goal.invariant-loop-listed
invariant-loop-listed g l =
    LeadAlike (g.O.Object.effect l.object) (g.O.Object.meaning l.fn.without) l.all (g.O.Object.meaning l.here.without) (drop l.listed-index l.rest)
    × (last : g.O.Object.Meaning) × Replays (g.O.Object.effect l.object) (g.O.Object.meaning l.here.with) (drop l.listed-index l.rest) last
