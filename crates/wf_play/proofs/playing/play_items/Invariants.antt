-- The items so far are played.
use Rattle.std.proofs.Common.{take}
use Rattle.wf_play.specs.ItemSteps.{HasPlayed}
use Rattle.wf_play.specs.Played.{IsSameObject}
use Rattle.wf_play.proofs.playing.play_items.Given as goal

abbrev pub invariant-loop-index : goal.invariant-loop-index
invariant-loop-index g l =
    record {
      object : IsSameObject l.machine l.initial.machine;
      played : HasPlayed (g.E.Engine.meaning l.initial.machine.engine) l.initial.machine.sizes l.limit (take l.index l.items) l.initial.machine.state l.machine.state;
    }
