use Rattle.std.proofs.Common.{◌≡◌, ◌++◌, take}
use Rattle.wf_play.specs.Makers.{makers_in}
use Rattle.wf_play.specs.Played.{IsSameObject}
use Rattle.wf_table.specs.Runs.{run, turns}
use Rattle.wf_table.specs.Schedule.{steps_of}
use Rattle.wf_play.proofs.event_makers.take_all.Given as goal

abbrev pub invariant-loop-turns : goal.invariant-loop-turns
invariant-loop-turns g l =
    record {
      object : IsSameObject l.machine l.initial.machine;
      state : l.machine.state ≡ run (g.E.Engine.meaning l.initial.machine.engine) l.initial.machine.sizes (turns (steps_of (take l.turns-index l.schedule))) l.initial.machine.state;
      makers : l.makers.items ≡ l.initial.makers.items ++ makers_in (g.E.Engine.meaning l.initial.machine.engine) l.initial.machine.sizes (steps_of (take l.turns-index l.schedule)) l.initial.machine.state;
    }
