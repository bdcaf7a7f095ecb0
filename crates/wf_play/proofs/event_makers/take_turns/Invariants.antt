use Rattle.std.proofs.Common.{◌≡◌, ◌-◌, ◌≤◌, ◌++◌, replicate}
use Rattle.wf_play.specs.Makers.{makers_in}
use Rattle.wf_play.specs.Played.{IsSameObject}
use Rattle.wf_table.specs.Runs.{run, turns}
use Rattle.wf_play.proofs.event_makers.take_turns.Given as goal

abbrev pub invariant-loop-taken : goal.invariant-loop-taken
invariant-loop-taken g l =
    record {
      object : IsSameObject l.machine l.initial.machine;
      few : l.taken ≤ l.count;
      state : l.machine.state ≡ run (g.E.Engine.meaning l.initial.machine.engine) l.initial.machine.sizes (turns (replicate l.taken l.p)) l.initial.machine.state;
      makers : l.makers.items ≡ l.initial.makers.items ++ makers_in (g.E.Engine.meaning l.initial.machine.engine) l.initial.machine.sizes (replicate l.taken l.p) l.initial.machine.state;
    }

abbrev pub decreases-loop-taken : goal.decreases-loop-taken
decreases-loop-taken g l = l.count - l.taken
