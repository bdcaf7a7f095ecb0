use Rattle.std.proofs.Common.{◌≡◌, ◌-◌, ◌≤◌, ◌++◌, replicate}
use Rattle.wf_object.specs.InARow.{after_steps}
use Rattle.wf_play.specs.Played.{IsSameObject}
use Rattle.wf_table.specs.Schedule.{steps_of}
use Rattle.wf_play.proofs.played_item.step_times.Given as goal

abbrev pub invariant-loop-taken : goal.invariant-loop-taken
invariant-loop-taken g l =
    record {
      object : IsSameObject l.machine l.initial.machine;
      few : l.taken ≤ l.count;
      leads : l.machine.state ≡ after_steps (g.E.Engine.meaning l.initial.machine.engine) l.initial.machine.sizes l.p l.taken l.initial.machine.state;
      turns : steps_of l.machine.state.records.schedule ≡ steps_of l.initial.machine.state.records.schedule ++ replicate l.taken l.p;
    }

abbrev pub decreases-loop-taken : goal.decreases-loop-taken
decreases-loop-taken g l = l.count - l.taken
