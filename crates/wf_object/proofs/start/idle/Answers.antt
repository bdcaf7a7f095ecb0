use Rattle.std.proofs.Common.{arith}
use Rattle.std.proofs.lemmas.Grind.{common_steps}
use Rattle.wf_table.specs.Start.{IsIdle}
use Rattle.wf_table.proofs.Frame.{each_push}
use Rattle.wf_object.proofs.start.idle.Goals as goal

pub loop-p-preserved : goal.loop-p-preserved
loop-p-preserved g c = record {
  count = grind (arith, common_steps, c.in_ok-push.ensures.items, c.loop-p.invariant.count);
  idle = rw (c.in_ok-push.ensures.items) (each_push (IsIdle (g.E.Engine.ready c.args.engine.now) c.args.z) _ _ c.loop-p.invariant.idle c.in_ok-idle_process.ensures);
}
