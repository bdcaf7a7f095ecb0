use Rattle.std.proofs.Common.{◌≡◌, map, take}
use Rattle.wf_outcomes.specs.Explored.{calls_in}
use Rattle.wf_outcomes.specs.OutcomeOrders.{AreCallsTold, calls_from, id_told}
use Rattle.wf_outcomes.specs.View.{call_in}
use Rattle.wf_outcomes.proofs.all_replies.calls_told.Given as goal

abbrev pub invariant-loop-process : goal.invariant-loop-process
invariant-loop-process g l = record {
  listed : map id_told (map call_in l.told.items) ≡ calls_from 0 (take l.process (calls_in l.explored.scripts.now));
  told : AreCallsTold (g.O.Object.effect l.explored.object.now) (calls_in l.explored.scripts.now) (g.O.Object.opening l.explored.object.now) (map call_in l.told.items);
}
