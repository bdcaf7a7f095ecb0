use Rattle.std.proofs.Common.{◌≡◌, ◌++◌, [], get_or, map, take}
use Rattle.wf_outcomes.specs.Explored.{calls_in}
use Rattle.wf_outcomes.specs.OutcomeOrders.{AreCallsTold, calls_of, id_told}
use Rattle.wf_outcomes.specs.View.{call_in}
use Rattle.wf_outcomes.proofs.all_replies.tell_script.Given as goal

abbrev pub invariant-loop-made : goal.invariant-loop-made
invariant-loop-made g l = record {
  listed : map id_told (map call_in l.told.items) ≡
      map id_told (map call_in l.initial.told.items) ++ calls_of l.process 1 (take l.made (get_or (calls_in l.explored.scripts.now) l.process []));
  told : AreCallsTold (g.O.Object.effect l.explored.object.now) (calls_in l.explored.scripts.now) (g.O.Object.opening l.explored.object.now) (map call_in l.told.items);
}
