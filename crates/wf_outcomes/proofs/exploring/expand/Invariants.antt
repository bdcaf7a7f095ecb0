-- What was found so far, with all processes tried below this one.
use Rattle.std.proofs.Common.{◌≤◌}
use Rattle.indexmap.specs.IndexSet.{index_set_len}
use Rattle.wf_outcomes.specs.Explored.{all_kept, calls_in, AreWorded, IsExploring}
use Rattle.wf_outcomes.specs.RememberedCalls.{AreMade}
use Rattle.wf_outcomes.proofs.exploring.expand.Given as goal

abbrev pub invariant-loop-process : goal.invariant-loop-process
invariant-loop-process g l = record {
  worded : AreWorded g.O.Object.meaning g.O.Object.words_of l.seen;
  memory : AreMade g.O.Object.meaning g.O.Object.words_of (g.O.Object.effect l.task.object.now) l.memory.made.items;
  grown : index_set_len l.initial.seen ≤ index_set_len l.seen;
  exploring : IsExploring (g.O.Object.effect l.task.object.now) (calls_in l.task.scripts.now) (g.O.Object.opening l.task.object.now) (all_kept g.O.Object.meaning l.seen) l.place l.process;
}
