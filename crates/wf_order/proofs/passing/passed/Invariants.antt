-- The configuration so far.
use Rattle.std.proofs.Common.{◌≡◌, List, length, map}
use Rattle.ob_interface.specs.Call.{ObjectCall, Reply}
use Rattle.wf_history.specs.History.{Event}
use Rattle.wf_order.specs.MadeCalls.{AreMade}
use Rattle.wf_order.specs.Rows.{AreRows, begun_rows}
use Rattle.wf_order.specs.Search.{found_in, IsPassed, IsWorded, left}
use Rattle.wf_order.specs.Steps.{IsLimit}
use Rattle.wf_order.proofs.passing.passed.Given as goal

abbrev pub invariant-loop-process : goal.invariant-loop-process
invariant-loop-process g l = record {
  made : AreMade g.O.Object.meaning g.O.Object.words_of (g.O.Object.effect l.task.object.now) l.calls;
  worded : IsWorded g.O.Object.meaning g.O.Object.words_of l.there;
  sized : length l.there.counts.items ≡ length l.fn.there.counts.items;
  passed : (history : List (Event ObjectCall Reply)) → AreRows history (length l.fn.there.counts.items) l.task.rows.now → IsLimit history l.fn.there.counts.items l.frame.limit →
      IsPassed (g.O.Object.effect l.task.object.now) history l.frame.place (found_in g.O.Object.meaning l.fn.there) (found_in g.O.Object.meaning l.there) l.fn.stack.items l.stack.items;
  limit : (history : List (Event ObjectCall Reply)) → AreRows history (length l.fn.there.counts.items) l.task.rows.now → IsLimit history l.fn.there.counts.items l.frame.limit → IsLimit history l.there.counts.items l.limit;
}

abbrev pub decreases-loop-process : goal.decreases-loop-process
decreases-loop-process g l = left (map length (begun_rows l.task.rows.now)) l.there.counts.items
