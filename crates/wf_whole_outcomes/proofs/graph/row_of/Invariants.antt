-- The edges of the processes so far.
use Rattle.std.proofs.Common.{◌≡◌, length, map}
use Rattle.wf_history.specs.View.{kept_reply}
use Rattle.wf_whole_outcomes.specs.Graph.{AreApart, GoesOn}
use Rattle.wf_outcomes.specs.Explored.{all_kept, calls_in}
use Rattle.wf_whole_outcomes.specs.OutcomeGraph.{IsRow}
use Rattle.wf_whole_outcomes.proofs.graph.row_of.Given as goal

abbrev pub invariant-loop-process : goal.invariant-loop-process
invariant-loop-process g l = record {
  row : ∥ IsRow (g.O.Object.effect l.explored.object.now) (calls_in l.explored.scripts.now) (all_kept g.O.Object.meaning l.explored.seen) (map kept_reply l.replies.items) l.place l.process l.row.items ∥₁;
  size : length l.row.items ≡ l.process;
  apart : AreApart (map kept_reply l.replies.items);
  more : GoesOn (map kept_reply l.initial.replies.items) (map kept_reply l.replies.items);
}
