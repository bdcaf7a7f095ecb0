-- The rows of the places so far.
use Rattle.std.proofs.Common.{length, map}
use Rattle.wf_history.specs.View.{kept_reply}
use Rattle.wf_whole_outcomes.specs.Graph.{AreApart, IsNarrow, rows_in}
use Rattle.wf_outcomes.specs.Explored.{all_kept, calls_in}
use Rattle.wf_whole_outcomes.specs.OutcomeGraph.{AreRows}
use Rattle.wf_whole_outcomes.proofs.graph.graph_of.Given as goal

abbrev pub invariant-loop-place : goal.invariant-loop-place
invariant-loop-place g l = record {
  rows : ∥ AreRows (g.O.Object.effect l.explored.object.now) (calls_in l.explored.scripts.now) (all_kept g.O.Object.meaning l.explored.seen) (map kept_reply l.replies.items) l.place (rows_in l.rows.items) ∥₁;
  narrow : IsNarrow (rows_in l.rows.items) (length l.explored.scripts.now);
  apart : AreApart (map kept_reply l.replies.items);
}
