-- The first events up to the one place have a legal order, and up to the other have none.
use Rattle.std.proofs.Common.{◌-◌, ◌≤◌, ℕ, map}
use Rattle.wf_history.specs.View.{event_of}
use Rattle.wf_order.specs.Fronts.{IsFarthest}
use Rattle.wf_order.specs.Search.{all_counts, all_found, AreWorded, IsWholeSearch}
use Rattle.wf_order.specs.Verdict.{IsBetween}
use Rattle.wf_order.proofs.find.last_legal.Given as goal

abbrev pub invariant-loop-illegal : goal.invariant-loop-illegal
invariant-loop-illegal g l = record {
  between : IsBetween (g.O.Object.effect l.question.object.now) (g.O.Object.opening l.question.object.now) (map event_of l.question.events.now) l.legal l.illegal;
  search : IsWholeSearch (g.O.Object.effect l.question.object.now) (g.O.Object.opening l.question.object.now) (map event_of l.question.events.now) l.question.processes (all_found g.O.Object.meaning l.seen);
  worded : AreWorded g.O.Object.meaning g.O.Object.words_of l.seen;
  farthest : (farthest : ℕ) × (farthest ≤ l.legal) × IsFarthest (map event_of l.question.events.now) (all_counts l.seen) farthest;
}

abbrev pub decreases-loop-illegal : goal.decreases-loop-illegal
decreases-loop-illegal g l = l.illegal - l.legal
