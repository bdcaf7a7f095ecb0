use Rattle.std.proofs.Common.{map}
use Rattle.wf_outcomes.specs.Explored.{all_kept, calls_in}
use Rattle.wf_outcomes.proofs.Matching.{Match}
use Rattle.wf_outcomes.proofs.TellingOrders.{TellsEnd}
use Rattle.wf_outcomes.specs.View.{end_in}
use Rattle.wf_outcomes.proofs.end_states.ends_told.Given as goal

abbrev pub invariant-loop-at : goal.invariant-loop-at
invariant-loop-at g l =
    Match (TellsEnd (g.O.Object.effect l.explored.object.now) (calls_in l.explored.scripts.now) (g.O.Object.opening l.explored.object.now) (all_kept g.O.Object.meaning l.explored.seen))
    l.places.items (map (end_in g.O.Object.meaning) l.told.items) l.at
