use Rattle.std.proofs.Common.{map}
use Rattle.wf_outcomes.specs.Explored.{all_kept, calls_in}
use Rattle.wf_outcomes.specs.Possible.{had_in}
use Rattle.wf_outcomes.proofs.Matching.{Match}
use Rattle.wf_outcomes.proofs.TellingOrders.{TellsReply}
use Rattle.wf_outcomes.specs.View.{told_in}
use Rattle.wf_outcomes.proofs.reply_orders.replies_told.Given as goal

abbrev pub invariant-loop-possible : goal.invariant-loop-possible
invariant-loop-possible g l =
    Match
    (TellsReply (g.O.Object.effect l.explored.object.now) (calls_in l.explored.scripts.now) (g.O.Object.opening l.explored.object.now) (all_kept g.O.Object.meaning l.explored.seen) l.fn.id)
    (map had_in l.possible-items) (map told_in l.told.items) l.possible-index
