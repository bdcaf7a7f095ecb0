-- It is the last one, or it stands behind them.
use Rattle.std.proofs.Common.{inr}
use Rattle.wf_outcomes.proofs.meetings.add_place.Goals as goal

pub returns : goal.returns
returns c = inr c.in_ok-push.ensures.items
