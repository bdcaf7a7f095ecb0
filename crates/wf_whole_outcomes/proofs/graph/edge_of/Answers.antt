-- By where the call leads, and the number of its reply.
use Rattle.std.proofs.Common.{map}
use Rattle.std.proofs.Math.Logic.{∥∥₁_map}
use Rattle.std.proofs.lemmas.Option.{MatchOption-at_none, MatchOption-at_some}
use Rattle.ob_interface.specs.View.{reply_of}
use Rattle.wf_history.specs.View.{kept_reply}
use Rattle.wf_whole_outcomes.proofs.Advancing.{goes_nowhere}
use Rattle.wf_whole_outcomes.proofs.graph.edge_of.Goals as goal

pub returns-in_default-clause-edge : goal.returns-in_default-clause-edge
returns-in_default-clause-edge g c = MatchOption-at_none _ _ c.in_default.is c.in_ok-onward.ensures

pub returns-in_default-clause-more : goal.returns-in_default-clause-more
returns-in_default-clause-more g c = goes_nowhere (map kept_reply c.args.replies.now.items)

pub returns-clause-edge : goal.returns-clause-edge
returns-clause-edge g c =
    let onward = c.in-Some.onward in
    ∥∥₁_map (MatchOption-at_some _ _ onward c.in-Some.is c.in_ok-onward.ensures) (λ leads. record { reply = reply_of onward.reply; numbered = c.in_ok-reply.ensures.number; leads = leads })
