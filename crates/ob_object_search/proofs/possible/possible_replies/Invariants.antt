-- The call could have ended with each reply so far.
use Rattle.std.proofs.Common.{All, [], ◌∷◌, ◌++◌, map}
use Rattle.ob_checked.specs.CheckedModule.{program_in}
use Rattle.ob_interface.specs.View.{reply_of}
use Rattle.ob_object_run.specs.LegalOrder.{CallEnds}
use Rattle.ob_object_search.proofs.possible.possible_replies.Given as goal
use Rattle.ob_store.specs.View.{state_of}
use Rattle.wf_history.specs.History.{End}
use Rattle.wf_history.specs.View.{event_of}
use Rattle.wf_order.specs.Verdict.{HasLegal}

abbrev pub invariant-loop-reply : goal.invariant-loop-reply
invariant-loop-reply l =
    All (λ reply. HasLegal (CallEnds (program_in l.object.checked.now) l.object.budget) (state_of l.object.opening.now) (map event_of l.calls.before.now ++ End l.end (reply_of reply) ∷ [])) l.replies.items
