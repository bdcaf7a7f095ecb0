use Rattle.std.proofs.Common.{◌≡◌, ◌++◌, map, drop}
use Rattle.ob_checked.specs.CheckedModule.{program_in}
use Rattle.ob_mean.specs.Sequences.{replies_to}
use Rattle.ob_store.specs.View.{state_of}
use Rattle.ob_mean.specs.View.{call_of, reply_of}
use Rattle.ob_mean.proofs.sequences.sequence.Given as goal

-- the replies so far, and those to the calls that are left, are those to all
abbrev pub invariant-loop-call : goal.invariant-loop-call
invariant-loop-call l =
    map reply_of l.replies.items ++ replies_to (program_in l.checked) l.budget (state_of l.state) (drop l.call-index (map call_of l.calls))
    ≡ replies_to (program_in l.checked) l.budget (state_of l.initial.state) (map call_of l.calls)
