-- The turns so far, and those of the calls that are left, are those of all; so it is with the most that is needed.
use Rattle.std.proofs.Common.{◌≡◌, ◌++◌, map, drop}
use Rattle.ob_checked.specs.CheckedModule.{program_in}
use Rattle.ob_mean.specs.View.{call_of}
use Rattle.ob_store.specs.View.{state_of}
use Rattle.ob_mean.specs.Turns.{all_turns_at}
use Rattle.ob_mean.proofs.Least.{needed_from}
use Rattle.ob_mean.proofs.turns.turns_in_turn.Given as goal

abbrev pub invariant-loop-call : goal.invariant-loop-call
invariant-loop-call l =
    record {
      taken : l.taken.items ++ all_turns_at (program_in l.checked) l.budget (state_of l.state) (drop l.call-index (map call_of l.calls))
          ≡ all_turns_at (program_in l.checked) l.budget (state_of l.initial.state) (map call_of l.calls);
      least : needed_from (program_in l.checked) l.budget l.least (state_of l.state) (drop l.call-index (map call_of l.calls))
          ≡ needed_from (program_in l.checked) l.budget 0 (state_of l.initial.state) (map call_of l.calls);
    }
