use Rattle.std.proofs.Common.{◌≡◌, ◌++◌, map, drop, option_map}
use Rattle.ob_checked.specs.CheckedModule.{program_in}
use Rattle.ob_mean.specs.View.{call_of}
use Rattle.ob_store.specs.View.{state_of}
use Rattle.ob_trap_places.specs.Reaching.{site_of}
use Rattle.ob_trap_places.specs.Sequence.{sites_from}
use Rattle.ob_trap_places.proofs.sequence.sites_in_turn.Given as goal

-- the sites so far, and those of the calls that are left, are those of all
abbrev pub invariant-loop-call : goal.invariant-loop-call
invariant-loop-call l =
    map (option_map site_of) l.sites.items ++ sites_from (program_in l.checked) l.budget (state_of l.state) (drop l.call-index (map call_of l.calls))
    ≡ sites_from (program_in l.checked) l.budget (state_of l.initial.state) (map call_of l.calls)
