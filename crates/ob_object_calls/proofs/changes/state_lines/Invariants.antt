-- The lines so far, and those of the variables that are left, are those of all.
use Rattle.std.proofs.Common.{◌≡◌, ◌++◌, drop, length, map, string_bytes}
use Rattle.ob_checked.specs.View.{program_of}
use Rattle.ob_object_calls.specs.DetailLines.{lines_at}
use Rattle.ob_store.specs.View.{state_of}
use Rattle.ob_object_calls.proofs.changes.state_lines.Given as goal

abbrev pub invariant-loop-variable : goal.invariant-loop-variable
invariant-loop-variable l =
    map string_bytes l.lines.items ++ lines_at (drop (length l.yielded) (program_of l.program).variables) (drop (length l.yielded) (state_of l.state))
    ≡ lines_at (program_of l.program).variables (state_of l.state)
