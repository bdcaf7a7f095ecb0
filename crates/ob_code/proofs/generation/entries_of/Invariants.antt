use Rattle.std.proofs.Common.{◌≡◌, ◌≤◌, ◌+◌, ◌++◌, drop}
use Rattle.ob_code_scheme.specs.Scheme as Scheme
use Rattle.ob_checked.specs.View.{table_of}
use Rattle.ob_code.specs.Entering.{procedures_size}
use Rattle.ob_code.proofs.Procedures.{left_of}
use Rattle.ob_code.proofs.generation.entries_of.Given as goal

-- the places so far and those of the procedures that are left; the end so far, which is a place of code
abbrev pub invariant-loop-number : goal.invariant-loop-number
invariant-loop-number l =
    let types = table_of l.program.types in
    let left = left_of types (drop l.number l.procedure-items) in
    let all = left_of types l.procedure-items in
    record {
      places_so_far : l.places.items ++ Scheme.entries_from l.end left ≡ Scheme.entries_from 0 all;
      end_so_far : l.end + procedures_size left ≡ procedures_size all;
      fits : l.end ≤ 65535;
    }
