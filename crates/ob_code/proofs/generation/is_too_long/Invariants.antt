use Rattle.std.proofs.Common.{◌≡◌, ◌≤◌, ◌+◌, drop}
use Rattle.ob_checked.specs.View.{table_of}
use Rattle.ob_code.specs.Entering.{procedures_size}
use Rattle.ob_code.proofs.Procedures.{left_of}
use Rattle.ob_code.proofs.generation.is_too_long.Given as goal

-- the end so far, which is a place of code
abbrev pub invariant-loop-number : goal.invariant-loop-number
invariant-loop-number l =
    let types = table_of l.program.types in
    record {
      end_so_far : l.end + procedures_size (left_of types (drop l.number l.procedure-items)) ≡ procedures_size (left_of types l.procedure-items);
      fits : l.end ≤ 65535;
    }
