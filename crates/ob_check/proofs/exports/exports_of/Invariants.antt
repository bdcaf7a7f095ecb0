use Rattle.std.proofs.Common.{◌≡◌, ◌++◌, map, drop}
use Rattle.ob_interface.specs.View.{signature_of}
use Rattle.ob_checked.specs.View.{table_of}
use Rattle.ob_check.proofs.Exported.{known_of}
use Rattle.ob_check.proofs.exports.exports_of.Given as goal

-- the exports so far and those that are left are all
abbrev pub invariant-loop-procedure : goal.invariant-loop-procedure
invariant-loop-procedure l =
    let types = table_of l.program.types in
    map signature_of l.exports.items ++ known_of types (drop l.procedure-index l.procedures) ≡ known_of types l.procedures
