use Rattle.std.proofs.Common.{◌≡◌, ◌++◌, map, drop}
use Rattle.ob_checked.specs.Exports.{formal_of}
use Rattle.ob_checked.specs.View.{parameter_of, table_of}
use Rattle.ob_check.proofs.exports.formals_of.Given as goal

-- the formals so far and those that are left are all
abbrev pub invariant-loop-parameter : goal.invariant-loop-parameter
invariant-loop-parameter l =
    let seen = map (parameter_of (table_of l.types)) in
    l.formals.items ++ map formal_of (seen (drop l.parameter-index l.parameters)) ≡ map formal_of (seen l.parameters)
