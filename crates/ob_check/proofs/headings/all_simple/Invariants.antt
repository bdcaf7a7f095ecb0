use Rattle.std.proofs.Common.{◌≡◌, map, drop}
use Rattle.ob_typing.specs.Declarations.{all_simple}
use Rattle.ob_checked.specs.View.{table_of, parameter_of}
use Rattle.ob_check.proofs.headings.all_simple.Given as goal

-- those that were passed are not structured
abbrev pub invariant-loop-parameter : goal.invariant-loop-parameter
invariant-loop-parameter l =
    all_simple (map (parameter_of (table_of l.types)) l.parameters) ≡ all_simple (map (parameter_of (table_of l.types)) (drop l.parameter-index l.parameters))
