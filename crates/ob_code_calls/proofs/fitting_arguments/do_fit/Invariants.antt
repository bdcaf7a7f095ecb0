use Rattle.std.proofs.Common.{drop}
use Rattle.std.specs.List.{All}
use Rattle.ob_code_scheme.specs.Correct.{IsInRange}
use Rattle.ob_interface.specs.Export.{ArgumentsFit}
use Rattle.ob_code_calls.proofs.fitting_arguments.do_fit.Given as goal

-- where the others fit the parameters that are left, all fit all
abbrev pub invariant-loop-parameter : goal.invariant-loop-parameter
invariant-loop-parameter l = record {
  typed : ArgumentsFit (drop l.parameter-index l.parameters) l.rest → ArgumentsFit l.parameters l.arguments;
  ranged : All IsInRange l.rest → All IsInRange l.arguments;
}
