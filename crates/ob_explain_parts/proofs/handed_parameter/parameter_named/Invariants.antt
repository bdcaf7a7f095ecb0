-- What is left of the tokens gives the parameter of the number that is left.
use Rattle.std.proofs.Common.{◌≡◌, drop, false}
use Rattle.ob_explain_parts.specs.Parameters.{parameter_named}
use Rattle.ob_explain_parts.proofs.handed_parameter.parameter_named.Given as goal

abbrev pub invariant-loop-token : goal.invariant-loop-token
invariant-loop-token l = parameter_named l.left l.in_type (drop l.token-index l.behind) ≡ parameter_named l.number false l.behind
