use Rattle.std.proofs.Common.{◌≡◌, List, map, take}
use Rattle.ob_checked.specs.Types.{Entry}
use Rattle.ob_checked.specs.View.{parameter_of}
use Rattle.ob_code_scheme.specs.Correct as Correct
use Rattle.ob_code_engine.proofs.entrance.formals_of.Given as goal

-- the modes and types of the parameters so far
abbrev pub invariant-loop-parameter : goal.invariant-loop-parameter
invariant-loop-parameter l =
    (types : List Entry) → l.formals.items ≡ Correct.formals_of (map (parameter_of types) (take l.parameter-index l.parameters))
