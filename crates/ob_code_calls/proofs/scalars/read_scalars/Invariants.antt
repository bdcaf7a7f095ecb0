use Rattle.std.proofs.Common.{◌≡◌, ◌++◌, List, map, drop, Some}
use Rattle.ob_checked.specs.Types.{Entry}
use Rattle.ob_checked.specs.View.{variable_of}
use Rattle.ob_code_calls.specs.Scalars.{held_of}
use Rattle.ob_code_scheme.specs.Layout.{decoded}
use Rattle.ob_meaning.specs.ByPositionStore.{Activation}
use Rattle.ob_code_calls.proofs.scalars.read_scalars.Given as goal

-- what is read of the others stands behind what is read so far
abbrev pub invariant-loop-place : goal.invariant-loop-place
invariant-loop-place l =
    (types : List Entry) (rest : Activation) → decoded (map (variable_of types) (drop l.place l.variables)) (drop l.place l.words) ≡ Some rest →
    decoded (map (variable_of types) l.variables) l.words ≡ Some (map held_of l.scalars.items ++ rest)
