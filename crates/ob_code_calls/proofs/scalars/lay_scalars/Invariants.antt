use Rattle.std.proofs.Common.{◌≡◌, List, map, take}
use Rattle.ob_checked.specs.Types.{Entry}
use Rattle.ob_checked.specs.View.{variable_of}
use Rattle.ob_code_calls.specs.Scalars.{held_of}
use Rattle.ob_code_scheme.specs.Layout.{word}
use Rattle.ob_code_scheme.specs.Types.{IsStateOf}
use Rattle.ob_code_calls.proofs.scalars.lay_scalars.Given as goal

-- the variables so far are laid
abbrev pub invariant-loop-place : goal.invariant-loop-place
invariant-loop-place l = record {
  typed : (types : List Entry) → IsStateOf (map (variable_of types) (take l.place l.variables)) (map held_of (take l.place l.scalars));
  laid : take l.place l.words ≡ map word (take l.place l.scalars);
}
