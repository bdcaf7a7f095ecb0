-- The names of variables.
use Rattle.std.proofs.Common.{◌≡◌, List, [], ◌∷◌, map, string_bytes, refl, ap}
use Rattle.ob_checked.specs.View.{variable_of}
use Rattle.ob_checked.specs.declared.program.Variable.{Variable}
use Rattle.ob_checked.specs.Types.{Entry}

pub names_of : (types : List Entry) (vs : List Variable) → map (λ v. v.name) (map (variable_of types) vs) ≡ map (λ v. string_bytes v.name) vs
names_of types [] = refl
names_of types (v ∷ vs) = ap (λ ns. string_bytes v.name ∷ ns) (names_of types vs)
