-- Names of the checked program.
use Rattle.std.proofs.Common.{◌≡◌, List, [], ◌∷◌, ap, map, refl, string_bytes}
use Rattle.ob_checked.specs.Types.{Entry}
use Rattle.ob_checked.specs.View.{procedure_of}
use Rattle.ob_checked.specs.declared.program.Procedure.{Procedure}

-- the names of a view's procedures
pub names_map : (types : List Entry) (procedures : List Procedure) → map (λ p. p.name) (map (procedure_of types) procedures) ≡ map (λ p. string_bytes p.name) procedures
names_map types [] = refl
names_map types (p ∷ procedures) = ap (λ names. string_bytes p.name ∷ names) (names_map types procedures)
