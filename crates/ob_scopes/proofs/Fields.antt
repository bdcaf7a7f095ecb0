-- The fields of a record by name.
use Rattle.std.proofs.Common.{◌≡◌, ℕ, suc, ◌+◌, Bool, true, false, List, [], ◌∷◌, option_map, Some, refl, ap, ◌∙◌, arith, String}
use Rattle.std.specs.Prelude.{string_bytes, bytes_eq, if◌then◌else◌}
use Rattle.std.specs.declared.alloc.Global.{Global}
use Rattle.ob_typing.specs.Program
use Rattle.ob_typing.specs.Scopes.{field_from}
use Rattle.ob_checked.specs.declared.types.DataType.{DataType}
use Rattle.ob_checked.specs.Fields.{found_from}
use Rattle.ob_checked.specs.Types.{type_by, fields_by}

-- what is found by name among fields is so among those that they stand for
module _ (types : List Program.DataType) (name : List ℕ) where
  abbrev pub typed : ℕ × DataType → ℕ × Program.DataType
  typed f = (f.0, type_by types f.1)

  pub field_from-found : (n : ℕ) (fs : List (String Global × DataType)) → option_map typed (found_from n fs name) ≡ field_from n (fields_by types fs) name
  field_from-found n [] = refl
  field_from-found n (f ∷ fs) = at (bytes_eq (string_bytes f.0) name) (field_from-found (n + 1) fs)
    where
      next : n + 1 ≡ suc n
      next = omega arith

      at : (b : Bool) → option_map typed (found_from (n + 1) fs name) ≡ field_from (n + 1) (fields_by types fs) name →
          option_map typed (if b then Some (n, f.1) else found_from (n + 1) fs name)
          ≡ (if b then Some (n, type_by types f.1) else field_from (suc n) (fields_by types fs) name)
      at true rest = refl
      at false rest = rest ∙ ap (λ k. field_from k (fields_by types fs) name) next
