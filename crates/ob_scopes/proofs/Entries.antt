-- What an entry of the table says of its type.
use Rattle.std.proofs.Common.{◌≡◌, ◌≤◌, ℕ, zero, suc, arith, List, [], ◌∷◌, length, Some, None, refl, sym, ap, ◌∙◌}
use Rattle.std.specs.Prelude.{slice_get}
use Rattle.ob_checked.specs.declared.types.DataType.{DataType}
use Rattle.ob_checked.specs.declared.types.DataType.TheVariants.{Structured}
use Rattle.ob_checked.specs.declared.types.Structure.{Structure}
use Rattle.ob_checked.specs.declared.types.Structure.TheVariants.{Array, Record}
use Rattle.ob_checked.specs.Types.{Entry, type_in, types_of, structure_by, entry_by, IsTable}
use Rattle.ob_checked.proofs.Numbers.{type_at, type_past, none}
use Rattle.ob_scopes.specs.SimpleTypes.{simple_type}

past : {X : Type 0} (xs : List X) (n : ℕ) → slice_get xs n ≡ None → length xs ≤ n
past [] n h = omega arith
past (x ∷ xs) zero h = absurd cc
past (x ∷ xs) (suc n) h = omega (arith, past xs n h)

module _ (es : List Entry) (t : DataType) (n : ℕ) (is : t ≡ Structured n) where
  module _ (table : IsTable es) (e : Entry) (found : Some e ≡ slice_get es n) where
    pub type_of_entry : type_in es t ≡ entry_by (types_of es) e
    type_of_entry = ap (type_in es) is ∙ type_at es table n e (sym found)

    pub entry_type : (s : Structure) → e.structure ≡ s → type_in es t ≡ structure_by (types_of es) e.place s
    entry_type s at = type_of_entry ∙ ap (structure_by (types_of es) e.place) at

    not_simple : (s : Structure) (place : ℕ) → simple_type (structure_by (types_of es) place s) ≡ None
    not_simple (Array length element) place = refl
    not_simple (Record fields) place = refl

    pub entry_not_simple : None ≡ simple_type (type_in es t)
    entry_not_simple = sym (ap simple_type type_of_entry ∙ not_simple e.structure e.place)

  pub beyond_entries : None ≡ slice_get es n → type_in es t ≡ none
  beyond_entries h = ap (type_in es) is ∙ type_past es n (past es n (sym h))
