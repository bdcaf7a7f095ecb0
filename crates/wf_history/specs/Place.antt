-- Where kept scalars lie. No public clause cites this module.
use Rattle.std.specs.Prelude.{List, [], ◌∷◌, ℤ, true, false}
use Rattle.ob_interface.specs.declared.scalar.Scalar.{Scalar}
use Rattle.ob_interface.specs.declared.scalar.Scalar.TheVariants.{Int, Bool}
use Rattle.wf_history.specs.declared.kept_scalars.Kind.{Kind}
use Rattle.wf_history.specs.declared.kept_scalars.Kind.TheVariants.{Integer, False, True}
use Rattle.wf_history.specs.declared.kept_scalars.Place.{Place}
use Rattle.wf_history.specs.declared.kept_scalars.Place.TheVariants.{None, One, Two, Three, Many}
use Rattle.wf_history.specs.Kept.{Scalars}

-- what a kind and a word are together
abbrev pub joined_scalar : Kind → ℤ → Scalar
joined_scalar Integer word = Int word
joined_scalar False word = Bool false
joined_scalar True word = Bool true

abbrev pub placed_items : Place → List Scalar
placed_items None = []
placed_items (One item) = item ∷ []
placed_items (Two k0 k1 w0 w1) = joined_scalar k0 w0 ∷ joined_scalar k1 w1 ∷ []
placed_items (Three k0 k1 k2 w0 w1 w2) = joined_scalar k0 w0 ∷ joined_scalar k1 w1 ∷ joined_scalar k2 w2 ∷ []
placed_items (Many apart) = apart.items.value.items

abbrev pub placed : Place → Scalars
placed place = record { items = placed_items place }
