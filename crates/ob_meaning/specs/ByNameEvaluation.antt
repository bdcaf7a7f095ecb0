-- The value of an expression and the place of a designator in a store whose variables go by their names, or a trap.
use Rattle.std.specs.Prelude.{pred, List, [], ◌∷◌, ◌++◌, length, take}
use Rattle.ob_interface.specs.declared.scalar.Scalar.{Scalar}
use Rattle.ob_typing.specs.Program.{Expression, Operations, Designator, Selectors, Actual}
use Rattle.ob_typing.specs.Arithmetic.{Evaluated}
use Rattle.ob_meaning.specs.ByNameValue.{Single, scalar_of, SelectorValue, Field, Index}
use Rattle.ob_meaning.specs.ByNameStore as Store
use Rattle.ob_meaning.specs.ByNameStore.{Place, Held, Holds, Refers, place_of_slot, further_in, value_at, stored, activation_of}
use Rattle.ob_meaning.specs.OverStore as OverStore

-- stores whose variables and fields go by their names, and elements by their indexes
abbrev pub by_name : OverStore.Stores
by_name = record {
  Store = Store.Store;
  Place = Place;
  Step = SelectorValue;
  Held = Held;
  field_step = λ position name. Field name;
  element_step = λ index. Index index;
  place_of_slot = place_of_slot;
  further_in = further_in;
  scalar_at = λ store place. scalar_of (value_at store place);
  copied = λ s. Holds (Single s);
  shared = λ place. Refers place;
  stored = λ store place s. stored store place (Single s);
  entered = λ store p handed. store ++ activation_of p handed ∷ [];
  departed = λ store. take (pred (length store)) store;
}

abbrev pub value_of : Store.Store → Expression → Evaluated Scalar
value_of = OverStore.value_of by_name

abbrev pub value_behind : Store.Store → Scalar → Operations → Evaluated Scalar
value_behind = OverStore.value_behind by_name

abbrev pub place_of : Store.Store → Designator → Evaluated Place
place_of = OverStore.place_of by_name

abbrev pub values_of : Store.Store → Selectors → Evaluated (List SelectorValue)
values_of = OverStore.path_of by_name

abbrev pub handed : Store.Store → Actual → Evaluated Held
handed = OverStore.handed by_name

abbrev pub all_handed : Store.Store → List Actual → Evaluated (List Held)
all_handed = OverStore.all_handed by_name
