-- Places and stores by position. A store is the list of activations; the module is activation 0, and the last one is running.
use Rattle.std.specs.Prelude.{ℕ, zero, suc, pred, List, [], ◌∷◌, ◌++◌, length, map, slice_get, slice_set, Option, Some, None}
use Rattle.ob_typing.specs.Program.{Owner, OfModule, Own, Slot, Variable, Procedure}
use Rattle.ob_meaning.specs.ByPositionValue.{Value, zero_value, initial, selected, replaced}

-- a variable or a part of it: whose it is, its position there, and the positions within it
pub record Place : Type 0 where
  pub activation : ℕ
  pub position : ℕ
  pub path : List ℕ

-- what a position of an activation has: a value of its own, or, for a VAR parameter, a place of others
pub data Held : Type 0 where
  Holds : (value : Value) → Held
  Refers : (place : Place) → Held

-- parameters and then variables in text order
abbrev pub Activation : Type 0
Activation = List Held

abbrev pub Store : Type 0
Store = List Activation

abbrev pub the_activation : Option Activation → Activation
the_activation None = []
the_activation (Some activation) = activation

-- the activation at a position
abbrev pub activation_at : Store → ℕ → Activation
activation_at store k = the_activation (slice_get store k)

-- the position of the activation that is running
abbrev pub running : Store → ℕ
running store = pred (length store)

abbrev pub the_held : Option Held → Held
the_held None = Holds zero_value
the_held (Some held) = held

-- what a position of an activation has; 0 where there is no such position, as never with a checked program
abbrev pub held_at : Activation → ℕ → Held
held_at activation position = the_held (slice_get activation position)

-- the place that a position stands for
abbrev pub place_held : Held → ℕ → ℕ → Place
place_held (Holds v) k position = record { activation = k; position = position; path = [] }
place_held (Refers place) k position = place

-- the place that a variable stands for: the module's, or one of the running activation
abbrev pub place_owned : Owner → Store → ℕ → Place
place_owned OfModule store position = record { activation = 0; position = position; path = [] }
place_owned Own store position = place_held (held_at (activation_at store (running store)) position) (running store) position

abbrev pub place_of_slot : Store → Slot → Place
place_of_slot store slot = place_owned slot.owner store slot.position

-- a place further in
abbrev pub further_in : Place → List ℕ → Place
further_in place path = record place { path = place.path ++ path }

abbrev pub value_held : Held → Value
value_held (Holds v) = v
value_held (Refers place) = zero_value

-- the value at a place
abbrev pub value_at : Store → Place → Value
value_at store place =
    selected (value_held (held_at (activation_at store place.activation) place.position)) place.path

-- another part of a value that is held; a place of others stays
abbrev pub with_value : Held → List ℕ → Value → Held
with_value (Holds v) path w = Holds (replaced v path w)
with_value (Refers place) path w = Refers place

-- an activation with another part of the value at a position
abbrev pub with_held : Activation → ℕ → List ℕ → Value → Activation
with_held [] position path w = []
with_held (h ∷ held) zero path w = with_value h path w ∷ held
with_held (h ∷ held) (suc position) path w = h ∷ with_held held position path w

-- the store with a value at a place
abbrev pub stored : Store → Place → Value → Store
stored store place w =
    slice_set store place.activation (with_held (activation_at store place.activation) place.position place.path w)

-- variables at their beginning
abbrev pub begun : List Variable → Activation
begun = map (λ v. Holds (initial v.type))

-- the activation of a procedure: what was handed over, and then its variables
abbrev pub activation_of : Procedure → List Held → Activation
activation_of p handed = handed ++ begun p.variables
