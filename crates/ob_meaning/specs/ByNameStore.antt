-- Places and stores. A store is the list of activations; the module is activation 0, and the last one is running.
use Rattle.std.specs.Prelude.{ℕ, pred, List, [], ◌∷◌, ◌++◌, length, map, slice_get, slice_set, bytes_eq, if◌then◌else◌, Option, Some, None}
use Rattle.ob_typing.specs.Program.{Name, Owner, OfModule, Own, Slot, Parameter, Variable, Procedure}
use Rattle.ob_meaning.specs.ByNameValue.{Value, zero_value, initial, SelectorValue, selected, replaced}

-- a variable or a part of it: whose it is, its name, and the selectors behind the name
pub record Place : Type 0 where
  pub activation : ℕ
  pub name : Name
  pub selectors : List SelectorValue

-- what a name stands for: a value of its own, or, for a VAR parameter, a place of others
pub data Held : Type 0 where
  Holds : (value : Value) → Held
  Refers : (place : Place) → Held

pub record Binding : Type 0 where
  pub name : Name
  pub held : Held

abbrev pub Activation : Type 0
Activation = List Binding

-- the names of an activation in order
abbrev pub names_of : Activation → List Name
names_of = map (λ b. b.name)

-- a value of its own
abbrev pub IsValue : Held → Type 0
IsValue (Holds v) = Unit {0}
IsValue (Refers place) = ⊥

-- each name has a value of its own
abbrev pub AreValues : Activation → Type 0
AreValues [] = Unit {0}
AreValues (b ∷ bindings) = IsValue b.held × AreValues bindings

abbrev pub Store : Type 0
Store = List Activation

abbrev pub the_activation : Option Activation → Activation
the_activation None = []
the_activation (Some activation) = activation

-- the activation at a position
abbrev pub activation_at : Store → ℕ → Activation
activation_at store k = the_activation (slice_get store k)

-- the position of the activation that is running
abbrev pub running : Store → ℕ
running store = pred (length store)

-- what a name of an activation stands for; 0 where there is no such name, as never with a checked program
abbrev pub held_by : Activation → Name → Held
held_by [] name = Holds zero_value
held_by (b ∷ bindings) name = if bytes_eq b.name name then b.held else held_by bindings name

-- the place that a held name stands for
abbrev pub place_held : Held → ℕ → Name → Place
place_held (Holds v) k name = record { activation = k; name = name; selectors = [] }
place_held (Refers place) k name = place

-- the place that a variable stands for: the module's, or one of the running activation
abbrev pub place_owned : Owner → Store → Name → Place
place_owned OfModule store name = record { activation = 0; name = name; selectors = [] }
place_owned Own store name = place_held (held_by (activation_at store (running store)) name) (running store) name

abbrev pub place_of_slot : Store → Slot → Place
place_of_slot store slot = place_owned slot.owner store slot.name

-- a place further in
abbrev pub further_in : Place → List SelectorValue → Place
further_in place selectors = record place { selectors = place.selectors ++ selectors }

abbrev pub value_held : Held → Value
value_held (Holds v) = v
value_held (Refers place) = zero_value

-- the value at a place
abbrev pub value_at : Store → Place → Value
value_at store place =
    selected (value_held (held_by (activation_at store place.activation) place.name)) place.selectors

-- a binding of this name with another part of its value
abbrev pub rebound : Name → List SelectorValue → Value → Binding → Binding
rebound name selectors v b =
    if bytes_eq b.name name
    then record b { held = Holds (replaced (value_held b.held) selectors v) }
    else b

-- the store with a value at a place
abbrev pub stored : Store → Place → Value → Store
stored store place v =
    slice_set store place.activation
    (map (rebound place.name place.selectors v) (activation_at store place.activation))

-- the parameters with what was handed over
abbrev pub bound : List Parameter → List Held → Activation
bound [] handed = []
bound (p ∷ parameters) [] = []
bound (p ∷ parameters) (h ∷ handed) = record { name = p.name; held = h } ∷ bound parameters handed

-- variables at their beginning
abbrev pub begun : List Variable → Activation
begun = map (λ v. record { name = v.name; held = Holds (initial v.type) })

-- the activation of a procedure: its parameters with what was handed over, and then its variables
abbrev pub activation_of : Procedure → List Held → Activation
activation_of p handed = bound p.parameters handed ++ begun p.variables
