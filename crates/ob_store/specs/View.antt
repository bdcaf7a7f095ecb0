-- What the interpreter's values stand for: no pointers, and vectors as lists.
use Rattle.std.specs.Borrow.{Bor}
use Rattle.std.specs.Prelude.{ℕ, List, [], ◌∷◌, map, Option, Some, None, Vec}
use Rattle.std.specs.Global.{Global}
use Rattle.ob_store.specs.declared.value.Value.{Value, Row_of-Value, end_of-Value, more_of-Value}
use Rattle.ob_store.specs.declared.value.Value.TheVariants.{Single, Parts'}
use Rattle.ob_store.specs.declared.store.Place.{Place}
use Rattle.ob_store.specs.declared.store.Held.{Held}
use Rattle.ob_store.specs.declared.store.Held.TheVariants.{Holds, Refers}
use Rattle.ob_store.specs.declared.store.Lent.{Lent}
use Rattle.ob_store.specs.declared.store.Lent.TheVariants as Lents
use Rattle.ob_store.specs.declared.store.Store.{Store}
use Rattle.ob_store.specs.declared.state.State.{State}
use Rattle.ob_meaning.specs.ByPositionValue as Values
use Rattle.ob_meaning.specs.ByPositionStore as Stores

abbrev mutual
  pub value_in : Value → Values.Value
  value_in (Single s) = Values.Single s
  value_in (Parts' shape parts) = Values.Parts (parts_in parts)

  pub parts_in : {m : _} → Row_of-Value m → Values.Values
  parts_in end_of-Value = Values.no_part
  parts_in (more_of-Value v rest) = Values.part (value_in v) (parts_in rest)

-- values that stand outside another one
abbrev pub values_in : List Value → Values.Values
values_in [] = Values.no_part
values_in (v ∷ rest) = Values.part (value_in v) (values_in rest)

-- a part that is lent, or 0 where there is none, as never with a checked program
abbrev pub value_or_zero : Option (Bor Value) → Values.Value
value_or_zero None = Values.zero_value
value_or_zero (Some v) = value_in v.now

-- the value with what was behind positions put back there, if there was something
abbrev pub put_back : Values.Value → List ℕ → Option Value → Values.Value
put_back v path None = v
put_back v path (Some was) = Values.replaced v path (value_in was)

abbrev pub place_in : Place → Stores.Place
place_in p = record { activation = p.activation; position = p.position; path = p.path.items }

abbrev pub held_in : Held → Stores.Held
held_in (Holds v) = Stores.Holds (value_in v)
held_in (Refers p) = Stores.Refers (place_in p)

abbrev pub lent_in : Lent → Stores.Held
lent_in (Lents.Value v) = Stores.Holds (value_in v.now)
lent_in (Lents.Place p) = Stores.Refers (place_in p.now)

-- what is held, or 0 where there is no such position
abbrev pub held_or_zero : Option Lent → Stores.Held
held_or_zero None = Stores.Holds Values.zero_value
held_or_zero (Some h) = lent_in h

abbrev pub activation_in : Vec Held Global → Stores.Activation
activation_in held = map held_in held.items

-- the activation of variables that have these values of their own
abbrev pub variables_in : List Value → Stores.Activation
variables_in = map (λ v. Stores.Holds (value_in v))

-- the module's activation in a state: values, and no places of others
abbrev pub state_of : State → Stores.Activation
state_of s = variables_in s.values.items

abbrev pub store_in : Store → Stores.Store
store_in s = variables_in s.variables.items ∷ map activation_in s.others.items
