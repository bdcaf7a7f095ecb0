-- When a value, a place or a store by position is one by name: the names stand at their positions, and the values are
-- of their types.
use Rattle.std.specs.Prelude.{◌≡◌, ℕ, zero, suc, ◌<◌, true, false, List, [], ◌∷◌, length, slice_get, Option, Some, None}
use Rattle.ob_interface.specs.declared.scalar.Scalar.{Scalar}
use Rattle.ob_interface.specs.declared.scalar.ScalarType.{ScalarType}
use Rattle.ob_typing.specs.Program.{DataType, Simple, Array, Record, Fields, no_field, field, Parameter, Program}
use Rattle.ob_typing.specs.Arithmetic.{Evaluated, Gives, Traps, type_of}
use Rattle.ob_meaning.specs.ByNameValue as Named
use Rattle.ob_meaning.specs.ByNameStore as Names
use Rattle.ob_meaning.specs.ByNameStatements as Meanings
use Rattle.ob_meaning.specs.ByNameObject as Objects
use Rattle.ob_meaning.specs.ByNameObject.{State}
use Rattle.ob_meaning.specs.ByPositionValue.{Value, Values, Single, Parts, no_part, part}
use Rattle.ob_meaning.specs.ByPositionStore.{Place, Held, Holds, Refers, Activation, Store}
use Rattle.ob_meaning.specs.ByPositionStatements.{Outcome, Done, Trap}
use Rattle.ob_meaning.specs.ByPositionObject.{Effect}
use Rattle.ob_meaning.specs.Resolved.{module_scope, IsAt, IsFieldAt, NoneCalled}

-- one scalar of this type
abbrev pub SameScalar : ScalarType → Scalar → Scalar → Type 0
SameScalar t s r = (s ≡ r) × (type_of r ≡ t)

abbrev pub SameSingle : ScalarType → Named.Value → Value → Type 0
SameSingle t (Named.Single s) (Single r) = SameScalar t s r
SameSingle t v w = ⊥

-- so many elements, each the same
abbrev pub SameElements : (Named.Value → Value → Type 0) → ℕ → Named.Values → Values → Type 0
SameElements R zero Named.no_value no_part = Unit {0}
SameElements R (suc n) (Named.value v vs) (part w ws) = R v w × SameElements R n vs ws
SameElements R n vs ws = ⊥

abbrev pub SameArray : (Named.Value → Value → Type 0) → ℕ → Named.Value → Value → Type 0
SameArray R n (Named.Elements vs) (Parts ws) = SameElements R n vs ws
SameArray R n v w = ⊥

abbrev pub SameRecord : (Named.NamedValues → Values → Type 0) → Named.Value → Value → Type 0
SameRecord R (Named.Named vs) (Parts ws) = R vs ws
SameRecord R v w = ⊥

-- one value of this type
abbrev mutual
  pub SameValue : DataType → Named.Value → Value → Type 0
  SameValue (Simple t) v w = SameSingle t v w
  SameValue (Array place size element) v w = SameArray (SameValue element) size v w
  SameValue (Record place fields) v w = SameRecord (SameFields fields) v w

  pub SameFields : Fields → Named.NamedValues → Values → Type 0
  SameFields no_field Named.no_named no_part = Unit {0}
  SameFields (field name type rest) (Named.named other v vs) (part w ws) =
      (other ≡ name) × (SameValue type v w × SameFields rest vs ws)
  SameFields fields vs ws = ⊥

-- one step into a value, to a part of this type
abbrev pub SameStep : DataType → Named.SelectorValue → ℕ → DataType → Type 0
SameStep (Array place size element) (Named.Index i) j r = (i ≡ j) × ((j < size) × (element ≡ r))
SameStep (Record place fields) (Named.Field name) j r = IsFieldAt fields name j r
SameStep t s j r = ⊥

-- one path from a type to a type
abbrev pub SamePath : DataType → List Named.SelectorValue → List ℕ → DataType → Type 0
SamePath t [] [] u = t ≡ u
SamePath t (s ∷ selectors) (j ∷ path) u = (r : DataType) × (SameStep t s j r × SamePath r selectors path u)
SamePath t selectors path u = ⊥

-- what each activation declares
abbrev pub Scopes : Type 0
Scopes = List (List Parameter)

abbrev pub the_scope : Option (List Parameter) → List Parameter
the_scope None = []
the_scope (Some scope) = scope

abbrev pub scope_at : Scopes → ℕ → List Parameter
scope_at scopes k = the_scope (slice_get scopes k)

-- one place of this type, in a variable that has a value of its own
pub record SamePlace (scopes : Scopes) (t : DataType) (p : Names.Place) (q : Place) : Type 0 where
  pub activation : p.activation ≡ q.activation
  pub variable : Parameter
  pub there : IsAt (scope_at scopes q.activation) p.name q.position variable
  pub own : variable.is_var ≡ false
  pub path : SamePath variable.type p.selectors q.path t

-- what a variable of the activation at k has: a value of its type, or, for a VAR parameter, a place of an earlier activation
abbrev pub SameHeld : Scopes → ℕ → Parameter → Names.Held → Held → Type 0
SameHeld scopes k p (Names.Holds v) (Holds w) = (p.is_var ≡ false) × SameValue p.type v w
SameHeld scopes k p (Names.Refers a) (Refers b) = (p.is_var ≡ true) × (SamePlace scopes p.type a b × (b.activation < k))
SameHeld scopes k p h g = ⊥

-- what was handed over to parameters of the next activation
abbrev pub SameHanded : Scopes → List Parameter → List Names.Held → List Held → Type 0
SameHanded scopes [] [] [] = Unit {0}
SameHanded scopes (p ∷ ps) (h ∷ named) (g ∷ held) = SameHeld scopes (length scopes) p h g × SameHanded scopes ps named held
SameHanded scopes ps named held = ⊥

-- one activation, at k: distinct names in their order
abbrev pub SameActivation : Scopes → ℕ → List Parameter → Names.Activation → Activation → Type 0
SameActivation scopes k [] [] [] = Unit {0}
SameActivation scopes k (p ∷ ps) (b ∷ bindings) (h ∷ held) =
    ((b.name ≡ p.name) × NoneCalled ps p.name) × (SameHeld scopes k p b.held h × SameActivation scopes k ps bindings held)
SameActivation scopes k ps bindings held = ⊥

-- one store from the activation at k on
abbrev pub SameFrom : Scopes → ℕ → Scopes → Names.Store → Store → Type 0
SameFrom scopes k [] [] [] = Unit {0}
SameFrom scopes k (s ∷ rest) (a ∷ named) (b ∷ store) = SameActivation scopes k s a b × SameFrom scopes (suc k) rest named store
SameFrom scopes k rest named store = ⊥

-- one store
abbrev pub SameStore : Scopes → Names.Store → Store → Type 0
SameStore scopes named store = SameFrom scopes 0 scopes named store

-- one evaluation
abbrev pub SameEvaluated : {A B : Type 0} → (A → B → Type 0) → Evaluated A → Evaluated B → Type 0
SameEvaluated R (Gives a) (Gives b) = R a b
SameEvaluated R (Traps k) (Traps j) = k ≡ j
SameEvaluated R v w = ⊥

-- one outcome
abbrev pub SameOutcome : Scopes → Meanings.Outcome → Outcome → Type 0
SameOutcome scopes (Meanings.Done t named) (Done u store) = (t ≡ u) × SameStore scopes named store
SameOutcome scopes (Meanings.Trap k) (Trap j) = k ≡ j
SameOutcome scopes o r = ⊥

-- one state of the module: its variables, each with one value
abbrev pub SameState : Program → State → Activation → Type 0
SameState program = SameActivation (module_scope program ∷ []) 0 (module_scope program)

-- one effect of a call from outside: one state and one reply
pub record SameEffect (program : Program) (named : Objects.Effect) (effect : Effect) : Type 0 where
  pub state : SameState program named.state effect.state
  pub reply : named.reply ≡ effect.reply
