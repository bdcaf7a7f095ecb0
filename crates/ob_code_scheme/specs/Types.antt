-- Words, scopes and addresses by position, and the values and stores that have their types.
use Rattle.std.specs.Prelude.{◌≡◌, ℕ, zero, suc, ◌+◌, ◌*◌, ◌<◌, ℤ, pos, neg_ℤ, ◌≤ℤ◌, List, [], ◌∷◌, ◌++◌, length, map, filter, if◌then◌else◌}
use Rattle.ob_interface.specs.declared.scalar.Scalar.{Scalar}
use Rattle.ob_interface.specs.declared.scalar.Scalar.TheVariants.{Int, Bool}
use Rattle.ob_interface.specs.declared.scalar.ScalarType.{ScalarType}
use Rattle.ob_interface.specs.declared.scalar.ScalarType.TheVariants.{Integer, Boolean}
use Rattle.ob_typing.specs.Program.{DataType, Simple, Array, Record, Fields, no_field, field, Owner, OfModule, Own, Parameter, Variable, Procedure}
use Rattle.ob_meaning.specs.ByPositionValue.{Value, Single, Parts, Values, no_part, part}
use Rattle.ob_meaning.specs.ByPositionStore.{Place, Held, Holds, Refers, Activation, Store}

-- ---- words

-- the words of a type; a record without fields has none
abbrev mutual
  pub words : DataType → ℕ
  words (Simple type) = 1
  words (Array place length element) = length * words element
  words (Record place fields) = words_of_fields fields

  pub words_of_fields : Fields → ℕ
  words_of_fields no_field = 0
  words_of_fields (field name type rest) = words type + words_of_fields rest

-- the words of the fields before a position
abbrev pub offset : Fields → ℕ → ℕ
offset no_field position = 0
offset (field name type rest) zero = 0
offset (field name type rest) (suc position) = words type + offset rest position

-- the type of the field at a position; INTEGER where there is none, as never in a checked program
abbrev pub field_type : Fields → ℕ → DataType
field_type no_field position = Simple Integer
field_type (field name type rest) zero = type
field_type (field name type rest) (suc position) = field_type rest position

-- the type of the part at a position: an element or a field; what has no parts stays, as never in a checked program
abbrev pub part_type : DataType → ℕ → DataType
part_type (Simple type) i = Simple type
part_type (Array place length element) i = element
part_type (Record place fields) i = field_type fields i

-- the words of a type before the part at a position
abbrev pub part_offset : DataType → ℕ → ℕ
part_offset (Simple type) i = 0
part_offset (Array place length element) i = i * words element
part_offset (Record place fields) i = offset fields i

-- the words of a type before the part behind positions, one within the other
abbrev pub inner : DataType → List ℕ → ℕ
inner type [] = 0
inner type (i ∷ path) = part_offset type i + inner (part_type type i) path

-- ---- scopes

-- what lies in the words of a position of a scope
pub data Space : Type 0 where
  -- a value of this type
  Holding : (type : DataType) → Space
  -- the address of a place of this type
  Referring : (type : DataType) → Space

-- what an activation has at its positions, parameters and then variables in text order
abbrev pub Scope : Type 0
Scope = List Space

-- the type that a name of this space has
abbrev pub type_of_space : Space → DataType
type_of_space (Holding type) = type
type_of_space (Referring type) = type

-- an address takes one word
abbrev pub width : Space → ℕ
width (Holding type) = words type
width (Referring type) = 1

-- the words of a scope
abbrev pub extent : Scope → ℕ
extent [] = 0
extent (s ∷ scope) = width s + extent scope

-- the first word of a position: so many words stand before it
abbrev pub word_in : Scope → ℕ → ℕ
word_in [] position = 0
word_in (s ∷ scope) zero = 0
word_in (s ∷ scope) (suc position) = width s + word_in scope position

-- the space of a position; one for an INTEGER where there is none, as never in a checked program
abbrev pub space_at : Scope → ℕ → Space
space_at [] position = Holding (Simple Integer)
space_at (s ∷ scope) zero = s
space_at (s ∷ scope) (suc position) = space_at scope position

abbrev pub type_at : Scope → ℕ → DataType
type_at scope position = type_of_space (space_at scope position)

-- of variables
abbrev pub variables_scope : List Variable → Scope
variables_scope = map (λ v. Holding v.type)

-- a value parameter is a value, a VAR parameter an address
abbrev pub parameter_space : Parameter → Space
parameter_space p = if p.is_var then Referring p.type else Holding p.type

abbrev pub parameters_scope : List Parameter → Scope
parameters_scope = map parameter_space

-- of the results of a call from outside: a place for each VAR parameter
abbrev pub results_scope : List Parameter → Scope
results_scope parameters = map (λ p. Holding p.type) (filter (λ p. p.is_var) parameters)

-- of a procedure: its parameters and then its variables
abbrev pub frame_scope : Procedure → Scope
frame_scope p = parameters_scope p.parameters ++ variables_scope p.variables

-- the scope that a variable's owner has, where the module and the running procedure have these
abbrev pub scope_of : (globals own : Scope) → Owner → Scope
scope_of globals own OfModule = globals
scope_of globals own Own = own

-- ---- addresses, where these are the scopes of a store's positions

-- the words before a position of the store
abbrev pub base : List Scope → ℕ → ℕ
base [] k = 0
base (s ∷ scopes) zero = 0
base (s ∷ scopes) (suc k) = extent s + base scopes k

-- the words of all these scopes
abbrev pub total : List Scope → ℕ
total [] = 0
total (s ∷ scopes) = extent s + total scopes

abbrev pub scope_at : List Scope → ℕ → Scope
scope_at [] k = []
scope_at (s ∷ scopes) zero = s
scope_at (s ∷ scopes) (suc k) = scope_at scopes k

-- the address of a place: the number of words before it
abbrev pub address : List Scope → Place → ℕ
address scopes place =
    base scopes place.activation
    + (word_in (scope_at scopes place.activation) place.position
    + inner (type_at (scope_at scopes place.activation) place.position) place.path)

-- ---- values of a type

-- from -2147483648 to 2147483647
pub record IsInteger (z : ℤ) : Type 0 where
  pub low : neg_ℤ (pos 2147483648) ≤ℤ z
  pub high : z ≤ℤ pos 2147483647

-- a scalar of a type
abbrev pub IsScalarOf : ScalarType → Scalar → Type 0
IsScalarOf Integer (Int z) = IsInteger z
IsScalarOf Boolean (Bool b) = Unit {0}
IsScalarOf Integer (Bool b) = ⊥
IsScalarOf Boolean (Int z) = ⊥

-- so many parts, each of a kind
abbrev pub AreAll : (Value → Type 0) → ℕ → Values → Type 0
AreAll Is zero no_part = Unit {0}
AreAll Is zero (part v vs) = ⊥
AreAll Is (suc n) no_part = ⊥
AreAll Is (suc n) (part v vs) = Is v × AreAll Is n vs

-- a value of a type: an array has so many elements, a record its fields in order
abbrev mutual
  pub IsValueOf : DataType → Value → Type 0
  IsValueOf (Simple type) (Single s) = IsScalarOf type s
  IsValueOf (Simple type) (Parts vs) = ⊥
  IsValueOf (Array place length element) (Single s) = ⊥
  IsValueOf (Array place length element) (Parts vs) = AreAll (λ v. IsValueOf element v) length vs
  IsValueOf (Record place fields) (Single s) = ⊥
  IsValueOf (Record place fields) (Parts vs) = AreFields fields vs

  pub AreFields : Fields → Values → Type 0
  AreFields no_field no_part = Unit {0}
  AreFields no_field (part v vs) = ⊥
  AreFields (field name type rest) no_part = ⊥
  AreFields (field name type rest) (part v vs) = IsValueOf type v × AreFields rest vs

-- ---- places: scopes alone tell what is one, never values

-- fields have this position
abbrev pub HasField : Fields → ℕ → Type 0
HasField no_field position = ⊥
HasField (field name type rest) zero = Unit {0}
HasField (field name type rest) (suc position) = HasField rest position

-- a type has a part at this position
abbrev pub HasPart : DataType → ℕ → Type 0
HasPart (Simple type) i = ⊥
HasPart (Array place length element) i = i < length
HasPart (Record place fields) i = HasField fields i

-- from a type these positions, one within the other, lead to a type
abbrev pub IsPath : DataType → List ℕ → DataType → Type 0
IsPath from [] to = from ≡ to
IsPath from (i ∷ path) to = HasPart from i × IsPath (part_type from i) path to

-- the same from a space; nothing is within a reference
abbrev pub IsWithin : Space → List ℕ → DataType → Type 0
IsWithin (Holding whole) path type = IsPath whole path type
IsWithin (Referring whole) path type = ⊥

abbrev pub IsPlaceIn : Scope → ℕ → List ℕ → DataType → Type 0
IsPlaceIn [] position path type = ⊥
IsPlaceIn (s ∷ scope) zero path type = IsWithin s path type
IsPlaceIn (s ∷ scope) (suc position) path type = IsPlaceIn scope position path type

-- a place of a value of this type
abbrev pub IsPlace : List Scope → Place → DataType → Type 0
IsPlace scopes place type = IsPlaceIn (scope_at scopes place.activation) place.position place.path type

-- ---- stores

-- what position k of the store has fits its space: a value of the type, or a place of a position before k
abbrev pub FitsHeld : List Scope → ℕ → Space → Held → Type 0
FitsHeld scopes k (Holding type) (Holds v) = IsValueOf type v
FitsHeld scopes k (Holding type) (Refers place) = ⊥
FitsHeld scopes k (Referring type) (Holds v) = ⊥
FitsHeld scopes k (Referring type) (Refers place) = (place.activation < k) × IsPlace scopes place type

abbrev pub FitsActivation : List Scope → ℕ → Scope → Activation → Type 0
FitsActivation scopes k [] [] = Unit {0}
FitsActivation scopes k [] (h ∷ held) = ⊥
FitsActivation scopes k (s ∷ scope) [] = ⊥
FitsActivation scopes k (s ∷ scope) (h ∷ held) = FitsHeld scopes k s h × FitsActivation scopes k scope held

-- positions from number k on
abbrev pub FitsFrom : (all : List Scope) → ℕ → List Scope → Store → Type 0
FitsFrom all k [] [] = Unit {0}
FitsFrom all k [] (a ∷ store) = ⊥
FitsFrom all k (s ∷ scopes) [] = ⊥
FitsFrom all k (s ∷ scopes) (a ∷ store) = FitsActivation all k s a × FitsFrom all (suc k) scopes store

-- a store whose positions have these scopes
pub record Fits (scopes : List Scope) (store : Store) : Type 0 where
  pub from : FitsFrom scopes 0 scopes store

-- what was handed over fits a scope of parameters: so a position behind all these may begin with it
abbrev pub FitsHanded : List Scope → Scope → List Held → Type 0
FitsHanded scopes scope handed = FitsActivation scopes (length scopes) scope handed

-- a state of a module with these variables: a value for each, of its type
abbrev pub IsStateOf : List Variable → Activation → Type 0
IsStateOf variables state = FitsActivation [] 0 (variables_scope variables) state
