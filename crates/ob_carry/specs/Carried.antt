-- The state that is carried over: each variable has the value that a list gives to its name, or else 0 or FALSE throughout.
use Rattle.std.specs.Prelude.{◌≡◌, ℕ, suc, List, [], ◌∷◌, map, take, slice_get, bytes_eq, false, if◌then◌else◌, All, Option, Some, None}
use Rattle.ob_typing.specs.Program.{Name, DataType, Variable, Program}
use Rattle.ob_meaning.specs.ByNameValue.{Value, initial}
use Rattle.ob_meaning.specs.ByNameStore.{Held, Holds, Refers}
use Rattle.ob_meaning.specs.ByNameObject.{State}
use Rattle.ob_carry.specs.declared.carrying.CarryFault.{CarryFault}
use Rattle.ob_carry.specs.declared.carrying.CarryFault.TheVariants as Faults
use Rattle.ob_carry.specs.Values.{IsValueOf}

-- a name, and the value that is given to it
pub record Entry : Type 0 where
  pub name : Name
  pub value : Value

-- the value of a later entry, or else of this one if it is of this name
abbrev pub given_or : Option Value → Entry → Name → Option Value
given_or (Some v) e name = Some v
given_or None e name = if bytes_eq name e.name then Some e.value else None

-- the value that the entries give to a name; the last one of this name counts
abbrev pub value_given : List Entry → Name → Option Value
value_given [] name = None
value_given (e ∷ entries) name = given_or (value_given entries name) e name

abbrev pub value_or_initial : DataType → Option Value → Value
value_or_initial type None = initial type
value_or_initial type (Some v) = v

-- variables with the values that the entries give them, or else at their beginning
abbrev pub carried_to : List Variable → List Entry → State
carried_to variables entries =
    map (λ v. record { name = v.name; held = Holds (value_or_initial v.type (value_given entries v.name)) }) variables

abbrev pub carried : Program → List Entry → State
carried program entries = carried_to program.variables entries

-- the variable of a name
abbrev pub variable_named : List Variable → Name → Option Variable
variable_named [] name = None
variable_named (v ∷ variables) name = if bytes_eq v.name name then Some v else variable_named variables name

-- the position of the variable of a name, behind n others
abbrev pub position_from : ℕ → List Variable → Name → Option ℕ
position_from n [] name = None
position_from n (v ∷ variables) name = if bytes_eq v.name name then Some n else position_from (suc n) variables name

-- a variable that has this value's type
abbrev pub IsVariableFor : Option Variable → Value → Type 0
IsVariableFor None value = ⊥
IsVariableFor (Some v) value = IsValueOf v.type value

-- an entry names a variable, and gives it a value of its type
abbrev pub IsCarriable : List Variable → Entry → Type 0
IsCarriable variables e = IsVariableFor (variable_named variables e.name) e.value

abbrev pub AreCarriable : List Variable → List Entry → Type 0
AreCarriable variables entries = All (IsCarriable variables) entries

-- the first entry that is not carriable stands at this position, and names no variable
pub record IsUnknown (variables : List Variable) (entries : List Entry) (position : ℕ) : Type 0 where
  pub entry : Entry
  pub there : slice_get entries position ≡ Some entry
  pub before : AreCarriable variables (take position entries)
  pub unknown : variable_named variables entry.name ≡ None

-- the first entry that is not carriable stands at this position, and its value is none of its variable's type
pub record IsUnfit (variables : List Variable) (entries : List Entry) (position : ℕ) : Type 0 where
  pub entry : Entry
  pub there : slice_get entries position ≡ Some entry
  pub before : AreCarriable variables (take position entries)
  pub variable : Variable
  pub known : variable_named variables entry.name ≡ Some variable
  pub unfit : IsValueOf variable.type entry.value → ⊥

abbrev pub IsCarryFault : List Variable → List Entry → CarryFault → Type 0
IsCarryFault variables entries (Faults.Unknown position) = IsUnknown variables entries position
IsCarryFault variables entries (Faults.Unfit position) = IsUnfit variables entries position
IsCarryFault variables entries Faults.NoMemory = Unit {0}

-- the state that entries which are carriable come to
pub record IsCarried (program : Program) (entries : List Entry) (state : State) : Type 0 where
  pub carriable : AreCarriable program.variables entries
  pub is : state ≡ carried program entries

-- what a variable has is a value of its type
abbrev pub IsHeldOf : DataType → Held → Type 0
IsHeldOf type (Holds v) = IsValueOf type v
IsHeldOf type (Refers place) = ⊥

-- a state in which each variable, in text order, has a value of its type
abbrev pub AreValuesOf : List Variable → State → Type 0
AreValuesOf [] [] = Unit {0}
AreValuesOf [] (b ∷ state) = ⊥
AreValuesOf (v ∷ variables) [] = ⊥
AreValuesOf (v ∷ variables) (b ∷ state) = (b.name ≡ v.name) × (IsHeldOf v.type b.held × AreValuesOf variables state)

-- no entry has this name
abbrev pub NoneNamed : List Entry → Name → Type 0
NoneNamed entries name = All (λ e. bytes_eq name e.name ≡ false) entries

-- no name stands twice
abbrev pub AreDistinctEntries : List Entry → Type 0
AreDistinctEntries [] = Unit {0}
AreDistinctEntries (e ∷ entries) = NoneNamed entries e.name × AreDistinctEntries entries
