-- What the checked program of a well typed module keeps: each variable stands at its position with its type, each
-- expression has its type, and each call fits its procedure.
use Rattle.std.specs.Prelude.{◌≡◌, ℕ, zero, suc, true, false, not, ◌||◌, bytes_eq, List, [], ◌∷◌, ◌++◌, map, slice_get, Some}
use Rattle.ob_interface.specs.declared.scalar.ScalarType.{ScalarType}
use Rattle.ob_interface.specs.declared.scalar.ScalarType.TheVariants.{Integer, Boolean}
use Rattle.ob_typing.specs.Program.{Name, DataType, Simple, Array, Record, Fields, no_field, field, Owner, OfModule, Own, Expression, Literal, ValueOf, Negated, Complement, Computed, Compared, Operations, no_operation, operation, Designator, Designated, Selectors, no_selector, field_of, element_of, Actual, ByValue, ByPlace, Statement, Assign, Call, If, While, Repeat, Statements, no_statement, statement, Branches, no_branch, otherwise, branch, Parameter, Variable, Procedure, Program}
use Rattle.ob_typing.specs.Arithmetic.{type_of, takes}
use Rattle.ob_typing.specs.Declarations.{all_simple}

-- a variable as a scope declares it
abbrev pub as_parameter : Variable → Parameter
as_parameter v = record { name = v.name; is_var = false; type = v.type }

-- what a procedure's scope declares: its parameters, and then its variables
abbrev pub scope_of : Procedure → List Parameter
scope_of p = p.parameters ++ map as_parameter p.variables

-- what the module's scope declares
abbrev pub module_scope : Program → List Parameter
module_scope program = map as_parameter program.variables

-- this is the first of this name, and stands at this position
abbrev pub IsAt : List Parameter → Name → ℕ → Parameter → Type 0
IsAt [] name i p = ⊥
IsAt (q ∷ rest) name zero p = (bytes_eq q.name name ≡ true) × (q ≡ p)
IsAt (q ∷ rest) name (suc i) p = (bytes_eq q.name name ≡ false) × IsAt rest name i p

-- the first field of this name stands at this position, and has this type
abbrev pub IsFieldAt : Fields → Name → ℕ → DataType → Type 0
IsFieldAt no_field name i t = ⊥
IsFieldAt (field other type rest) name zero t = (bytes_eq other name ≡ true) × (type ≡ t)
IsFieldAt (field other type rest) name (suc i) t = (bytes_eq other name ≡ false) × IsFieldAt rest name i t

-- nothing has this name
abbrev pub NoneCalled : List Parameter → Name → Type 0
NoneCalled [] name = Unit {0}
NoneCalled (q ∷ rest) name = (bytes_eq q.name name ≡ false) × NoneCalled rest name

-- no two have one name
abbrev pub AreDistinct : List Parameter → Type 0
AreDistinct [] = Unit {0}
AreDistinct (q ∷ rest) = NoneCalled rest q.name × AreDistinct rest

-- a record with this field at this position
abbrev pub HasField : DataType → Name → ℕ → DataType → Type 0
HasField (Record place fields) name i t = IsFieldAt fields name i t
HasField _ name i t = ⊥

-- an array of this length with elements of this type
abbrev pub HasElements : DataType → ℕ → DataType → Type 0
HasElements (Array place length element) n t = (length ≡ n) × (element ≡ t)
HasElements _ n t = ⊥

module _ (outer own : List Parameter) where
  -- what the scope of an owner declares
  abbrev pub declared_by : Owner → List Parameter
  declared_by OfModule = outer
  declared_by Own = own

  abbrev mutual
    -- an expression of this type
    pub IsOf : Expression → ScalarType → Type 0
    IsOf (Literal s) t = type_of s ≡ t
    IsOf (ValueOf type variable) t = (type ≡ t) × IsVariable variable (Simple t)
    IsOf (Negated operand) t = (t ≡ Integer) × IsOf operand Integer
    IsOf (Complement operand) t = (t ≡ Boolean) × IsOf operand Boolean
    IsOf (Computed first rest) t = IsOf first t × AreOf rest t
    IsOf (Compared relation left right) t = (t ≡ Boolean) × ((s : ScalarType) × (IsOf left s × IsOf right s))

    -- operators of this type with their operands
    pub AreOf : Operations → ScalarType → Type 0
    AreOf no_operation t = Unit {0}
    AreOf (operation operator operand rest) t = (takes operator ≡ t) × (IsOf operand t × AreOf rest t)

    -- a variable or a part of it of this type
    pub IsVariable : Designator → DataType → Type 0
    IsVariable (Designated slot selectors) t =
        (p : Parameter) × (IsAt (declared_by slot.owner) slot.name slot.position p × Lead p.type selectors t)

    -- selectors that lead from a type to a type
    pub Lead : DataType → Selectors → DataType → Type 0
    Lead t no_selector u = t ≡ u
    Lead t (field_of position name rest) u = (s : DataType) × (HasField t name position s × Lead s rest u)
    Lead t (element_of length index rest) u =
        (s : DataType) × (HasElements t length s × (IsOf index Integer × Lead s rest u))

  -- the actual of a parameter
  abbrev pub IsActual : Parameter → Actual → Type 0
  IsActual p (ByValue expression) =
      (p.is_var ≡ false) × ((t : ScalarType) × ((p.type ≡ Simple t) × IsOf expression t))
  IsActual p (ByPlace variable) = (p.is_var ≡ true) × IsVariable variable p.type

  abbrev pub Fit : List Parameter → List Actual → Type 0
  Fit [] [] = Unit {0}
  Fit (p ∷ ps) (a ∷ actuals) = IsActual p a × Fit ps actuals
  Fit ps actuals = ⊥

  module _ (procedures : List Procedure) where
    abbrev mutual
      pub IsGood : Statement → Type 0
      IsGood (Assign target expression) = (t : ScalarType) × (IsVariable target (Simple t) × IsOf expression t)
      IsGood (Call number actuals) = (p : Procedure) × ((slice_get procedures number ≡ Some p) × Fit p.parameters actuals)
      IsGood (If branches) = AreGoodBranches branches
      IsGood (While condition body) = IsOf condition Boolean × AreGood body
      IsGood (Repeat body condition) = AreGood body × IsOf condition Boolean

      pub AreGood : Statements → Type 0
      AreGood no_statement = Unit {0}
      AreGood (statement first rest) = IsGood first × AreGood rest

      pub AreGoodBranches : Branches → Type 0
      AreGoodBranches no_branch = Unit {0}
      AreGoodBranches (otherwise statements) = AreGood statements
      AreGoodBranches (branch condition statements rest) =
          IsOf condition Boolean × (AreGood statements × AreGoodBranches rest)

-- a procedure's names are distinct, its statements are good in its scope, and of an export each parameter is a scalar
pub record IsProcedure (program : Program) (p : Procedure) : Type 0 where
  pub distinct : AreDistinct (scope_of p)
  pub export : (not p.is_exported || all_simple p.parameters) ≡ true
  pub body : AreGood (module_scope program) (scope_of p) program.procedures p.body

pub record IsResolved (program : Program) : Type 0 where
  pub distinct : AreDistinct (module_scope program)
  pub procedures : (n : ℕ) (p : Procedure) → slice_get program.procedures n ≡ Some p → IsProcedure program p
  pub body : AreGood (module_scope program) (module_scope program) program.procedures program.body
