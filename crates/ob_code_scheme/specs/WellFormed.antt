-- What is used of a checked program: its names stand for what they are used as, and its literals are in range.
use Rattle.std.specs.Prelude.{◌≡◌, ℕ, zero, suc, ◌≤◌, true, List, [], ◌∷◌, length, slice_get, Option, Some, None}
use Rattle.std.specs.List.{All}
use Rattle.ob_interface.specs.declared.scalar.ScalarType.{ScalarType}
use Rattle.ob_interface.specs.declared.scalar.ScalarType.TheVariants.{Integer, Boolean}
use Rattle.ob_typing.specs.declared.operator.Relation.{Relation}
use Rattle.ob_typing.specs.declared.operator.Relation.TheVariants.{Equal, NotEqual}
use Rattle.ob_typing.specs.Program.{DataType, Simple, Array, Record, Fields, no_field, field, Expression, Literal, ValueOf, Negated, Complement, Computed, Compared, Operations, no_operation, operation, Designator, Designated, Selectors, no_selector, field_of, element_of, Actual, ByValue, ByPlace, Statement, Assign, Call, If, While, Repeat, Statements, no_statement, statement, Branches, no_branch, otherwise, branch, Procedure, Program}
use Rattle.ob_typing.specs.Arithmetic.{takes}
use Rattle.ob_typing.specs.Declarations.{most_parameters}
use Rattle.ob_code_scheme.specs.Limits.{most_words, most_frame_words, most_temporary_words}
use Rattle.ob_code_scheme.specs.Types.{words, words_of_fields, Space, Holding, Referring, Scope, extent, type_at, scope_of, part_type, HasField, IsScalarOf, variables_scope, parameters_scope, frame_scope}
use Rattle.ob_code_scheme.specs.Temporaries.{frame_words, statements_temporaries}

-- a scope has this position
abbrev pub HasPosition : Scope → ℕ → Type 0
HasPosition [] position = ⊥
HasPosition (s ∷ scope) zero = Unit {0}
HasPosition (s ∷ scope) (suc position) = HasPosition scope position

-- a record with a field at this position
abbrev pub HasFieldAt : DataType → ℕ → Type 0
HasFieldAt (Simple type) position = ⊥
HasFieldAt (Array place length element) position = ⊥
HasFieldAt (Record place fields) position = HasField fields position

-- an array of this length
abbrev pub HasLength : DataType → ℕ → Type 0
HasLength (Simple type) n = ⊥
HasLength (Array place length element) n = length ≡ n
HasLength (Record place fields) n = ⊥

-- a relation compares scalars of this type
abbrev pub IsOn : Relation → ScalarType → Type 0
IsOn Equal t = Unit {0}
IsOn NotEqual t = Unit {0}
IsOn _ t = t ≡ Integer

-- in a procedure with the frame scope `own`, of a module with the scope `globals`
module _ (globals own : Scope) where
  abbrev mutual
    -- an expression of this type
    pub IsOf : Expression → ScalarType → Type 0
    IsOf (Literal s) t = IsScalarOf t s
    IsOf (ValueOf type d) t = Designates d (Simple t)
    IsOf (Negated e) Integer = IsOf e Integer
    IsOf (Negated e) Boolean = ⊥
    IsOf (Complement e) Integer = ⊥
    IsOf (Complement e) Boolean = IsOf e Boolean
    IsOf (Computed first rest) t = IsOf first t × AreOf rest t
    IsOf (Compared relation left right) Integer = ⊥
    IsOf (Compared relation left right) Boolean = (s : ScalarType) × IsOn relation s × IsOf left s × IsOf right s

    -- operators that take this type, each with an operand of it
    pub AreOf : Operations → ScalarType → Type 0
    AreOf no_operation t = Unit {0}
    AreOf (operation o e rest) t = (takes o ≡ t) × IsOf e t × AreOf rest t

    -- a variable of this type, or a part of one
    pub Designates : Designator → DataType → Type 0
    Designates (Designated slot selectors) type =
        HasPosition (scope_of globals own slot.owner) slot.position × Selects (type_at (scope_of globals own slot.owner) slot.position) selectors type

    -- from a type these selectors lead to a type; an index is an INTEGER
    pub Selects : DataType → Selectors → DataType → Type 0
    Selects from no_selector to = from ≡ to
    Selects from (field_of position name rest) to = HasFieldAt from position × Selects (part_type from position) rest to
    Selects from (element_of length index rest) to =
        HasLength from length × IsOf index Integer × Selects (part_type from 0) rest to

  -- an actual for a parameter of this space: the value of an expression, or the place of a variable
  abbrev pub IsActual : Actual → Space → Type 0
  IsActual (ByValue e) (Holding (Simple t)) = IsOf e t
  IsActual (ByPlace d) (Referring type) = Designates d type
  IsActual _ _ = ⊥

  -- an actual for each parameter
  abbrev pub AreActuals : List Actual → Scope → Type 0
  AreActuals [] [] = Unit {0}
  AreActuals [] (s ∷ scope) = ⊥
  AreActuals (a ∷ actuals) [] = ⊥
  AreActuals (a ∷ actuals) (s ∷ scope) = IsActual a s × AreActuals actuals scope

  -- actuals for the parameters of a procedure that is there
  abbrev pub AreActualsOf : List Actual → Option Procedure → Type 0
  AreActualsOf actuals None = ⊥
  AreActualsOf actuals (Some p) = AreActuals actuals (parameters_scope p.parameters)

  -- with these procedures
  module _ (procedures : List Procedure) where
    abbrev mutual
      pub IsFine : Statement → Type 0
      IsFine (Assign target e) = (t : ScalarType) × Designates target (Simple t) × IsOf e t
      IsFine (Call procedure actuals) = AreActualsOf actuals (slice_get procedures procedure)
      IsFine (If branches) = AreFineBranches branches
      IsFine (While condition body) = IsOf condition Boolean × AreFine body
      IsFine (Repeat body condition) = AreFine body × IsOf condition Boolean

      pub AreFine : Statements → Type 0
      AreFine no_statement = Unit {0}
      AreFine (statement first rest) = IsFine first × AreFine rest

      pub AreFineBranches : Branches → Type 0
      AreFineBranches no_branch = Unit {0}
      AreFineBranches (otherwise statements) = AreFine statements
      AreFineBranches (branch condition statements rest) =
          IsOf condition Boolean × AreFine statements × AreFineBranches rest

-- a type that is not structured
abbrev pub IsSimple : DataType → Type 0
IsSimple (Simple type) = Unit {0}
IsSimple _ = ⊥

-- a value parameter is not structured
abbrev pub IsFineSpace : Space → Type 0
IsFineSpace (Holding type) = IsSimple type
IsFineSpace (Referring type) = Unit {0}

-- within a type no array is longer than `most_words`, and no part has more words
abbrev mutual
  pub IsSmall : DataType → Type 0
  IsSmall (Simple type) = Unit {0}
  IsSmall (Array place length element) = (length ≤ most_words) × (words element ≤ most_words) × IsSmall element
  IsSmall (Record place fields) = (words_of_fields fields ≤ most_words) × AreSmall fields

  pub AreSmall : Fields → Type 0
  AreSmall no_field = Unit {0}
  AreSmall (field name type rest) = IsSmall type × AreSmall rest

-- at most 8 parameters, of which no value parameter is structured, and of an export none; and the limits on words
pub record IsFineProcedure (program : Program) (p : Procedure) : Type 0 where
  pub few : length p.parameters ≤ most_parameters
  pub values : All IsFineSpace (parameters_scope p.parameters)
  pub results : p.is_exported ≡ true → All (λ q. IsSimple q.type) p.parameters
  pub body : AreFine (variables_scope program.variables) (frame_scope p) program.procedures p.body
  pub small_parameters : All (λ q. IsSmall q.type) p.parameters
  pub small_variables : All (λ v. IsSmall v.type) p.variables
  pub frame : frame_words p ≤ most_frame_words
  pub temporaries : statements_temporaries p.body ≤ most_temporary_words

-- while the module's body runs, the module's variables are those of the running activation
pub record IsWellFormed (program : Program) : Type 0 where
  pub procedures : All (IsFineProcedure program) program.procedures
  pub body : AreFine (variables_scope program.variables) (variables_scope program.variables) program.procedures program.body
  pub small : All (λ v. IsSmall v.type) program.variables
  pub variables : extent (variables_scope program.variables) ≤ most_words
