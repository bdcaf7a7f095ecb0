-- What a checked expression or statement keeps apart from its names: literals are in range, relations compare what they may, and the
-- code holds few words.
use Rattle.std.specs.Prelude.{◌≡◌, ℕ, ◌+◌, ◌≤◌, List, [], ◌∷◌, length}
use Rattle.ob_interface.specs.declared.scalar.ScalarType.{ScalarType}
use Rattle.ob_interface.specs.declared.scalar.ScalarType.TheVariants.{Integer, Boolean}
use Rattle.ob_typing.specs.Program.{DataType, Simple, Array, Record, Fields, no_field, field, Expression, Literal, ValueOf, Negated, Complement, Computed, Compared, Operations, no_operation, operation, Designator, Designated, Selectors, no_selector, field_of, element_of, Actual, ByValue, ByPlace, Statement, Assign, Call, If, While, Repeat, Statements, no_statement, statement, Branches, no_branch, otherwise, branch}
use Rattle.ob_typing.specs.Arithmetic.{takes}
use Rattle.ob_code_scheme.specs.Types.{IsScalarOf}
use Rattle.ob_code_scheme.specs.Temporaries.{temporaries, designator_temporaries, actuals_temporaries}
use Rattle.ob_code_scheme.specs.WellFormed.{IsOn}

abbrev mutual
  pub IsPlain : Expression → ScalarType → Type 0
  IsPlain (Literal s) t = IsScalarOf t s
  IsPlain (ValueOf type d) t = (type ≡ t) × IsPlainDesignator d
  IsPlain (Negated e) t = (t ≡ Integer) × IsPlain e Integer
  IsPlain (Complement e) t = (t ≡ Boolean) × IsPlain e Boolean
  IsPlain (Computed first rest) t = IsPlain first t × ArePlain rest t
  IsPlain (Compared relation left right) t = (t ≡ Boolean) × ((s : ScalarType) × IsOn relation s × IsPlain left s × IsPlain right s)

  pub ArePlain : Operations → ScalarType → Type 0
  ArePlain no_operation t = Unit {0}
  ArePlain (operation o e rest) t = (takes o ≡ t) × IsPlain e t × ArePlain rest t

  pub IsPlainDesignator : Designator → Type 0
  IsPlainDesignator (Designated slot selectors) = ArePlainSelectors selectors

  pub ArePlainSelectors : Selectors → Type 0
  ArePlainSelectors no_selector = Unit {0}
  ArePlainSelectors (field_of position name rest) = ArePlainSelectors rest
  ArePlainSelectors (element_of length index rest) = IsPlain index Integer × ArePlainSelectors rest

abbrev pub IsPlainActual : Actual → Type 0
IsPlainActual (ByValue e) = (t : ScalarType) × IsPlain e t
IsPlainActual (ByPlace d) = IsPlainDesignator d

abbrev pub ArePlainActuals : List Actual → Type 0
ArePlainActuals [] = Unit {0}
ArePlainActuals (a ∷ actuals) = IsPlainActual a × ArePlainActuals actuals

-- no expression of a statement holds more words than the bound, and no actual of a call, above those before it
module _ (bound : ℕ) where
  abbrev mutual
    pub IsPlainStatement : Statement → Type 0
    IsPlainStatement (Assign target e) = IsPlainDesignator target × ((t : ScalarType) × IsPlain e t) × (designator_temporaries target ≤ bound) × (temporaries e ≤ bound)
    IsPlainStatement (Call procedure actuals) = ArePlainActuals actuals × (actuals_temporaries actuals + 1 ≤ length actuals + bound)
    IsPlainStatement (If branches) = ArePlainBranches branches
    IsPlainStatement (While condition body) = IsPlain condition Boolean × (temporaries condition ≤ bound) × ArePlainStatements body
    IsPlainStatement (Repeat body condition) = ArePlainStatements body × IsPlain condition Boolean × (temporaries condition ≤ bound)

    pub ArePlainStatements : Statements → Type 0
    ArePlainStatements no_statement = Unit {0}
    ArePlainStatements (statement first rest) = IsPlainStatement first × ArePlainStatements rest

    pub ArePlainBranches : Branches → Type 0
    ArePlainBranches no_branch = Unit {0}
    ArePlainBranches (otherwise statements) = ArePlainStatements statements
    ArePlainBranches (branch condition statements rest) =
        IsPlain condition Boolean × (temporaries condition ≤ bound) × ArePlainStatements statements × ArePlainBranches rest

-- within a type each array has an element
abbrev mutual
  pub IsBuilt : DataType → Type 0
  IsBuilt (Simple type) = Unit {0}
  IsBuilt (Array place length element) = (1 ≤ length) × IsBuilt element
  IsBuilt (Record place fields) = AreBuilt fields

  pub AreBuilt : Fields → Type 0
  AreBuilt no_field = Unit {0}
  AreBuilt (field name type rest) = IsBuilt type × AreBuilt rest
