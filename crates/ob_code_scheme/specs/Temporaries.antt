-- The most words that the code of a construct holds above the height at which it begins, at any moment between its instructions.
use Rattle.std.specs.Prelude.{ℕ, ◌+◌, ◌*◌, max, List, [], ◌∷◌, map}
use Rattle.ob_typing.specs.declared.operator.BinaryOperator.{BinaryOperator}
use Rattle.ob_typing.specs.declared.operator.BinaryOperator.TheVariants.{And, Or}
use Rattle.ob_typing.specs.Program.{Expression, Literal, ValueOf, Negated, Complement, Computed, Compared, Operations, no_operation, operation, Designator, Designated, Selectors, no_selector, field_of, element_of, Actual, ByValue, ByPlace, Statement, Assign, Call, If, While, Repeat, Statements, no_statement, statement, Branches, no_branch, otherwise, branch, Procedure}
use Rattle.ob_code_scheme.specs.Types.{extent, frame_scope}

-- of a right operand with so many: the value of the left one lies below it, but not where the left one could decide
abbrev pub behind_operator : BinaryOperator → ℕ → ℕ
behind_operator And n = n
behind_operator Or n = n
behind_operator _ n = 1 + n

abbrev mutual
  pub temporaries : Expression → ℕ
  temporaries (Literal s) = 1
  temporaries (ValueOf type d) = designator_temporaries d
  temporaries (Negated e) = temporaries e
  temporaries (Complement e) = temporaries e
  temporaries (Computed first rest) = max (temporaries first) (operations_temporaries rest)
  temporaries (Compared relation left right) = max (temporaries left) (1 + temporaries right)

  -- of operators and operands, behind the value of what stands before them
  pub operations_temporaries : Operations → ℕ
  operations_temporaries no_operation = 0
  operations_temporaries (operation operator operand rest) =
      max (behind_operator operator (temporaries operand)) (operations_temporaries rest)

  -- the address of the variable
  pub designator_temporaries : Designator → ℕ
  designator_temporaries (Designated slot selectors) = max 1 (selectors_temporaries selectors)

  -- of selectors, from the height below the address; an index lies above it
  pub selectors_temporaries : Selectors → ℕ
  selectors_temporaries no_selector = 0
  selectors_temporaries (field_of position name rest) = selectors_temporaries rest
  selectors_temporaries (element_of length index rest) = max (1 + temporaries index) (selectors_temporaries rest)

abbrev pub actual_temporaries : Actual → ℕ
actual_temporaries (ByValue e) = temporaries e
actual_temporaries (ByPlace d) = designator_temporaries d

-- each actual leaves one word below those behind it
abbrev pub actuals_temporaries : List Actual → ℕ
actuals_temporaries [] = 0
actuals_temporaries (a ∷ actuals) = max (actual_temporaries a) (1 + actuals_temporaries actuals)

abbrev mutual
  pub statement_temporaries : Statement → ℕ
  -- the address of the target lies below the value
  statement_temporaries (Assign target e) = max (designator_temporaries target) (1 + temporaries e)
  -- the call itself holds nothing above the actuals
  statement_temporaries (Call procedure actuals) = actuals_temporaries actuals
  statement_temporaries (If branches) = branches_temporaries branches
  statement_temporaries (While condition body) = max (temporaries condition) (statements_temporaries body)
  statement_temporaries (Repeat body condition) = max (statements_temporaries body) (temporaries condition)

  pub statements_temporaries : Statements → ℕ
  statements_temporaries no_statement = 0
  statements_temporaries (statement first rest) = max (statement_temporaries first) (statements_temporaries rest)

  pub branches_temporaries : Branches → ℕ
  branches_temporaries no_branch = 0
  branches_temporaries (otherwise statements) = statements_temporaries statements
  branches_temporaries (branch condition statements rest) =
      max (temporaries condition) (max (statements_temporaries statements) (branches_temporaries rest))

-- the most of some procedures
abbrev pub most_temporaries : List Procedure → ℕ
most_temporaries [] = 0
most_temporaries (p ∷ procedures) = max (statements_temporaries p.body) (most_temporaries procedures)

-- the words of a frame: of parameters and variables
abbrev pub frame_words : Procedure → ℕ
frame_words p = extent (frame_scope p)

-- the largest of some numbers
abbrev pub largest : List ℕ → ℕ
largest [] = 0
largest (n ∷ ns) = max n (largest ns)

-- the largest frame of some procedures
abbrev pub largest_frame : List Procedure → ℕ
largest_frame procedures = largest (map frame_words procedures)

-- room for 8 results, and for 64 activations
abbrev pub stack_words : List Procedure → ℕ
stack_words procedures = 8 + 64 * (largest_frame procedures + most_temporaries procedures)
