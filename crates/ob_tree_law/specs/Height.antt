-- How high the tree of a construct is: lists count as one, so it grows with the nesting of the text alone. The words that code holds
-- and the tasks that wait are both bounded by it.
use Rattle.std.specs.Prelude.{ℕ, ◌+◌, ◌*◌, ◌≤◌, max, List, [], ◌∷◌, map, length}
use Rattle.ob_typing.specs.Program.{Expression, Literal, ValueOf, Negated, Complement, Computed, Compared, Operations, no_operation, operation, Designator, Designated, Selectors, no_selector, field_of, element_of, Actual, ByValue, ByPlace, Statement, Assign, Call, If, While, Repeat, Statements, no_statement, statement, Branches, no_branch, otherwise, branch, Procedure}
use Rattle.ob_code_scheme.specs.Temporaries.{largest, most_temporaries}
use Rattle.ob_tree_law.specs.Reserve.{activation_most}

abbrev mutual
  pub height : Expression → ℕ
  height (Literal s) = 1
  height (ValueOf type d) = 1 + address_height d
  height (Negated e) = 1 + height e
  height (Complement e) = 1 + height e
  height (Computed first rest) = 1 + max (height first) (operators_height rest)
  height (Compared relation left right) = 1 + max (height left) (height right)

  pub operators_height : Operations → ℕ
  operators_height no_operation = 0
  operators_height (operation o e rest) = max (height e) (operators_height rest)

  pub address_height : Designator → ℕ
  address_height (Designated slot selectors) = selecting_height selectors

  pub selecting_height : Selectors → ℕ
  selecting_height no_selector = 0
  selecting_height (field_of position name rest) = selecting_height rest
  selecting_height (element_of n index rest) = max (height index) (selecting_height rest)

abbrev pub actual_height : Actual → ℕ
actual_height (ByValue e) = height e
actual_height (ByPlace d) = address_height d

abbrev pub handing_height : List Actual → ℕ
handing_height [] = 0
handing_height (a ∷ actuals) = max (actual_height a) (handing_height actuals)

abbrev mutual
  pub doing_height : Statement → ℕ
  doing_height (Assign target e) = max (address_height target) (height e)
  -- each actual leaves a word below those behind it
  doing_height (Call procedure actuals) = length actuals + handing_height actuals
  doing_height (If branches) = 1 + choosing_height branches
  doing_height (While condition body) = 1 + max (height condition) (all_height body)
  doing_height (Repeat body condition) = 1 + max (all_height body) (height condition)

  pub all_height : Statements → ℕ
  all_height no_statement = 0
  all_height (statement first rest) = max (doing_height first) (all_height rest)

  pub choosing_height : Branches → ℕ
  choosing_height no_branch = 0
  choosing_height (otherwise ss) = all_height ss
  choosing_height (branch condition ss rest) =
      max (height condition) (max (all_height ss) (choosing_height rest))

-- the highest of some procedures
abbrev pub greatest_height : List Procedure → ℕ
greatest_height procedures = largest (map (λ p. all_height p.body) procedures)

-- the words above a frame, and the tasks of an activation
abbrev pub HeightBounds : Type 0
HeightBounds =
    (procedures : List Procedure) →
    (most_temporaries procedures ≤ greatest_height procedures + 1)
    × (activation_most procedures ≤ 3 * greatest_height procedures + 7)
