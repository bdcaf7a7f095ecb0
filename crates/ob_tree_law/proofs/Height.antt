-- The words that code holds and the tasks that wait are bounded by the height of the tree.
use Rattle.std.proofs.Common.{ℕ, ◌+◌, ◌*◌, ◌≤◌, List, [], ◌∷◌, length, arith}
use Rattle.std.specs.Prelude.{max}
use Rattle.std.proofs.Math.Nat.{le-max_left, le-max_right, max-le}
use Rattle.ob_typing.specs.declared.operator.BinaryOperator.{BinaryOperator}
use Rattle.ob_typing.specs.declared.operator.BinaryOperator.TheVariants.{Plus, Minus, Times, Div, Mod, And, Or}
use Rattle.ob_typing.specs.Program.{Expression, Literal, ValueOf, Negated, Complement, Computed, Compared, Operations, no_operation, operation, Designator, Designated, Selectors, no_selector, field_of, element_of, Actual, ByValue, ByPlace, Statement, Assign, Call, If, While, Repeat, Statements, no_statement, statement, Branches, no_branch, otherwise, branch, Procedure}
use Rattle.ob_code_scheme.specs.Temporaries.{behind_operator, temporaries, operations_temporaries, designator_temporaries, selectors_temporaries, actual_temporaries, actuals_temporaries, statement_temporaries, statements_temporaries, branches_temporaries, most_temporaries}
use Rattle.ob_tree_law.specs.Reserve.{value_most, operators_most, address_most, selecting_most, actual_most, handing_most, doing_most, all_most, choosing_most, activation_most}
use Rattle.ob_tree_law.specs.Height.{height, operators_height, address_height, selecting_height, actual_height, handing_height, doing_height, all_height, choosing_height, greatest_height, HeightBounds}

-- what is no more than either is no more than the larger one
below_left : (a b n : ℕ) → n ≤ a → n ≤ max a b
below_left a b n h = let k = le-max_left a b in omega (arith, h, k)

below_right : (a b n : ℕ) → n ≤ b → n ≤ max a b
below_right a b n h = let k = le-max_right a b in omega (arith, h, k)

behind_few : (o : BinaryOperator) (n : ℕ) → behind_operator o n ≤ 1 + n
behind_few And n = omega arith
behind_few Or n = omega arith
behind_few Plus n = omega arith
behind_few Minus n = omega arith
behind_few Times n = omega arith
behind_few Div n = omega arith
behind_few Mod n = omega arith

-- ---- words

mutual
  value_words : (e : Expression) → temporaries e ≤ height e
  value_words (Literal s) = omega arith
  value_words (ValueOf type d) = let k = address_words d in omega (arith, k)
  value_words (Negated e) = let k = value_words e in omega (arith, k)
  value_words (Complement e) = let k = value_words e in omega (arith, k)
  value_words (Computed first rest) =
      let k = value_words first in let m = operators_words rest in
      let a = le-max_left (height first) (operators_height rest) in let b = le-max_right (height first) (operators_height rest) in
      max-le (omega (arith, k, a)) (omega (arith, m, b))
  value_words (Compared relation left right) =
      let k = value_words left in let m = value_words right in
      let a = le-max_left (height left) (height right) in let b = le-max_right (height left) (height right) in
      max-le (omega (arith, k, a)) (omega (arith, m, b))

  operators_words : (os : Operations) → operations_temporaries os ≤ 1 + operators_height os
  operators_words no_operation = omega arith
  operators_words (operation o e rest) =
      let k = value_words e in let m = operators_words rest in let f = behind_few o (temporaries e) in
      let a = le-max_left (height e) (operators_height rest) in let b = le-max_right (height e) (operators_height rest) in
      max-le (omega (arith, k, a, f)) (omega (arith, m, b))

  address_words : (d : Designator) → designator_temporaries d ≤ 1 + address_height d
  address_words (Designated slot ss) = let k = selecting_words ss in max-le (omega arith) (omega (arith, k))

  selecting_words : (ss : Selectors) → selectors_temporaries ss ≤ 1 + selecting_height ss
  selecting_words no_selector = omega arith
  selecting_words (field_of position name rest) = selecting_words rest
  selecting_words (element_of n index rest) =
      let k = value_words index in let m = selecting_words rest in
      let a = le-max_left (height index) (selecting_height rest) in let b = le-max_right (height index) (selecting_height rest) in
      max-le (omega (arith, k, a)) (omega (arith, m, b))

actual_words : (x : Actual) → actual_temporaries x ≤ 1 + actual_height x
actual_words (ByValue e) = let k = value_words e in omega (arith, k)
actual_words (ByPlace d) = address_words d

handing_words : (xs : List Actual) → actuals_temporaries xs ≤ length xs + handing_height xs
handing_words [] = omega arith
handing_words (x ∷ xs) =
    let k = actual_words x in let m = handing_words xs in
    let a = le-max_left (actual_height x) (handing_height xs) in let b = le-max_right (actual_height x) (handing_height xs) in
    max-le (omega (arith, k, a)) (omega (arith, m, b))

mutual
  doing_words : (s : Statement) → statement_temporaries s ≤ 1 + doing_height s
  doing_words (Assign target e) =
      let k = address_words target in let m = value_words e in
      let a = le-max_left (address_height target) (height e) in let b = le-max_right (address_height target) (height e) in
      max-le (omega (arith, k, a)) (omega (arith, m, b))
  doing_words (Call procedure actuals) = let k = handing_words actuals in omega (arith, k)
  doing_words (If branches) = let k = choosing_words branches in omega (arith, k)
  doing_words (While condition body) =
      let k = value_words condition in let m = all_words body in
      let a = le-max_left (height condition) (all_height body) in let b = le-max_right (height condition) (all_height body) in
      max-le (omega (arith, k, a)) (omega (arith, m, b))
  doing_words (Repeat body condition) =
      let k = value_words condition in let m = all_words body in
      let a = le-max_left (all_height body) (height condition) in let b = le-max_right (all_height body) (height condition) in
      max-le (omega (arith, m, a)) (omega (arith, k, b))

  all_words : (ss : Statements) → statements_temporaries ss ≤ 1 + all_height ss
  all_words no_statement = omega arith
  all_words (statement first rest) =
      let k = doing_words first in let m = all_words rest in
      let a = le-max_left (doing_height first) (all_height rest) in let b = le-max_right (doing_height first) (all_height rest) in
      max-le (omega (arith, k, a)) (omega (arith, m, b))

  choosing_words : (bs : Branches) → branches_temporaries bs ≤ 1 + choosing_height bs
  choosing_words no_branch = omega arith
  choosing_words (otherwise ss) = all_words ss
  choosing_words (branch condition ss rest) =
      let k = value_words condition in let m = all_words ss in let n = choosing_words rest in
      let inner = max (all_height ss) (choosing_height rest) in
      let a = le-max_left (height condition) inner in let b = le-max_right (height condition) inner in
      let c = le-max_left (all_height ss) (choosing_height rest) in let d = le-max_right (all_height ss) (choosing_height rest) in
      max-le (omega (arith, k, a)) (max-le (omega (arith, m, b, c)) (omega (arith, n, b, d)))

words_bounded : (ps : List Procedure) → most_temporaries ps ≤ greatest_height ps + 1
words_bounded [] = omega arith
words_bounded (p ∷ ps) =
    let k = all_words p.body in let m = words_bounded ps in
    let a = le-max_left (all_height p.body) (greatest_height ps) in let b = le-max_right (all_height p.body) (greatest_height ps) in
    max-le (omega (arith, k, a)) (omega (arith, m, b))

-- ---- tasks

mutual
  value_tasks : (e : Expression) → value_most e ≤ 3 * height e + 1
  value_tasks (Literal s) = omega arith
  value_tasks (ValueOf type d) = let k = address_tasks d in omega (arith, k)
  value_tasks (Negated e) = let k = value_tasks e in omega (arith, k)
  value_tasks (Complement e) = let k = value_tasks e in omega (arith, k)
  value_tasks (Computed first rest) =
      let k = value_tasks first in let m = operators_tasks rest in
      let a = le-max_left (height first) (operators_height rest) in let b = le-max_right (height first) (operators_height rest) in
      max-le (omega (arith, k, a)) (omega (arith, m, b))
  value_tasks (Compared relation left right) =
      let k = value_tasks left in let m = value_tasks right in
      let a = le-max_left (height left) (height right) in let b = le-max_right (height left) (height right) in
      max-le (omega (arith, k, a)) (omega (arith, m, b))

  operators_tasks : (os : Operations) → operators_most os ≤ 3 * operators_height os + 3
  operators_tasks no_operation = omega arith
  operators_tasks (operation o e rest) =
      let k = value_tasks e in let m = operators_tasks rest in
      let a = le-max_left (height e) (operators_height rest) in let b = le-max_right (height e) (operators_height rest) in
      max-le (omega (arith, k, a)) (omega (arith, m, b))

  address_tasks : (d : Designator) → address_most d ≤ 3 * address_height d + 3
  address_tasks (Designated slot ss) = let k = selecting_tasks ss in max-le (omega arith) (omega (arith, k))

  selecting_tasks : (ss : Selectors) → selecting_most ss ≤ 3 * selecting_height ss + 3
  selecting_tasks no_selector = omega arith
  selecting_tasks (field_of position name rest) = let k = selecting_tasks rest in max-le (omega arith) (omega (arith, k))
  selecting_tasks (element_of n index rest) =
      let k = value_tasks index in let m = selecting_tasks rest in
      let a = le-max_left (height index) (selecting_height rest) in let b = le-max_right (height index) (selecting_height rest) in
      max-le (omega (arith, k, a)) (omega (arith, m, b))

actual_tasks : (x : Actual) → actual_most x ≤ 3 * actual_height x + 3
actual_tasks (ByValue e) = let k = value_tasks e in omega (arith, k)
actual_tasks (ByPlace d) = address_tasks d

handing_tasks : (xs : List Actual) → handing_most xs ≤ 3 * handing_height xs + 4
handing_tasks [] = omega arith
handing_tasks (x ∷ xs) =
    let k = actual_tasks x in let m = handing_tasks xs in
    let a = le-max_left (actual_height x) (handing_height xs) in let b = le-max_right (actual_height x) (handing_height xs) in
    max-le (omega (arith, k, a)) (omega (arith, m, b))

mutual
  doing_tasks : (s : Statement) → doing_most s ≤ 3 * doing_height s + 5
  doing_tasks (Assign target e) =
      let k = address_tasks target in let m = value_tasks e in
      let a = le-max_left (address_height target) (height e) in let b = le-max_right (address_height target) (height e) in
      max-le (omega (arith, k, a)) (omega (arith, m, b))
  doing_tasks (Call procedure actuals) = let k = handing_tasks actuals in omega (arith, k)
  doing_tasks (If branches) = let k = choosing_tasks branches in omega (arith, k)
  doing_tasks (While condition body) =
      let k = value_tasks condition in let m = all_tasks body in
      let a = le-max_left (height condition) (all_height body) in let b = le-max_right (height condition) (all_height body) in
      max-le (omega (arith, k, a)) (max-le (omega arith) (omega (arith, m, b)))
  doing_tasks (Repeat body condition) =
      let k = value_tasks condition in let m = all_tasks body in
      let a = le-max_left (all_height body) (height condition) in let b = le-max_right (all_height body) (height condition) in
      max-le (omega arith) (max-le (omega (arith, m, a)) (omega (arith, k, b)))

  all_tasks : (ss : Statements) → all_most ss ≤ 3 * all_height ss + 6
  all_tasks no_statement = omega arith
  all_tasks (statement first rest) =
      let k = doing_tasks first in let m = all_tasks rest in
      let a = le-max_left (doing_height first) (all_height rest) in let b = le-max_right (doing_height first) (all_height rest) in
      max-le (omega (arith, k, a)) (omega (arith, m, b))

  choosing_tasks : (bs : Branches) → choosing_most bs ≤ 3 * choosing_height bs + 7
  choosing_tasks no_branch = omega arith
  choosing_tasks (otherwise ss) = let k = all_tasks ss in omega (arith, k)
  choosing_tasks (branch condition ss rest) =
      let k = value_tasks condition in let m = all_tasks ss in let n = choosing_tasks rest in
      let inner = max (all_height ss) (choosing_height rest) in
      let a = le-max_left (height condition) inner in let b = le-max_right (height condition) inner in
      let c = le-max_left (all_height ss) (choosing_height rest) in let d = le-max_right (all_height ss) (choosing_height rest) in
      max-le (omega (arith, k, a)) (max-le (omega (arith, m, b, c)) (omega (arith, n, b, d)))

tasks_bounded : (ps : List Procedure) → activation_most ps ≤ 3 * greatest_height ps + 7
tasks_bounded [] = omega arith
tasks_bounded (p ∷ ps) =
    let k = all_tasks p.body in let m = tasks_bounded ps in
    let a = le-max_left (all_height p.body) (greatest_height ps) in let b = le-max_right (all_height p.body) (greatest_height ps) in
    max-le (max-le (omega arith) (omega (arith, k, a))) (omega (arith, m, b))

pub height_bounds : HeightBounds
height_bounds ps = (words_bounded ps, tasks_bounded ps)
