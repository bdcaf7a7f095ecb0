-- The work list keeps within its reserve: at each moment of opening, and after each step.
use Rattle.std.proofs.Common.{◌≡◌, ℕ, zero, suc, ◌+◌, ◌*◌, ◌<◌, ◌≤◌, Bool, true, false, ℤ, pos, List, [], ◌∷◌, ◌++◌, length, take, Option, Some, None, refl, subst, arith}
use Rattle.std.specs.Prelude.{max, slice_get, nat_le, nat_lt, if◌then◌else◌}
use Rattle.std.specs.Ordering.{int_eq}
use Rattle.std.proofs.Math.Nat.{le-max_left, le-max_right, mul-le-mul_right}
use Rattle.std.proofs.lemmas.Bool.Decides.{nat_tests}
use Rattle.ob_typing.specs.declared.operator.BinaryOperator.TheVariants.{Plus, Minus, Times, Div, Mod, And, Or}
use Rattle.ob_typing.specs.Program.{DataType, Owner, OfModule, Own, Expression, Literal, ValueOf, Negated, Complement, Computed, Compared, Operations, no_operation, operation, Designator, Designated, Selectors, no_selector, field_of, element_of, Actual, ByValue, ByPlace, Statement, Assign, Call, If, While, Repeat, Statements, no_statement, statement, Branches, no_branch, otherwise, branch, Procedure, Program}
use Rattle.ob_code_scheme.specs.Types.{part_type, Space, Holding, Referring, Scope, word_in, space_at, type_at, scope_of, variables_scope}
use Rattle.ob_code_words.specs.Words.{Made, Gives, Traps, Sticks}
use Rattle.ob_code_words.specs.Effect.{popped, effect}
use Rattle.ob_tree_law.specs.Work.{Task, Value, Operators, Address, Selecting, Handing, Doing, All, Choosing, Instruction, AndThen, OrElse, Alternative, Over, Looping, Again, Until, Taking, Calling, Leaving, own_tasks, variable_tasks, over_tasks, operators_left, selecting_left, handing_left, all_left, value_parts, operators_parts, address_parts, selecting_parts, handing_parts, doing_parts, all_parts, choosing_parts, parts, given_way, opened_by, opened, TreeBody, TreeState, Answer, On, Finished, Failed, Lost, made_on, taking, procedure_tasks, leaving_to, does, does_first, step, carried_on, steps}
use Rattle.ob_tree_law.specs.Reserve.{value_most, operators_most, address_most, selecting_most, handing_most, doing_most, all_most, choosing_most, procedure_most, activation_most, task_most, IsLow, KeepsWithin, AnswerKeepsWithin}

-- what is below the larger of two
left_of : (a b l n : ℕ) → max a b + l ≤ n → a + l ≤ n
left_of a b l n h = let k = le-max_left a b in omega (arith, h, k)

right_of : (a b l n : ℕ) → max a b + l ≤ n → b + l ≤ n
right_of a b l n h = let k = le-max_right a b in omega (arith, h, k)

-- each procedure is one of those counted
most_of : (ps : List Procedure) (i : ℕ) (p : Procedure) → slice_get ps i ≡ Some p → procedure_most p ≤ activation_most ps
most_of [] i p h = absurd (cc)
most_of (q ∷ ps) zero p h =
    let same : q ≡ p = cc in
    let k = le-max_left (procedure_most q) (activation_most ps) in
    subst (λ (r : Procedure). procedure_most r ≤ activation_most (q ∷ ps)) same k
most_of (q ∷ ps) (suc i) p h =
    let k = le-max_right (procedure_most q) (activation_most ps) in let m = most_of ps i p h in omega (arith, k, m)

module _ (globals : Scope) (most : ℕ) where
  -- so many more tasks wait
  abbrev Low : List Task → ℕ → Type 0
  Low = IsLow most

  module _ (rest : List Task) (depth : ℕ) where
    abbrev limit : ℕ
    limit = suc depth * most

    abbrev wait : ℕ
    wait = length rest

    -- one task at most
    abbrev Few : List Task → Type 0
    Few tail = length (tail ++ rest) ≤ 1 + wait

    own_low : (word : ℕ) (space : Space) (tail : List Task) → Few tail → 3 + wait ≤ limit → Low (tail ++ rest) depth → Low (own_tasks word space tail ++ rest) depth
    own_low word (Holding type) tail few high h = (omega (arith, few, high), h)
    own_low word (Referring type) tail few high h = (omega (arith, few, high), (omega (arith, few, high), h))

    module _ (own : Scope) where
      -- what is left keeps within what all of it does
      operators_few : (os : Operations) → Few (operators_left own os)
      operators_few no_operation = omega arith
      operators_few (operation o e others) = omega arith

      operators_left_low : (os : Operations) → Low (Operators own os ∷ rest) depth → Low (operators_left own os ++ rest) depth
      operators_left_low no_operation h = h.1
      operators_left_low (operation o e others) h = h

      selecting_few : (type : DataType) (ss : Selectors) → Few (selecting_left own type ss)
      selecting_few type no_selector = omega arith
      selecting_few type (field_of position name others) = omega arith
      selecting_few type (element_of n index others) = omega arith

      selecting_left_low : (type : DataType) (ss : Selectors) → Low (Selecting own type ss ∷ rest) depth → Low (selecting_left own type ss ++ rest) depth
      selecting_left_low type no_selector h = h.1
      selecting_left_low type (field_of position name others) h = h
      selecting_left_low type (element_of n index others) h = h

      handing_few : (xs : List Actual) → Few (handing_left own xs)
      handing_few [] = omega arith
      handing_few (x ∷ xs) = omega arith

      handing_left_low : (xs : List Actual) → Low (Handing own xs ∷ rest) depth → Low (handing_left own xs ++ rest) depth
      handing_left_low [] h = h.1
      handing_left_low (x ∷ xs) h = h

      all_few : (ss : Statements) → Few (all_left own ss)
      all_few no_statement = omega arith
      all_few (statement first others) = omega arith

      all_left_low : (ss : Statements) → Low (All own ss ∷ rest) depth → Low (all_left own ss ++ rest) depth
      all_left_low no_statement h = h.1
      all_left_low (statement first others) h = h

      value_low : (e : Expression) → Low (Value own e ∷ rest) depth → Low (value_parts globals own e ++ rest) depth
      value_low (Literal s) h = (omega (arith, h.0), h.1)
      value_low (ValueOf type d) h = (omega (arith, h.0), (omega (arith, h.0), h.1))
      value_low (Negated e) h = (omega (arith, h.0), (omega (arith, h.0), h.1))
      value_low (Complement e) h = (omega (arith, h.0), (omega (arith, h.0), h.1))
      value_low (Computed first others) h =
          let a = left_of (value_most first + 1) (operators_most others) wait limit h.0 in
          let b = right_of (value_most first + 1) (operators_most others) wait limit h.0 in
          (omega (arith, a), (omega (arith, b), h.1))
      value_low (Compared relation left right) h =
          let a = left_of (value_most left + 2) (value_most right + 1) wait limit h.0 in
          let b = right_of (value_most left + 2) (value_most right + 1) wait limit h.0 in
          (omega (arith, a), (omega (arith, b), (omega (arith, a), h.1)))

      operators_low : (os : Operations) → Low (Operators own os ∷ rest) depth → Low (operators_parts globals own os ++ rest) depth
      operators_low no_operation h = h.1
      operators_low (operation Plus e others) h =
          let a = left_of (value_most e + 2) (operators_most others) wait limit h.0 in
          let b = right_of (value_most e + 2) (operators_most others) wait limit h.0 in
          let k = operators_few others in
          (omega (arith, a, k), (omega (arith, a, k), operators_left_low others (omega (arith, b), h.1)))
      operators_low (operation Minus e others) h =
          let a = left_of (value_most e + 2) (operators_most others) wait limit h.0 in
          let b = right_of (value_most e + 2) (operators_most others) wait limit h.0 in
          let k = operators_few others in
          (omega (arith, a, k), (omega (arith, a, k), operators_left_low others (omega (arith, b), h.1)))
      operators_low (operation Times e others) h =
          let a = left_of (value_most e + 2) (operators_most others) wait limit h.0 in
          let b = right_of (value_most e + 2) (operators_most others) wait limit h.0 in
          let k = operators_few others in
          (omega (arith, a, k), (omega (arith, a, k), operators_left_low others (omega (arith, b), h.1)))
      operators_low (operation Div e others) h =
          let a = left_of (value_most e + 2) (operators_most others) wait limit h.0 in
          let b = right_of (value_most e + 2) (operators_most others) wait limit h.0 in
          let k = operators_few others in
          (omega (arith, a, k), (omega (arith, a, k), operators_left_low others (omega (arith, b), h.1)))
      operators_low (operation Mod e others) h =
          let a = left_of (value_most e + 2) (operators_most others) wait limit h.0 in
          let b = right_of (value_most e + 2) (operators_most others) wait limit h.0 in
          let k = operators_few others in
          (omega (arith, a, k), (omega (arith, a, k), operators_left_low others (omega (arith, b), h.1)))
      operators_low (operation And e others) h =
          let a = left_of (value_most e + 2) (operators_most others) wait limit h.0 in
          let b = right_of (value_most e + 2) (operators_most others) wait limit h.0 in
          let k = operators_few others in
          (omega (arith, a, k), operators_left_low others (omega (arith, b), h.1))
      operators_low (operation Or e others) h =
          let a = left_of (value_most e + 2) (operators_most others) wait limit h.0 in
          let b = right_of (value_most e + 2) (operators_most others) wait limit h.0 in
          let k = operators_few others in
          (omega (arith, a, k), operators_left_low others (omega (arith, b), h.1))

      variable_low : (owner : Owner) (position : ℕ) (tail : List Task) → Few tail → 3 + wait ≤ limit → Low (tail ++ rest) depth →
          Low (variable_tasks globals own owner position tail ++ rest) depth
      variable_low OfModule position tail few high h = (omega (arith, few, high), h)
      variable_low Own position tail few high h = own_low (word_in own position) (space_at own position) tail few high h

      address_low : (d : Designator) → Low (Address own d ∷ rest) depth → Low (address_parts globals own d ++ rest) depth
      address_low (Designated slot ss) h =
          let a = left_of 3 (selecting_most ss) wait limit h.0 in
          let b = right_of 3 (selecting_most ss) wait limit h.0 in
          let type = type_at (scope_of globals own slot.owner) slot.position in
          variable_low slot.owner slot.position (selecting_left own type ss) (selecting_few type ss) a (selecting_left_low type ss (b, h.1))

      selecting_low : (type : DataType) (ss : Selectors) → Low (Selecting own type ss ∷ rest) depth → Low (selecting_parts globals own type ss ++ rest) depth
      selecting_low type no_selector h = h.1
      selecting_low type (field_of position name others) h =
          let a = left_of 2 (selecting_most others) wait limit h.0 in
          let b = right_of 2 (selecting_most others) wait limit h.0 in
          let k = selecting_few (part_type type position) others in
          (omega (arith, a, k), selecting_left_low (part_type type position) others (omega (arith, b), h.1))
      selecting_low type (element_of n index others) h =
          let a = left_of (value_most index + 2) (selecting_most others) wait limit h.0 in
          let b = right_of (value_most index + 2) (selecting_most others) wait limit h.0 in
          let k = selecting_few (part_type type 0) others in
          (omega (arith, a, k), (omega (arith, a, k), selecting_left_low (part_type type 0) others (omega (arith, b), h.1)))

      handing_low : (xs : List Actual) → Low (Handing own xs ∷ rest) depth → Low (handing_parts globals own xs ++ rest) depth
      handing_low [] h = h.1
      handing_low (ByValue e ∷ xs) h =
          let a = left_of (value_most e + 1) (handing_most xs) wait limit h.0 in
          let b = right_of (value_most e + 1) (handing_most xs) wait limit h.0 in
          let k = handing_few xs in
          (omega (arith, a, k), handing_left_low xs (omega (arith, b), h.1))
      handing_low (ByPlace d ∷ xs) h =
          let a = left_of (address_most d + 1) (handing_most xs) wait limit h.0 in
          let b = right_of (address_most d + 1) (handing_most xs) wait limit h.0 in
          let k = handing_few xs in
          (omega (arith, a, k), handing_left_low xs (omega (arith, b), h.1))

      doing_low : (s : Statement) → Low (Doing own s ∷ rest) depth → Low (doing_parts globals own s ++ rest) depth
      doing_low (Assign target e) h =
          let a = left_of (address_most target + 2) (value_most e + 1) wait limit h.0 in
          let b = right_of (address_most target + 2) (value_most e + 1) wait limit h.0 in
          (omega (arith, a), (omega (arith, b), (omega (arith, b), h.1)))
      doing_low (Call procedure actuals) h = (omega (arith, h.0), (omega (arith, h.0), h.1))
      doing_low (If branches) h = h
      doing_low (While condition body) h =
          let a = left_of (value_most condition + 1) (max 3 (all_most body + 1)) wait limit h.0 in
          (omega (arith, a), h)
      doing_low (Repeat body condition) h =
          let inner = max (all_most body + 2) (value_most condition + 1) in
          let a = left_of 4 inner wait limit h.0 in
          let m = right_of 4 inner wait limit h.0 in
          let b = left_of (all_most body + 2) (value_most condition + 1) wait limit m in
          let c = right_of (all_most body + 2) (value_most condition + 1) wait limit m in
          (omega (arith, a), (omega (arith, b), (omega (arith, c), h)))

      all_low : (ss : Statements) → Low (All own ss ∷ rest) depth → Low (all_parts globals own ss ++ rest) depth
      all_low no_statement h = h.1
      all_low (statement first others) h =
          let a = left_of (doing_most first + 1) (all_most others) wait limit h.0 in
          let b = right_of (doing_most first + 1) (all_most others) wait limit h.0 in
          let k = all_few others in
          (omega (arith, a, k), all_left_low others (omega (arith, b), h.1))

      choosing_low : (bs : Branches) → Low (Choosing own bs ∷ rest) depth → Low (choosing_parts globals own bs ++ rest) depth
      choosing_low no_branch h = h.1
      choosing_low (otherwise ss) h = h
      choosing_low (branch condition ss others) h =
          let inner = max (all_most ss + 1) (choosing_most others) in
          let a = left_of (value_most condition + 1) inner wait limit h.0 in
          let b = right_of (value_most condition + 1) inner wait limit h.0 in
          (omega (arith, a), (b, h.1))

    -- of what a task gives way to
    abbrev StaysLow : Option (List Task) → Type 0
    StaysLow None = Unit {0}
    StaysLow (Some tasks) = Low (tasks ++ rest) depth

    pub low : (t : Task) → Low (t ∷ rest) depth → StaysLow (parts globals t)
    low (Value own e) h = value_low own e h
    low (Operators own os) h = operators_low own os h
    low (Address own d) h = address_low own d h
    low (Selecting own type ss) h = selecting_low own type ss h
    low (Handing own xs) h = handing_low own xs h
    low (Doing own s) h = doing_low own s h
    low (All own ss) h = all_low own ss h
    low (Choosing own bs) h = choosing_low own bs h
    low _ h = tt

  given_low : (go : List Task → List Task) (depth : ℕ) (t : Task) (rest : List Task) → ((work : List Task) → Low work depth → Low (go work) depth) →
      (o : Option (List Task)) → StaysLow rest depth o → Low (t ∷ rest) depth → Low (given_way o go t rest) depth
  given_low go depth t rest h None k r = r
  given_low go depth t rest h (Some tasks) k r = h (tasks ++ rest) k

  -- at each moment of opening
  pub opened_by_low : (n depth : ℕ) (work : List Task) → Low work depth → Low (opened_by globals n work) depth
  opened_by_low zero depth work h = h
  opened_by_low (suc n) depth [] h = h
  opened_by_low (suc n) depth (t ∷ rest) h =
      given_low (opened_by globals n) depth t rest (λ work k. opened_by_low n depth work k) (parts globals t) (low rest depth t h) h

  -- ---- a task comes to one at least: itself

  value_some : (e : Expression) → 1 ≤ value_most e
  value_some (Literal s) = omega arith
  value_some (ValueOf type d) = omega arith
  value_some (Negated e) = omega arith
  value_some (Complement e) = omega arith
  value_some (Computed first rest) = let k = le-max_left (value_most first + 1) (operators_most rest) in omega (arith, k)
  value_some (Compared relation left right) = let k = le-max_left (value_most left + 2) (value_most right + 1) in omega (arith, k)

  operators_some : (os : Operations) → 1 ≤ operators_most os
  operators_some no_operation = omega arith
  operators_some (operation o e rest) = let k = le-max_left (value_most e + 2) (operators_most rest) in omega (arith, k)

  address_some : (d : Designator) → 1 ≤ address_most d
  address_some (Designated slot ss) = let k = le-max_left 3 (selecting_most ss) in omega (arith, k)

  selecting_some : (ss : Selectors) → 1 ≤ selecting_most ss
  selecting_some no_selector = omega arith
  selecting_some (field_of position name rest) = let k = le-max_left 2 (selecting_most rest) in omega (arith, k)
  selecting_some (element_of n index rest) = let k = le-max_left (value_most index + 2) (selecting_most rest) in omega (arith, k)

  handing_some : (xs : List Actual) → 1 ≤ handing_most xs
  handing_some [] = omega arith
  handing_some (ByValue e ∷ xs) = let k = le-max_left (value_most e + 1) (handing_most xs) in omega (arith, k)
  handing_some (ByPlace d ∷ xs) = let k = le-max_left (address_most d + 1) (handing_most xs) in omega (arith, k)

  all_some : (ss : Statements) → 1 ≤ all_most ss
  all_some no_statement = omega arith
  all_some (statement first rest) = let k = le-max_left (doing_most first + 1) (all_most rest) in omega (arith, k)

  choosing_some : (bs : Branches) → 1 ≤ choosing_most bs
  choosing_some no_branch = omega arith
  choosing_some (otherwise ss) = all_some ss
  choosing_some (branch condition ss rest) =
      let k = le-max_left (value_most condition + 1) (max (all_most ss + 1) (choosing_most rest)) in omega (arith, k)

  doing_some : (s : Statement) → 1 ≤ doing_most s
  doing_some (Assign target e) = let k = le-max_left (address_most target + 2) (value_most e + 1) in omega (arith, k)
  doing_some (Call procedure actuals) = omega arith
  doing_some (If branches) = choosing_some branches
  doing_some (While condition body) = let k = le-max_left (value_most condition + 1) (max 3 (all_most body + 1)) in omega (arith, k)
  doing_some (Repeat body condition) = let k = le-max_left 4 (max (all_most body + 2) (value_most condition + 1)) in omega (arith, k)

  task_some : (t : Task) → 1 ≤ task_most t
  task_some (Value own e) = value_some e
  task_some (Operators own os) = operators_some os
  task_some (Address own d) = address_some d
  task_some (Selecting own type ss) = selecting_some ss
  task_some (Handing own xs) = handing_some xs
  task_some (Doing own s) = doing_some s
  task_some (All own ss) = all_some ss
  task_some (Choosing own bs) = choosing_some bs
  task_some (AndThen own right) = value_some right
  task_some (OrElse own right) = value_some right
  task_some (Alternative own ss others) = let k = le-max_left (all_most ss + 1) (choosing_most others) in omega (arith, k)
  task_some (Looping own condition body) = doing_some (While condition body)
  task_some (Again own condition body) = doing_some (While condition body)
  task_some (Until own body condition) = doing_some (Repeat body condition)
  task_some _ = omega arith

  pub low_long : (work : List Task) (depth : ℕ) → Low work depth → length work ≤ suc depth * most
  low_long [] depth h = omega arith
  low_long (t ∷ rest) depth h = let k = task_some t in omega (arith, k, h.0)

-- ---- steps

made_keeps : {A : Type 0} (most : ℕ) (m : Made A) (go : A → Answer) → ((a : A) → AnswerKeepsWithin most (go a)) → AnswerKeepsWithin most (made_on m go)
made_keeps most (Gives a) go h = h a
made_keeps most (Traps k) go h = tt
made_keeps most Sticks go h = tt

if_keeps : (most : ℕ) (b : Bool) (x y : Answer) → AnswerKeepsWithin most x → (b ≡ false → AnswerKeepsWithin most y) → AnswerKeepsWithin most (if b then x else y)
if_keeps most true x y h k = h
if_keeps most false x y h k = k refl

turn_keeps : (most turns : ℕ) (go : ℕ → Answer) → ((left : ℕ) → AnswerKeepsWithin most (go left)) → AnswerKeepsWithin most (taking turns go)
turn_keeps most zero go h = tt
turn_keeps most (suc left) go h = h left

module _ (program : Program) (reserve : ℕ) where
  abbrev most : ℕ
  most = activation_most program.procedures

  abbrev globals : Scope
  globals = variables_scope program.variables

  abbrev Keeps : Answer → Type 0
  Keeps = AnswerKeepsWithin most

  -- a procedure at its beginning, where one more activation is active
  procedure_low : (number depth : ℕ) (rest : List Task) (p : Option Procedure) → slice_get program.procedures number ≡ p →
      length rest + 1 ≤ suc depth * most → IsLow most rest depth → IsLow most (procedure_tasks p rest) (suc depth)
  procedure_low number depth rest None is high h = tt
  procedure_low number depth rest (Some p) is high h =
      let k = most_of program.procedures number p is in
      let a = le-max_left 3 (all_most p.body + 1) in
      let b = le-max_right 3 (all_most p.body + 1) in
      (omega (arith, high, k, a), (omega (arith, high, k, b), (omega (arith, high), h)))

  -- at the start of a call from outside
  pub start_low : (number : ℕ) (p : Option Procedure) → slice_get program.procedures number ≡ p → IsLow most (procedure_tasks p []) 0
  start_low number None is = tt
  start_low number (Some p) is =
      let k = most_of program.procedures number p is in
      let a = le-max_left 3 (all_most p.body + 1) in
      let b = le-max_right 3 (all_most p.body + 1) in
      (omega (arith, k, a), (omega (arith, k, b), (omega (arith, k, a), tt)))

  -- an alternative that is taken
  over_low : (own : Scope) (ss : Statements) (others : Branches) (rest : List Task) (depth : ℕ) → IsLow most (Alternative own ss others ∷ rest) depth →
      IsLow most (All own ss ∷ over_tasks others rest) depth
  over_low own ss no_branch rest depth h =
      let a = left_of (all_most ss + 1) (choosing_most no_branch) (length rest) (suc depth * most) h.0 in (omega (arith, a), h.1)
  over_low own ss (otherwise other) rest depth h =
      let a = left_of (all_most ss + 1) (choosing_most (otherwise other)) (length rest) (suc depth * most) h.0 in (omega (arith, a), (omega (arith, a), h.1))
  over_low own ss (branch condition other others) rest depth h =
      let a = left_of (all_most ss + 1) (choosing_most (branch condition other others)) (length rest) (suc depth * most) h.0 in (omega (arith, a), (omega (arith, a), h.1))

  -- others are tried
  others_low : (own : Scope) (ss : Statements) (others : Branches) (rest : List Task) (depth : ℕ) → IsLow most (Alternative own ss others ∷ rest) depth →
      IsLow most (Choosing own others ∷ rest) depth
  others_low own ss others rest depth h = (right_of (all_most ss + 1) (choosing_most others) (length rest) (suc depth * most) h.0, h.1)

  -- a loop goes round
  round_low : (own : Scope) (condition : Expression) (body : Statements) (rest : List Task) (depth : ℕ) → IsLow most (Looping own condition body ∷ rest) depth →
      IsLow most (Taking ∷ All own body ∷ Again own condition body ∷ rest) depth
  round_low own condition body rest depth h =
      let m = right_of (value_most condition + 1) (max 3 (all_most body + 1)) (length rest) (suc depth * most) h.0 in
      let a = left_of 3 (all_most body + 1) (length rest) (suc depth * most) m in
      let b = right_of 3 (all_most body + 1) (length rest) (suc depth * most) m in
      (omega (arith, a), (omega (arith, b), h))

  leaves_keeps : (s : TreeState) (rest : List Task) (stack : List ℤ) (saved : List ℕ) → IsLow most (Leaving ∷ rest) (length saved) → length saved ≤ 63 →
      Keeps (leaving_to saved rest stack s)
  leaves_keeps s rest stack [] h few = tt
  leaves_keeps s rest stack (fp ∷ saved) h few = record { low = h.1; depth = omega (arith, few) }

  module _ (s : TreeState) (few : length s.body.saved ≤ 63) where
    abbrev depth : ℕ
    depth = length s.body.saved

    -- with other work
    keeps : (work : List Task) (stack : List ℤ) (turns : ℕ) → IsLow most work depth → KeepsWithin most (record s.body { work = work; stack = stack; turns = turns })
    keeps work stack turns h = record { low = h; depth = few }

    does_keeps : (t : Task) (rest : List Task) → IsLow most (t ∷ rest) depth → Keeps (does program reserve t rest s)
    does_keeps (Instruction i) rest h = made_keeps most (effect reserve s.body.fp i s.block s.body.stack) _ (λ made. keeps rest made.1 s.body.turns h.1)
    does_keeps (AndThen own right) rest h =
        made_keeps most (popped s.body.stack) _ (λ x. if_keeps most (int_eq x.0 (pos 0)) _ _ (keeps rest s.body.stack s.body.turns h.1) (λ e. keeps (Value own right ∷ rest) x.1 s.body.turns h))
    does_keeps (OrElse own right) rest h =
        made_keeps most (popped s.body.stack) _ (λ x. if_keeps most (int_eq x.0 (pos 1)) _ _ (keeps rest s.body.stack s.body.turns h.1) (λ e. keeps (Value own right ∷ rest) x.1 s.body.turns h))
    does_keeps (Alternative own ss others) rest h =
        made_keeps most (popped s.body.stack) _
        (λ x. if_keeps most (int_eq x.0 (pos 0)) _ _ (keeps (Choosing own others ∷ rest) x.1 s.body.turns (others_low own ss others rest depth h))
        (λ e. keeps (All own ss ∷ over_tasks others rest) x.1 s.body.turns (over_low own ss others rest depth h)))
    does_keeps Over rest h = keeps rest s.body.stack s.body.turns h.1
    does_keeps (Looping own condition body) rest h =
        made_keeps most (popped s.body.stack) _
        (λ x. if_keeps most (int_eq x.0 (pos 0)) _ _ (keeps rest x.1 s.body.turns h.1)
        (λ e. keeps (Taking ∷ All own body ∷ Again own condition body ∷ rest) x.1 s.body.turns (round_low own condition body rest depth h)))
    does_keeps (Again own condition body) rest h = keeps (Doing own (While condition body) ∷ rest) s.body.stack s.body.turns h
    does_keeps (Until own body condition) rest h =
        made_keeps most (popped s.body.stack) _
        (λ x. if_keeps most (int_eq x.0 (pos 0)) _ _ (keeps (Doing own (Repeat body condition) ∷ rest) x.1 s.body.turns h) (λ e. keeps rest x.1 s.body.turns h.1))
    does_keeps Taking rest h = turn_keeps most s.body.turns _ (λ left. keeps rest s.body.stack left h.1)
    does_keeps (Calling number parameters) rest h =
        if_keeps most (nat_le 63 depth) _ _ tt
        (λ e. let fewer : depth < 63 = grind (arith, nat_tests) in
        turn_keeps most s.body.turns _
        (λ left. if_keeps most (nat_le parameters (length s.body.stack)) _ _
        (record { low = procedure_low number depth rest (slice_get program.procedures number) refl (omega (arith, h.0)) h.1; depth = omega (arith, fewer) })
        (λ e. tt)))
    does_keeps Leaving rest h = if_keeps most (nat_lt (length s.body.stack) s.body.fp) _ _ tt (λ e. leaves_keeps s rest (take s.body.fp s.body.stack) s.body.saved h few)
    does_keeps _ rest h = tt

    first_keeps : (work : List Task) → IsLow most work depth → Keeps (does_first program reserve work s)
    first_keeps [] h = tt
    first_keeps (t ∷ rest) h = does_keeps t rest h

  pub step_keeps : (s : TreeState) → KeepsWithin most s.body → Keeps (step program reserve s)
  step_keeps s k = first_keeps s k.depth (opened globals s.body.work) (opened_by_low globals most _ (length s.body.saved) s.body.work k.low)

  carried_keeps : (o : Answer) (go : TreeState → Answer) → Keeps o → ((s : TreeState) → KeepsWithin most s.body → Keeps (go s)) → Keeps (carried_on o go)
  carried_keeps (On s) go h k = k s h
  carried_keeps (Finished block stack) go h k = tt
  carried_keeps (Failed number) go h k = tt
  carried_keeps Lost go h k = tt

  pub steps_keep : (count : ℕ) (s : TreeState) → KeepsWithin most s.body → Keeps (steps program reserve count s)
  steps_keep zero s k = k
  steps_keep (suc count) s k = carried_keeps (step program reserve s) (steps program reserve count) (step_keeps s k) (λ s k. steps_keep count s k)

  -- so the work list has no more tasks than its reserve, at each moment of opening too
  pub within_reserve : (n : ℕ) (s : TreeBody) → KeepsWithin most s → length (opened_by globals n s.work) ≤ 64 * most
  within_reserve n s k =
      let long = low_long globals most (opened_by globals n s.work) (length s.saved) (opened_by_low globals most n (length s.saved) s.work k.low) in
      let few : suc (length s.saved) ≤ 64 = let d = k.depth in omega (arith, d) in
      let more = mul-le-mul_right most few in
      omega (arith, long, more)
