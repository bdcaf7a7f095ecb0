-- The most tasks that the work list holds.
use Rattle.std.specs.Prelude.{ℕ, zero, suc, ◌+◌, ◌*◌, ◌≤◌, max, List, [], ◌∷◌, map, length}
use Rattle.ob_typing.specs.Program.{Expression, Literal, ValueOf, Negated, Complement, Computed, Compared, Operations, no_operation, operation, Designator, Designated, Selectors, no_selector, field_of, element_of, Actual, ByValue, ByPlace, Statement, Assign, Call, If, While, Repeat, Statements, no_statement, statement, Branches, no_branch, otherwise, branch, Procedure, Program}
use Rattle.ob_code_scheme.specs.Temporaries.{largest}
use Rattle.ob_tree_law.specs.Work.{Task, Value, Operators, Address, Selecting, Handing, Doing, All, Choosing, AndThen, OrElse, Alternative, Looping, Again, Until, Leaving, TreeBody, Answer, On, Finished, Failed, Lost}

-- ---- the most tasks of one activation that a task comes to, from itself on. Of tasks that it gives way to, those behind the first wait

abbrev mutual
  pub value_most : Expression → ℕ
  value_most (Literal s) = 1
  value_most (ValueOf type d) = address_most d + 1
  value_most (Negated e) = value_most e + 1
  value_most (Complement e) = value_most e + 1
  value_most (Computed first rest) = max (value_most first + 1) (operators_most rest)
  value_most (Compared relation left right) = max (value_most left + 2) (value_most right + 1)

  pub operators_most : Operations → ℕ
  operators_most no_operation = 1
  operators_most (operation o e rest) = max (value_most e + 2) (operators_most rest)

  -- an own VAR parameter takes two instructions
  pub address_most : Designator → ℕ
  address_most (Designated slot selectors) = max 3 (selecting_most selectors)

  pub selecting_most : Selectors → ℕ
  selecting_most no_selector = 1
  selecting_most (field_of position name rest) = max 2 (selecting_most rest)
  selecting_most (element_of n index rest) = max (value_most index + 2) (selecting_most rest)

abbrev pub actual_most : Actual → ℕ
actual_most (ByValue e) = value_most e
actual_most (ByPlace d) = address_most d

abbrev pub handing_most : List Actual → ℕ
handing_most [] = 1
handing_most (a ∷ actuals) = max (actual_most a + 1) (handing_most actuals)

abbrev mutual
  pub doing_most : Statement → ℕ
  doing_most (Assign target e) = max (address_most target + 2) (value_most e + 1)
  doing_most (Call procedure actuals) = handing_most actuals + 1
  doing_most (If branches) = choosing_most branches
  -- the turn, the statements and the way back wait for one another, and what comes back is the loop itself
  doing_most (While condition body) = max (value_most condition + 1) (max 3 (all_most body + 1))
  doing_most (Repeat body condition) = max 4 (max (all_most body + 2) (value_most condition + 1))

  pub all_most : Statements → ℕ
  all_most no_statement = 1
  all_most (statement first rest) = max (doing_most first + 1) (all_most rest)

  pub choosing_most : Branches → ℕ
  choosing_most no_branch = 1
  choosing_most (otherwise ss) = all_most ss
  choosing_most (branch condition ss rest) =
      max (value_most condition + 1) (max (all_most ss + 1) (choosing_most rest))

-- FRAME, the statements, the end
abbrev pub procedure_most : Procedure → ℕ
procedure_most p = max 3 (all_most p.body + 1)

-- of each procedure of a program
abbrev pub activation_most : List Procedure → ℕ
activation_most procedures = largest (map procedure_most procedures)

-- room for 64 activations
abbrev pub work_reserve : Program → ℕ
work_reserve program = 64 * activation_most program.procedures

-- ---- work that keeps within it

abbrev pub task_most : Task → ℕ
task_most (Value own e) = value_most e
task_most (Operators own rest) = operators_most rest
task_most (Address own d) = address_most d
task_most (Selecting own type selectors) = selecting_most selectors
task_most (Handing own actuals) = handing_most actuals
task_most (Doing own s) = doing_most s
task_most (All own ss) = all_most ss
task_most (Choosing own branches) = choosing_most branches
task_most (AndThen own right) = value_most right
task_most (OrElse own right) = value_most right
task_most (Alternative own ss rest) = max (all_most ss + 1) (choosing_most rest)
task_most (Looping own condition body) = doing_most (While condition body)
task_most (Again own condition body) = doing_most (While condition body)
task_most (Until own body condition) = doing_most (Repeat body condition)
task_most _ = 1

-- behind the end of a procedure begins the work of the one that called it
abbrev pub LowBehind : Task → (ℕ → Type 0) → ℕ → Type 0
LowBehind Leaving low zero = Unit {0}
LowBehind Leaving low (suc depth) = low depth
LowBehind _ low depth = low depth

-- with no more than `most` tasks for each activation, of which so many are saved: at each task, what it comes to and what waits behind it
abbrev pub IsLow : (most : ℕ) → List Task → ℕ → Type 0
IsLow most [] depth = Unit {0}
IsLow most (t ∷ rest) depth =
    (task_most t + length rest ≤ suc depth * most) × LowBehind t (IsLow most rest) depth

-- a run there: no more than 64 activations are active
pub record KeepsWithin (most : ℕ) (t : TreeBody) : Type 0 where
  pub low : IsLow most t.work (length t.saved)
  pub depth : length t.saved ≤ 63

abbrev pub AnswerKeepsWithin : (most : ℕ) → Answer → Type 0
AnswerKeepsWithin most (On t) = KeepsWithin most t.body
AnswerKeepsWithin most (Finished block stack) = Unit {0}
AnswerKeepsWithin most (Failed k) = Unit {0}
AnswerKeepsWithin most Lost = Unit {0}
