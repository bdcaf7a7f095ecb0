-- The engine that runs a program's tree. Its work list holds tasks over parts of the tree, the next one first: some are silent, and
-- give way to tasks over smaller parts; each other one does what one instruction of the code does.
use Rattle.std.specs.Prelude.{ℕ, zero, suc, ◌+◌, ◌-◌, nat_lt, nat_le, ℤ, pos, List, [], ◌∷◌, ◌++◌, length, take, replicate, slice_get, Option, Some, None, if◌then◌else◌}
use Rattle.std.specs.Ordering.{int_eq}
use Rattle.ob_typing.specs.declared.operator.BinaryOperator.{BinaryOperator}
use Rattle.ob_typing.specs.declared.operator.BinaryOperator.TheVariants.{Plus, Minus, Times, Div, Mod, And, Or}
use Rattle.ob_typing.specs.Program.{DataType, Owner, OfModule, Own, Expression, Literal, ValueOf, Negated, Complement, Computed, Compared, Operations, no_operation, operation, Designator, Designated, Selectors, no_selector, field_of, element_of, Actual, ByValue, ByPlace, Statement, Assign, Call, If, While, Repeat, Statements, no_statement, statement, Branches, no_branch, otherwise, branch, Procedure, Program}
use Rattle.ob_code_scheme.specs.Types.{words, part_type, part_offset, Space, Holding, Referring, Scope, word_in, space_at, type_at, scope_of, variables_scope, frame_scope}
use Rattle.ob_code_scheme.specs.Layout.{word, variable_words}
use Rattle.ob_code_words.specs.declared.instr.Instr.{Instr}
use Rattle.ob_code_words.specs.declared.instr.Instr.TheVariants as Instrs
use Rattle.ob_code_words.specs.Words.{Made, Gives, Traps, Sticks}
use Rattle.ob_code_words.specs.Effect.{popped, effect}
use Rattle.ob_code_machine.specs.declared.argument.Argument.{Argument}
use Rattle.ob_code_machine.specs.Body.{result_count, handed}
use Rattle.ob_code_scheme.specs.Scheme.{relation_instruction}

-- what is still to be done in a procedure with the frame scope `own`
pub data Task : Type 0 where
  -- silent: the value of an expression
  Value : (own : Scope) (e : Expression) → Task
  -- operators and operands, behind the value of what stands before them
  Operators : (own : Scope) (rest : Operations) → Task
  -- the address of a variable or of a part of it
  Address : (own : Scope) (d : Designator) → Task
  -- from the address of something of a type to that of a part of it
  Selecting : (own : Scope) (type : DataType) (selectors : Selectors) → Task
  -- the words that a call hands over
  Handing : (own : Scope) (actuals : List Actual) → Task
  Doing : (own : Scope) (s : Statement) → Task
  All : (own : Scope) (ss : Statements) → Task
  Choosing : (own : Scope) (branches : Branches) → Task
  -- an instruction that has an effect and does not jump
  Instruction : (i : Instr) → Task
  -- `&` and OR, on the value of the left side
  AndThen : (own : Scope) (right : Expression) → Task
  OrElse : (own : Scope) (right : Expression) → Task
  -- an alternative, on the value of its condition
  Alternative : (own : Scope) (ss : Statements) (rest : Branches) → Task
  -- the end of an alternative behind which others stand
  Over : Task
  -- WHILE, on the value of its condition
  Looping : (own : Scope) (condition : Expression) (body : Statements) → Task
  -- the end of its statements
  Again : (own : Scope) (condition : Expression) (body : Statements) → Task
  -- REPEAT, on the value of its condition
  Until : (own : Scope) (body : Statements) (condition : Expression) → Task
  -- a turn is taken
  Taking : Task
  -- a call of a procedure, by its number, on the words handed over
  Calling : (number parameters : ℕ) → Task
  -- the end of a procedure
  Leaving : Task

-- ---- silent tasks

-- the address of an own variable: that of its word of the frame, or for VAR the one that this word holds
abbrev pub own_tasks : ℕ → Space → List Task → List Task
own_tasks word (Holding type) rest = Instruction (Instrs.Local word) ∷ rest
own_tasks word (Referring type) rest = Instruction (Instrs.Local word) ∷ Instruction Instrs.Get ∷ rest

-- an operator with its right operand
abbrev pub operator_tasks : (own : Scope) → BinaryOperator → Expression → List Task → List Task
operator_tasks own And e rest = AndThen own e ∷ rest
operator_tasks own Or e rest = OrElse own e ∷ rest
operator_tasks own Plus e rest = Value own e ∷ Instruction Instrs.Add ∷ rest
operator_tasks own Minus e rest = Value own e ∷ Instruction Instrs.Subtract ∷ rest
operator_tasks own Times e rest = Value own e ∷ Instruction Instrs.Multiply ∷ rest
operator_tasks own Div e rest = Value own e ∷ Instruction Instrs.Divide ∷ rest
operator_tasks own Mod e rest = Value own e ∷ Instruction Instrs.Modulo ∷ rest

abbrev pub actual_task : (own : Scope) → Actual → Task
actual_task own (ByValue e) = Value own e
actual_task own (ByPlace d) = Address own d

-- what is left of operators, selectors, actuals and statements, where something is left
abbrev pub operators_left : (own : Scope) → Operations → List Task
operators_left own no_operation = []
operators_left own (operation o e rest) = Operators own (operation o e rest) ∷ []

abbrev pub selecting_left : (own : Scope) → DataType → Selectors → List Task
selecting_left own type no_selector = []
selecting_left own type (field_of position name rest) = Selecting own type (field_of position name rest) ∷ []
selecting_left own type (element_of n index rest) = Selecting own type (element_of n index rest) ∷ []

abbrev pub handing_left : (own : Scope) → List Actual → List Task
handing_left own [] = []
handing_left own (a ∷ actuals) = Handing own (a ∷ actuals) ∷ []

abbrev pub all_left : (own : Scope) → Statements → List Task
all_left own no_statement = []
all_left own (statement first rest) = All own (statement first rest) ∷ []

-- behind an alternative, where others follow: the jump over them
abbrev pub over_tasks : Branches → List Task → List Task
over_tasks no_branch rest = rest
over_tasks _ rest = Over ∷ rest

-- in a module with the scope `globals`
module _ (globals : Scope) where
  abbrev pub variable_tasks : (own : Scope) → Owner → ℕ → List Task → List Task
  variable_tasks own OfModule position rest = Instruction (Instrs.Global (word_in globals position)) ∷ rest
  variable_tasks own Own position rest = own_tasks (word_in own position) (space_at own position) rest

  module _ (own : Scope) where
    abbrev pub value_parts : Expression → List Task
    value_parts (Literal s) = Instruction (Instrs.Literal (word s)) ∷ []
    value_parts (ValueOf type d) = Address own d ∷ Instruction Instrs.Get ∷ []
    value_parts (Negated e) = Value own e ∷ Instruction Instrs.Negate ∷ []
    value_parts (Complement e) = Value own e ∷ Instruction Instrs.Not ∷ []
    value_parts (Computed first rest) = Value own first ∷ Operators own rest ∷ []
    value_parts (Compared relation left right) =
        Value own left ∷ Value own right ∷ Instruction (relation_instruction relation) ∷ []

    abbrev pub operators_parts : Operations → List Task
    operators_parts no_operation = []
    operators_parts (operation o e rest) = operator_tasks own o e (operators_left own rest)

    abbrev pub address_parts : Designator → List Task
    address_parts (Designated slot selectors) =
        variable_tasks own slot.owner slot.position
        (selecting_left own (type_at (scope_of globals own slot.owner) slot.position) selectors)

    abbrev pub selecting_parts : DataType → Selectors → List Task
    selecting_parts type no_selector = []
    selecting_parts type (field_of position name rest) =
        Instruction (Instrs.Field (part_offset type position)) ∷ selecting_left own (part_type type position) rest
    selecting_parts type (element_of n index rest) =
        Value own index
        ∷ Instruction (Instrs.Index n (words (part_type type 0)))
        ∷ selecting_left own (part_type type 0) rest

    abbrev pub handing_parts : List Actual → List Task
    handing_parts [] = []
    handing_parts (a ∷ actuals) = actual_task own a ∷ handing_left own actuals

    abbrev pub doing_parts : Statement → List Task
    doing_parts (Assign target e) = Address own target ∷ Value own e ∷ Instruction Instrs.Put ∷ []
    doing_parts (Call procedure actuals) = Handing own actuals ∷ Calling procedure (length actuals) ∷ []
    doing_parts (If branches) = Choosing own branches ∷ []
    doing_parts (While condition body) = Value own condition ∷ Looping own condition body ∷ []
    doing_parts (Repeat body condition) =
        Taking ∷ All own body ∷ Value own condition ∷ Until own body condition ∷ []

    abbrev pub all_parts : Statements → List Task
    all_parts no_statement = []
    all_parts (statement first rest) = Doing own first ∷ all_left own rest

    abbrev pub choosing_parts : Branches → List Task
    choosing_parts no_branch = []
    choosing_parts (otherwise ss) = All own ss ∷ []
    choosing_parts (branch condition ss rest) = Value own condition ∷ Alternative own ss rest ∷ []

  -- what a silent task gives way to; nothing where it isn't silent
  abbrev pub parts : Task → Option (List Task)
  parts (Value own e) = Some (value_parts own e)
  parts (Operators own rest) = Some (operators_parts own rest)
  parts (Address own d) = Some (address_parts own d)
  parts (Selecting own type selectors) = Some (selecting_parts own type selectors)
  parts (Handing own actuals) = Some (handing_parts own actuals)
  parts (Doing own s) = Some (doing_parts own s)
  parts (All own ss) = Some (all_parts own ss)
  parts (Choosing own branches) = Some (choosing_parts own branches)
  parts _ = None

-- ---- how often tasks give way: nodes of the tree

abbrev mutual
  pub nodes : Expression → ℕ
  nodes (Literal s) = 1
  nodes (ValueOf type d) = 1 + address_nodes d
  nodes (Negated e) = 1 + nodes e
  nodes (Complement e) = 1 + nodes e
  nodes (Computed first rest) = 1 + nodes first + operators_nodes rest
  nodes (Compared relation left right) = 1 + nodes left + nodes right

  pub operators_nodes : Operations → ℕ
  operators_nodes no_operation = 1
  operators_nodes (operation o e rest) = 1 + nodes e + operators_nodes rest

  pub address_nodes : Designator → ℕ
  address_nodes (Designated slot selectors) = 1 + selecting_nodes selectors

  pub selecting_nodes : Selectors → ℕ
  selecting_nodes no_selector = 1
  selecting_nodes (field_of position name rest) = 1 + selecting_nodes rest
  selecting_nodes (element_of n index rest) = 1 + nodes index + selecting_nodes rest

abbrev pub actual_nodes : Actual → ℕ
actual_nodes (ByValue e) = nodes e
actual_nodes (ByPlace d) = address_nodes d

abbrev pub handing_nodes : List Actual → ℕ
handing_nodes [] = 1
handing_nodes (a ∷ actuals) = 1 + actual_nodes a + handing_nodes actuals

abbrev mutual
  pub doing_nodes : Statement → ℕ
  doing_nodes (Assign target e) = 1 + address_nodes target + nodes e
  doing_nodes (Call procedure actuals) = 1 + handing_nodes actuals
  doing_nodes (If branches) = 1 + choosing_nodes branches
  doing_nodes (While condition body) = 1 + nodes condition
  doing_nodes (Repeat body condition) = 1 + all_nodes body + nodes condition

  pub all_nodes : Statements → ℕ
  all_nodes no_statement = 1
  all_nodes (statement first rest) = 1 + doing_nodes first + all_nodes rest

  pub choosing_nodes : Branches → ℕ
  choosing_nodes no_branch = 1
  choosing_nodes (otherwise ss) = 1 + all_nodes ss
  choosing_nodes (branch condition ss rest) = 1 + nodes condition

abbrev pub task_nodes : Task → ℕ
task_nodes (Value own e) = nodes e
task_nodes (Operators own rest) = operators_nodes rest
task_nodes (Address own d) = address_nodes d
task_nodes (Selecting own type selectors) = selecting_nodes selectors
task_nodes (Handing own actuals) = handing_nodes actuals
task_nodes (Doing own s) = doing_nodes s
task_nodes (All own ss) = all_nodes ss
task_nodes (Choosing own branches) = choosing_nodes branches
task_nodes _ = 0

abbrev pub work_nodes : List Task → ℕ
work_nodes [] = 0
work_nodes (t ∷ work) = task_nodes t + work_nodes work

-- ---- opening: until the first task is not silent

-- one silent task gives way, and it is gone on with; any other one stays
abbrev pub given_way : Option (List Task) → (List Task → List Task) → Task → List Task → List Task
given_way None go t rest = t ∷ rest
given_way (Some tasks) go t rest = go (tasks ++ rest)

module _ (globals : Scope) where
  -- at most so often
  abbrev pub opened_by : ℕ → List Task → List Task
  opened_by zero work = work
  opened_by (suc n) [] = []
  opened_by (suc n) (t ∷ rest) = given_way (parts globals t) (opened_by n) t rest

  -- there are no more silent tasks than nodes
  abbrev pub opened : List Task → List Task
  opened work = opened_by (work_nodes work) work

-- ---- one step

-- what a run holds: the work list, the stack from its bottom on, the height at which the running procedure's frame begins, those of
-- the procedures that have called another one, the last first, and the turns that are left
pub record TreeBody : Type 0 where
  pub work : List Task
  pub stack : List ℤ
  pub fp : ℕ
  pub saved : List ℕ
  pub turns : ℕ

-- all that steps work on
pub record TreeState : Type 0 where
  pub block : List ℤ
  pub body : TreeBody

-- with its work opened
abbrev pub settled : (globals : Scope) → TreeBody → TreeBody
settled globals b = record b { work = opened globals b.work }

-- how far steps come
pub data Answer : Type 0 where
  On : (at : TreeState) → Answer
  Finished : (block stack : List ℤ) → Answer
  Failed : (number : ℕ) → Answer
  Lost : Answer

-- goes on with what was made
abbrev pub made_on : {A : Type 0} → Made A → (A → Answer) → Answer
made_on (Gives a) go = go a
made_on (Traps k) go = Failed k
made_on Sticks go = Lost

-- with this work and this stack
abbrev pub goes_with : TreeState → List Task → List ℤ → Answer
goes_with t work stack = On (record t { body = record t.body { work = work; stack = stack } })

-- pops a word, and goes on with the one work where it is 0, else with the other one
abbrev pub tested : (fails holds : List Task) → TreeState → Answer
tested fails holds t =
    made_on (popped t.body.stack) (λ x. if int_eq x.0 (pos 0) then goes_with t fails x.1 else goes_with t holds x.1)

-- where the word on top decides, it is the value; else it is popped, and the right side is the value
abbrev pub decided : ℤ → (known other : List Task) → TreeState → Answer
decided decides known other t =
    made_on (popped t.body.stack) (λ x. if int_eq x.0 decides then goes_with t known t.body.stack else goes_with t other x.1)

-- takes one of so many turns; where none is left it is trap 5
abbrev pub taking : (turns : ℕ) → (ℕ → Answer) → Answer
taking zero go = Failed 5
taking (suc left) go = go left

-- the work of a procedure, before other work. No procedure has another number: then nothing can be done
abbrev pub procedure_tasks : Option Procedure → List Task → List Task
procedure_tasks None rest = []
procedure_tasks (Some p) rest =
    Instruction (Instrs.Frame (variable_words p.variables)) ∷ All (frame_scope p) p.body ∷ Leaving ∷ rest

-- the frame begins below the topmost words, the parameters
abbrev pub beginning_with : (work : List Task) (parameters : ℕ) → TreeState → (left : ℕ) → Answer
beginning_with work parameters t left =
    if nat_le parameters (length t.body.stack)
    then On (record t { body = record t.body { work = work; fp = length t.body.stack - parameters; saved = t.body.fp ∷ t.body.saved; turns = left } })
    else Lost

-- at most 64 activations are active: that is tested before the turn
abbrev pub calling : (work : List Task) (parameters : ℕ) → TreeState → Answer
calling work parameters t =
    if nat_le 63 (length t.body.saved) then Failed 4 else taking t.body.turns (beginning_with work parameters t)

-- goes on behind the last call; without one it ends
abbrev pub leaving_to : List ℕ → (work : List Task) → List ℤ → TreeState → Answer
leaving_to [] work stack t = Finished t.block stack
leaving_to (fp ∷ saved) work stack t = On (record t { body = record t.body { work = work; stack = stack; fp = fp; saved = saved } })

-- drops the frame
abbrev pub leaving : (work : List Task) → TreeState → Answer
leaving work t =
    if nat_lt (length t.body.stack) t.body.fp then Lost else leaving_to t.body.saved work (take t.body.fp t.body.stack) t

-- goes on where it isn't over
abbrev pub carried_on : Answer → (TreeState → Answer) → Answer
carried_on (On t) go = go t
carried_on (Finished block stack) go = Finished block stack
carried_on (Failed k) go = Failed k
carried_on Lost go = Lost

-- a run at the start of a call of a procedure, with a budget of turns: below the frame lie the words of the results
abbrev pub tree_enter : List Procedure → (number variables : ℕ) → List Argument → (budget : ℕ) → TreeBody
tree_enter procedures number variables arguments budget = record {
  work = procedure_tasks (slice_get procedures number) [];
  stack = replicate (result_count arguments) (pos 0) ++ handed variables 0 arguments;
  fp = result_count arguments;
  saved = [];
  turns = budget;
}

abbrev pub tree_start : List Procedure → (number variables : ℕ) → List Argument → (budget : ℕ) → List ℤ → TreeState
tree_start procedures number variables arguments budget block = record { block = block; body = tree_enter procedures number variables arguments budget }

-- of a program, on a stack with so much room
module _ (program : Program) (reserve : ℕ) where
  -- a task that is not silent, before other work
  abbrev pub does : Task → List Task → TreeState → Answer
  does (Instruction i) rest t =
      made_on (effect reserve t.body.fp i t.block t.body.stack) (λ made. On (record { block = made.0; body = record t.body { work = rest; stack = made.1 } }))
  does (AndThen own right) rest t = decided (pos 0) rest (Value own right ∷ rest) t
  does (OrElse own right) rest t = decided (pos 1) rest (Value own right ∷ rest) t
  does (Alternative own ss others) rest t = tested (Choosing own others ∷ rest) (All own ss ∷ over_tasks others rest) t
  does Over rest t = goes_with t rest t.body.stack
  does (Looping own condition body) rest t = tested rest (Taking ∷ All own body ∷ Again own condition body ∷ rest) t
  does (Again own condition body) rest t = goes_with t (Doing own (While condition body) ∷ rest) t.body.stack
  does (Until own body condition) rest t = tested (Doing own (Repeat body condition) ∷ rest) rest t
  does Taking rest t = taking t.body.turns (λ left. On (record t { body = record t.body { work = rest; turns = left } }))
  does (Calling number parameters) rest t = calling (procedure_tasks (slice_get program.procedures number) rest) parameters t
  does Leaving rest t = leaving rest t
  does _ rest t = Lost

  -- the first task of opened work
  abbrev pub does_first : List Task → TreeState → Answer
  does_first [] t = Lost
  does_first (task ∷ rest) t = does task rest t

  abbrev pub step : TreeState → Answer
  step t = does_first (opened (variables_scope program.variables) t.body.work) t

  -- at most so many steps
  abbrev pub steps : ℕ → TreeState → Answer
  steps zero t = On t
  steps (suc k) t = carried_on (step t) (steps k)
