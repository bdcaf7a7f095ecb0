-- The code scheme: which instructions stand for a construct of a checked program. A construct's length does not depend on where it
-- stands, so each target of a jump is told by lengths.
use Rattle.std.specs.Prelude.{◌≡◌, ℕ, zero, suc, ◌+◌, List, [], ◌∷◌, ◌++◌, length, slice_get, Some}
use Rattle.ob_typing.specs.declared.operator.BinaryOperator.{BinaryOperator}
use Rattle.ob_typing.specs.declared.operator.BinaryOperator.TheVariants.{Plus, Minus, Times, Div, Mod, And, Or}
use Rattle.ob_typing.specs.declared.operator.Relation.{Relation}
use Rattle.ob_typing.specs.declared.operator.Relation.TheVariants.{Equal, NotEqual, Less, LessOrEqual, Greater, GreaterOrEqual}
use Rattle.ob_typing.specs.Program.{DataType, Owner, OfModule, Own, Expression, Literal, ValueOf, Negated, Complement, Computed, Compared, Operations, no_operation, operation, Designator, Designated, Selectors, no_selector, field_of, element_of, Actual, ByValue, ByPlace, Statement, Assign, Call, If, While, Repeat, Statements, no_statement, statement, Branches, no_branch, otherwise, branch, Procedure, Program}
use Rattle.ob_code_scheme.specs.Types.{words, part_type, part_offset, Space, Holding, Referring, Scope, word_in, space_at, type_at, scope_of, variables_scope, frame_scope}
use Rattle.ob_code_scheme.specs.Layout.{word, variable_words}
use Rattle.ob_code_machine.specs.Code.{CodeParts}
use Rattle.ob_code_words.specs.declared.instr.Instr.{Instr}
use Rattle.ob_code_words.specs.declared.instr.Instr.TheVariants as Instrs

-- ---- lengths

-- an own VAR parameter takes one instruction more: its word holds the address
abbrev pub own_size : Space → ℕ
own_size (Holding type) = 1
own_size (Referring type) = 2

-- IF: the jump over the alternatives behind, where there are any
abbrev pub over_size : Branches → ℕ
over_size no_branch = 0
over_size _ = 1

-- in a procedure with the frame scope `own`
module _ (own : Scope) where
  -- the address of a variable, by its owner and position
  abbrev pub variable_size : Owner → ℕ → ℕ
  variable_size OfModule position = 1
  variable_size Own position = own_size (space_at own position)

  abbrev mutual
    pub size : Expression → ℕ
    size (Literal s) = 1
    size (ValueOf type d) = designator_size d + 1
    size (Negated e) = size e + 1
    size (Complement e) = size e + 1
    size (Computed first rest) = size first + operations_size rest
    size (Compared relation left right) = size left + (size right + 1)

    -- an operand and its instruction, or the jump over it
    pub operations_size : Operations → ℕ
    operations_size no_operation = 0
    operations_size (operation o e rest) = size e + 1 + operations_size rest

    pub designator_size : Designator → ℕ
    designator_size (Designated slot selectors) = variable_size slot.owner slot.position + selectors_size selectors

    pub selectors_size : Selectors → ℕ
    selectors_size no_selector = 0
    selectors_size (field_of position name rest) = 1 + selectors_size rest
    selectors_size (element_of length index rest) = size index + 1 + selectors_size rest

  abbrev pub actual_size : Actual → ℕ
  actual_size (ByValue e) = size e
  actual_size (ByPlace d) = designator_size d

  abbrev pub actuals_size : List Actual → ℕ
  actuals_size [] = 0
  actuals_size (a ∷ actuals) = actual_size a + actuals_size actuals

  abbrev mutual
    pub statement_size : Statement → ℕ
    statement_size (Assign target e) = designator_size target + (size e + 1)
    statement_size (Call procedure actuals) = actuals_size actuals + 1
    statement_size (If branches) = branches_size branches
    statement_size (While condition body) = size condition + 2 + statements_size body + 1
    statement_size (Repeat body condition) = 1 + statements_size body + size condition + 1

    pub statements_size : Statements → ℕ
    statements_size no_statement = 0
    statements_size (statement first rest) = statement_size first + statements_size rest

    pub branches_size : Branches → ℕ
    branches_size no_branch = 0
    branches_size (otherwise statements) = statements_size statements
    branches_size (branch condition statements rest) =
        size condition + 1 + statements_size statements + over_size rest + branches_size rest

-- a procedure: FRAME, its statements, RET
abbrev pub procedure_size : Procedure → ℕ
procedure_size p = 1 + statements_size (frame_scope p) p.body + 1

-- the place of the first instruction of a procedure, by its number: the procedures before it stand in the order of their headings
abbrev pub entry_of : List Procedure → ℕ → ℕ
entry_of [] i = 0
entry_of (p ∷ procedures) zero = 0
entry_of (p ∷ procedures) (suc i) = procedure_size p + entry_of procedures i

-- ---- code

abbrev pub relation_instruction : Relation → Instr
relation_instruction Equal = Instrs.Equal
relation_instruction NotEqual = Instrs.NotEqual
relation_instruction Less = Instrs.Less
relation_instruction LessOrEqual = Instrs.LessOrEqual
relation_instruction Greater = Instrs.Greater
relation_instruction GreaterOrEqual = Instrs.GreaterOrEqual

-- an operator at a place, behind the value of its left operand, with its right operand, which has this length and this code from
-- each place on; `&` and OR jump over it where the left value decides
abbrev pub operator_at : ℕ → BinaryOperator → (operand_size : ℕ) → (ℕ → List Instr) → List Instr
operator_at a And n operand = Instrs.AndJump (a + 1 + n) ∷ operand (a + 1)
operator_at a Or n operand = Instrs.OrJump (a + 1 + n) ∷ operand (a + 1)
operator_at a Plus n operand = operand a ++ Instrs.Add ∷ []
operator_at a Minus n operand = operand a ++ Instrs.Subtract ∷ []
operator_at a Times n operand = operand a ++ Instrs.Multiply ∷ []
operator_at a Div n operand = operand a ++ Instrs.Divide ∷ []
operator_at a Mod n operand = operand a ++ Instrs.Modulo ∷ []

-- the address of an own variable: its word of the frame; of a VAR parameter the address that this word holds
abbrev pub own_code : ℕ → Space → List Instr
own_code word (Holding type) = Instrs.Local word ∷ []
own_code word (Referring type) = Instrs.Local word ∷ Instrs.Get ∷ []

-- IF: behind an alternative, the jump to the end of the whole IF, where alternatives stand behind
abbrev pub over_code : Branches → (end : ℕ) → List Instr
over_code no_branch end = []
over_code _ end = Instrs.Jump end ∷ []

-- in a procedure with the frame scope `own`, of a module with the scope `globals`
module _ (globals own : Scope) where
  -- the address of a variable, by its owner and position
  abbrev pub variable_code : Owner → ℕ → List Instr
  variable_code OfModule position = Instrs.Global (word_in globals position) ∷ []
  variable_code Own position = own_code (word_in own position) (space_at own position)

  abbrev mutual
    -- the value of an expression, from place a on
    pub code_at : ℕ → Expression → List Instr
    code_at a (Literal s) = Instrs.Literal (word s) ∷ []
    code_at a (ValueOf type d) = designator_at a d ++ Instrs.Get ∷ []
    code_at a (Negated e) = code_at a e ++ Instrs.Negate ∷ []
    code_at a (Complement e) = code_at a e ++ Instrs.Not ∷ []
    code_at a (Computed first rest) = code_at a first ++ operations_at (a + size own first) rest
    code_at a (Compared relation left right) =
        code_at a left ++ (code_at (a + size own left) right ++ relation_instruction relation ∷ [])

    -- operators and operands, behind the value of what stands before them
    pub operations_at : ℕ → Operations → List Instr
    operations_at a no_operation = []
    operations_at a (operation o e rest) =
        operator_at a o (size own e) (λ b. code_at b e) ++ operations_at (a + (size own e + 1)) rest

    -- the address of a variable or of a part of it
    pub designator_at : ℕ → Designator → List Instr
    designator_at a (Designated slot selectors) =
        variable_code slot.owner slot.position
        ++ selectors_at (a + variable_size own slot.owner slot.position) (type_at (scope_of globals own slot.owner) slot.position) selectors

    -- from the address of something of a type to that of a part of it
    pub selectors_at : ℕ → DataType → Selectors → List Instr
    selectors_at a type no_selector = []
    selectors_at a type (field_of position name rest) =
        Instrs.Field (part_offset type position) ∷ selectors_at (a + 1) (part_type type position) rest
    selectors_at a type (element_of length index rest) =
        code_at a index
        ++ Instrs.Index length (words (part_type type 0))
        ∷ selectors_at (a + (size own index + 1)) (part_type type 0) rest

  -- the value of an actual, or for a VAR parameter its address
  abbrev pub actual_at : ℕ → Actual → List Instr
  actual_at a (ByValue e) = code_at a e
  actual_at a (ByPlace d) = designator_at a d

  abbrev pub actuals_at : ℕ → List Actual → List Instr
  actuals_at a [] = []
  actuals_at a (actual ∷ actuals) = actual_at a actual ++ actuals_at (a + actual_size own actual) actuals

  -- where the procedures begin at these places
  module _ (entry : ℕ → ℕ) where
    abbrev mutual
      pub statement_at : ℕ → Statement → List Instr
      -- the address of the target, the value, PUT
      statement_at a (Assign target e) =
          designator_at a target ++ (code_at (a + designator_size own target) e ++ Instrs.Put ∷ [])
      -- the actuals, CALL
      statement_at a (Call procedure actuals) =
          actuals_at a actuals ++ Instrs.Call (entry procedure) (length actuals) ∷ []
      statement_at a (If branches) = branches_at a branches
      -- L: the condition, JF to the end, TURN, the statements, JMP L
      statement_at a (While condition body) =
          let m = a + size own condition in
          code_at a condition
          ++ Instrs.JumpIfFalse (m + 2 + statements_size own body + 1)
          ∷ Instrs.Turn
          ∷ (statements_at (m + 2) body ++ Instrs.Jump a ∷ [])
      -- L: TURN, the statements, the condition, JF L
      statement_at a (Repeat body condition) =
          Instrs.Turn
          ∷ (statements_at (a + 1) body
          ++ (code_at (a + 1 + statements_size own body) condition ++ Instrs.JumpIfFalse a ∷ []))

      pub statements_at : ℕ → Statements → List Instr
      statements_at a no_statement = []
      statements_at a (statement first rest) =
          statement_at a first ++ statements_at (a + statement_size own first) rest

      -- each alternative: the condition, JF to the next one, the statements, and JMP to the end of all where an alternative or ELSE follows
      pub branches_at : ℕ → Branches → List Instr
      branches_at a no_branch = []
      branches_at a (otherwise statements) = statements_at a statements
      branches_at a (branch condition statements rest) =
          let m = a + size own condition + 1 in
          let next = m + statements_size own statements + over_size rest in
          code_at a condition
          ++ Instrs.JumpIfFalse next
          ∷ (statements_at m statements
          ++ (over_code rest (next + branches_size own rest) ++ branches_at next rest))

-- a procedure from place a on: FRAME with the words of its variables, its statements, RET
abbrev pub procedure_at : Scope → (entry : ℕ → ℕ) → ℕ → Procedure → List Instr
procedure_at globals entry a p =
    Instrs.Frame (variable_words p.variables)
    ∷ (statements_at globals (frame_scope p) entry (a + 1) p.body ++ Instrs.Return ∷ [])

-- procedures in the order of their headings
abbrev pub procedures_at : Scope → (entry : ℕ → ℕ) → ℕ → List Procedure → List Instr
procedures_at globals entry a [] = []
procedures_at globals entry a (p ∷ procedures) =
    procedure_at globals entry a p ++ procedures_at globals entry (a + procedure_size p) procedures

-- of each procedure the place of its first instruction, from a place on
abbrev pub entries_from : ℕ → List Procedure → List ℕ
entries_from place [] = []
entries_from place (p ∷ procedures) = place ∷ entries_from (place + procedure_size p) procedures

-- the code of a program's procedures; the module's body is none of it
abbrev pub code_of : Program → CodeParts
code_of program = record {
  instructions = procedures_at (variables_scope program.variables) (entry_of program.procedures) 0 program.procedures;
  entries = entries_from 0 program.procedures;
}

-- ---- instructions that stand in the code from a place on

abbrev pub HasAt : List Instr → ℕ → List Instr → Type 0
HasAt code place [] = Unit {0}
HasAt code place (i ∷ is) = (slice_get code place ≡ Some i) × HasAt code (place + 1) is
