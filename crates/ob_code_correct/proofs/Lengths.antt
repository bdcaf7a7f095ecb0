-- The code of a construct is as long as its size says, wherever it stands.
use Rattle.std.proofs.Common.{◌≡◌, ℕ, ◌+◌, List, [], ◌∷◌, ◌++◌, length, refl, length-append, arith}
use Rattle.ob_typing.specs.declared.operator.BinaryOperator.{BinaryOperator}
use Rattle.ob_typing.specs.declared.operator.BinaryOperator.TheVariants.{Plus, Minus, Times, Div, Mod, And, Or}
use Rattle.ob_typing.specs.Program.{DataType, Owner, OfModule, Own, Expression, Literal, ValueOf, Negated, Complement, Computed, Compared, Operations, no_operation, operation, Designator, Designated, Selectors, no_selector, field_of, element_of, Actual, ByValue, ByPlace, Statement, Assign, Call, If, While, Repeat, Statements, no_statement, statement, Branches, no_branch, otherwise, branch, Procedure}
use Rattle.ob_code_scheme.specs.Types.{words, part_type, Space, Holding, Referring, Scope, word_in, space_at, type_at, scope_of, frame_scope}
use Rattle.ob_code_words.specs.declared.instr.Instr.{Instr}
use Rattle.ob_code_words.specs.declared.instr.Instr.TheVariants as Instrs
use Rattle.ob_code_scheme.specs.Scheme.{own_size, over_size, variable_size, size, operations_size, designator_size, selectors_size, actual_size, actuals_size, statement_size, statements_size, branches_size, procedure_size, relation_instruction, operator_at, own_code, over_code, variable_code, code_at, operations_at, designator_at, selectors_at, actual_at, actuals_at, statement_at, statements_at, branches_at, procedure_at}

-- of lists one behind the other
pub joined : (x y : List Instr) (m n : ℕ) → length x ≡ m → length y ≡ n → length (x ++ y) ≡ m + n
joined x y m n h k = let e = length-append x y in omega (arith, e, h, k)

-- with one instruction behind
pub ended : (x : List Instr) (i : Instr) (m : ℕ) → length x ≡ m → length (x ++ i ∷ []) ≡ m + 1
ended x i m h = joined x (i ∷ []) m 1 h refl

pub operator_long : (a : ℕ) (o : BinaryOperator) (n : ℕ) (operand : ℕ → List Instr) → ((b : ℕ) → length (operand b) ≡ n) → length (operator_at a o n operand) ≡ n + 1
operator_long a Plus n operand h = ended (operand a) Instrs.Add n (h a)
operator_long a Minus n operand h = ended (operand a) Instrs.Subtract n (h a)
operator_long a Times n operand h = ended (operand a) Instrs.Multiply n (h a)
operator_long a Div n operand h = ended (operand a) Instrs.Divide n (h a)
operator_long a Mod n operand h = ended (operand a) Instrs.Modulo n (h a)
operator_long a And n operand h = let e = h (a + 1) in omega (arith, e)
operator_long a Or n operand h = let e = h (a + 1) in omega (arith, e)

pub own_long : (w : ℕ) (s : Space) → length (own_code w s) ≡ own_size s
own_long w (Holding type) = refl
own_long w (Referring type) = refl

pub over_long : (rest : Branches) (end : ℕ) → length (over_code rest end) ≡ over_size rest
over_long no_branch end = refl
over_long (otherwise statements) end = refl
over_long (branch condition statements rest) end = refl

module _ (globals own : Scope) where
  pub variable_long : (owner : Owner) (position : ℕ) → length (variable_code globals own owner position) ≡ variable_size own owner position
  variable_long OfModule position = refl
  variable_long Own position = own_long (word_in own position) (space_at own position)

  mutual
    pub code_long : (a : ℕ) (e : Expression) → length (code_at globals own a e) ≡ size own e
    code_long a (Literal s) = refl
    code_long a (ValueOf type d) = ended (designator_at globals own a d) Instrs.Get (designator_size own d) (designator_long a d)
    code_long a (Negated e) = ended (code_at globals own a e) Instrs.Negate (size own e) (code_long a e)
    code_long a (Complement e) = ended (code_at globals own a e) Instrs.Not (size own e) (code_long a e)
    code_long a (Computed first rest) =
        joined (code_at globals own a first) (operations_at globals own (a + size own first) rest) (size own first) (operations_size own rest)
        (code_long a first) (operations_long (a + size own first) rest)
    code_long a (Compared relation left right) =
        joined (code_at globals own a left) (code_at globals own (a + size own left) right ++ relation_instruction relation ∷ []) (size own left) (size own right + 1)
        (code_long a left) (ended (code_at globals own (a + size own left) right) (relation_instruction relation) (size own right) (code_long (a + size own left) right))

    pub operations_long : (a : ℕ) (os : Operations) → length (operations_at globals own a os) ≡ operations_size own os
    operations_long a no_operation = refl
    operations_long a (operation o e rest) =
        joined (operator_at a o (size own e) (λ b. code_at globals own b e)) (operations_at globals own (a + (size own e + 1)) rest) (size own e + 1) (operations_size own rest)
        (operator_long a o (size own e) (λ b. code_at globals own b e) (λ b. code_long b e)) (operations_long (a + (size own e + 1)) rest)

    pub designator_long : (a : ℕ) (d : Designator) → length (designator_at globals own a d) ≡ designator_size own d
    designator_long a (Designated slot selectors) =
        joined (variable_code globals own slot.owner slot.position)
        (selectors_at globals own (a + variable_size own slot.owner slot.position) (type_at (scope_of globals own slot.owner) slot.position) selectors)
        (variable_size own slot.owner slot.position) (selectors_size own selectors) (variable_long slot.owner slot.position)
        (selectors_long (a + variable_size own slot.owner slot.position) (type_at (scope_of globals own slot.owner) slot.position) selectors)

    pub selectors_long : (a : ℕ) (type : DataType) (ss : Selectors) → length (selectors_at globals own a type ss) ≡ selectors_size own ss
    selectors_long a type no_selector = refl
    selectors_long a type (field_of position name rest) = let e = selectors_long (a + 1) (part_type type position) rest in omega (arith, e)
    selectors_long a type (element_of n index rest) =
        let e = selectors_long (a + (size own index + 1)) (part_type type 0) rest in
        let k = joined (code_at globals own a index) (Instrs.Index n (words (part_type type 0)) ∷ selectors_at globals own (a + (size own index + 1)) (part_type type 0) rest)
        (size own index) (1 + selectors_size own rest) (code_long a index) (omega (arith, e)) in
        omega (arith, k)

  pub actual_long : (a : ℕ) (x : Actual) → length (actual_at globals own a x) ≡ actual_size own x
  actual_long a (ByValue e) = code_long a e
  actual_long a (ByPlace d) = designator_long a d

  pub actuals_long : (a : ℕ) (xs : List Actual) → length (actuals_at globals own a xs) ≡ actuals_size own xs
  actuals_long a [] = refl
  actuals_long a (x ∷ xs) =
      joined (actual_at globals own a x) (actuals_at globals own (a + actual_size own x) xs) (actual_size own x) (actuals_size own xs)
      (actual_long a x) (actuals_long (a + actual_size own x) xs)

  module _ (entry : ℕ → ℕ) where
    mutual
      pub statement_long : (a : ℕ) (s : Statement) → length (statement_at globals own entry a s) ≡ statement_size own s
      statement_long a (Assign target e) =
          joined (designator_at globals own a target) (code_at globals own (a + designator_size own target) e ++ Instrs.Put ∷ []) (designator_size own target) (size own e + 1)
          (designator_long a target) (ended (code_at globals own (a + designator_size own target) e) Instrs.Put (size own e) (code_long (a + designator_size own target) e))
      statement_long a (Call procedure actuals) =
          ended (actuals_at globals own a actuals) (Instrs.Call (entry procedure) (length actuals)) (actuals_size own actuals) (actuals_long a actuals)
      statement_long a (If branches) = branches_long a branches
      statement_long a (While condition body) =
          let m = a + size own condition in
          let end = Instrs.Jump a in
          let inside = ended (statements_at globals own entry (m + 2) body) end (statements_size own body) (statements_long (m + 2) body) in
          let k = joined (code_at globals own a condition)
          (Instrs.JumpIfFalse (m + 2 + statements_size own body + 1) ∷ Instrs.Turn ∷ (statements_at globals own entry (m + 2) body ++ end ∷ []))
          (size own condition) (2 + (statements_size own body + 1)) (code_long a condition) (omega (arith, inside)) in
          omega (arith, k)
      statement_long a (Repeat body condition) =
          let b = a + 1 + statements_size own body in
          let last = ended (code_at globals own b condition) (Instrs.JumpIfFalse a) (size own condition) (code_long b condition) in
          let k = joined (statements_at globals own entry (a + 1) body) (code_at globals own b condition ++ Instrs.JumpIfFalse a ∷ [])
          (statements_size own body) (size own condition + 1) (statements_long (a + 1) body) last in
          omega (arith, k)

      pub statements_long : (a : ℕ) (ss : Statements) → length (statements_at globals own entry a ss) ≡ statements_size own ss
      statements_long a no_statement = refl
      statements_long a (statement first rest) =
          joined (statement_at globals own entry a first) (statements_at globals own entry (a + statement_size own first) rest) (statement_size own first) (statements_size own rest)
          (statement_long a first) (statements_long (a + statement_size own first) rest)

      pub branches_long : (a : ℕ) (bs : Branches) → length (branches_at globals own entry a bs) ≡ branches_size own bs
      branches_long a no_branch = refl
      branches_long a (otherwise statements) = statements_long a statements
      branches_long a (branch condition statements rest) =
          let m = a + size own condition + 1 in
          let next = m + statements_size own statements + over_size rest in
          let last = joined (over_code rest (next + branches_size own rest)) (branches_at globals own entry next rest) (over_size rest) (branches_size own rest)
          (over_long rest (next + branches_size own rest)) (branches_long next rest) in
          let inside = joined (statements_at globals own entry m statements) (over_code rest (next + branches_size own rest) ++ branches_at globals own entry next rest)
          (statements_size own statements) (over_size rest + branches_size own rest) (statements_long m statements) last in
          let k = joined (code_at globals own a condition)
          (Instrs.JumpIfFalse next ∷ (statements_at globals own entry m statements ++ (over_code rest (next + branches_size own rest) ++ branches_at globals own entry next rest)))
          (size own condition) (1 + (statements_size own statements + (over_size rest + branches_size own rest))) (code_long a condition) (omega (arith, inside)) in
          omega (arith, k)

pub procedure_long : (globals : Scope) (entry : ℕ → ℕ) (a : ℕ) (p : Procedure) → length (procedure_at globals entry a p) ≡ procedure_size p
procedure_long globals entry a p =
    let e = ended (statements_at globals (frame_scope p) entry (a + 1) p.body) Instrs.Return (statements_size (frame_scope p) p.body) (statements_long globals (frame_scope p) entry (a + 1) p.body) in
    omega (arith, e)
