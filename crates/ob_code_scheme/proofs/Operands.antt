-- The operands of the code of a well formed program have 16 bits: what holds of each such instruction that is no call, and of each call of a
-- procedure, holds of all its code.
use Rattle.std.proofs.Common.{◌≡◌, ℕ, zero, suc, ◌+◌, ◌≤◌, Bool, true, false, List, [], ◌∷◌, ◌++◌, length, Option, Some, None, refl, sym, ◌∙◌, subst, All, arith}
use Rattle.std.specs.Prelude.{slice_get}
use Rattle.std.proofs.lemmas.List.{length-map}
use Rattle.std.proofs.lemmas.List.Elements.{All-nil, All-cons, All-append, All-head, All-tail}
use Rattle.ob_interface.specs.declared.scalar.ScalarType.{ScalarType}
use Rattle.ob_interface.specs.declared.scalar.ScalarType.TheVariants.{Integer, Boolean}
use Rattle.ob_typing.specs.declared.operator.BinaryOperator.{BinaryOperator}
use Rattle.ob_typing.specs.declared.operator.BinaryOperator.TheVariants.{Plus, Minus, Times, Div, Mod, And, Or}
use Rattle.ob_typing.specs.declared.operator.Relation.{Relation}
use Rattle.ob_typing.specs.declared.operator.Relation.TheVariants.{Equal, NotEqual, Less, LessOrEqual, Greater, GreaterOrEqual}
use Rattle.ob_typing.specs.Program.{DataType, Simple, Array, Record, Fields, no_field, field, Owner, OfModule, Own, Name, Expression, Literal, ValueOf, Negated, Complement, Computed, Compared, Operations, no_operation, operation, Designator, Designated, Selectors, no_selector, field_of, element_of, Actual, ByValue, ByPlace, Statement, Assign, Call, If, While, Repeat, Statements, no_statement, statement, Branches, no_branch, otherwise, branch, Parameter, Variable, Procedure, Program}
use Rattle.ob_code_words.specs.declared.instr.Instr.{Instr}
use Rattle.ob_code_words.specs.declared.instr.Instr.TheVariants as Instrs
use Rattle.ob_code_scheme.specs.Types.{words, words_of_fields, offset, field_type, part_type, part_offset, Space, Holding, Referring, Scope, extent, word_in, space_at, type_at, scope_of, variables_scope, parameters_scope, frame_scope}
use Rattle.ob_code_scheme.specs.Layout.{word}
use Rattle.ob_code_scheme.specs.Scheme.{size, variable_size, designator_size, actual_size, statement_size, statements_size, over_size, branches_size, procedure_size, relation_instruction, operator_at, own_code, over_code, variable_code, code_at, operations_at, designator_at, selectors_at, actual_at, actuals_at, statement_at, statements_at, branches_at, procedure_at, procedures_at}
use Rattle.ob_code_scheme.specs.WellFormed.{HasFieldAt, HasLength, IsOf, AreOf, Designates, Selects, IsActual, AreActuals, AreActualsOf, IsFine, AreFine, AreFineBranches, IsSmall, AreSmall, IsFineProcedure, IsWellFormed}
use Rattle.ob_code_scheme.proofs.Fine.{extent-append}
use Rattle.ob_code_scheme.specs.Operands.{IsSmallInstruction}

relation_small : (r : Relation) → IsSmallInstruction (relation_instruction r)
relation_small Equal = omega arith
relation_small NotEqual = omega arith
relation_small Less = omega arith
relation_small LessOrEqual = omega arith
relation_small Greater = omega arith
relation_small GreaterOrEqual = omega arith

-- ---- words

-- a position begins within the words of its scope
word_within : (s : Scope) (i : ℕ) → word_in s i ≤ extent s
word_within [] i = omega arith
word_within (x ∷ s) zero = omega arith
word_within (x ∷ s) (suc i) = let rest = word_within s i in omega (arith, rest)

-- and a field within those of its record
offset_within : (fields : Fields) (i : ℕ) → offset fields i ≤ words_of_fields fields
offset_within no_field i = omega arith
offset_within (field name type rest) zero = omega arith
offset_within (field name type rest) (suc i) = let more = offset_within rest i in omega (arith, more)

field_offset : (from : DataType) (i : ℕ) → IsSmall from → HasFieldAt from i → part_offset from i ≤ 65535
field_offset (Simple type) i small h = absurd h
field_offset (Array place n element) i small h = absurd h
field_offset (Record place fields) i small h = let within = offset_within fields i in omega (arith, within, small.0)

element_words : (from : DataType) (n : ℕ) → IsSmall from → HasLength from n → IsSmallInstruction (Instrs.Index n (words (part_type from 0)))
element_words (Simple type) n small h = absurd h
element_words (Array place m element) n small h = omega (arith, h, small.0, small.1)
element_words (Record place fields) n small h = absurd h

field_small : (fields : Fields) (i : ℕ) → AreSmall fields → IsSmall (field_type fields i)
field_small no_field i h = tt
field_small (field name type rest) zero h = h.0
field_small (field name type rest) (suc i) h = field_small rest i h.1

part_small : (from : DataType) (i : ℕ) → IsSmall from → IsSmall (part_type from i)
part_small (Simple type) i h = tt
part_small (Array place n element) i h = h.2
part_small (Record place fields) i h = field_small fields i h.1

-- ---- scopes

-- positions have small words and small types; behind the last one stands an INTEGER
record IsSmallScope (s : Scope) : Type 0 where
  words : extent s ≤ 4096
  types : (i : ℕ) → IsSmall (type_at s i)

variables_small : (vs : List Variable) → All (λ (v : Variable). IsSmall v.type) vs → (i : ℕ) → IsSmall (type_at (variables_scope vs) i)
variables_small [] h i = tt
variables_small (v ∷ vs) h zero = All-head (λ (x : Variable). IsSmall x.type) v vs h
variables_small (v ∷ vs) h (suc i) = variables_small vs (All-tail (λ (x : Variable). IsSmall x.type) v vs h) i

parameter_small : (name : Name) (is_var : Bool) (type : DataType) (ps : List Parameter) (s : Scope) → IsSmall type →
    IsSmall (type_at (parameters_scope (record { name = name; is_var = is_var; type = type } ∷ ps) ++ s) 0)
parameter_small name true type ps s h = h
parameter_small name false type ps s h = h

parameters_small : (ps : List Parameter) (s : Scope) → All (λ (p : Parameter). IsSmall p.type) ps → ((i : ℕ) → IsSmall (type_at s i)) → (i : ℕ) →
    IsSmall (type_at (parameters_scope ps ++ s) i)
parameters_small [] s h k i = k i
parameters_small (p ∷ ps) s h k zero = parameter_small p.name p.is_var p.type ps s (All-head (λ (x : Parameter). IsSmall x.type) p ps h)
parameters_small (p ∷ ps) s h k (suc i) = parameters_small ps s (All-tail (λ (x : Parameter). IsSmall x.type) p ps h) k i

globals_small : (program : Program) → IsWellFormed program → IsSmallScope (variables_scope program.variables)
globals_small program fine = record { words = fine.variables; types = variables_small program.variables fine.small }

frame_small : (program : Program) (p : Procedure) → IsFineProcedure program p → IsSmallScope (frame_scope p)
frame_small program p fine = record {
  words = let few = fine.frame in omega (arith, few);
  types = parameters_small p.parameters (variables_scope p.variables) fine.small_parameters (variables_small p.variables fine.small_variables);
}

-- ---- what holds of small instructions

module _ (P : Instr → Type 0) (plain : (i : Instr) → IsSmallInstruction i → P i) where
  no_code : All P []
  no_code = All-nil P

  both : (is js : List Instr) → All P is → All P js → All P (is ++ js)
  both is js h k = All-append P is js h k

  next : (i : Instr) (is : List Instr) → IsSmallInstruction i → All P is → All P (i ∷ is)
  next i is h k = All-cons P i is (plain i h) k

  last : (is : List Instr) (i : Instr) → All P is → IsSmallInstruction i → All P (is ++ i ∷ [])
  last is i h k = both is (i ∷ []) h (next i [] k no_code)

  operator_small : (a : ℕ) (o : BinaryOperator) (n : ℕ) (operand : ℕ → List Instr) → ((b : ℕ) → All P (operand b)) → All P (operator_at a o n operand)
  operator_small a Plus n operand h = last (operand a) Instrs.Add (h a) (omega arith)
  operator_small a Minus n operand h = last (operand a) Instrs.Subtract (h a) (omega arith)
  operator_small a Times n operand h = last (operand a) Instrs.Multiply (h a) (omega arith)
  operator_small a Div n operand h = last (operand a) Instrs.Divide (h a) (omega arith)
  operator_small a Mod n operand h = last (operand a) Instrs.Modulo (h a) (omega arith)
  operator_small a And n operand h = next (Instrs.AndJump (a + 1 + n)) (operand (a + 1)) (omega arith) (h (a + 1))
  operator_small a Or n operand h = next (Instrs.OrJump (a + 1 + n)) (operand (a + 1)) (omega arith) (h (a + 1))

  own_small : (w : ℕ) (s : Space) → w ≤ 65535 → All P (own_code w s)
  own_small w (Holding type) h = next (Instrs.Local w) [] h no_code
  own_small w (Referring type) h = next (Instrs.Local w) (Instrs.Get ∷ []) h (next Instrs.Get [] (omega arith) no_code)

  over_small : (rest : Branches) (end : ℕ) → All P (over_code rest end)
  over_small no_branch end = no_code
  over_small (otherwise statements) end = next (Instrs.Jump end) [] (omega arith) no_code
  over_small (branch condition statements rest) end = next (Instrs.Jump end) [] (omega arith) no_code

  -- ---- expressions, in a procedure with these scopes

  module _ (g o : Scope) (globals : IsSmallScope g) (own : IsSmallScope o) where
    scope_small : (owner : Owner) → IsSmallScope (scope_of g o owner)
    scope_small OfModule = globals
    scope_small Own = own

    variable_small : (owner : Owner) (i : ℕ) → All P (variable_code g o owner i)
    variable_small OfModule i =
        let within = word_within g i in
        let few = globals.words in
        next (Instrs.Global (word_in g i)) [] (omega (arith, within, few)) no_code
    variable_small Own i =
        let within = word_within o i in
        let few = own.words in
        own_small (word_in o i) (space_at o i) (omega (arith, within, few))

    mutual
      code_small : (a : ℕ) (e : Expression) (t : ScalarType) → IsOf g o e t → All P (code_at g o a e)
      code_small a (Literal s) t h = next (Instrs.Literal (word s)) [] (omega arith) no_code
      code_small a (ValueOf type d) t h = last (designator_at g o a d) Instrs.Get (designator_small a d (Simple t) h) (omega arith)
      code_small a (Negated e) Integer h = last (code_at g o a e) Instrs.Negate (code_small a e Integer h) (omega arith)
      code_small a (Negated e) Boolean h = absurd h
      code_small a (Complement e) Integer h = absurd h
      code_small a (Complement e) Boolean h = last (code_at g o a e) Instrs.Not (code_small a e Boolean h) (omega arith)
      code_small a (Computed first rest) t h =
          both (code_at g o a first) (operations_at g o (a + size o first) rest) (code_small a first t h.0) (operations_small (a + size o first) rest t h.1)
      code_small a (Compared relation left right) Integer h = absurd h
      code_small a (Compared relation left right) Boolean h =
          let b = a + size o left in
          both (code_at g o a left) (code_at g o b right ++ relation_instruction relation ∷ []) (code_small a left h.0 h.2)
          (last (code_at g o b right) (relation_instruction relation) (code_small b right h.0 h.3) (relation_small relation))

      operations_small : (a : ℕ) (os : Operations) (t : ScalarType) → AreOf g o os t → All P (operations_at g o a os)
      operations_small a no_operation t h = no_code
      operations_small a (operation operator e rest) t h =
          both (operator_at a operator (size o e) (λ b. code_at g o b e)) (operations_at g o (a + (size o e + 1)) rest)
          (operator_small a operator (size o e) (λ b. code_at g o b e) (λ b. code_small b e t h.1)) (operations_small (a + (size o e + 1)) rest t h.2)

      designator_small : (a : ℕ) (d : Designator) (t : DataType) → Designates g o d t → All P (designator_at g o a d)
      designator_small a (Designated slot selectors) t h =
          let b = a + variable_size o slot.owner slot.position in
          let from = type_at (scope_of g o slot.owner) slot.position in
          both (variable_code g o slot.owner slot.position) (selectors_at g o b from selectors) (variable_small slot.owner slot.position)
          (selectors_small b from selectors t ((scope_small slot.owner).types slot.position) h.1)

      selectors_small : (a : ℕ) (from : DataType) (ss : Selectors) (to : DataType) → IsSmall from → Selects g o from ss to → All P (selectors_at g o a from ss)
      selectors_small a from no_selector to small h = no_code
      selectors_small a from (field_of position name rest) to small h =
          next (Instrs.Field (part_offset from position)) (selectors_at g o (a + 1) (part_type from position) rest) (field_offset from position small h.0)
          (selectors_small (a + 1) (part_type from position) rest to (part_small from position small) h.1)
      selectors_small a from (element_of n index rest) to small h =
          let b = a + (size o index + 1) in
          both (code_at g o a index) (Instrs.Index n (words (part_type from 0)) ∷ selectors_at g o b (part_type from 0) rest) (code_small a index Integer h.1)
          (next (Instrs.Index n (words (part_type from 0))) (selectors_at g o b (part_type from 0) rest) (element_words from n small h.0)
          (selectors_small b (part_type from 0) rest to (part_small from 0 small) h.2))

    actual_small : (a : ℕ) (x : Actual) (s : Space) → IsActual g o x s → All P (actual_at g o a x)
    actual_small a (ByValue e) (Holding (Simple t)) h = code_small a e t h
    actual_small a (ByValue e) (Holding (Array place n element)) h = absurd h
    actual_small a (ByValue e) (Holding (Record place fields)) h = absurd h
    actual_small a (ByValue e) (Referring type) h = absurd h
    actual_small a (ByPlace d) (Holding type) h = absurd h
    actual_small a (ByPlace d) (Referring type) h = designator_small a d type h

    actuals_small : (a : ℕ) (xs : List Actual) (s : Scope) → AreActuals g o xs s → All P (actuals_at g o a xs) × (length xs ≡ length s)
    actuals_small a [] [] h = (no_code, refl)
    actuals_small a [] (x ∷ s) h = absurd h
    actuals_small a (x ∷ xs) [] h = absurd h
    actuals_small a (x ∷ xs) (space ∷ s) h =
        let rest = actuals_small (a + actual_size o x) xs s h.1 in
        let long = rest.1 in
        (both (actual_at g o a x) (actuals_at g o (a + actual_size o x) xs) (actual_small a x space h.0) rest.0, omega (arith, long))

    -- ---- statements, where procedures begin at these entries

    module _ (entry : ℕ → ℕ) (procedures : List Procedure)
        (calls : (i : ℕ) (p : Procedure) → slice_get procedures i ≡ Some p → P (Instrs.Call (entry i) (length p.parameters))) where
      call_small : (a n : ℕ) (xs : List Actual) (found : Option Procedure) → slice_get procedures n ≡ found → AreActualsOf g o xs found →
          All P (statement_at g o entry a (Call n xs))
      call_small a n xs None is h = absurd h
      call_small a n xs (Some p) is h =
          let given = actuals_small a xs (parameters_scope p.parameters) h in
          let long = given.1 ∙ length-map p.parameters _ in
          let entered = subst (λ (k : ℕ). P (Instrs.Call (entry n) k)) (sym long) (calls n p is) in
          both (actuals_at g o a xs) (Instrs.Call (entry n) (length xs) ∷ []) given.0 (All-cons P (Instrs.Call (entry n) (length xs)) [] entered no_code)

      mutual
        statement_small : (a : ℕ) (s : Statement) → IsFine g o procedures s → All P (statement_at g o entry a s)
        statement_small a (Assign target e) h =
            let b = a + designator_size o target in
            both (designator_at g o a target) (code_at g o b e ++ Instrs.Put ∷ []) (designator_small a target (Simple h.0) h.1)
            (last (code_at g o b e) Instrs.Put (code_small b e h.0 h.2) (omega arith))
        statement_small a (Call n xs) h = call_small a n xs (slice_get procedures n) refl h
        statement_small a (If branches) h = branches_small a branches h
        statement_small a (While condition body) h =
            let m = a + size o condition in
            let end = m + 2 + statements_size o body + 1 in
            let inside = statements_at g o entry (m + 2) body in
            both (code_at g o a condition) (Instrs.JumpIfFalse end ∷ Instrs.Turn ∷ (inside ++ Instrs.Jump a ∷ [])) (code_small a condition Boolean h.0)
            (next (Instrs.JumpIfFalse end) (Instrs.Turn ∷ (inside ++ Instrs.Jump a ∷ [])) (omega arith)
            (next Instrs.Turn (inside ++ Instrs.Jump a ∷ []) (omega arith)
            (last inside (Instrs.Jump a) (statements_small (m + 2) body h.1) (omega arith))))
        statement_small a (Repeat body condition) h =
            let inside = statements_at g o entry (a + 1) body in
            let b = a + 1 + statements_size o body in
            next Instrs.Turn (inside ++ (code_at g o b condition ++ Instrs.JumpIfFalse a ∷ [])) (omega arith)
            (both inside (code_at g o b condition ++ Instrs.JumpIfFalse a ∷ []) (statements_small (a + 1) body h.0)
            (last (code_at g o b condition) (Instrs.JumpIfFalse a) (code_small b condition Boolean h.1) (omega arith)))

        statements_small : (a : ℕ) (ss : Statements) → AreFine g o procedures ss → All P (statements_at g o entry a ss)
        statements_small a no_statement h = no_code
        statements_small a (statement first rest) h =
            both (statement_at g o entry a first) (statements_at g o entry (a + statement_size o first) rest) (statement_small a first h.0)
            (statements_small (a + statement_size o first) rest h.1)

        branches_small : (a : ℕ) (bs : Branches) → AreFineBranches g o procedures bs → All P (branches_at g o entry a bs)
        branches_small a no_branch h = no_code
        branches_small a (otherwise statements) h = statements_small a statements h
        branches_small a (branch condition statements rest) h =
            let m = a + size o condition + 1 in
            let behind = m + statements_size o statements + over_size rest in
            let over = over_code rest (behind + branches_size o rest) in
            let inside = statements_at g o entry m statements in
            both (code_at g o a condition) (Instrs.JumpIfFalse behind ∷ (inside ++ (over ++ branches_at g o entry behind rest))) (code_small a condition Boolean h.0)
            (next (Instrs.JumpIfFalse behind) (inside ++ (over ++ branches_at g o entry behind rest)) (omega arith)
            (both inside (over ++ branches_at g o entry behind rest) (statements_small m statements h.1)
            (both over (branches_at g o entry behind rest) (over_small rest (behind + branches_size o rest)) (branches_small behind rest h.2))))

  -- ---- programs

  module _ (program : Program) (fine : IsWellFormed program) (entry : ℕ → ℕ)
      (calls : (i : ℕ) (p : Procedure) → slice_get program.procedures i ≡ Some p → P (Instrs.Call (entry i) (length p.parameters))) where
    procedure_small : (a : ℕ) (p : Procedure) → IsFineProcedure program p → All P (procedure_at (variables_scope program.variables) entry a p)
    procedure_small a p h =
        let g = variables_scope program.variables in
        let inside = statements_at g (frame_scope p) entry (a + 1) p.body in
        let whole = extent-append (parameters_scope p.parameters) (variables_scope p.variables) in
        let frame = h.frame in
        next (Instrs.Frame (extent (variables_scope p.variables))) (inside ++ Instrs.Return ∷ []) (omega (arith, whole, frame))
        (last inside Instrs.Return
        (statements_small g (frame_scope p) (globals_small program fine) (frame_small program p h) entry program.procedures calls (a + 1) p.body h.body)
        (omega arith))

    pub procedures_small : (a : ℕ) (ps : List Procedure) → All (IsFineProcedure program) ps → All P (procedures_at (variables_scope program.variables) entry a ps)
    procedures_small a [] h = no_code
    procedures_small a (p ∷ ps) h =
        let g = variables_scope program.variables in
        both (procedure_at g entry a p) (procedures_at g entry (a + procedure_size p) ps)
        (procedure_small a p (All-head (IsFineProcedure program) p ps h))
        (procedures_small (a + procedure_size p) ps (All-tail (IsFineProcedure program) p ps h))
