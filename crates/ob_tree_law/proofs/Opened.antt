-- What a fetch needs of the code of a construct that stands at a place: its parts stand there, and its own instructions between them.
use Rattle.std.proofs.Common.{◌≡◌, ℕ, ◌+◌, List, [], ◌∷◌, ◌++◌, length, Some, refl, subst, arith}
use Rattle.std.specs.Prelude.{slice_get}
use Rattle.ob_interface.specs.declared.scalar.Scalar.{Scalar}
use Rattle.ob_interface.specs.declared.scalar.ScalarType.{ScalarType}
use Rattle.ob_typing.specs.declared.operator.BinaryOperator.{BinaryOperator}
use Rattle.ob_typing.specs.declared.operator.BinaryOperator.TheVariants.{Plus, Minus, Times, Div, Mod, And, Or}
use Rattle.ob_typing.specs.declared.operator.Relation.{Relation}
use Rattle.ob_typing.specs.Program.{DataType, OfModule, Slot, Name, Expression, Literal, ValueOf, Negated, Complement, Computed, Compared, Operations, operation, Designator, Designated, Selectors, field_of, element_of, Actual, Statement, Assign, Call, While, Repeat, Statements, statement, Branches, branch, Procedure}
use Rattle.ob_code_scheme.specs.Types.{words, part_type, part_offset, Holding, Referring, Scope, word_in, type_at, scope_of, frame_scope}
use Rattle.ob_code_scheme.specs.Layout.{word, variable_words}
use Rattle.ob_code_words.specs.declared.instr.Instr.{Instr}
use Rattle.ob_code_words.specs.declared.instr.Instr.TheVariants as Instrs
use Rattle.ob_code_scheme.specs.Scheme.{over_size, variable_size, size, designator_size, actual_size, actuals_size, statement_size, statements_size, branches_size, relation_instruction, operator_at, own_code, over_code, variable_code, code_at, operations_at, designator_at, selectors_at, actual_at, actuals_at, statement_at, statements_at, branches_at, procedure_at, HasAt}
use Rattle.ob_code_correct.proofs.Lengths.{operator_long, over_long, variable_long, code_long, designator_long, actual_long, actuals_long, statement_long, statements_long}
use Rattle.ob_code_correct.proofs.Placed.{has_front, has_behind, has_moved}

module _ (code : List Instr) where
  abbrev Fetch : ℕ → Instr → Type 0
  Fetch place i = slice_get code place ≡ Some i

  abbrev Has : ℕ → List Instr → Type 0
  Has = HasAt code

  -- an instruction at a place that is told otherwise
  fetch_moved : (m n : ℕ) (i : Instr) → m ≡ n → Fetch m i → Fetch n i
  fetch_moved m n i e h = subst (λ (k : ℕ). Fetch k i) e h

  fetch_other : (n : ℕ) (i j : Instr) → i ≡ j → Fetch n i → Fetch n j
  fetch_other n i j e h = subst (λ (k : Instr). Fetch n k) e h

  pub split : (a : ℕ) (x y : List Instr) (n : ℕ) → length x ≡ n → Has a (x ++ y) → Has a x × Has (a + n) y
  split a x y n long h = (has_front code a x y h, has_behind code a x y n (a + n) long refl h)

  pub split_end : (a : ℕ) (x : List Instr) (i : Instr) (n : ℕ) → length x ≡ n → Has a (x ++ i ∷ []) → Has a x × Fetch (a + n) i
  split_end a x i n long h = let s = split a x (i ∷ []) n long h in (s.0, s.1.0)

  -- in a procedure with the frame scope `own`, of a module with the scope `globals`
  module _ (globals own : Scope) where
    -- ---- expressions

    pub open_literal : (a : ℕ) (s : Scalar) → Has a (code_at globals own a (Literal s)) → Fetch a (Instrs.Literal (word s))
    open_literal a s h = h.0

    pub open_value : (a : ℕ) (t : ScalarType) (d : Designator) → Has a (code_at globals own a (ValueOf t d)) →
        Has a (designator_at globals own a d) × Fetch (a + designator_size own d) Instrs.Get
    open_value a t d h = split_end a (designator_at globals own a d) Instrs.Get (designator_size own d) (designator_long globals own a d) h

    pub open_negated : (a : ℕ) (e : Expression) → Has a (code_at globals own a (Negated e)) → Has a (code_at globals own a e) × Fetch (a + size own e) Instrs.Negate
    open_negated a e h = split_end a (code_at globals own a e) Instrs.Negate (size own e) (code_long globals own a e) h

    pub open_complement : (a : ℕ) (e : Expression) → Has a (code_at globals own a (Complement e)) → Has a (code_at globals own a e) × Fetch (a + size own e) Instrs.Not
    open_complement a e h = split_end a (code_at globals own a e) Instrs.Not (size own e) (code_long globals own a e) h

    pub open_computed : (a : ℕ) (first : Expression) (rest : Operations) → Has a (code_at globals own a (Computed first rest)) →
        Has a (code_at globals own a first) × Has (a + size own first) (operations_at globals own (a + size own first) rest)
    open_computed a first rest h = split a (code_at globals own a first) (operations_at globals own (a + size own first) rest) (size own first) (code_long globals own a first) h

    pub open_compared : (a : ℕ) (r : Relation) (left right : Expression) → Has a (code_at globals own a (Compared r left right)) →
        Has a (code_at globals own a left) × Has (a + size own left) (code_at globals own (a + size own left) right)
        × Fetch (a + size own left + size own right) (relation_instruction r)
    open_compared a r left right h =
        let b = a + size own left in
        let s = split a (code_at globals own a left) (code_at globals own b right ++ relation_instruction r ∷ []) (size own left) (code_long globals own a left) h in
        let t = split_end b (code_at globals own b right) (relation_instruction r) (size own right) (code_long globals own b right) s.1 in
        (s.0, t.0, t.1)

    -- ---- operators, behind the value of the left operand

    -- its operand, and where the others begin
    open_operation : (a : ℕ) (o : BinaryOperator) (e : Expression) (rest : Operations) → Has a (operations_at globals own a (operation o e rest)) →
        Has a (operator_at a o (size own e) (λ b. code_at globals own b e)) × Has (a + (size own e + 1)) (operations_at globals own (a + (size own e + 1)) rest)
    open_operation a o e rest h =
        split a (operator_at a o (size own e) (λ b. code_at globals own b e)) (operations_at globals own (a + (size own e + 1)) rest) (size own e + 1)
        (operator_long a o (size own e) (λ b. code_at globals own b e) (λ b. code_long globals own b e)) h

    -- an operator that takes both values
    abbrev Strict : ℕ → Expression → Operations → Instr → Type 0
    Strict a e rest i =
        Has a (code_at globals own a e) × Fetch (a + size own e) i × Has (a + (size own e + 1)) (operations_at globals own (a + (size own e + 1)) rest)

    open_strict : (a : ℕ) (e : Expression) (rest : Operations) (i : Instr) → Has a (code_at globals own a e ++ i ∷ []) →
        Has (a + (size own e + 1)) (operations_at globals own (a + (size own e + 1)) rest) → Strict a e rest i
    open_strict a e rest i h k = let s = split_end a (code_at globals own a e) i (size own e) (code_long globals own a e) h in (s.0, s.1, k)

    pub open_plus : (a : ℕ) (e : Expression) (rest : Operations) → Has a (operations_at globals own a (operation Plus e rest)) → Strict a e rest Instrs.Add
    open_plus a e rest h = let s = open_operation a Plus e rest h in open_strict a e rest Instrs.Add s.0 s.1

    pub open_minus : (a : ℕ) (e : Expression) (rest : Operations) → Has a (operations_at globals own a (operation Minus e rest)) → Strict a e rest Instrs.Subtract
    open_minus a e rest h = let s = open_operation a Minus e rest h in open_strict a e rest Instrs.Subtract s.0 s.1

    pub open_times : (a : ℕ) (e : Expression) (rest : Operations) → Has a (operations_at globals own a (operation Times e rest)) → Strict a e rest Instrs.Multiply
    open_times a e rest h = let s = open_operation a Times e rest h in open_strict a e rest Instrs.Multiply s.0 s.1

    pub open_div : (a : ℕ) (e : Expression) (rest : Operations) → Has a (operations_at globals own a (operation Div e rest)) → Strict a e rest Instrs.Divide
    open_div a e rest h = let s = open_operation a Div e rest h in open_strict a e rest Instrs.Divide s.0 s.1

    pub open_mod : (a : ℕ) (e : Expression) (rest : Operations) → Has a (operations_at globals own a (operation Mod e rest)) → Strict a e rest Instrs.Modulo
    open_mod a e rest h = let s = open_operation a Mod e rest h in open_strict a e rest Instrs.Modulo s.0 s.1

    -- an operator that may pass over its right operand; the jump leads to where the others begin
    abbrev Short : ℕ → Expression → Operations → (ℕ → Instr) → Type 0
    Short a e rest jump =
        Fetch a (jump (a + (size own e + 1))) × Has (a + 1) (code_at globals own (a + 1) e) × Has (a + (size own e + 1)) (operations_at globals own (a + (size own e + 1)) rest)

    open_short : (a : ℕ) (e : Expression) (rest : Operations) (jump : ℕ → Instr) → Has a (jump (a + 1 + size own e) ∷ code_at globals own (a + 1) e) →
        Has (a + (size own e + 1)) (operations_at globals own (a + (size own e + 1)) rest) → Short a e rest jump
    open_short a e rest jump h k =
        let same : a + 1 + size own e ≡ a + (size own e + 1) = omega arith in
        (subst (λ (n : ℕ). Fetch a (jump n)) same h.0, h.1, k)

    pub open_and : (a : ℕ) (e : Expression) (rest : Operations) → Has a (operations_at globals own a (operation And e rest)) → Short a e rest Instrs.AndJump
    open_and a e rest h = let s = open_operation a And e rest h in open_short a e rest Instrs.AndJump s.0 s.1

    pub open_or : (a : ℕ) (e : Expression) (rest : Operations) → Has a (operations_at globals own a (operation Or e rest)) → Short a e rest Instrs.OrJump
    open_or a e rest h = let s = open_operation a Or e rest h in open_short a e rest Instrs.OrJump s.0 s.1

    -- ---- designators

    pub open_designator : (a : ℕ) (slot : Slot) (ss : Selectors) → Has a (designator_at globals own a (Designated slot ss)) →
        Has a (variable_code globals own slot.owner slot.position)
        × Has (a + variable_size own slot.owner slot.position)
        (selectors_at globals own (a + variable_size own slot.owner slot.position) (type_at (scope_of globals own slot.owner) slot.position) ss)
    open_designator a slot ss h =
        split a (variable_code globals own slot.owner slot.position)
        (selectors_at globals own (a + variable_size own slot.owner slot.position) (type_at (scope_of globals own slot.owner) slot.position) ss)
        (variable_size own slot.owner slot.position) (variable_long globals own slot.owner slot.position) h

    pub open_global : (a position : ℕ) → Has a (variable_code globals own OfModule position) → Fetch a (Instrs.Global (word_in globals position))
    open_global a position h = h.0

    pub open_holding : (a w : ℕ) (type : DataType) → Has a (own_code w (Holding type)) → Fetch a (Instrs.Local w)
    open_holding a w type h = h.0

    pub open_referring : (a w : ℕ) (type : DataType) → Has a (own_code w (Referring type)) → Fetch a (Instrs.Local w) × Fetch (a + 1) Instrs.Get
    open_referring a w type h = (h.0, h.1.0)

    pub open_field : (a : ℕ) (type : DataType) (position : ℕ) (name : Name) (rest : Selectors) → Has a (selectors_at globals own a type (field_of position name rest)) →
        Fetch a (Instrs.Field (part_offset type position)) × Has (a + 1) (selectors_at globals own (a + 1) (part_type type position) rest)
    open_field a type position name rest h = h

    pub open_element : (a : ℕ) (type : DataType) (n : ℕ) (index : Expression) (rest : Selectors) → Has a (selectors_at globals own a type (element_of n index rest)) →
        Has a (code_at globals own a index) × Fetch (a + size own index) (Instrs.Index n (words (part_type type 0)))
        × Has (a + (size own index + 1)) (selectors_at globals own (a + (size own index + 1)) (part_type type 0) rest)
    open_element a type n index rest h =
        let i = Instrs.Index n (words (part_type type 0)) in
        let others = selectors_at globals own (a + (size own index + 1)) (part_type type 0) rest in
        let s = split a (code_at globals own a index) (i ∷ others) (size own index) (code_long globals own a index) h in
        (s.0, s.1.0, has_moved code (a + size own index + 1) (a + (size own index + 1)) others (omega arith) s.1.1)

    -- ---- actuals

    pub open_actual : (a : ℕ) (x : Actual) (xs : List Actual) → Has a (actuals_at globals own a (x ∷ xs)) →
        Has a (actual_at globals own a x) × Has (a + actual_size own x) (actuals_at globals own (a + actual_size own x) xs)
    open_actual a x xs h = split a (actual_at globals own a x) (actuals_at globals own (a + actual_size own x) xs) (actual_size own x) (actual_long globals own a x) h

    -- where the procedures begin at these places
    module _ (entry : ℕ → ℕ) where
      -- ---- statements

      pub open_assign : (a : ℕ) (target : Designator) (e : Expression) → Has a (statement_at globals own entry a (Assign target e)) →
          Has a (designator_at globals own a target) × Has (a + designator_size own target) (code_at globals own (a + designator_size own target) e)
          × Fetch (a + designator_size own target + size own e) Instrs.Put
      open_assign a target e h =
          let b = a + designator_size own target in
          let s = split a (designator_at globals own a target) (code_at globals own b e ++ Instrs.Put ∷ []) (designator_size own target) (designator_long globals own a target) h in
          let t = split_end b (code_at globals own b e) Instrs.Put (size own e) (code_long globals own b e) s.1 in
          (s.0, t.0, t.1)

      pub open_call : (a procedure : ℕ) (actuals : List Actual) → Has a (statement_at globals own entry a (Call procedure actuals)) →
          Has a (actuals_at globals own a actuals) × Fetch (a + actuals_size own actuals) (Instrs.Call (entry procedure) (length actuals))
      open_call a procedure actuals h =
          split_end a (actuals_at globals own a actuals) (Instrs.Call (entry procedure) (length actuals)) (actuals_size own actuals) (actuals_long globals own a actuals) h

      -- the condition, JF to the end, TURN, the statements, JMP back
      pub open_while : (a : ℕ) (condition : Expression) (body : Statements) → Has a (statement_at globals own entry a (While condition body)) →
          Has a (code_at globals own a condition)
          × Fetch (a + size own condition) (Instrs.JumpIfFalse (a + statement_size own (While condition body)))
          × Fetch (a + size own condition + 1) Instrs.Turn
          × Has (a + size own condition + 2) (statements_at globals own entry (a + size own condition + 2) body)
          × Fetch (a + size own condition + 2 + statements_size own body) (Instrs.Jump a)
      open_while a condition body h =
          let m = a + size own condition in
          let b = statements_at globals own entry (m + 2) body in
          let end = m + 2 + statements_size own body + 1 in
          let s = split a (code_at globals own a condition) (Instrs.JumpIfFalse end ∷ Instrs.Turn ∷ (b ++ Instrs.Jump a ∷ [])) (size own condition) (code_long globals own a condition) h in
          let same : end ≡ a + statement_size own (While condition body) = omega arith in
          let inside = has_moved code (m + 1 + 1) (m + 2) (b ++ Instrs.Jump a ∷ []) (omega arith) s.1.1.1 in
          let t = split_end (m + 2) b (Instrs.Jump a) (statements_size own body) (statements_long globals own entry (m + 2) body) inside in
          (s.0, subst (λ (n : ℕ). Fetch m (Instrs.JumpIfFalse n)) same s.1.0, s.1.1.0, t.0, t.1)

      -- TURN, the statements, the condition, JF back
      pub open_repeat : (a : ℕ) (body : Statements) (condition : Expression) → Has a (statement_at globals own entry a (Repeat body condition)) →
          Fetch a Instrs.Turn
          × Has (a + 1) (statements_at globals own entry (a + 1) body)
          × Has (a + 1 + statements_size own body) (code_at globals own (a + 1 + statements_size own body) condition)
          × Fetch (a + 1 + statements_size own body + size own condition) (Instrs.JumpIfFalse a)
      open_repeat a body condition h =
          let b = a + 1 + statements_size own body in
          let c = code_at globals own b condition in
          let s = split (a + 1) (statements_at globals own entry (a + 1) body) (c ++ Instrs.JumpIfFalse a ∷ []) (statements_size own body) (statements_long globals own entry (a + 1) body) h.1 in
          let t = split_end b c (Instrs.JumpIfFalse a) (size own condition) (code_long globals own b condition) s.1 in
          (h.0, s.0, t.0, t.1)

      pub open_statement : (a : ℕ) (first : Statement) (rest : Statements) → Has a (statements_at globals own entry a (statement first rest)) →
          Has a (statement_at globals own entry a first) × Has (a + statement_size own first) (statements_at globals own entry (a + statement_size own first) rest)
      open_statement a first rest h =
          split a (statement_at globals own entry a first) (statements_at globals own entry (a + statement_size own first) rest) (statement_size own first) (statement_long globals own entry a first) h

      -- ---- alternatives

      -- the condition, JF to what follows, the statements, JMP to the end of all where anything follows
      pub open_branch : (a : ℕ) (condition : Expression) (body : Statements) (rest : Branches) → Has a (branches_at globals own entry a (branch condition body rest)) →
          let m = a + size own condition + 1 in
          let over = m + statements_size own body in
          let next = over + over_size rest in
          Has a (code_at globals own a condition)
          × Fetch (a + size own condition) (Instrs.JumpIfFalse next)
          × Has m (statements_at globals own entry m body)
          × Has over (over_code rest (a + branches_size own (branch condition body rest)))
          × Has next (branches_at globals own entry next rest)
      open_branch a condition body rest h =
          let m = a + size own condition + 1 in
          let over = m + statements_size own body in
          let next = over + over_size rest in
          let end = next + branches_size own rest in
          let same : end ≡ a + branches_size own (branch condition body rest) = omega arith in
          let b = statements_at globals own entry m body in
          let others = branches_at globals own entry next rest in
          let s = split a (code_at globals own a condition) (Instrs.JumpIfFalse next ∷ (b ++ (over_code rest end ++ others))) (size own condition) (code_long globals own a condition) h in
          let t = split m b (over_code rest end ++ others) (statements_size own body) (statements_long globals own entry m body) s.1.1 in
          let u = split over (over_code rest end) others (over_size rest) (over_long rest end) t.1 in
          (s.0, s.1.0, t.0, subst (λ (n : ℕ). Has over (over_code rest n)) same u.0, u.1)

  -- ---- a procedure: FRAME, its statements, RET

  pub open_procedure : (globals : Scope) (entry : ℕ → ℕ) (a : ℕ) (p : Procedure) → Has a (procedure_at globals entry a p) →
      Fetch a (Instrs.Frame (variable_words p.variables))
      × Has (a + 1) (statements_at globals (frame_scope p) entry (a + 1) p.body)
      × Fetch (a + 1 + statements_size (frame_scope p) p.body) Instrs.Return
  open_procedure globals entry a p h =
      let s = split_end (a + 1) (statements_at globals (frame_scope p) entry (a + 1) p.body) Instrs.Return (statements_size (frame_scope p) p.body) (statements_long globals (frame_scope p) entry (a + 1) p.body) h.1 in
      (h.0, s.0, s.1)
