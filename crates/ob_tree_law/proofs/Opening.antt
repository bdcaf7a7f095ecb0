-- Where a silent task gives way, the work still stands where it stood.
use Rattle.std.proofs.Common.{◌≡◌, ℕ, zero, suc, ◌+◌, List, [], ◌∷◌, ◌++◌, Option, Some, None, refl, subst, arith}
use Rattle.std.specs.Prelude.{slice_get}
use Rattle.ob_typing.specs.declared.operator.BinaryOperator.{BinaryOperator}
use Rattle.ob_typing.specs.declared.operator.BinaryOperator.TheVariants.{Plus, Minus, Times, Div, Mod, And, Or}
use Rattle.ob_typing.specs.declared.operator.Relation.{Relation}
use Rattle.ob_typing.specs.declared.operator.Relation.TheVariants.{Equal, NotEqual, Less, LessOrEqual, Greater, GreaterOrEqual}
use Rattle.ob_typing.specs.Program.{DataType, Owner, OfModule, Own, Expression, Literal, ValueOf, Negated, Complement, Computed, Compared, Operations, no_operation, operation, Designator, Designated, Selectors, no_selector, field_of, element_of, Actual, ByValue, ByPlace, Statement, Assign, Call, If, While, Repeat, Statements, no_statement, statement, Branches, no_branch, otherwise, branch}
use Rattle.ob_code_scheme.specs.Types.{part_type, Space, Holding, Referring, Scope, word_in, space_at, type_at, scope_of}
use Rattle.ob_code_words.specs.declared.instr.Instr.{Instr}
use Rattle.ob_code_words.specs.declared.instr.Instr.TheVariants as Instrs
use Rattle.ob_code_machine.specs.declared.saved.Saved.{Saved}
use Rattle.ob_code_scheme.specs.Scheme.{variable_size, own_size, size, operations_size, designator_size, selectors_size, actuals_size, statement_size, statements_size, branches_size, relation_instruction, own_code, variable_code, operations_at, statements_at, HasAt}
use Rattle.ob_tree_law.proofs.Opened.{open_value, open_negated, open_complement, open_computed, open_compared, open_plus, open_minus, open_times, open_div, open_mod, open_and, open_or, open_designator, open_element, open_actual, open_assign, open_call, open_while, open_repeat, open_statement, open_branch}
use Rattle.ob_tree_law.specs.Work.{Task, Value, Operators, Address, Selecting, Handing, Doing, All, Choosing, own_tasks, variable_tasks, operators_left, selecting_left, handing_left, all_left, value_parts, operators_parts, address_parts, selecting_parts, handing_parts, doing_parts, all_parts, choosing_parts, parts, given_way, opened_by, opened}
use Rattle.ob_tree_law.specs.Places.{IsPlain, Reads}

-- comparisons don't jump
relation_plain : (r : Relation) → IsPlain (relation_instruction r)
relation_plain Equal = λ reserve c. refl
relation_plain NotEqual = λ reserve c. refl
relation_plain Less = λ reserve c. refl
relation_plain LessOrEqual = λ reserve c. refl
relation_plain Greater = λ reserve c. refl
relation_plain GreaterOrEqual = λ reserve c. refl

module _ (code : List Instr) (globals : Scope) (entry : ℕ → ℕ) (saved : List Saved) where
  abbrev Stands : List Task → ℕ → Type 0
  Stands work pc = Reads code globals entry work pc saved

  abbrev Fetch : ℕ → Instr → Type 0
  Fetch place i = slice_get code place ≡ Some i

  abbrev Has : ℕ → List Instr → Type 0
  Has = HasAt code

  -- the same at a place that is told otherwise
  moved : (work : List Task) (m n : ℕ) → m ≡ n → Stands work m → Stands work n
  moved work m n e r = subst (Stands work) e r

  module _ (rest : List Task) (pc : ℕ) where
    own_kept : (word : ℕ) (space : Space) (tail : List Task) → Has pc (own_code word space) → Stands (tail ++ rest) (pc + own_size space) →
        Stands (own_tasks word space tail ++ rest) pc
    own_kept word (Holding type) tail h r = (h.0, λ reserve c. refl, r)
    own_kept word (Referring type) tail h r =
        (h.0, λ reserve c. refl, (h.1.0, λ reserve c. refl, moved (tail ++ rest) (pc + 2) (pc + 1 + 1) (omega arith) r))

    module _ (own : Scope) where
      -- what is left stands where all of it stood
      operators_left_kept : (os : Operations) (n : ℕ) → Stands (Operators own os ∷ rest) n → Stands (operators_left own os ++ rest) n
      operators_left_kept no_operation n r = moved rest (n + 0) n (omega arith) r.1
      operators_left_kept (operation o e others) n r = r

      selecting_left_kept : (type : DataType) (ss : Selectors) (n : ℕ) → Stands (Selecting own type ss ∷ rest) n → Stands (selecting_left own type ss ++ rest) n
      selecting_left_kept type no_selector n r = moved rest (n + 0) n (omega arith) r.1
      selecting_left_kept type (field_of position name others) n r = r
      selecting_left_kept type (element_of count index others) n r = r

      handing_left_kept : (xs : List Actual) (n : ℕ) → Stands (Handing own xs ∷ rest) n → Stands (handing_left own xs ++ rest) n
      handing_left_kept [] n r = moved rest (n + 0) n (omega arith) r.1
      handing_left_kept (x ∷ xs) n r = r

      all_left_kept : (ss : Statements) (n : ℕ) → Stands (All own ss ∷ rest) n → Stands (all_left own ss ++ rest) n
      all_left_kept no_statement n r = moved rest (n + 0) n (omega arith) r.1
      all_left_kept (statement first others) n r = r

      value_kept : (e : Expression) → Stands (Value own e ∷ rest) pc → Stands (value_parts globals own e ++ rest) pc
      value_kept (Literal s) r = (r.0.0, λ reserve c. refl, r.1)
      value_kept (ValueOf type d) r =
          let s = open_value code globals own pc type d r.0 in
          (s.0, (s.1, λ reserve c. refl, moved rest (pc + size own (ValueOf type d)) (pc + designator_size own d + 1) (omega arith) r.1))
      value_kept (Negated e) r =
          let s = open_negated code globals own pc e r.0 in
          (s.0, (s.1, λ reserve c. refl, moved rest (pc + size own (Negated e)) (pc + size own e + 1) (omega arith) r.1))
      value_kept (Complement e) r =
          let s = open_complement code globals own pc e r.0 in
          (s.0, (s.1, λ reserve c. refl, moved rest (pc + size own (Complement e)) (pc + size own e + 1) (omega arith) r.1))
      value_kept (Computed first others) r =
          let s = open_computed code globals own pc first others r.0 in
          (s.0, (s.1, moved rest (pc + size own (Computed first others)) (pc + size own first + operations_size own others) (omega arith) r.1))
      value_kept (Compared relation left right) r =
          let s = open_compared code globals own pc relation left right r.0 in
          (s.0, (s.1, (s.2, relation_plain relation, moved rest (pc + size own (Compared relation left right)) (pc + size own left + size own right + 1) (omega arith) r.1)))

      -- behind an operator with its operand
      others_kept : (o : BinaryOperator) (e : Expression) (others : Operations) (n : ℕ) → pc + (size own e + 1) ≡ n →
          Has (pc + (size own e + 1)) (operations_at globals own (pc + (size own e + 1)) others) → Stands rest (pc + operations_size own (operation o e others)) →
          Stands (operators_left own others ++ rest) n
      others_kept o e others n at h r =
          operators_left_kept others n
          (moved (Operators own others ∷ rest) (pc + (size own e + 1)) n at
          (h, moved rest (pc + operations_size own (operation o e others)) (pc + (size own e + 1) + operations_size own others) (omega arith) r))

      operators_kept : (os : Operations) → Stands (Operators own os ∷ rest) pc → Stands (operators_parts globals own os ++ rest) pc
      operators_kept no_operation r = moved rest (pc + 0) pc (omega arith) r.1
      operators_kept (operation Plus e others) r =
          let s = open_plus code globals own pc e others r.0 in
          (s.0, (s.1, λ reserve c. refl, others_kept Plus e others (pc + size own e + 1) (omega arith) s.2 r.1))
      operators_kept (operation Minus e others) r =
          let s = open_minus code globals own pc e others r.0 in
          (s.0, (s.1, λ reserve c. refl, others_kept Minus e others (pc + size own e + 1) (omega arith) s.2 r.1))
      operators_kept (operation Times e others) r =
          let s = open_times code globals own pc e others r.0 in
          (s.0, (s.1, λ reserve c. refl, others_kept Times e others (pc + size own e + 1) (omega arith) s.2 r.1))
      operators_kept (operation Div e others) r =
          let s = open_div code globals own pc e others r.0 in
          (s.0, (s.1, λ reserve c. refl, others_kept Div e others (pc + size own e + 1) (omega arith) s.2 r.1))
      operators_kept (operation Mod e others) r =
          let s = open_mod code globals own pc e others r.0 in
          (s.0, (s.1, λ reserve c. refl, others_kept Mod e others (pc + size own e + 1) (omega arith) s.2 r.1))
      operators_kept (operation And e others) r =
          let s = open_and code globals own pc e others r.0 in
          let same : pc + (size own e + 1) ≡ pc + 1 + size own e = omega arith in
          (subst (λ (n : ℕ). Fetch pc (Instrs.AndJump n)) same s.0, s.1, others_kept And e others (pc + 1 + size own e) same s.2 r.1)
      operators_kept (operation Or e others) r =
          let s = open_or code globals own pc e others r.0 in
          let same : pc + (size own e + 1) ≡ pc + 1 + size own e = omega arith in
          (subst (λ (n : ℕ). Fetch pc (Instrs.OrJump n)) same s.0, s.1, others_kept Or e others (pc + 1 + size own e) same s.2 r.1)

      variable_kept : (owner : Owner) (position : ℕ) (tail : List Task) → Has pc (variable_code globals own owner position) →
          Stands (tail ++ rest) (pc + variable_size own owner position) → Stands (variable_tasks globals own owner position tail ++ rest) pc
      variable_kept OfModule position tail h r = (h.0, λ reserve c. refl, r)
      variable_kept Own position tail h r = own_kept (word_in own position) (space_at own position) tail h r

      address_kept : (d : Designator) → Stands (Address own d ∷ rest) pc → Stands (address_parts globals own d ++ rest) pc
      address_kept (Designated slot ss) r =
          let s = open_designator code globals own pc slot ss r.0 in
          let type = type_at (scope_of globals own slot.owner) slot.position in
          variable_kept slot.owner slot.position (selecting_left own type ss) s.0
          (selecting_left_kept type ss (pc + variable_size own slot.owner slot.position)
          (s.1, moved rest (pc + designator_size own (Designated slot ss)) (pc + variable_size own slot.owner slot.position + selectors_size own ss) (omega arith) r.1))

      selecting_kept : (type : DataType) (ss : Selectors) → Stands (Selecting own type ss ∷ rest) pc → Stands (selecting_parts globals own type ss ++ rest) pc
      selecting_kept type no_selector r = moved rest (pc + 0) pc (omega arith) r.1
      selecting_kept type (field_of position name others) r =
          (r.0.0, λ reserve c. refl, selecting_left_kept (part_type type position) others (pc + 1) (r.0.1, moved rest (pc + selectors_size own (field_of position name others)) (pc + 1 + selectors_size own others) (omega arith) r.1))
      selecting_kept type (element_of n index others) r =
          let s = open_element code globals own pc type n index others r.0 in (
            s.0,
            (
              s.1,
              λ reserve c. refl,
              selecting_left_kept (part_type type 0) others (pc + size own index + 1)
                  (moved (Selecting own (part_type type 0) others ∷ rest) (pc + (size own index + 1)) (pc + size own index + 1) (omega arith)
                  (s.2, moved rest (pc + selectors_size own (element_of n index others)) (pc + (size own index + 1) + selectors_size own others) (omega arith) r.1)),
            ),
          )

      handing_kept : (xs : List Actual) → Stands (Handing own xs ∷ rest) pc → Stands (handing_parts globals own xs ++ rest) pc
      handing_kept [] r = moved rest (pc + 0) pc (omega arith) r.1
      handing_kept (ByValue e ∷ xs) r =
          let s = open_actual code globals own pc (ByValue e) xs r.0 in
          (s.0, handing_left_kept xs (pc + size own e) (s.1, moved rest (pc + actuals_size own (ByValue e ∷ xs)) (pc + size own e + actuals_size own xs) (omega arith) r.1))
      handing_kept (ByPlace d ∷ xs) r =
          let s = open_actual code globals own pc (ByPlace d) xs r.0 in
          (s.0, handing_left_kept xs (pc + designator_size own d) (s.1, moved rest (pc + actuals_size own (ByPlace d ∷ xs)) (pc + designator_size own d + actuals_size own xs) (omega arith) r.1))

      doing_kept : (s : Statement) → Stands (Doing own s ∷ rest) pc → Stands (doing_parts globals own s ++ rest) pc
      doing_kept (Assign target e) r =
          let s = open_assign code globals own entry pc target e r.0 in
          (s.0, (s.1, (s.2, λ reserve c. refl, moved rest (pc + statement_size own (Assign target e)) (pc + designator_size own target + size own e + 1) (omega arith) r.1)))
      doing_kept (Call procedure actuals) r =
          let s = open_call code globals own entry pc procedure actuals r.0 in
          (s.0, (s.1, moved rest (pc + statement_size own (Call procedure actuals)) (pc + actuals_size own actuals + 1) (omega arith) r.1))
      doing_kept (If branches) r = r
      doing_kept (While condition body) r =
          let s = open_while code globals own entry pc condition body r.0 in
          let m = pc + size own condition in
          let same : m + 2 ≡ m + 1 + 1 = omega arith in (
            s.0,
            (
              pc,
              s.1,
              s.2,
              subst (λ (n : ℕ). Has n (statements_at globals own entry n body)) same s.3,
              subst (λ (n : ℕ). Fetch (n + statements_size own body) (Instrs.Jump pc)) same s.4,
              r.0,
              r.1,
            ),
          )
      doing_kept (Repeat body condition) r =
          let s = open_repeat code globals own entry pc body condition r.0 in
          let same : pc + statement_size own (Repeat body condition) ≡ pc + 1 + statements_size own body + size own condition + 1 = omega arith in
          (s.0, (s.1, (s.2, (pc, s.3, r.0, omega arith, moved rest (pc + statement_size own (Repeat body condition)) (pc + 1 + statements_size own body + size own condition + 1) same r.1))))

      all_kept : (ss : Statements) → Stands (All own ss ∷ rest) pc → Stands (all_parts globals own ss ++ rest) pc
      all_kept no_statement r = moved rest (pc + 0) pc (omega arith) r.1
      all_kept (statement first others) r =
          let s = open_statement code globals own entry pc first others r.0 in
          (s.0, all_left_kept others (pc + statement_size own first) (s.1, moved rest (pc + statements_size own (statement first others)) (pc + statement_size own first + statements_size own others) (omega arith) r.1))

      choosing_kept : (bs : Branches) → Stands (Choosing own bs ∷ rest) pc → Stands (choosing_parts globals own bs ++ rest) pc
      choosing_kept no_branch r = moved rest (pc + 0) pc (omega arith) r.1
      choosing_kept (otherwise ss) r = r
      choosing_kept (branch condition ss others) r =
          let s = open_branch code globals own entry pc condition ss others r.0 in
          (s.0, (pc + branches_size own (branch condition ss others), s.1, s.2, s.3, s.4, omega arith, r.1))

    -- of what a task gives way to
    abbrev Kept : Option (List Task) → Type 0
    Kept None = Unit {0}
    Kept (Some tasks) = Stands (tasks ++ rest) pc

    pub kept : (t : Task) → Stands (t ∷ rest) pc → Kept (parts globals t)
    kept (Value own e) r = value_kept own e r
    kept (Operators own os) r = operators_kept own os r
    kept (Address own d) r = address_kept own d r
    kept (Selecting own type ss) r = selecting_kept own type ss r
    kept (Handing own xs) r = handing_kept own xs r
    kept (Doing own s) r = doing_kept own s r
    kept (All own ss) r = all_kept own ss r
    kept (Choosing own bs) r = choosing_kept own bs r
    kept _ r = tt

  given_kept : (go : List Task → List Task) (pc : ℕ) (t : Task) (rest : List Task) → ((work : List Task) → Stands work pc → Stands (go work) pc) →
      (o : Option (List Task)) → Kept rest pc o → Stands (t ∷ rest) pc → Stands (given_way o go t rest) pc
  given_kept go pc t rest h None k r = r
  given_kept go pc t rest h (Some tasks) k r = h (tasks ++ rest) k

  pub opened_by_kept : (n : ℕ) (pc : ℕ) (work : List Task) → Stands work pc → Stands (opened_by globals n work) pc
  opened_by_kept zero pc work r = r
  opened_by_kept (suc n) pc [] r = r
  opened_by_kept (suc n) pc (t ∷ rest) r =
      given_kept (opened_by globals n) pc t rest (λ work h. opened_by_kept n pc work h) (parts globals t) (kept rest pc t r) r

  -- opened work stands where it stood
  pub opened_kept : (pc : ℕ) (work : List Task) → Stands work pc → Stands (opened globals work) pc
  opened_kept pc work r = opened_by_kept _ pc work r
