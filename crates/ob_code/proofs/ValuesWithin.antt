-- Within the limits: the parts of expressions and addresses, where the whole is.
use Rattle.std.proofs.Common.{◌≡◌, ℕ, ◌+◌, ◌<◌, ◌≤◌, Bool, true, false, List, [], ◌∷◌, ◌++◌, length, drop, get_or, refl, ap, sym, ◌∙◌, subst, Box, Vec, arith}
use Rattle.std.specs.declared.alloc.Global.{Global}
use Rattle.ob_typing.specs.Program as Program
use Rattle.ob_code_scheme.specs.Types.{Scope, Space, Holding, Referring, words, part_type, part_offset, word_in, space_at, type_at, scope_of}
use Rattle.ob_code_scheme.specs.Scheme.{size, selectors_size, variable_size, relation_instruction, operator_at, own_code, variable_code, code_at, operations_at, designator_at, selectors_at}
use Rattle.ob_code_correct.proofs.Lengths.{code_long}
use Rattle.ob_code_machine.specs.Code.{CodeParts}
use Rattle.ob_code_words.specs.declared.instr.Instr.{Instr}
use Rattle.ob_code_words.specs.declared.instr.Instr.TheVariants as Instrs
use Rattle.ob_typing.specs.declared.operator.BinaryOperator.{BinaryOperator}
use Rattle.ob_typing.specs.declared.operator.BinaryOperator.TheVariants.{And, Or}
use Rattle.ob_typing.specs.declared.operator.Relation.{Relation}
use Rattle.ob_interface.specs.declared.scalar.ScalarType.{ScalarType}
use Rattle.ob_checked.specs.declared.program.Designator.{Designator}
use Rattle.ob_checked.specs.declared.program.Expression.{Expression}
use Rattle.ob_checked.specs.declared.program.Expression.TheVariants as Expressions
use Rattle.ob_checked.specs.declared.program.Operation.{Operation}
use Rattle.ob_checked.specs.declared.program.Selector.{Selector}
use Rattle.ob_checked.specs.declared.program.Selector.TheVariants.{Field, Element}
use Rattle.ob_checked.specs.View.{owner_of, expression_of, operations_in, selectors_in, designator_of}
use Rattle.ob_code.specs.Growing.{grown, selected}
use Rattle.ob_code_scheme.specs.Operands.{HasSmallOperands}
use Rattle.ob_code.specs.Limits.{IsWithinLimits}
use Rattle.ob_code.proofs.Grown.{behind}
use Rattle.ob_code.proofs.Values.{with_value, with_designator, with_operations, with_operation, with_selectors, value_put, computed_put, compared_put, operations_go, selectors_go, selectors_begin}
use Rattle.ob_code.proofs.Within.{within, before, room, small_operands, other}

-- the word of an own variable, and room for its address
own_starts : (c : CodeParts) (n : ℕ) (s : Space) → IsWithinLimits (grown c (own_code n s)) → (n ≤ 65535) × (length c.instructions < 65535)
own_starts c n (Holding type) w = (small_operands c [] (Instrs.Local n) [] w, room c (Instrs.Local n) [] (grown c (Instrs.Local n ∷ [])) refl w)
own_starts c n (Referring type) w =
    (small_operands c [] (Instrs.Local n) (Instrs.Get ∷ []) w, room c (Instrs.Local n) (Instrs.Get ∷ []) (grown c (Instrs.Local n ∷ Instrs.Get ∷ [])) refl w)

module _ (g o : Scope) where
  -- ---- variables

  pub variable_starts : (c : CodeParts) (owner : Program.Owner) (i : ℕ) → IsWithinLimits (grown c (variable_code g o owner i)) →
      (word_in (scope_of g o owner) i ≤ 65535) × (length c.instructions < 65535)
  variable_starts c Program.OfModule i w =
      let code = Instrs.Global (word_in g i) in
      (small_operands c [] code [] w, room c code [] (grown c (code ∷ [])) refl w)
  variable_starts c Program.Own i w = own_starts c (word_in o i) (space_at o i) w

  -- the address that a word holds is read behind that word
  pub variable_read : (c d : CodeParts) (n i : ℕ) (type : Program.DataType) → Referring type ≡ space_at o i → n ≡ word_in o i → d ≡ grown c (Instrs.Local n ∷ []) →
      IsWithinLimits (grown c (variable_code g o Program.Own i)) → length d.instructions < 65535
  variable_read c d n i type is at put w =
      let code : grown d (Instrs.Get ∷ []) ≡ grown c (variable_code g o Program.Own i) =
      behind c d (grown d (Instrs.Get ∷ [])) (Instrs.Local n ∷ []) (λ b. Instrs.Get ∷ []) 1 put refl refl
      ∙ ap (λ k. grown c (own_code k (Referring type))) at ∙ ap (λ s. grown c (own_code (word_in o i) s)) is in
      room d Instrs.Get [] (grown c (variable_code g o Program.Own i)) code w

  -- ---- one expression, and an instruction behind it

  module _ (c : CodeParts) (x f : Expression) (i : Instr) (is : (a : ℕ) → code_at g o a (expression_of x) ≡ code_at g o a (expression_of f) ++ i ∷ [])
      (w : IsWithinLimits (with_value g o c x)) where
    unary : (d : CodeParts) → d ≡ with_value g o c f → grown d (i ∷ []) ≡ with_value g o c x
    unary d put =
        let a = length c.instructions in
        behind c d (grown d (i ∷ [])) (code_at g o a (expression_of f)) (λ b. i ∷ []) (size o (expression_of f)) put (code_long g o a (expression_of f)) refl
        ∙ ap (grown c) (sym (is a))

    pub unary_first : IsWithinLimits (with_value g o c f)
    unary_first = before (with_value g o c f) (i ∷ []) (with_value g o c x) (unary (with_value g o c f) refl) w

    pub unary_last : (d : CodeParts) → d ≡ with_value g o c f → length d.instructions < 65535
    unary_last d put = room d i [] (with_value g o c x) (unary d put) w

  pub negated_is : (x f : Expression) (operand : Box Expression Global) → x ≡ Expressions.Negated operand → f ≡ operand.value →
      (a : ℕ) → code_at g o a (expression_of x) ≡ code_at g o a (expression_of f) ++ Instrs.Negate ∷ []
  negated_is x f operand is same a =
      ap (λ y. code_at g o a (expression_of y)) is ∙ ap (λ y. code_at g o a (expression_of y) ++ Instrs.Negate ∷ []) (sym same)

  pub complement_is : (x f : Expression) (operand : Box Expression Global) → x ≡ Expressions.Complement operand → f ≡ operand.value →
      (a : ℕ) → code_at g o a (expression_of x) ≡ code_at g o a (expression_of f) ++ Instrs.Not ∷ []
  complement_is x f operand is same a =
      ap (λ y. code_at g o a (expression_of y)) is ∙ ap (λ y. code_at g o a (expression_of y) ++ Instrs.Not ∷ []) (sym same)

  -- a variable's address, and GET
  module _ (c : CodeParts) (x : Expression) (type : ScalarType) (v : Designator) (is : x ≡ Expressions.ValueOf type v) (w : IsWithinLimits (with_value g o c x)) where
    pub value_first : IsWithinLimits (with_designator g o c v)
    value_first =
        let d = with_designator g o c v in
        before d (Instrs.Get ∷ []) (with_value g o c x) (value_put g o c d (grown d (Instrs.Get ∷ [])) x type v is refl refl) w

    pub value_last : (d : CodeParts) → d ≡ with_designator g o c v → length d.instructions < 65535
    value_last d put = room d Instrs.Get [] (with_value g o c x) (value_put g o c d (grown d (Instrs.Get ∷ [])) x type v is put refl) w

  -- a first operand, and the operations behind it
  module _ (c : CodeParts) (x f : Expression) (first : Box Expression Global) (rest : Vec Operation Global) (os : List Operation)
      (is : x ≡ Expressions.Computed first rest) (same : f ≡ first.value) (items : os ≡ rest.items) (w : IsWithinLimits (with_value g o c x)) where
    pub computed_rest : (d : CodeParts) → d ≡ with_value g o c f → IsWithinLimits (with_operations g o d os)
    computed_rest d put = within (with_operations g o d os) (with_value g o c x) (computed_put g o c d (with_operations g o d os) x f first rest os is same items put refl) w

    pub computed_first : IsWithinLimits (with_value g o c f)
    computed_first =
        let d = with_value g o c f in
        before d (operations_at g o (length d.instructions) (operations_in os)) (with_operations g o d os) refl (computed_rest d refl)

  -- two operands, and the relation
  module _ (c : CodeParts) (x l r : Expression) (relation : Relation) (left right : Box Expression Global)
      (is : x ≡ Expressions.Compared relation left right) (left_is : l ≡ left.value) (right_is : r ≡ right.value) (w : IsWithinLimits (with_value g o c x)) where
    pub compared_last : (d e : CodeParts) → d ≡ with_value g o c l → e ≡ with_value g o d r → length e.instructions < 65535
    compared_last d e put more =
        let i = relation_instruction relation in
        room e i [] (with_value g o c x) (compared_put g o c d e (grown e (i ∷ [])) x l r relation left right i is left_is right_is refl put more refl) w

    pub compared_right : (d : CodeParts) → d ≡ with_value g o c l → IsWithinLimits (with_value g o d r)
    compared_right d put =
        let i = relation_instruction relation in
        let e = with_value g o d r in
        before e (i ∷ []) (with_value g o c x) (compared_put g o c d e (grown e (i ∷ [])) x l r relation left right i is left_is right_is refl put refl refl) w

  pub compared_left : (c : CodeParts) (x l : Expression) (relation : Relation) (left right : Box Expression Global) →
      x ≡ Expressions.Compared relation left right → l ≡ left.value → IsWithinLimits (with_value g o c x) → IsWithinLimits (with_value g o c l)
  compared_left c x l relation left right is same w =
      let d = with_value g o c l in
      let r = right.value in
      before d (code_at g o (length d.instructions) (expression_of r)) (with_value g o d r) refl (compared_right c x l r relation left right is same refl w d refl)

  -- ---- operations

  pub operations_next : (c e : CodeParts) (xs : List Operation) (i : ℕ) (x : Operation) → i < length xs → x ≡ get_or xs i x →
      with_operations g o c (drop i xs) ≡ e → IsWithinLimits e → IsWithinLimits (with_operation g o c x)
  operations_next c e xs i x here is so_far w =
      let d = with_operation g o c x in
      before d (operations_at g o (length d.instructions) (operations_in (drop (i + 1) xs))) e (operations_go g o c d e xs i x here is refl so_far) w

  -- an operator whose instruction stands behind its operand
  module _ (c : CodeParts) (x : Operation) (operator : BinaryOperator) (i : Instr)
      (behind_it : (a n : ℕ) (operand : ℕ → List Instr) → operator_at a operator n operand ≡ operand a ++ i ∷ [])
      (is : x.operator ≡ operator) (w : IsWithinLimits (with_operation g o c x)) where
    operated : (d : CodeParts) → d ≡ with_value g o c x.operand → grown d (i ∷ []) ≡ with_operation g o c x
    operated d put =
        let a = length c.instructions in
        let n = size o (expression_of x.operand) in
        let operand : ℕ → List Instr = λ b. code_at g o b (expression_of x.operand) in
        behind c d (grown d (i ∷ [])) (operand a) (λ b. i ∷ []) n put (code_long g o a (expression_of x.operand)) refl
        ∙ ap (grown c) (sym (behind_it a n operand)) ∙ ap (λ k. grown c (operator_at a k n operand)) (sym is)

    pub operand_first : IsWithinLimits (with_value g o c x.operand)
    operand_first = before (with_value g o c x.operand) (i ∷ []) (with_operation g o c x) (operated (with_value g o c x.operand) refl) w

    pub operator_last : (d : CodeParts) → d ≡ with_value g o c x.operand → length d.instructions < 65535
    operator_last d put = room d i [] (with_operation g o c x) (operated d put) w

  -- an operator that jumps over its operand
  module _ (c : CodeParts) (x : Operation) (operator : BinaryOperator) (jump : ℕ → Instr)
      (jumps_over : (a n : ℕ) (operand : ℕ → List Instr) → operator_at a operator n operand ≡ jump (a + 1 + n) ∷ operand (a + 1))
      (is : x.operator ≡ operator) (w : IsWithinLimits (with_operation g o c x)) where
    jumping : IsWithinLimits (grown c (jump (length c.instructions + 1 + size o (expression_of x.operand)) ∷ code_at g o (length c.instructions + 1) (expression_of x.operand)))
    jumping =
        let a = length c.instructions in
        let n = size o (expression_of x.operand) in
        let operand : ℕ → List Instr = λ b. code_at g o b (expression_of x.operand) in
        within (grown c (jump (a + 1 + n) ∷ operand (a + 1))) (with_operation g o c x)
        (ap (grown c) (sym (jumps_over a n operand)) ∙ ap (λ k. grown c (operator_at a k n operand)) (sym is)) w

    pub jump_first : length c.instructions < 65535
    jump_first =
        let a = length c.instructions in
        let i = jump (a + 1 + size o (expression_of x.operand)) in
        let y = code_at g o (a + 1) (expression_of x.operand) in
        room c i y (grown c (i ∷ y)) refl jumping

    pub jump_operand : (i : Instr) → i ≡ jump 0 → HasSmallOperands i → (d : CodeParts) → d ≡ grown c (i ∷ []) → IsWithinLimits (with_value g o d x.operand)
    jump_operand i is_jump small d put =
        let a = length c.instructions in
        let operand : ℕ → List Instr = λ b. code_at g o b (expression_of x.operand) in
        within (with_value g o d x.operand) (grown c (i ∷ operand (a + 1))) (behind c d (with_value g o d x.operand) (i ∷ []) operand 1 put refl refl)
        (other c [] (jump (a + 1 + size o (expression_of x.operand))) i (operand (a + 1)) small jumping)

  -- ---- selectors

  abbrev with_selector : CodeParts → Program.DataType → Selector → CodeParts
  with_selector c t s = with_selectors g o c t (s ∷ [])

  module _ (c : CodeParts) (t : Program.DataType) (s : Selector) (w : IsWithinLimits (with_selector c t s)) where
    pub field_starts : (position : ℕ) (name : _) → s ≡ Field position name → (part_offset t position ≤ 65535) × (length c.instructions < 65535)
    field_starts position name is =
        let i = Instrs.Field (part_offset t position) in
        let v = within (grown c (i ∷ [])) (with_selector c t s) (ap (λ k. with_selector c t k) (sym is)) w in
        (small_operands c [] i [] v, room c i [] (grown c (i ∷ [])) refl v)

    module _ (n : ℕ) (index : Expression) (is : s ≡ Element n index) where
      abbrev element : Instr
      element = Instrs.Index n (words (part_type t 0))

      whole : IsWithinLimits (grown c (code_at g o (length c.instructions) (expression_of index) ++ element ∷ []))
      whole = within (grown c (code_at g o (length c.instructions) (expression_of index) ++ element ∷ [])) (with_selector c t s) (ap (λ k. with_selector c t k) (sym is)) w

      pub element_operands : HasSmallOperands element
      element_operands = small_operands c (code_at g o (length c.instructions) (expression_of index)) element [] whole

      indexed : (d : CodeParts) → d ≡ with_value g o c index → grown d (element ∷ []) ≡ grown c (code_at g o (length c.instructions) (expression_of index) ++ element ∷ [])
      indexed d put =
          let a = length c.instructions in
          behind c d (grown d (element ∷ [])) (code_at g o a (expression_of index)) (λ b. element ∷ []) (size o (expression_of index)) put (code_long g o a (expression_of index)) refl

      pub element_index : IsWithinLimits (with_value g o c index)
      element_index =
          let d = with_value g o c index in
          before d (element ∷ []) (grown c (code_at g o (length c.instructions) (expression_of index) ++ element ∷ [])) (indexed d refl) whole

      pub element_last : (d : CodeParts) → d ≡ with_value g o c index → length d.instructions < 65535
      element_last d put = room d element [] (grown c (code_at g o (length c.instructions) (expression_of index) ++ element ∷ [])) (indexed d put) whole

  pub selectors_next : (c e : CodeParts) (t : Program.DataType) (xs : List Selector) (i : ℕ) (x : Selector) → i < length xs → x ≡ get_or xs i x →
      with_selectors g o c t (drop i xs) ≡ e → IsWithinLimits e → IsWithinLimits (with_selector c t x)
  selectors_next c e t xs i x here is so_far w =
      let d = with_selector c t x in
      before d (selectors_at g o (length d.instructions) (selected t x) (selectors_in (drop (i + 1) xs))) e
      (selectors_go g o c d e t (selected t x) xs i x here is refl refl so_far) w

  -- a designator begins with its variable
  pub designator_first : (c : CodeParts) (x : Designator) → IsWithinLimits (with_designator g o c x) →
      IsWithinLimits (grown c (variable_code g o (owner_of x.slot.owner) x.slot.position))
  designator_first c x w =
      let owner = owner_of x.slot.owner in
      let d = grown c (variable_code g o owner x.slot.position) in
      let t = type_at (scope_of g o owner) x.slot.position in
      before d (selectors_at g o (length d.instructions) t (selectors_in x.selectors.items)) (with_designator g o c x)
      (selectors_begin g o c d t x x.selectors.items refl refl refl) w
