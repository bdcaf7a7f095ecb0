-- The code of expressions and addresses, from that of their parts.
use Rattle.std.proofs.Common.{◌≡◌, ℕ, ◌+◌, ◌<◌, ◌≤◌, List, [], ◌∷◌, ◌++◌, length, drop, get_or, slice_set, refl, ap, sym, ◌∙◌, append_assoc, Box, Vec, arith}
use Rattle.std.specs.declared.alloc.Global.{Global}
use Rattle.std.specs.Prelude.{string_bytes}
use Rattle.std.proofs.lemmas.List.{at_drop_more, at_drop_all}
use Rattle.ob_typing.specs.Program as Program
use Rattle.ob_code_scheme.specs.Types.{Scope, words, part_type, type_at, scope_of}
use Rattle.ob_code_scheme.specs.Scheme.{variable_size, size, designator_size, selectors_size, relation_instruction, operator_at, variable_code, code_at, operations_at, designator_at, selectors_at}
use Rattle.ob_code_correct.proofs.Lengths.{operator_long, variable_long, code_long, designator_long, selectors_long}
use Rattle.ob_code_machine.specs.Code.{CodeParts}
use Rattle.ob_code_words.specs.declared.instr.Instr.{Instr}
use Rattle.ob_code_words.specs.declared.instr.Instr.TheVariants as Instrs
use Rattle.ob_typing.specs.declared.operator.BinaryOperator.TheVariants.{And, Or}
use Rattle.ob_typing.specs.declared.operator.Relation.{Relation}
use Rattle.ob_interface.specs.declared.scalar.ScalarType.{ScalarType}
use Rattle.ob_checked.specs.declared.program.Designator.{Designator}
use Rattle.ob_checked.specs.declared.program.Expression.{Expression}
use Rattle.ob_checked.specs.declared.program.Expression.TheVariants as Expressions
use Rattle.ob_checked.specs.declared.program.Operation.{Operation}
use Rattle.ob_checked.specs.declared.program.Selector.{Selector}
use Rattle.ob_checked.specs.declared.program.Selector.TheVariants.{Field, Element}
use Rattle.ob_checked.specs.View.{owner_of, expression_of, operations_in, selectors_in, designator_of}
use Rattle.ob_checked.proofs.Rows.{expression_of-value, expression_of-computed}
use Rattle.ob_code.specs.Growing.{grown, selected}
use Rattle.ob_code.proofs.Grown.{grown_nothing, behind, jumps}

module _ (g o : Scope) where
  -- the code with these behind it
  abbrev pub with_value : CodeParts → Expression → CodeParts
  with_value c e = grown c (code_at g o (length c.instructions) (expression_of e))

  abbrev pub with_designator : CodeParts → Designator → CodeParts
  with_designator c d = grown c (designator_at g o (length c.instructions) (designator_of d))

  abbrev pub with_operations : CodeParts → List Operation → CodeParts
  with_operations c os = grown c (operations_at g o (length c.instructions) (operations_in os))

  abbrev pub with_operation : CodeParts → Operation → CodeParts
  with_operation c x =
      grown c (operator_at (length c.instructions) x.operator (size o (expression_of x.operand)) (λ b. code_at g o b (expression_of x.operand)))

  abbrev pub with_selectors : CodeParts → Program.DataType → List Selector → CodeParts
  with_selectors c t ss = grown c (selectors_at g o (length c.instructions) t (selectors_in ss))

  pub value_put : (c d e : CodeParts) (x : Expression) (type : ScalarType) (v : Designator) → x ≡ Expressions.ValueOf type v →
      d ≡ with_designator c v → e ≡ grown d (Instrs.Get ∷ []) → e ≡ with_value c x
  value_put c d e x type v is put more =
      let a = length c.instructions in
      behind c d e (designator_at g o a (designator_of v)) (λ b. Instrs.Get ∷ []) (designator_size o (designator_of v)) put (designator_long g o a (designator_of v)) more
      ∙ ap (λ k. grown c (code_at g o a k)) (sym (ap expression_of is ∙ expression_of-value type v))

  pub computed_put : (c d e : CodeParts) (x f : Expression) (first : Box Expression Global) (rest : Vec Operation Global) (os : List Operation) →
      x ≡ Expressions.Computed first rest → f ≡ first.value → os ≡ rest.items → d ≡ with_value c f → e ≡ with_operations d os → e ≡ with_value c x
  computed_put c d e x f first rest os is same items put more =
      let a = length c.instructions in
      behind c d e (code_at g o a (expression_of f)) (λ b. operations_at g o b (operations_in os)) (size o (expression_of f)) put (code_long g o a (expression_of f)) more
      ∙ ap (λ y. grown c (code_at g o a (Program.Computed (expression_of y) (operations_in os)))) same
      ∙ ap (λ ys. grown c (code_at g o a (Program.Computed (expression_of first.value) (operations_in ys)))) items
      ∙ ap (λ k. grown c (code_at g o a k)) (sym (ap expression_of is ∙ expression_of-computed first rest))

  pub compared_put : (c d e f : CodeParts) (x l r : Expression) (relation : Relation) (left right : Box Expression Global) (i : Instr) →
      x ≡ Expressions.Compared relation left right → l ≡ left.value → r ≡ right.value → i ≡ relation_instruction relation →
      d ≡ with_value c l → e ≡ with_value d r → f ≡ grown e (i ∷ []) → f ≡ with_value c x
  compared_put c d e f x l r relation left right i is left_is right_is instr put more last =
      let a = length c.instructions in
      let b = length d.instructions in
      let inner = behind d e f (code_at g o b (expression_of r)) (λ k. i ∷ []) (size o (expression_of r)) more (code_long g o b (expression_of r)) last in
      behind c d f (code_at g o a (expression_of l)) (λ k. code_at g o k (expression_of r) ++ i ∷ []) (size o (expression_of l)) put (code_long g o a (expression_of l)) inner
      ∙ ap (λ y. grown c (code_at g o a (expression_of y) ++ (code_at g o (a + size o (expression_of y)) (expression_of r) ++ i ∷ []))) left_is
      ∙ ap (λ y. grown c (code_at g o a (expression_of left.value) ++ (code_at g o (a + size o (expression_of left.value)) (expression_of y) ++ i ∷ []))) right_is
      ∙ ap (λ j. grown c (code_at g o a (expression_of left.value) ++ (code_at g o (a + size o (expression_of left.value)) (expression_of right.value) ++ j ∷ []))) instr
      ∙ ap (λ y. grown c (code_at g o a (expression_of y))) (sym is)

  -- & and OR jump over their operand
  pub and_put : (c d e f : CodeParts) (x : Operation) (place target : ℕ) → x.operator ≡ And →
      place ≡ length c.instructions → d ≡ grown c (Instrs.AndJump 0 ∷ []) → e ≡ with_value d x.operand → target ≡ length e.instructions →
      f ≡ record e { instructions = slice_set e.instructions place (Instrs.AndJump target) } → f ≡ with_operation c x
  and_put c d e f x place target is at put more end set =
      let a = length c.instructions in
      let n = size o (expression_of x.operand) in
      jumps c d e f (Instrs.AndJump 0) Instrs.AndJump (λ b. code_at g o b (expression_of x.operand)) n place target
      put more (code_long g o (a + 1) (expression_of x.operand)) at end set
      ∙ ap (λ k. grown c (operator_at a k n (λ b. code_at g o b (expression_of x.operand)))) (sym is)

  pub or_put : (c d e f : CodeParts) (x : Operation) (place target : ℕ) → x.operator ≡ Or →
      place ≡ length c.instructions → d ≡ grown c (Instrs.OrJump 0 ∷ []) → e ≡ with_value d x.operand → target ≡ length e.instructions →
      f ≡ record e { instructions = slice_set e.instructions place (Instrs.OrJump target) } → f ≡ with_operation c x
  or_put c d e f x place target is at put more end set =
      let a = length c.instructions in
      let n = size o (expression_of x.operand) in
      jumps c d e f (Instrs.OrJump 0) Instrs.OrJump (λ b. code_at g o b (expression_of x.operand)) n place target
      put more (code_long g o (a + 1) (expression_of x.operand)) at end set
      ∙ ap (λ k. grown c (operator_at a k n (λ b. code_at g o b (expression_of x.operand)))) (sym is)

  -- one operation more
  operation_put : (c d : CodeParts) (x : Operation) (rest : List Operation) → d ≡ with_operation c x → with_operations d rest ≡ with_operations c (x ∷ rest)
  operation_put c d x rest put =
      let a = length c.instructions in
      let n = size o (expression_of x.operand) in
      behind c d (with_operations d rest) (operator_at a x.operator n (λ b. code_at g o b (expression_of x.operand))) (λ b. operations_at g o b (operations_in rest)) (n + 1)
      put (operator_long a x.operator n (λ b. code_at g o b (expression_of x.operand)) (λ b. code_long g o b (expression_of x.operand))) refl

  pub operations_go : (c d e : CodeParts) (xs : List Operation) (i : ℕ) (x : Operation) → i < length xs → x ≡ get_or xs i x → d ≡ with_operation c x →
      with_operations c (drop i xs) ≡ e → with_operations d (drop (i + 1) xs) ≡ e
  operations_go c d e xs i x here is put so_far =
      operation_put c d x (drop (i + 1) xs) put
      ∙ ap (λ y. with_operations c (y ∷ drop (i + 1) xs)) is
      ∙ sym (at_drop_more (λ ys. with_operations c ys) xs i x here)
      ∙ so_far

  pub operations_end : (c e : CodeParts) (xs : List Operation) (i : ℕ) → length xs ≤ i → with_operations c (drop i xs) ≡ e → c ≡ e
  operations_end c e xs i past so_far = sym (grown_nothing c) ∙ sym (at_drop_all (λ ys. with_operations c ys) xs i past) ∙ so_far

  -- one selector more
  selector_apart : (a : ℕ) (t : Program.DataType) (s : Selector) (rest : List Selector) →
      selectors_at g o a t (selectors_in (s ∷ []))
      ++ selectors_at g o (a + selectors_size o (selectors_in (s ∷ []))) (selected t s) (selectors_in rest)
      ≡ selectors_at g o a t (selectors_in (s ∷ rest))
  selector_apart a t (Field position name) rest = refl
  selector_apart a t (Element n index) rest =
      let i = Instrs.Index n (words (part_type t 0)) in
      let count : a + (size o (expression_of index) + 1 + 0) ≡ a + (size o (expression_of index) + 1) = omega arith in
      append_assoc (code_at g o a (expression_of index)) (i ∷ []) (selectors_at g o (a + (size o (expression_of index) + 1 + 0)) (part_type t 0) (selectors_in rest))
      ∙ ap (λ b. code_at g o a (expression_of index) ++ i ∷ selectors_at g o b (part_type t 0) (selectors_in rest)) count

  selector_put : (c d : CodeParts) (t u : Program.DataType) (s : Selector) (rest : List Selector) → d ≡ with_selectors c t (s ∷ []) → u ≡ selected t s →
      with_selectors d u rest ≡ with_selectors c t (s ∷ rest)
  selector_put c d t u s rest put type =
      let a = length c.instructions in
      ap (λ k. with_selectors d k rest) type
      ∙ behind c d (with_selectors d (selected t s) rest) (selectors_at g o a t (selectors_in (s ∷ []))) (λ b. selectors_at g o b (selected t s) (selectors_in rest))
      (selectors_size o (selectors_in (s ∷ []))) put (selectors_long g o a t (selectors_in (s ∷ []))) refl
      ∙ ap (grown c) (selector_apart a t s rest)

  pub selectors_go : (c d e : CodeParts) (t u : Program.DataType) (xs : List Selector) (i : ℕ) (x : Selector) → i < length xs → x ≡ get_or xs i x →
      d ≡ with_selectors c t (x ∷ []) → u ≡ selected t x →
      with_selectors c t (drop i xs) ≡ e → with_selectors d u (drop (i + 1) xs) ≡ e
  selectors_go c d e t u xs i x here is put type so_far =
      selector_put c d t u x (drop (i + 1) xs) put type
      ∙ ap (λ y. with_selectors c t (y ∷ drop (i + 1) xs)) is
      ∙ sym (at_drop_more (λ ys. with_selectors c t ys) xs i x here)
      ∙ so_far

  pub selectors_end : (c e : CodeParts) (t : Program.DataType) (xs : List Selector) (i : ℕ) → length xs ≤ i → with_selectors c t (drop i xs) ≡ e → c ≡ e
  selectors_end c e t xs i past so_far = sym (grown_nothing c) ∙ sym (at_drop_all (λ ys. with_selectors c t ys) xs i past) ∙ so_far

  pub selectors_begin : (c d : CodeParts) (t : Program.DataType) (x : Designator) (xs : List Selector) → xs ≡ x.selectors.items →
      d ≡ grown c (variable_code g o (owner_of x.slot.owner) x.slot.position) → t ≡ type_at (scope_of g o (owner_of x.slot.owner)) x.slot.position →
      with_selectors d t (drop 0 xs) ≡ with_designator c x
  selectors_begin c d t x xs items put type =
      let owner = owner_of x.slot.owner in
      ap (λ k. with_selectors d k xs) type
      ∙ behind c d (with_selectors d (type_at (scope_of g o owner) x.slot.position) xs) (variable_code g o owner x.slot.position)
      (λ b. selectors_at g o b (type_at (scope_of g o owner) x.slot.position) (selectors_in xs)) (variable_size o owner x.slot.position)
      put (variable_long g o owner x.slot.position) refl
      ∙ ap (λ ys. grown c (designator_at g o (length c.instructions) (Program.Designated (record { owner = owner; position = x.slot.position; name = (designator_name x) }) (selectors_in ys)))) items
    where
      designator_name : Designator → Program.Name
      designator_name y = string_bytes y.slot.name
