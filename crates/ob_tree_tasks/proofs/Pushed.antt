-- Two tasks put in front, and what they are parts of.
use Rattle.std.proofs.Common.{◌≡◌, ℕ, Bool, true, false, ◌==◌, List, [], ◌∷◌, ◌++◌, length, map, Option, refl, ap, sym, ◌∙◌, arith, Box, String, Vec}
use Rattle.std.proofs.lemmas.List.{length-map}
use Rattle.std.specs.declared.alloc.Global.{Global}
use Rattle.ob_interface.specs.declared.scalar.ScalarType.{ScalarType}
use Rattle.ob_typing.specs.declared.operator.BinaryOperator.{BinaryOperator}
use Rattle.ob_typing.specs.declared.operator.BinaryOperator.TheVariants.{Plus, Minus, Times, Div, Mod, And, Or}
use Rattle.ob_typing.specs.Program as Program
use Rattle.ob_code_words.specs.declared.instr.Instr.TheVariants as Instrs
use Rattle.ob_code_scheme.specs.Types.{Scope}
use Rattle.ob_checked.specs.declared.program.Expression.{Expression}
use Rattle.ob_checked.specs.declared.program.Expression.TheVariants as Expressions
use Rattle.ob_checked.specs.declared.program.Operation.{Operation}
use Rattle.ob_checked.specs.declared.program.Actual.{Actual}
use Rattle.ob_checked.specs.declared.program.Actual.TheVariants as Actuals
use Rattle.ob_checked.specs.declared.program.Designator.{Designator}
use Rattle.ob_checked.specs.declared.program.Selector.{Selector}
use Rattle.ob_checked.specs.declared.program.Selector.TheVariants as Selectors
use Rattle.ob_checked.specs.declared.program.Branch.{Branch}
use Rattle.ob_checked.specs.declared.program.Statement.{Statement}
use Rattle.ob_checked.specs.declared.program.Statement.TheVariants as Statements
use Rattle.ob_checked.specs.View.{expression_of, operations_in, selectors_in, designator_of, actual_of, statement_of, statements_in, branches_in, otherwise_of}
use Rattle.ob_checked.proofs.Rows.{expression_of-computed, expression_of-value, statement_of-if, statement_of-while, statement_of-repeat}
use Rattle.ob_tree_law.specs.Work.{Task, Value, Operators, Address, Selecting, Handing, Doing, All, Choosing, Instruction, Alternative, Calling, operator_tasks, operators_left, selecting_left, handing_left, all_left, value_parts, operators_parts, selecting_parts, handing_parts, doing_parts, all_parts, choosing_parts}
use Rattle.ob_tree_tasks.specs.Opening.{field_tasks, element_tasks, is_more}
use Rattle.ob_tree_tasks.specs.WorkTasks.{WorkTasks, with_tasks, with_first, before}

pub two : (w a b : WorkTasks) (s t : Task) → a ≡ with_tasks w (s ∷ w.tasks) → b ≡ with_tasks a (t ∷ a.tasks) → b ≡ before (t ∷ s ∷ []) w
two w a b s t p q = q ∙ ap (λ (v : WorkTasks). with_tasks v (t ∷ v.tasks)) p

pub four : (w a b c d : WorkTasks) (s t u v : Task) → a ≡ with_tasks w (s ∷ w.tasks) → b ≡ with_tasks a (t ∷ a.tasks) → c ≡ with_tasks b (u ∷ b.tasks) → d ≡ with_tasks c (v ∷ c.tasks) →
    d ≡ before (v ∷ u ∷ t ∷ s ∷ []) w
four w a b c d s t u v p q r x =
    x
    ∙ ap (λ (y : WorkTasks). with_tasks y (v ∷ y.tasks)) r
    ∙ ap (λ (y : WorkTasks). with_tasks y (v ∷ u ∷ y.tasks)) (two w a b s t p q)

pub value_two : (g o : Scope) (w a b : WorkTasks) (e : Expression) (type : ScalarType) (d : Designator) → e ≡ Expressions.ValueOf type d →
    a ≡ with_tasks w (Instruction Instrs.Get ∷ w.tasks) → b ≡ with_tasks a (Address o (designator_of d) ∷ a.tasks) →
    b ≡ before (value_parts g o (expression_of e)) w
value_two g o w a b e type d is p q =
    two w a b (Instruction Instrs.Get) (Address o (designator_of d)) p q
    ∙ sym (ap (λ x. before (value_parts g o x) w) (ap expression_of is ∙ expression_of-value type d))

pub computed_two : (g o : Scope) (w a b : WorkTasks) (e f : Expression) (os : List Operation) (first : Box Expression Global) (rest : Vec Operation Global) → e ≡ Expressions.Computed first rest →
    f ≡ first.value → os ≡ rest.items → a ≡ with_tasks w (Operators o (operations_in os) ∷ w.tasks) → b ≡ with_tasks a (Value o (expression_of f) ∷ a.tasks) →
    b ≡ before (value_parts g o (expression_of e)) w
computed_two g o w a b e f os first rest is value items p q =
    two w a b (Operators o (operations_in os)) (Value o (expression_of f)) p q
    ∙ ap (λ x. before (Value o (expression_of x) ∷ Operators o (operations_in os) ∷ []) w) value
    ∙ ap (λ x. before (Value o (expression_of first.value) ∷ Operators o (operations_in x) ∷ []) w) items
    ∙ sym (ap (λ x. before (value_parts g o x) w) (ap expression_of is ∙ expression_of-computed first rest))

module _ (g o : Scope) (w a : WorkTasks) (s : Statement) where
  pub if_one : (branches : Vec Branch Global) (last : Option (Vec Statement Global)) (bs : List Branch) → s ≡ Statements.If branches last → bs ≡ branches.items →
      a ≡ with_tasks w (Choosing o (branches_in bs (otherwise_of last)) ∷ w.tasks) → a ≡ before (doing_parts g o (statement_of s)) w
  if_one branches last bs is items p =
      p
      ∙ ap (λ x. before (Choosing o (branches_in x (otherwise_of last)) ∷ []) w) items
      ∙ sym (ap (λ x. before (doing_parts g o x) w) (ap statement_of is ∙ statement_of-if branches last))

pub while_same : (s : Statement) (condition : Expression) (body : Vec Statement Global) (ss : List Statement) → s ≡ Statements.While condition body → ss ≡ body.items →
    Program.While (expression_of condition) (statements_in ss) ≡ statement_of s
while_same s condition body ss is items =
    ap (λ x. Program.While (expression_of condition) (statements_in x)) items ∙ sym (ap statement_of is ∙ statement_of-while condition body)

pub repeat_same : (s : Statement) (condition : Expression) (body : Vec Statement Global) (ss : List Statement) → s ≡ Statements.Repeat body condition → ss ≡ body.items →
    Program.Repeat (statements_in ss) (expression_of condition) ≡ statement_of s
repeat_same s condition body ss is items =
    ap (λ x. Program.Repeat (statements_in x) (expression_of condition)) items ∙ sym (ap statement_of is ∙ statement_of-repeat body condition)

pub nothing_in : {A : Type 0} (xs : List A) → length xs ≡ 0 → xs ≡ []
nothing_in [] none = refl
nothing_in (x ∷ xs) none = absurd (omega (arith, none))

-- ---- what is left of a list, where something is left

module _ (o : Scope) (w a : WorkTasks) (none : Bool) where
  pub operators_some : (os : List Operation) → none ≡ (length os == 0) → none ≡ false → a ≡ with_tasks w (Operators o (operations_in os) ∷ w.tasks) → a ≡ before (operators_left o (operations_in os)) w
  operators_some [] is not p = absurd cc
  operators_some (x ∷ os) is not p = p

  pub selectors_some : (t : Program.DataType) (ss : List Selector) → none ≡ (length ss == 0) → none ≡ false → a ≡ with_tasks w (Selecting o t (selectors_in ss) ∷ w.tasks) → a ≡ before (selecting_left o t (selectors_in ss)) w
  selectors_some t [] is not p = absurd cc
  selectors_some t (Selectors.Field position name ∷ ss) is not p = p
  selectors_some t (Selectors.Element count index ∷ ss) is not p = p

  pub statements_some : (ss : List Statement) → none ≡ (length ss == 0) → none ≡ false → a ≡ with_tasks w (All o (statements_in ss) ∷ w.tasks) → a ≡ before (all_left o (statements_in ss)) w
  statements_some [] is not p = absurd cc
  statements_some (s ∷ ss) is not p = p

-- ---- an operator, its right operand and those behind it

operator_joined : (o : Scope) (op : BinaryOperator) (e : Program.Expression) (x y : List Task) → operator_tasks o op e (x ++ y) ≡ operator_tasks o op e x ++ y
operator_joined o Plus e x y = refl
operator_joined o Minus e x y = refl
operator_joined o Times e x y = refl
operator_joined o Div e x y = refl
operator_joined o Mod e x y = refl
operator_joined o And e x y = refl
operator_joined o Or e x y = refl

pub operators_two : (g o : Scope) (w a b : WorkTasks) (os : List Operation) (x : Operation) (rest : List Operation) → os ≡ x ∷ rest →
    a ≡ before (operators_left o (operations_in rest)) w → b ≡ with_tasks a (operator_tasks o x.operator (expression_of x.operand) a.tasks) →
    b ≡ before (operators_parts g o (operations_in os)) w
operators_two g o w a b os x rest is p q =
    let left = operators_left o (operations_in rest) in
    let e = expression_of x.operand in
    q
    ∙ ap (λ (v : WorkTasks). with_tasks v (operator_tasks o x.operator e v.tasks)) p
    ∙ ap (λ (ts : List Task). with_tasks w ts) (operator_joined o x.operator e left w.tasks)
    ∙ sym (ap (λ (l : List Operation). before (operators_parts g o (operations_in l)) w) is)

-- ---- what is put behind a part, with that part in front

module _ (g o : Scope) (w a : WorkTasks) where
  pub selecting_field : (t : Program.DataType) (ss rest : List Selector) (x : Selector) (position : ℕ) (name : String Global) → ss ≡ x ∷ rest → x ≡ Selectors.Field position name →
      a ≡ with_tasks w (field_tasks o t position (selectors_in rest) w.tasks) → a ≡ before (selecting_parts g o t (selectors_in ss)) w
  selecting_field t ss rest x position name is field p =
      p ∙ sym (ap (λ l. before (selecting_parts g o t (selectors_in l)) w) (is ∙ ap (λ y. y ∷ rest) field))

  pub selecting_element : (t : Program.DataType) (ss rest : List Selector) (x : Selector) (count : ℕ) (index : Expression) → ss ≡ x ∷ rest → x ≡ Selectors.Element count index →
      a ≡ with_tasks w (element_tasks o t count (selectors_in rest) w.tasks) → with_first (Value o (expression_of index)) a ≡ before (selecting_parts g o t (selectors_in ss)) w
  selecting_element t ss rest x count index is element p =
      ap (with_first (Value o (expression_of index))) p
      ∙ sym (ap (λ l. before (selecting_parts g o t (selectors_in l)) w) (is ∙ ap (λ y. y ∷ rest) element))

  pub handing_value : (xs rest : List Actual) (x : Actual) (e : Expression) → xs ≡ x ∷ rest → x ≡ Actuals.Value e →
      a ≡ before (handing_left o (map actual_of rest)) w → with_first (Value o (expression_of e)) a ≡ before (handing_parts g o (map actual_of xs)) w
  handing_value xs rest x e is value p =
      ap (with_first (Value o (expression_of e))) p
      ∙ sym (ap (λ l. before (handing_parts g o (map actual_of l)) w) (is ∙ ap (λ y. y ∷ rest) value))

  pub handing_place : (xs rest : List Actual) (x : Actual) (d : Designator) → xs ≡ x ∷ rest → x ≡ Actuals.Place d →
      a ≡ before (handing_left o (map actual_of rest)) w → with_first (Address o (designator_of d)) a ≡ before (handing_parts g o (map actual_of xs)) w
  handing_place xs rest x d is place p =
      ap (with_first (Address o (designator_of d))) p
      ∙ sym (ap (λ l. before (handing_parts g o (map actual_of l)) w) (is ∙ ap (λ y. y ∷ rest) place))

  pub all_two : (ss rest : List Statement) (s : Statement) → ss ≡ s ∷ rest →
      a ≡ before (all_left o (statements_in rest)) w → with_first (Doing o (statement_of s)) a ≡ before (all_parts g o (statements_in ss)) w
  all_two ss rest s is p =
      ap (with_first (Doing o (statement_of s))) p ∙ sym (ap (λ l. before (all_parts g o (statements_in l)) w) is)

  pub choosing_two : (bs rest : List Branch) (b : Branch) (last : Program.Branches) (body : List Statement) → bs ≡ b ∷ rest → body ≡ b.body.items →
      a ≡ with_tasks w (Alternative o (statements_in body) (branches_in rest last) ∷ w.tasks) →
      with_first (Value o (expression_of b.condition)) a ≡ before (choosing_parts g o (branches_in bs last)) w
  choosing_two bs rest b last body is items p =
      ap (with_first (Value o (expression_of b.condition))) p
      ∙ ap (λ l. with_first (Value o (expression_of b.condition)) (with_tasks w (Alternative o (statements_in l) (branches_in rest last) ∷ w.tasks))) items
      ∙ sym (ap (λ l. before (choosing_parts g o (branches_in l last)) w) is)

  pub choosing_last : (bs : List Branch) (last : Program.Branches) → bs ≡ [] → a ≡ before (choosing_parts g o last) w → a ≡ before (choosing_parts g o (branches_in bs last)) w
  choosing_last bs last is p = p ∙ sym (ap (λ l. before (choosing_parts g o (branches_in l last)) w) is)

  pub call_two : (s : Statement) (procedure n : ℕ) (actuals : Vec Actual Global) (xs : List Actual) → s ≡ Statements.Call procedure actuals → n ≡ length actuals.items → xs ≡ actuals.items →
      a ≡ with_tasks w (Calling procedure n ∷ w.tasks) → with_first (Handing o (map actual_of xs)) a ≡ before (doing_parts g o (statement_of s)) w
  call_two s procedure n actuals xs is count items p =
      ap (with_first (Handing o (map actual_of xs))) p
      ∙ ap (λ k. with_first (Handing o (map actual_of xs)) (with_tasks w (Calling procedure k ∷ w.tasks))) (count ∙ sym (length-map actuals.items actual_of))
      ∙ ap (λ l. with_first (Handing o (map actual_of l)) (with_tasks w (Calling procedure (length (map actual_of actuals.items)) ∷ w.tasks))) items
      ∙ sym (ap (λ x. before (doing_parts g o (statement_of x)) w) is)

pub assign_three : (g o : Scope) (w a b : WorkTasks) (s : Statement) (target : Designator) (e : Expression) → s ≡ Statements.Assign target e →
    a ≡ with_tasks w (Instruction Instrs.Put ∷ w.tasks) → b ≡ with_tasks a (Value o (expression_of e) ∷ a.tasks) →
    with_first (Address o (designator_of target)) b ≡ before (doing_parts g o (statement_of s)) w
assign_three g o w a b s target e is p q =
    ap (with_first (Address o (designator_of target))) (two w a b (Instruction Instrs.Put) (Value o (expression_of e)) p q)
    ∙ sym (ap (λ x. before (doing_parts g o (statement_of x)) w) is)

-- where there is an alternative there is more
pub some_more : (bs : List Branch) (last : Program.Branches) (none : Bool) → none ≡ (length bs == 0) → none ≡ false → true ≡ is_more (branches_in bs last)
some_more [] last none is not = absurd cc
some_more (b ∷ bs) last none is not = refl
