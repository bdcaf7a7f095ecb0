-- Opening ends: there is no silent task in front, and how often tasks may give way makes no difference where it is enough.
use Rattle.std.proofs.Common.{◌≡◌, ℕ, zero, suc, ◌+◌, ◌<◌, ◌≤◌, List, [], ◌∷◌, ◌++◌, Option, Some, None, refl, ap, ◌∙◌, subst, sym, arith}
use Rattle.ob_typing.specs.declared.operator.BinaryOperator.TheVariants.{Plus, Minus, Times, Div, Mod, And, Or}
use Rattle.ob_typing.specs.Program.{DataType, Owner, OfModule, Own, Expression, Literal, ValueOf, Negated, Complement, Computed, Compared, Operations, no_operation, operation, Designator, Designated, Selectors, no_selector, field_of, element_of, Actual, ByValue, ByPlace, Statement, Assign, Call, If, While, Repeat, Statements, no_statement, statement, Branches, no_branch, otherwise, branch}
use Rattle.ob_code_scheme.specs.Types.{part_type, Space, Holding, Referring, Scope, word_in, space_at, type_at, scope_of}
use Rattle.ob_tree_law.specs.Work.{Task, Value, Operators, Address, Selecting, Handing, Doing, All, Choosing, own_tasks, variable_tasks, operators_left, selecting_left, handing_left, all_left, value_parts, operators_parts, address_parts, selecting_parts, handing_parts, doing_parts, all_parts, choosing_parts, parts, nodes, operators_nodes, address_nodes, selecting_nodes, handing_nodes, doing_nodes, all_nodes, choosing_nodes, task_nodes, work_nodes, given_way, opened_by, opened}

nodes_joined : (a b : List Task) → work_nodes (a ++ b) ≡ work_nodes a + work_nodes b
nodes_joined [] b = omega arith
nodes_joined (t ∷ a) b = let h = nodes_joined a b in omega (arith, h)

module _ (globals : Scope) where
  own_fewer : (word : ℕ) (space : Space) (tail : List Task) → work_nodes (own_tasks word space tail) ≡ work_nodes tail
  own_fewer word (Holding type) tail = omega arith
  own_fewer word (Referring type) tail = omega arith

  variable_fewer : (own : Scope) (owner : Owner) (position : ℕ) (tail : List Task) → work_nodes (variable_tasks globals own owner position tail) ≡ work_nodes tail
  variable_fewer own OfModule position tail = omega arith
  variable_fewer own Own position tail = own_fewer (word_in own position) (space_at own position) tail

  module _ (own : Scope) where
    -- what is left has no more nodes than all of it
    operators_few : (os : Operations) → work_nodes (operators_left own os) ≤ operators_nodes os
    operators_few no_operation = omega arith
    operators_few (operation o e rest) = omega arith

    selecting_few : (type : DataType) (ss : Selectors) → work_nodes (selecting_left own type ss) ≤ selecting_nodes ss
    selecting_few type no_selector = omega arith
    selecting_few type (field_of position name rest) = omega arith
    selecting_few type (element_of n index rest) = omega arith

    handing_few : (xs : List Actual) → work_nodes (handing_left own xs) ≤ handing_nodes xs
    handing_few [] = omega arith
    handing_few (x ∷ xs) = omega arith

    all_few : (ss : Statements) → work_nodes (all_left own ss) ≤ all_nodes ss
    all_few no_statement = omega arith
    all_few (statement first rest) = omega arith

    value_fewer : (e : Expression) → work_nodes (value_parts globals own e) < nodes e
    value_fewer (Literal s) = omega arith
    value_fewer (ValueOf type d) = omega arith
    value_fewer (Negated e) = omega arith
    value_fewer (Complement e) = omega arith
    value_fewer (Computed first rest) = omega arith
    value_fewer (Compared relation left right) = omega arith

    operators_fewer : (os : Operations) → work_nodes (operators_parts globals own os) < operators_nodes os
    operators_fewer no_operation = omega arith
    operators_fewer (operation Plus e rest) = let k = operators_few rest in omega (arith, k)
    operators_fewer (operation Minus e rest) = let k = operators_few rest in omega (arith, k)
    operators_fewer (operation Times e rest) = let k = operators_few rest in omega (arith, k)
    operators_fewer (operation Div e rest) = let k = operators_few rest in omega (arith, k)
    operators_fewer (operation Mod e rest) = let k = operators_few rest in omega (arith, k)
    operators_fewer (operation And e rest) = let k = operators_few rest in omega (arith, k)
    operators_fewer (operation Or e rest) = let k = operators_few rest in omega (arith, k)

    address_fewer : (d : Designator) → work_nodes (address_parts globals own d) < address_nodes d
    address_fewer (Designated slot ss) =
        let type = type_at (scope_of globals own slot.owner) slot.position in
        let h = variable_fewer own slot.owner slot.position (selecting_left own type ss) in
        let k = selecting_few type ss in
        omega (arith, h, k)

    selecting_fewer : (type : DataType) (ss : Selectors) → work_nodes (selecting_parts globals own type ss) < selecting_nodes ss
    selecting_fewer type no_selector = omega arith
    selecting_fewer type (field_of position name rest) = let k = selecting_few (part_type type position) rest in omega (arith, k)
    selecting_fewer type (element_of n index rest) = let k = selecting_few (part_type type 0) rest in omega (arith, k)

    handing_fewer : (xs : List Actual) → work_nodes (handing_parts globals own xs) < handing_nodes xs
    handing_fewer [] = omega arith
    handing_fewer (ByValue e ∷ xs) = let k = handing_few xs in omega (arith, k)
    handing_fewer (ByPlace d ∷ xs) = let k = handing_few xs in omega (arith, k)

    doing_fewer : (s : Statement) → work_nodes (doing_parts globals own s) < doing_nodes s
    doing_fewer (Assign target e) = omega arith
    doing_fewer (Call procedure actuals) = omega arith
    doing_fewer (If branches) = omega arith
    doing_fewer (While condition body) = omega arith
    doing_fewer (Repeat body condition) = omega arith

    all_fewer : (ss : Statements) → work_nodes (all_parts globals own ss) < all_nodes ss
    all_fewer no_statement = omega arith
    all_fewer (statement first rest) = let k = all_few rest in omega (arith, k)

    choosing_fewer : (bs : Branches) → work_nodes (choosing_parts globals own bs) < choosing_nodes bs
    choosing_fewer no_branch = omega arith
    choosing_fewer (otherwise ss) = omega arith
    choosing_fewer (branch condition ss rest) = omega arith

  -- of what a task gives way to
  abbrev Fewer : ℕ → Option (List Task) → Type 0
  Fewer n None = Unit {0}
  Fewer n (Some tasks) = work_nodes tasks < n

  fewer : (t : Task) → Fewer (task_nodes t) (parts globals t)
  fewer (Value own e) = value_fewer own e
  fewer (Operators own os) = operators_fewer own os
  fewer (Address own d) = address_fewer own d
  fewer (Selecting own type ss) = selecting_fewer own type ss
  fewer (Handing own xs) = handing_fewer own xs
  fewer (Doing own s) = doing_fewer own s
  fewer (All own ss) = all_fewer own ss
  fewer (Choosing own bs) = choosing_fewer own bs
  fewer _ = tt

  -- so the work has fewer nodes where its first task gives way
  pub gives_way : (t : Task) (tasks rest : List Task) → parts globals t ≡ Some tasks → work_nodes (tasks ++ rest) < work_nodes (t ∷ rest)
  gives_way t tasks rest h =
      let k : work_nodes tasks < task_nodes t = subst (Fewer (task_nodes t)) h (fewer t) in
      let e = nodes_joined tasks rest in omega (arith, k, e)

  -- ---- no silent task is in front

  abbrev pub IsReady : List Task → Type 0
  IsReady [] = Unit {0}
  IsReady (t ∷ rest) = parts globals t ≡ None

  given_ready : (go : List Task → List Task) (t : Task) (rest : List Task) (o : Option (List Task)) → parts globals t ≡ o →
      ((tasks : List Task) → parts globals t ≡ Some tasks → IsReady (go (tasks ++ rest))) → IsReady (given_way o go t rest)
  given_ready go t rest None e h = e
  given_ready go t rest (Some tasks) e h = h tasks e

  none_left : (t : Task) (rest : List Task) → work_nodes (t ∷ rest) ≤ 0 → (o : Option (List Task)) → parts globals t ≡ o → IsReady (t ∷ rest)
  none_left t rest few None e = e
  none_left t rest few (Some tasks) e = let k = gives_way t tasks rest e in absurd (omega (arith, k, few))

  opened_by_ready : (n : ℕ) (work : List Task) → work_nodes work ≤ n → IsReady (opened_by globals n work)
  opened_by_ready zero [] few = tt
  opened_by_ready zero (t ∷ rest) few = none_left t rest few (parts globals t) refl
  opened_by_ready (suc n) [] few = tt
  opened_by_ready (suc n) (t ∷ rest) few =
      given_ready (opened_by globals n) t rest (parts globals t) refl
      (λ tasks e. let k = gives_way t tasks rest e in opened_by_ready n (tasks ++ rest) (omega (arith, k, few)))

  pub opened_ready : (work : List Task) → IsReady (opened globals work)
  opened_ready work = opened_by_ready (work_nodes work) work (omega arith)

  -- ---- how an engine opens: one task after the other

  -- where no silent task is in front, opening leaves the work
  given_ready_left : (go : List Task → List Task) (t : Task) (rest : List Task) (o : Option (List Task)) → o ≡ None → given_way o go t rest ≡ t ∷ rest
  given_ready_left go t rest None e = refl
  given_ready_left go t rest (Some tasks) e = absurd (cc)

  opened_by_left : (n : ℕ) (work : List Task) → IsReady work → opened_by globals n work ≡ work
  opened_by_left zero work h = refl
  opened_by_left (suc n) [] h = refl
  opened_by_left (suc n) (t ∷ rest) h = given_ready_left (opened_by globals n) t rest (parts globals t) h

  pub opened_left : (work : List Task) → IsReady work → opened globals work ≡ work
  opened_left work h = opened_by_left (work_nodes work) work h

  given_same : (go go' : List Task → List Task) (t : Task) (rest : List Task) (o : Option (List Task)) → parts globals t ≡ o →
      ((tasks : List Task) → parts globals t ≡ Some tasks → go (tasks ++ rest) ≡ go' (tasks ++ rest)) → given_way o go t rest ≡ given_way o go' t rest
  given_same go go' t rest None e h = refl
  given_same go go' t rest (Some tasks) e h = h tasks e

  enough : (m n : ℕ) (work : List Task) → work_nodes work ≤ m → work_nodes work ≤ n → opened_by globals m work ≡ opened_by globals n work
  enough zero n [] few more = sym (opened_by_left n [] tt)
  enough zero n (t ∷ rest) few more = sym (opened_by_left n (t ∷ rest) (none_left t rest few (parts globals t) refl))
  enough (suc m) n [] few more = sym (opened_by_left n [] tt)
  enough (suc m) zero (t ∷ rest) few more = opened_by_left (suc m) (t ∷ rest) (none_left t rest more (parts globals t) refl)
  enough (suc m) (suc n) (t ∷ rest) few more =
      given_same (opened_by globals m) (opened_by globals n) t rest (parts globals t) refl
      (λ tasks e. let k = gives_way t tasks rest e in enough m n (tasks ++ rest) (omega (arith, k, few)) (omega (arith, k, more)))

  given_next : (go : List Task → List Task) (t : Task) (tasks rest : List Task) (o : Option (List Task)) → o ≡ Some tasks → given_way o go t rest ≡ go (tasks ++ rest)
  given_next go t tasks rest None e = absurd (cc)
  given_next go t tasks rest (Some others) e = let same : others ≡ tasks = cc in ap (λ (ts : List Task). go (ts ++ rest)) same

  -- a silent task in front gives way, and opening comes to the same
  opened_next : (n : ℕ) (t : Task) (tasks rest : List Task) → parts globals t ≡ Some tasks → work_nodes (t ∷ rest) ≤ n →
      opened_by globals n (t ∷ rest) ≡ opened globals (tasks ++ rest)
  opened_next zero t tasks rest h few = let k = gives_way t tasks rest h in absurd (omega (arith, k, few))
  opened_next (suc n) t tasks rest h few =
      let k = gives_way t tasks rest h in
      given_next (opened_by globals n) t tasks rest (parts globals t) h
      ∙ enough n (work_nodes (tasks ++ rest)) (tasks ++ rest) (omega (arith, k, few)) (omega arith)

  pub opened_on : (t : Task) (tasks rest : List Task) → parts globals t ≡ Some tasks → opened globals (t ∷ rest) ≡ opened globals (tasks ++ rest)
  opened_on t tasks rest h = opened_next (work_nodes (t ∷ rest)) t tasks rest h (omega arith)
