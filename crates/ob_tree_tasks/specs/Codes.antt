-- By what tasks are told apart: each is coded as a tree of numbers, with those of its parts.
use Rattle.std.specs.Prelude.{◌≡◌, ℕ, zero, suc, ◌⊎◌, List, refl}
use Rattle.std.proofs.Common.{inl, inr}
use Rattle.std.specs.Coded.{Coded, coded_ℕ, coded_list, coded×, coded⊎, code_by}
use base.Stored.{Gv, gnil, gnum, gcons}
use Rattle.ob_interface.specs.contracts.scalar.Scalar as Scalars
use Rattle.ob_interface.specs.contracts.scalar.ScalarType as ScalarTypes
use Rattle.ob_typing.specs.contracts.operator.BinaryOperator as Operators
use Rattle.ob_typing.specs.contracts.operator.Relation as Relations
use Rattle.ob_typing.specs.Program.{DataType, Simple, Array, Record, Fields, no_field, field, Name, Owner, OfModule, Own, Slot, Expression, Literal, ValueOf, Negated, Complement, Computed, Compared, Operations, no_operation, operation, Designator, Designated, Selectors, no_selector, field_of, element_of, Actual, ByValue, ByPlace, Statement, Assign, Call, If, While, Repeat, Statements, no_statement, statement, Branches, no_branch, otherwise, branch}
use Rattle.ob_code_words.specs.contracts.instr.Instr as Instrs
use Rattle.ob_code_words.specs.declared.instr.Instr.{Instr}
use Rattle.ob_code_scheme.specs.Types.{Space, Holding, Referring, Scope}
use Rattle.ob_tree_law.specs.Work.{Task, Value, Operators, Address, Selecting, Handing, Doing, All, Choosing, Instruction, AndThen, OrElse, Alternative, Over, Looping, Again, Until, Taking, Calling, Leaving}

-- ---- tags of variants

abbrev next : Gv → Gv
next g = gcons gnil g

abbrev first : Gv
first = gnil

abbrev second : Gv
second = next first

abbrev third : Gv
third = next second

abbrev fourth : Gv
fourth = next third

abbrev fifth : Gv
fifth = next fourth

abbrev sixth : Gv
sixth = next fifth

fourth_apart : (a b : Gv) → gcons fourth a ≡ gcons fifth b → ⊥
fourth_apart a b p = cc

fifth_apart : (a b : Gv) → gcons fifth a ≡ gcons fourth b → ⊥
fifth_apart a b p = cc

-- ---- names and types

abbrev coded_name : Coded Name
coded_name = coded_list coded_ℕ

abbrev mutual
  code_type : DataType → Gv
  code_type (Simple t) = gcons first (ScalarTypes.the_row.coded.code t)
  code_type (Array place n element) = gcons second (gcons (gnum place) (gcons (gnum n) (code_type element)))
  code_type (Record place fields) = gcons third (gcons (gnum place) (code_fields fields))

  code_fields : Fields → Gv
  code_fields no_field = gnil
  code_fields (field name t rest) = gcons (coded_name.code name) (gcons (code_type t) (code_fields rest))

mutual
  pub inj_type : (x y : DataType) → code_type x ≡ code_type y → x ≡ y
  inj_type (Simple t) (Simple t') p = let a : t ≡ t' = ScalarTypes.the_row.coded.inj t t' (cc) in cc
  inj_type (Array place n element) (Array place' n' element') p = let a : element ≡ element' = inj_type element element' (cc) in cc
  inj_type (Record place fields) (Record place' fields') p = let a : fields ≡ fields' = inj_fields fields fields' (cc) in cc
  inj_type _ _ p = absurd (cc)

  pub inj_fields : (x y : Fields) → code_fields x ≡ code_fields y → x ≡ y
  inj_fields no_field no_field p = refl
  inj_fields (field name t rest) (field name' t' rest') p =
      let a : name ≡ name' = coded_name.inj name name' (cc) in
      let b : t ≡ t' = inj_type t t' (cc) in
      let c : rest ≡ rest' = inj_fields rest rest' (cc) in
      cc
  inj_fields _ _ p = absurd (cc)

abbrev pub coded_type : Coded DataType
coded_type = record { code = code_type; inj = inj_type }

abbrev code_space : Space → Gv
code_space (Holding t) = gcons first (code_type t)
code_space (Referring t) = gcons second (code_type t)

pub inj_space : (x y : Space) → code_space x ≡ code_space y → x ≡ y
inj_space (Holding t) (Holding t') p = let a : t ≡ t' = inj_type t t' (cc) in cc
inj_space (Referring t) (Referring t') p = let a : t ≡ t' = inj_type t t' (cc) in cc
inj_space _ _ p = absurd (cc)

abbrev pub coded_scope : Coded Scope
coded_scope = coded_list (record { code = code_space; inj = inj_space })

-- ---- expressions

abbrev code_owner : Owner → Gv
code_owner OfModule = first
code_owner Own = second

pub inj_owner : (x y : Owner) → code_owner x ≡ code_owner y → x ≡ y
inj_owner OfModule OfModule p = refl
inj_owner Own Own p = refl
inj_owner _ _ p = absurd (cc)

abbrev coded_owner : Coded Owner
coded_owner = record { code = code_owner; inj = inj_owner }

abbrev coded_slot : Coded Slot
coded_slot =
    code_by (Owner × (ℕ × Name)) (coded× coded_owner (coded× coded_ℕ coded_name))
    (λ s. (s.owner, (s.position, s.name))) (λ p. record { owner = p.0; position = p.1.0; name = p.1.1 }) (λ _. refl)

abbrev mutual
  code_expression : Expression → Gv
  code_expression (Literal s) = gcons first (Scalars.the_row.coded.code s)
  code_expression (ValueOf t d) = gcons second (gcons (ScalarTypes.the_row.coded.code t) (code_designator d))
  code_expression (Negated e) = gcons third (code_expression e)
  code_expression (Complement e) = gcons fourth (code_expression e)
  code_expression (Computed e rest) = gcons fifth (gcons (code_expression e) (code_operations rest))
  code_expression (Compared r left right) = gcons sixth (gcons (Relations.the_row.coded.code r) (gcons (code_expression left) (code_expression right)))

  code_operations : Operations → Gv
  code_operations no_operation = gnil
  code_operations (operation o e rest) = gcons (Operators.the_row.coded.code o) (gcons (code_expression e) (code_operations rest))

  code_designator : Designator → Gv
  code_designator (Designated slot ss) = gcons (coded_slot.code slot) (code_selectors ss)

  code_selectors : Selectors → Gv
  code_selectors no_selector = first
  code_selectors (field_of i name rest) = gcons second (gcons (gnum i) (gcons (coded_name.code name) (code_selectors rest)))
  code_selectors (element_of n index rest) = gcons third (gcons (gnum n) (gcons (code_expression index) (code_selectors rest)))

mutual
  pub inj_expression : (x y : Expression) → code_expression x ≡ code_expression y → x ≡ y
  inj_expression (Literal s) (Literal s') p = let a : s ≡ s' = Scalars.the_row.coded.inj s s' (cc) in cc
  inj_expression (ValueOf t d) (ValueOf t' d') p =
      let a : t ≡ t' = ScalarTypes.the_row.coded.inj t t' (cc) in let b : d ≡ d' = inj_designator d d' (cc) in cc
  inj_expression (Negated e) (Negated e') p = let a : e ≡ e' = inj_expression e e' (cc) in cc
  inj_expression (Complement e) (Complement e') p = let a : e ≡ e' = inj_expression e e' (cc) in cc
  inj_expression (Computed e rest) (Computed e' rest') p =
      let a : e ≡ e' = inj_expression e e' (cc) in let b : rest ≡ rest' = inj_operations rest rest' (cc) in cc
  inj_expression (Compared r left right) (Compared r' left' right') p =
      let a : r ≡ r' = Relations.the_row.coded.inj r r' (cc) in
      let b : left ≡ left' = inj_expression left left' (cc) in
      let c : right ≡ right' = inj_expression right right' (cc) in
      cc
  inj_expression _ _ p = absurd (cc)

  pub inj_operations : (x y : Operations) → code_operations x ≡ code_operations y → x ≡ y
  inj_operations no_operation no_operation p = refl
  inj_operations (operation o e rest) (operation o' e' rest') p =
      let a : o ≡ o' = Operators.the_row.coded.inj o o' (cc) in
      let b : e ≡ e' = inj_expression e e' (cc) in
      let c : rest ≡ rest' = inj_operations rest rest' (cc) in
      cc
  inj_operations _ _ p = absurd (cc)

  pub inj_designator : (x y : Designator) → code_designator x ≡ code_designator y → x ≡ y
  inj_designator (Designated slot ss) (Designated slot' ss') p =
      let a : slot ≡ slot' = coded_slot.inj slot slot' (cc) in let b : ss ≡ ss' = inj_selectors ss ss' (cc) in cc

  pub inj_selectors : (x y : Selectors) → code_selectors x ≡ code_selectors y → x ≡ y
  inj_selectors no_selector no_selector p = refl
  inj_selectors (field_of i name rest) (field_of i' name' rest') p =
      let a : name ≡ name' = coded_name.inj name name' (cc) in let b : rest ≡ rest' = inj_selectors rest rest' (cc) in cc
  inj_selectors (element_of n index rest) (element_of n' index' rest') p =
      let a : index ≡ index' = inj_expression index index' (cc) in let b : rest ≡ rest' = inj_selectors rest rest' (cc) in cc
  inj_selectors _ _ p = absurd (cc)

abbrev coded_expression : Coded Expression
coded_expression = record { code = code_expression; inj = inj_expression }

abbrev coded_operations : Coded Operations
coded_operations = record { code = code_operations; inj = inj_operations }

abbrev coded_designator : Coded Designator
coded_designator = record { code = code_designator; inj = inj_designator }

abbrev coded_selectors : Coded Selectors
coded_selectors = record { code = code_selectors; inj = inj_selectors }

-- ---- statements

abbrev code_actual : Actual → Gv
code_actual (ByValue e) = gcons first (code_expression e)
code_actual (ByPlace d) = gcons second (code_designator d)

pub inj_actual : (x y : Actual) → code_actual x ≡ code_actual y → x ≡ y
inj_actual (ByValue e) (ByValue e') p = let a : e ≡ e' = inj_expression e e' (cc) in cc
inj_actual (ByPlace d) (ByPlace d') p = let a : d ≡ d' = inj_designator d d' (cc) in cc
inj_actual _ _ p = absurd (cc)

abbrev coded_actuals : Coded (List Actual)
coded_actuals = coded_list (record { code = code_actual; inj = inj_actual })

abbrev mutual
  code_statement : Statement → Gv
  code_statement (Assign target e) = gcons first (gcons (code_designator target) (code_expression e))
  code_statement (Call procedure actuals) = gcons second (gcons (gnum procedure) (coded_actuals.code actuals))
  code_statement (If branches) = gcons third (code_branches branches)
  code_statement (While condition body) = gcons fourth (gcons (code_expression condition) (code_statements body))
  code_statement (Repeat body condition) = gcons fifth (gcons (code_expression condition) (code_statements body))

  code_statements : Statements → Gv
  code_statements no_statement = gnil
  code_statements (statement s rest) = gcons (code_statement s) (code_statements rest)

  code_branches : Branches → Gv
  code_branches no_branch = first
  code_branches (otherwise ss) = gcons second (code_statements ss)
  code_branches (branch condition ss rest) = gcons third (gcons (code_expression condition) (gcons (code_statements ss) (code_branches rest)))

mutual
  pub inj_statement : (x y : Statement) → code_statement x ≡ code_statement y → x ≡ y
  inj_statement (Assign target e) (Assign target' e') p =
      let a : target ≡ target' = inj_designator target target' (cc) in let b : e ≡ e' = inj_expression e e' (cc) in cc
  inj_statement (Call procedure actuals) (Call procedure' actuals') p =
      let a : actuals ≡ actuals' = coded_actuals.inj actuals actuals' (cc) in cc
  inj_statement (If branches) (If branches') p = let a : branches ≡ branches' = inj_branches branches branches' (cc) in cc
  inj_statement (While condition body) (While condition' body') p =
      let a : condition ≡ condition' = inj_expression condition condition' (cc) in let b : body ≡ body' = inj_statements body body' (cc) in cc
  inj_statement (Repeat body condition) (Repeat body' condition') p =
      let a : condition ≡ condition' = inj_expression condition condition' (cc) in let b : body ≡ body' = inj_statements body body' (cc) in cc
  inj_statement (While condition body) (Repeat body' condition') p = absurd (fourth_apart _ _ p)
  inj_statement (Repeat body condition) (While condition' body') p = absurd (fifth_apart _ _ p)
  inj_statement _ _ p = absurd (cc)

  pub inj_statements : (x y : Statements) → code_statements x ≡ code_statements y → x ≡ y
  inj_statements no_statement no_statement p = refl
  inj_statements (statement s rest) (statement s' rest') p =
      let a : s ≡ s' = inj_statement s s' (cc) in let b : rest ≡ rest' = inj_statements rest rest' (cc) in cc
  inj_statements _ _ p = absurd (cc)

  pub inj_branches : (x y : Branches) → code_branches x ≡ code_branches y → x ≡ y
  inj_branches no_branch no_branch p = refl
  inj_branches (otherwise ss) (otherwise ss') p = let a : ss ≡ ss' = inj_statements ss ss' (cc) in cc
  inj_branches (branch condition ss rest) (branch condition' ss' rest') p =
      let a : condition ≡ condition' = inj_expression condition condition' (cc) in
      let b : ss ≡ ss' = inj_statements ss ss' (cc) in
      let c : rest ≡ rest' = inj_branches rest rest' (cc) in
      cc
  inj_branches _ _ p = absurd (cc)

abbrev coded_statement : Coded Statement
coded_statement = record { code = code_statement; inj = inj_statement }

abbrev coded_statements : Coded Statements
coded_statements = record { code = code_statements; inj = inj_statements }

abbrev coded_branches : Coded Branches
coded_branches = record { code = code_branches; inj = inj_branches }

-- ---- tasks

abbrev OfExpression : Type 0
OfExpression = (Scope × Expression) ⊎ ((Scope × Operations) ⊎ ((Scope × Designator) ⊎ (Scope × (DataType × Selectors))))

abbrev coded_of_expression : Coded OfExpression
coded_of_expression =
    coded⊎ (coded× coded_scope coded_expression)
    (coded⊎ (coded× coded_scope coded_operations) (coded⊎ (coded× coded_scope coded_designator) (coded× coded_scope (coded× coded_type coded_selectors))))

abbrev OfStatement : Type 0
OfStatement = (Scope × List Actual) ⊎ ((Scope × Statement) ⊎ ((Scope × Statements) ⊎ (Scope × Branches)))

abbrev coded_of_statement : Coded OfStatement
coded_of_statement =
    coded⊎ (coded× coded_scope coded_actuals)
    (coded⊎ (coded× coded_scope coded_statement) (coded⊎ (coded× coded_scope coded_statements) (coded× coded_scope coded_branches)))

abbrev OnValue : Type 0
OnValue =
    (Scope × Expression)
    ⊎ ((Scope × Expression) ⊎ ((Scope × (Statements × Branches)) ⊎ ((Scope × (Expression × Statements)) ⊎ ((Scope × (Expression × Statements)) ⊎ (Scope × (Statements × Expression))))))

abbrev coded_on_value : Coded OnValue
coded_on_value =
    coded⊎ (coded× coded_scope coded_expression)
    (coded⊎ (coded× coded_scope coded_expression)
    (coded⊎ (coded× coded_scope (coded× coded_statements coded_branches))
    (coded⊎ (coded× coded_scope (coded× coded_expression coded_statements))
    (coded⊎ (coded× coded_scope (coded× coded_expression coded_statements)) (coded× coded_scope (coded× coded_statements coded_expression))))))

abbrev Other : Type 0
Other = Instr ⊎ ((ℕ × ℕ) ⊎ ℕ)

abbrev coded_other : Coded Other
coded_other = coded⊎ Instrs.the_row.coded (coded⊎ (coded× coded_ℕ coded_ℕ) coded_ℕ)

abbrev AnyTask : Type 0
AnyTask = OfExpression ⊎ (OfStatement ⊎ (OnValue ⊎ Other))

abbrev to_any : Task → AnyTask
to_any (Value own e) = inl (inl (own, e))
to_any (Operators own rest) = inl (inr (inl (own, rest)))
to_any (Address own d) = inl (inr (inr (inl (own, d))))
to_any (Selecting own t ss) = inl (inr (inr (inr (own, (t, ss)))))
to_any (Handing own actuals) = inr (inl (inl (own, actuals)))
to_any (Doing own s) = inr (inl (inr (inl (own, s))))
to_any (All own ss) = inr (inl (inr (inr (inl (own, ss)))))
to_any (Choosing own branches) = inr (inl (inr (inr (inr (own, branches)))))
to_any (AndThen own e) = inr (inr (inl (inl (own, e))))
to_any (OrElse own e) = inr (inr (inl (inr (inl (own, e)))))
to_any (Alternative own ss rest) = inr (inr (inl (inr (inr (inl (own, (ss, rest)))))))
to_any (Looping own e ss) = inr (inr (inl (inr (inr (inr (inl (own, (e, ss))))))))
to_any (Again own e ss) = inr (inr (inl (inr (inr (inr (inr (inl (own, (e, ss)))))))))
to_any (Until own ss e) = inr (inr (inl (inr (inr (inr (inr (inr (own, (ss, e)))))))))
to_any (Instruction i) = inr (inr (inr (inl i)))
to_any (Calling number parameters) = inr (inr (inr (inr (inl (number, parameters)))))
to_any Over = inr (inr (inr (inr (inr 0))))
to_any Taking = inr (inr (inr (inr (inr 1))))
to_any Leaving = inr (inr (inr (inr (inr 2))))

abbrev of_number : ℕ → Task
of_number zero = Over
of_number (suc zero) = Taking
of_number (suc (suc n)) = Leaving

abbrev from_any : AnyTask → Task
from_any (inl (inl p)) = Value p.0 p.1
from_any (inl (inr (inl p))) = Operators p.0 p.1
from_any (inl (inr (inr (inl p)))) = Address p.0 p.1
from_any (inl (inr (inr (inr p)))) = Selecting p.0 p.1.0 p.1.1
from_any (inr (inl (inl p))) = Handing p.0 p.1
from_any (inr (inl (inr (inl p)))) = Doing p.0 p.1
from_any (inr (inl (inr (inr (inl p))))) = All p.0 p.1
from_any (inr (inl (inr (inr (inr p))))) = Choosing p.0 p.1
from_any (inr (inr (inl (inl p)))) = AndThen p.0 p.1
from_any (inr (inr (inl (inr (inl p))))) = OrElse p.0 p.1
from_any (inr (inr (inl (inr (inr (inl p)))))) = Alternative p.0 p.1.0 p.1.1
from_any (inr (inr (inl (inr (inr (inr (inl p))))))) = Looping p.0 p.1.0 p.1.1
from_any (inr (inr (inl (inr (inr (inr (inr (inl p)))))))) = Again p.0 p.1.0 p.1.1
from_any (inr (inr (inl (inr (inr (inr (inr (inr p)))))))) = Until p.0 p.1.0 p.1.1
from_any (inr (inr (inr (inl i)))) = Instruction i
from_any (inr (inr (inr (inr (inl p))))) = Calling p.0 p.1
from_any (inr (inr (inr (inr (inr n))))) = of_number n

pub any_back : (t : Task) → from_any (to_any t) ≡ t
any_back (Value own e) = refl
any_back (Operators own rest) = refl
any_back (Address own d) = refl
any_back (Selecting own t ss) = refl
any_back (Handing own actuals) = refl
any_back (Doing own s) = refl
any_back (All own ss) = refl
any_back (Choosing own branches) = refl
any_back (AndThen own e) = refl
any_back (OrElse own e) = refl
any_back (Alternative own ss rest) = refl
any_back (Looping own e ss) = refl
any_back (Again own e ss) = refl
any_back (Until own ss e) = refl
any_back (Instruction i) = refl
any_back (Calling number parameters) = refl
any_back Over = refl
any_back Taking = refl
any_back Leaving = refl

abbrev pub coded_task : Coded Task
coded_task = code_by AnyTask (coded⊎ coded_of_expression (coded⊎ coded_of_statement (coded⊎ coded_on_value coded_other))) to_any from_any any_back
