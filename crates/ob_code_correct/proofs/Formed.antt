-- From resolved names and plain expressions to what the compiler's theorem asks of expressions and statements.
use Rattle.std.proofs.Common.{◌≡◌, ℕ, zero, suc, Bool, true, false, List, [], ◌∷◌, Option, refl, sym, ap, ◌∙◌, subst}
use Rattle.ob_interface.specs.declared.scalar.Scalar.{Scalar}
use Rattle.ob_interface.specs.declared.scalar.Scalar.TheVariants.{Int, Bool as Truth}
use Rattle.ob_interface.specs.declared.scalar.ScalarType.{ScalarType}
use Rattle.ob_interface.specs.declared.scalar.ScalarType.TheVariants.{Integer, Boolean}
use Rattle.ob_typing.specs.Program.{Name, DataType, Simple, Array, Record, Fields, no_field, field, Owner, OfModule, Own, Expression, Literal, ValueOf, Negated, Complement, Computed, Compared, Operations, no_operation, operation, Designator, Designated, Selectors, no_selector, field_of, element_of, Actual, ByValue, ByPlace, Statement, Assign, Call, If, While, Repeat, Statements, no_statement, statement, Branches, no_branch, otherwise, branch, Parameter, Procedure}
use Rattle.ob_typing.specs.Arithmetic.{type_of}
use Rattle.ob_meaning.specs.Resolved as Resolved
use Rattle.ob_meaning.specs.Resolved.{declared_by, IsAt, IsFieldAt}
use Rattle.ob_code_scheme.specs.Types.{field_type, part_type, Scope, type_of_space, type_at, scope_of, parameter_space, parameters_scope, IsScalarOf, HasField}
use Rattle.ob_code_scheme.specs.WellFormed as Formed
use Rattle.ob_code_scheme.specs.WellFormed.{HasPosition, HasFieldAt, HasLength}
use Rattle.ob_code_correct.proofs.Plain.{IsPlain, ArePlain, IsPlainDesignator, ArePlainSelectors, IsPlainActual, ArePlainActuals, IsPlainStatement, ArePlainStatements, ArePlainBranches}

-- ---- positions, fields and elements

space_type : (is_var : Bool) (name : Name) (type : DataType) → type_of_space (parameter_space (record { name = name; is_var = is_var; type = type })) ≡ type
space_type true name type = refl
space_type false name type = refl

-- a declared name stands at its position, with its type
at_position : (ps : List Parameter) (name : Name) (i : ℕ) (p : Parameter) → IsAt ps name i p → HasPosition (parameters_scope ps) i × (type_at (parameters_scope ps) i ≡ p.type)
at_position [] name i p h = absurd h
at_position (q ∷ ps) name zero p h = (tt, space_type q.is_var q.name q.type ∙ ap (λ (r : Parameter). r.type) h.1)
at_position (q ∷ ps) name (suc i) p h = at_position ps name i p h.1

at_owner : (outer own : List Parameter) (owner : Owner) (name : Name) (i : ℕ) (p : Parameter) → IsAt (declared_by outer own owner) name i p →
    HasPosition (scope_of (parameters_scope outer) (parameters_scope own) owner) i × (type_at (scope_of (parameters_scope outer) (parameters_scope own) owner) i ≡ p.type)
at_owner outer own OfModule name i p h = at_position outer name i p h
at_owner outer own Own name i p h = at_position own name i p h

field_there : (fields : Fields) (name : Name) (i : ℕ) (t : DataType) → IsFieldAt fields name i t → HasField fields i × (field_type fields i ≡ t)
field_there no_field name i t h = absurd h
field_there (field other type rest) name zero t h = (tt, h.1)
field_there (field other type rest) name (suc i) t h = field_there rest name i t h.1

field_part : (from : DataType) (name : Name) (i : ℕ) (t : DataType) → Resolved.HasField from name i t → HasFieldAt from i × (part_type from i ≡ t)
field_part (Simple type) name i t h = absurd h
field_part (Array place length element) name i t h = absurd h
field_part (Record place fields) name i t h = field_there fields name i t h

element_part : (from : DataType) (n : ℕ) (t : DataType) → Resolved.HasElements from n t → HasLength from n × (part_type from 0 ≡ t)
element_part (Simple type) n t h = absurd h
element_part (Array place length element) n t h = h
element_part (Record place fields) n t h = absurd h

type_is : (t : ScalarType) (s : Scalar) → IsScalarOf t s → type_of s ≡ t
type_is Integer (Int z) h = refl
type_is Integer (Truth b) h = absurd h
type_is Boolean (Int z) h = absurd h
type_is Boolean (Truth b) h = refl

simple_is : (s t : ScalarType) → Simple s ≡ Simple t → s ≡ t
simple_is s t e = cc

module _ (outer own : List Parameter) where
  abbrev globals : Scope
  globals = parameters_scope outer

  abbrev locals : Scope
  locals = parameters_scope own

  mutual
    -- the two types are one, since an expression has one
    formed : (e : Expression) (t r : ScalarType) → IsPlain e t → Resolved.IsOf outer own e r → (t ≡ r) × Formed.IsOf globals locals e t
    formed (Literal s) t r p h = (sym (type_is t s p) ∙ h, p)
    formed (ValueOf type d) t r p h =
        (sym p.0 ∙ h.0, designates d (Simple t) p.1 (subst (λ (u : ScalarType). Resolved.IsVariable outer own d (Simple u)) (sym h.0 ∙ p.0) h.1))
    formed (Negated e) t r p h = (p.0 ∙ sym h.0, subst (λ (u : ScalarType). Formed.IsOf globals locals (Negated e) u) (sym p.0) (formed e Integer Integer p.1 h.1).1)
    formed (Complement e) t r p h = (p.0 ∙ sym h.0, subst (λ (u : ScalarType). Formed.IsOf globals locals (Complement e) u) (sym p.0) (formed e Boolean Boolean p.1 h.1).1)
    formed (Computed first rest) t r p h =
        let x = formed first t r p.0 h.0 in
        (x.0, (x.1, behind rest t r p.1 h.1))
    formed (Compared relation left right) t r p h =
        let s = p.1.0 in
        let x = formed left s h.1.0 p.1.2 h.1.1.0 in
        let y = formed right s h.1.0 p.1.3 h.1.1.1 in
        (p.0 ∙ sym h.0, subst (λ (u : ScalarType). Formed.IsOf globals locals (Compared relation left right) u) (sym p.0) (s, p.1.1, x.1, y.1))

    behind : (operations : Operations) (t r : ScalarType) → ArePlain operations t → Resolved.AreOf outer own operations r → Formed.AreOf globals locals operations t
    behind no_operation t r p h = tt
    behind (operation o e rest) t r p h = (p.0, (formed e t r p.1 h.1.0).1, behind rest t r p.2 h.1.1)

    designates : (d : Designator) (t : DataType) → IsPlainDesignator d → Resolved.IsVariable outer own d t → Formed.Designates globals locals d t
    designates (Designated slot selectors) t p h =
        let at = at_owner outer own slot.owner slot.name slot.position h.0 h.1.0 in
        (at.0, selects selectors (type_at (scope_of globals locals slot.owner) slot.position) t p (subst (λ (s : DataType). Resolved.Lead outer own s selectors t) (sym at.1) h.1.1))

    selects : (selectors : Selectors) (from to : DataType) → ArePlainSelectors selectors → Resolved.Lead outer own from selectors to → Formed.Selects globals locals from selectors to
    selects no_selector from to p h = h
    selects (field_of position name rest) from to p h =
        let part = field_part from name position h.0 h.1.0 in
        (part.0, selects rest (part_type from position) to p (subst (λ (s : DataType). Resolved.Lead outer own s rest to) (sym part.1) h.1.1))
    selects (element_of length index rest) from to p h =
        let part = element_part from length h.0 h.1.0 in (
          part.0,
          (formed index Integer Integer p.0 h.1.1.0).1,
          selects rest (part_type from 0) to p.1 (subst (λ (s : DataType). Resolved.Lead outer own s rest to) (sym part.1) h.1.1.1),
        )

  -- ---- actuals

  actual_one : (name : Name) (is_var : Bool) (type : DataType) (a : Actual) → IsPlainActual a → Resolved.IsActual outer own (record { name = name; is_var = is_var; type = type }) a →
      Formed.IsActual globals locals a (parameter_space (record { name = name; is_var = is_var; type = type }))
  actual_one name true type (ByValue e) p h = let clash = h.0 in absurd (cc)
  actual_one name true type (ByPlace d) p h = designates d type p h.1
  actual_one name false type (ByPlace d) p h = let clash = h.0 in absurd (cc)
  actual_one name false type (ByValue e) p h =
      let x = formed e p.0 h.1.0 p.1 h.1.1.1 in
      subst (λ (s : DataType). Formed.IsActual globals locals (ByValue e) (parameter_space (record { name = name; is_var = false; type = s }))) (ap Simple x.0 ∙ sym h.1.1.0) x.1

  actuals : (ps : List Parameter) (given : List Actual) → ArePlainActuals given → Resolved.Fit outer own ps given → Formed.AreActuals globals locals given (parameters_scope ps)
  actuals [] [] p h = tt
  actuals [] (a ∷ given) p h = absurd h
  actuals (q ∷ ps) [] p h = absurd h
  actuals (q ∷ ps) (a ∷ given) p h = (actual_one q.name q.is_var q.type a p.0 h.0, actuals ps given p.1 h.1)

  -- ---- statements

  module _ (procedures : List Procedure) (bound : ℕ) where
    mutual
      one_statement : (s : Statement) → IsPlainStatement bound s → Resolved.IsGood outer own procedures s → Formed.IsFine globals locals procedures s
      one_statement (Assign target e) p h =
          let x = formed e p.1.0 h.0 p.1.1 h.1.1 in
          (p.1.0, designates target (Simple p.1.0) p.0 (subst (λ (t : ScalarType). Resolved.IsVariable outer own target (Simple t)) (sym x.0) h.1.0), x.1)
      one_statement (Call number given) p h =
          subst (λ (o : Option Procedure). Formed.AreActualsOf globals locals given o) (sym h.1.0) (actuals h.0.parameters given p.0 h.1.1)
      one_statement (If branches) p h = all_branches branches p h
      one_statement (While condition body) p h = ((formed condition Boolean Boolean p.0 h.0).1, statements body p.2 h.1)
      one_statement (Repeat body condition) p h = (statements body p.0 h.0, (formed condition Boolean Boolean p.1 h.1).1)

      pub statements : (ss : Statements) → ArePlainStatements bound ss → Resolved.AreGood outer own procedures ss → Formed.AreFine globals locals procedures ss
      statements no_statement p h = tt
      statements (statement first rest) p h = (one_statement first p.0 h.0, statements rest p.1 h.1)

      all_branches : (bs : Branches) → ArePlainBranches bound bs → Resolved.AreGoodBranches outer own procedures bs → Formed.AreFineBranches globals locals procedures bs
      all_branches no_branch p h = tt
      all_branches (otherwise ss) p h = statements ss p h
      all_branches (branch condition ss rest) p h =
          ((formed condition Boolean Boolean p.0 h.0).1, statements ss p.2 h.1.0, all_branches rest p.3 h.1.1)
