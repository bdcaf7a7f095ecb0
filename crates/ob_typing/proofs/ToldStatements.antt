-- The verdict on a statement tells what it stands for, or the rule that it breaks first.
use Rattle.std.proofs.Common.{◌≡◌, refl, sym, subst, ℕ, Bool, true, false, List, [], ◌∷◌, length, Option, Some, None}
use Rattle.std.specs.Prelude.{nat_eq}
use Rattle.std.proofs.lemmas.Bool.{eqb-false, eqb-true}
use Rattle.ob_grammar.specs.Tree
use Rattle.ob_grammar.specs.Tree.{Expr, Selectors, Stmt, Stmts, Branches, Otherwise}
use Rattle.ob_interface.specs.declared.scalar.ScalarType.{ScalarType}
use Rattle.ob_interface.specs.declared.scalar.ScalarType.TheVariants.{Integer, Boolean}
use Rattle.ob_typing.specs.declared.rule.Rule.TheVariants.{TypesDiffer, BadActuals}
use Rattle.ob_typing.specs.Program
use Rattle.ob_typing.specs.Program.{DataType, Slot, Actual, Statement, Statements, Parameter, Designated}
use Rattle.ob_typing.specs.Arithmetic.{same_scalar_type}
use Rattle.ob_typing.specs.Scopes.{Environment, Meant, Nothing, AConstant, AType, AVariable, FarVariable, AProcedure, meant, type_meant, holds, same_type}
use Rattle.ob_typing.specs.Expressions
use Rattle.ob_typing.specs.Expressions.{InStatement, HasType, IsVariable, Selects}
use Rattle.ob_typing.specs.ExpressionFaults.{first_place, ExpressionFails, SelectorsFail}
use Rattle.ob_typing.specs.Statements as Typing
use Rattle.ob_typing.specs.Statements.{listed, bare, IsActual, Fits, IsStatement, AreStatements, AreBranches, IsBody}
use Rattle.ob_typing.specs.StatementFaults as Faults
use Rattle.ob_typing.specs.StatementFaults.{place_broken, procedure_broken, DesignatorFails, ActualFails, ActualsFail, StatementFails, StatementsFail, BranchesFail}
use Rattle.ob_typing.specs.DeclarationFaults as DeclarationFaults
use Rattle.ob_typing.specs.DeclarationFaults.{BodyFails}
use Rattle.ob_typing.specs.Verdict.{Verdict, Right, Wrong, Foreign, ◌>>=◌, need}
use Rattle.ob_typing.proofs.Told.{Told, step, step_need, step_test, step_unless}
use Rattle.ob_typing.specs.ExpressionVerdicts.{Path, expression, selecting}
use Rattle.ob_typing.specs.StatementVerdicts.{Designation, slot_meant, procedure_meant, designated, value_actual, place_actual, actual, actuals, statement, statements, branches, otherwise, body_checked}
use Rattle.ob_typing.proofs.ToldExpressions.{the_some, is_boolean, no_boolean, IsTyped, Leads, expression_told, selectors_told}

module _ (env : Environment) where
  abbrev IsDesignated : Tree.Name → Selectors → Designation → Type 0
  IsDesignated name selectors d = IsVariable env name selectors d.type d.variable

  slot_told : (name : Tree.Name) (selectors : Selectors) (m : Meant) (s : DataType) (path : Path) → meant env name.text ≡ m → type_meant m ≡ Some s →
      Leads env InStatement s selectors path →
      Told (IsDesignated name selectors) (DesignatorFails env name selectors) (◌>>=◌ (need (slot_meant m)) (λ slot. Right (record { type = path.type; variable = Designated slot path.selectors })))
  slot_told name selectors (AVariable slot t) s path h is leads =
      Expressions.of_slot h (subst (λ r. Selects env r selectors path.type path.selectors) (sym (the_some is)) (leads.selects refl))
  slot_told name selectors Nothing s path h is leads = tt
  slot_told name selectors (AConstant v) s path h is leads = tt
  slot_told name selectors (AType t) s path h is leads = tt
  slot_told name selectors FarVariable s path h is leads = tt
  slot_told name selectors (AProcedure n ps) s path h is leads = tt

  pub designator_told : (name : Tree.Name) (selectors : Selectors) →
      Told (IsDesignated name selectors) (DesignatorFails env name selectors) (designated env name selectors)
  designator_told name selectors =
      let R = IsDesignated name selectors in
      let W = DesignatorFails env name selectors in
      step_unless R W (place_broken (meant env name.text)) name.place _
      (λ ok. step_need R W (type_meant (meant env name.text)) _ (λ s is.
      step R W (Leads env InStatement s selectors) (SelectorsFail env InStatement s selectors) (selecting env selectors InStatement s) _ (selectors_told env selectors InStatement s)
      (λ path leads. slot_told name selectors (meant env name.text) s path refl is leads)
      (λ f k. Faults.selectors ok is k)))
      (λ rule bad. Faults.name bad)

  place_told : (p : Parameter) (e : Expr) (b : Option (Tree.Name × Selectors)) → p.is_var ≡ true → bare env e ≡ b →
      Told (IsActual env p e) (ActualFails env p e) (place_actual env p e b)
  place_told p e (Some (name, selectors)) m b =
      let R = IsActual env p e in
      let W = ActualFails env p e in
      step R W (IsDesignated name selectors) (DesignatorFails env name selectors) (designated env name selectors) _ (designator_told name selectors)
      (λ d h. step_test R W (same_type d.type p.type) TypesDiffer (first_place e) _
      (λ same. Typing.place m b h same) (λ same. Faults.place_type m b h same))
      (λ f h. Faults.place m b h)
  place_told p e None m b =
      let R = IsActual env p e in
      let W = ActualFails env p e in
      step R W (IsTyped env InStatement e) (ExpressionFails env InStatement e) (expression env e InStatement) _ (expression_told env e InStatement)
      (λ x h. step_test R W (holds p.type x.type) TypesDiffer (first_place e) _
      (λ same. Faults.no_variable m b h same) (λ same. Faults.not_bare_type m b h same))
      (λ f h. Faults.not_bare m b h)

  value_told : (p : Parameter) (e : Expr) → p.is_var ≡ false → Told (IsActual env p e) (ActualFails env p e) (value_actual env p e)
  value_told p e m =
      let R = IsActual env p e in
      let W = ActualFails env p e in
      step R W (IsTyped env InStatement e) (ExpressionFails env InStatement e) (expression env e InStatement) _ (expression_told env e InStatement)
      (λ x h. step_test R W (holds p.type x.type) TypesDiffer (first_place e) _
      (λ same. Typing.value m h same) (λ same. Faults.value_type m h same))
      (λ f h. Faults.value m h)

  by_mode : (p : Parameter) (e : Expr) (b : Bool) → p.is_var ≡ b →
      Told (IsActual env p e) (ActualFails env p e) (Rattle.std.specs.Prelude.if◌then◌else◌ b (place_actual env p e (bare env e)) (value_actual env p e))
  by_mode p e true m = place_told p e (bare env e) m refl
  by_mode p e false m = value_told p e m

  actuals_told : (ps : List Parameter) (es : List Expr) → Told (Fits env ps es) (ActualsFail env ps es) (actuals env ps es)
  actuals_told [] [] = Typing.none
  actuals_told [] (e ∷ es) = tt
  actuals_told (p ∷ ps) [] = tt
  actuals_told (p ∷ ps) (e ∷ es) =
      let R = Fits env (p ∷ ps) (e ∷ es) in
      let W = ActualsFail env (p ∷ ps) (e ∷ es) in
      step R W (IsActual env p e) (ActualFails env p e) (actual env p e) _ (by_mode p e p.is_var refl)
      (λ c h. step R W (Fits env ps es) (ActualsFail env ps es) (actuals env ps es) _ (actuals_told ps es)
      (λ cs k. Typing.more h k) (λ f k. Faults.others h k))
      (λ f h. Faults.first h)

  the_procedure : (name : Tree.Name) (m : Meant) (p : ℕ × List Parameter) → meant env name.text ≡ m → procedure_meant m ≡ Some p → meant env name.text ≡ AProcedure p.0 p.1
  the_procedure name (AProcedure n ps) p h is = subst (λ q. meant env name.text ≡ AProcedure q.0 q.1) (the_some is) h
  the_procedure name Nothing p h is = absurd cc
  the_procedure name (AConstant v) p h is = absurd cc
  the_procedure name (AType t) p h is = absurd cc
  the_procedure name (AVariable slot t) p h is = absurd cc
  the_procedure name FarVariable p h is = absurd cc

  call_told : (name : Tree.Name) (es : Option (List Expr)) → Told (IsStatement env (Tree.Call name es)) (StatementFails env (Tree.Call name es)) (statement env (Tree.Call name es))
  call_told name es =
      let R = IsStatement env (Tree.Call name es) in
      let W = StatementFails env (Tree.Call name es) in
      step_unless R W (procedure_broken (meant env name.text)) name.place _
      (λ ok. step_need R W (procedure_meant (meant env name.text)) _ (λ p is.
      step_test R W (nat_eq (length (listed es)) (length p.1)) BadActuals name.place _
      (λ count. step R W (Fits env p.1 (listed es)) (ActualsFail env p.1 (listed es)) (actuals env p.1 (listed es)) _ (actuals_told p.1 (listed es))
      (λ cs h. Typing.call (the_procedure name _ p refl is) (eqb-true _ _ count) h)
      (λ f h. Faults.actuals (the_procedure name _ p refl is) (eqb-true _ _ count) h))
      (λ count. Faults.count (the_procedure name _ p refl is) (eqb-false _ _ count))))
      (λ rule bad. Faults.procedure bad)

  -- an empty statement leaves nothing, and another one is told first
  sequence_told : (s : Stmt) (rest : Stmts) (v : Verdict Statement) →
      Told (IsStatement env s) (StatementFails env s) v → Told (AreStatements env rest) (StatementsFail env rest) (statements env rest) →
      Told (AreStatements env (Tree.stmt s rest)) (StatementsFail env (Tree.stmt s rest)) (◌>>=◌ v (λ c. ◌>>=◌ (statements env rest) (λ cs. Right (Program.statement c cs))))
  sequence_told s rest v h k =
      let R = AreStatements env (Tree.stmt s rest) in
      let W = StatementsFail env (Tree.stmt s rest) in
      step R W (IsStatement env s) (StatementFails env s) v _ h
      (λ c typed. step R W (AreStatements env rest) (StatementsFail env rest) (statements env rest) _ k
      (λ cs others. Typing.more typed others) (λ f others. Faults.other_statements typed others))
      (λ f fails. Faults.first_statement fails)

  behind_told : (rest : Stmts) (v : Verdict Statements) → Told (AreStatements env rest) (StatementsFail env rest) v →
      Told (AreStatements env (Tree.stmt Tree.Empty rest)) (StatementsFail env (Tree.stmt Tree.Empty rest)) v
  behind_told rest (Right ss) h = Typing.empty h
  behind_told rest (Wrong f) h = Faults.behind_empty h
  behind_told rest Foreign h = tt

  boolean_condition : {e : Expr} {t : ScalarType} {c : _} {v : _} → same_scalar_type t Boolean ≡ true → HasType env InStatement e t c v → HasType env InStatement e Boolean c v
  boolean_condition {e = e} {c = c} {v = v} b h = subst (λ t. HasType env InStatement e t c v) (is_boolean _ b) h

  integer_condition : {e : Expr} {t : ScalarType} {c : _} {v : _} → same_scalar_type t Boolean ≡ false → HasType env InStatement e t c v → HasType env InStatement e Integer c v
  integer_condition {e = e} {c = c} {v = v} b h = subst (λ t. HasType env InStatement e t c v) (no_boolean _ b) h

  mutual
    pub statement_told : (s : Stmt) → Told (IsStatement env s) (StatementFails env s) (statement env s)
    statement_told Tree.Empty = tt
    statement_told (Tree.Assign name selectors e) =
        let R = IsStatement env (Tree.Assign name selectors e) in
        let W = StatementFails env (Tree.Assign name selectors e) in
        step R W (IsDesignated name selectors) (DesignatorFails env name selectors) (designated env name selectors) _ (designator_told name selectors)
        (λ d h. step R W (IsTyped env InStatement e) (ExpressionFails env InStatement e) (expression env e InStatement) _ (expression_told env e InStatement)
        (λ x k. step_test R W (holds d.type x.type) TypesDiffer (first_place e) _
        (λ same. Typing.assign h k same) (λ same. Faults.assign h k same))
        (λ f k. Faults.assigned h k))
        (λ f h. Faults.target h)
    statement_told (Tree.Call name es) = call_told name es
    statement_told (Tree.If place bs o) =
        let R = IsStatement env (Tree.If place bs o) in
        let W = StatementFails env (Tree.If place bs o) in
        step R W (AreBranches env bs o) (BranchesFail env bs o) (branches env bs (otherwise env o)) _ (branches_told bs o (otherwise_told o))
        (λ cs h. Typing.if' h) (λ f h. Faults.branches h)
    statement_told (Tree.While place e body) =
        let R = IsStatement env (Tree.While place e body) in
        let W = StatementFails env (Tree.While place e body) in
        step R W (IsTyped env InStatement e) (ExpressionFails env InStatement e) (expression env e InStatement) _ (expression_told env e InStatement)
        (λ x h. step_test R W (same_scalar_type x.type Boolean) TypesDiffer (first_place e) _
        (λ b. step R W (AreStatements env body) (StatementsFail env body) (statements env body) _ (statements_told body)
        (λ ss k. Typing.while (boolean_condition b h) k) (λ f k. Faults.body (boolean_condition b h) k))
        (λ b. Faults.condition (integer_condition b h)))
        (λ f h. Faults.within_condition h)
    statement_told (Tree.Repeat place body e) =
        let R = IsStatement env (Tree.Repeat place body e) in
        let W = StatementFails env (Tree.Repeat place body e) in
        step R W (AreStatements env body) (StatementsFail env body) (statements env body) _ (statements_told body)
        (λ ss h. step R W (IsTyped env InStatement e) (ExpressionFails env InStatement e) (expression env e InStatement) _ (expression_told env e InStatement)
        (λ x k. step_test R W (same_scalar_type x.type Boolean) TypesDiffer (first_place e) _
        (λ b. Typing.repeat h (boolean_condition b k)) (λ b. Faults.until h (integer_condition b k)))
        (λ f k. Faults.within_until h k))
        (λ f h. Faults.repeated h)

    pub statements_told : (ss : Stmts) → Told (AreStatements env ss) (StatementsFail env ss) (statements env ss)
    statements_told Tree.no_stmt = Typing.no_statement
    statements_told (Tree.stmt Tree.Empty rest) = behind_told rest (statements env rest) (statements_told rest)
    statements_told (Tree.stmt (Tree.Assign name selectors e) rest) =
        sequence_told (Tree.Assign name selectors e) rest (statement env (Tree.Assign name selectors e)) (statement_told (Tree.Assign name selectors e)) (statements_told rest)
    statements_told (Tree.stmt (Tree.Call name es) rest) =
        sequence_told (Tree.Call name es) rest (statement env (Tree.Call name es)) (statement_told (Tree.Call name es)) (statements_told rest)
    statements_told (Tree.stmt (Tree.If place bs o) rest) =
        sequence_told (Tree.If place bs o) rest (statement env (Tree.If place bs o)) (statement_told (Tree.If place bs o)) (statements_told rest)
    statements_told (Tree.stmt (Tree.While place e body) rest) =
        sequence_told (Tree.While place e body) rest (statement env (Tree.While place e body)) (statement_told (Tree.While place e body)) (statements_told rest)
    statements_told (Tree.stmt (Tree.Repeat place body e) rest) =
        sequence_told (Tree.Repeat place body e) rest (statement env (Tree.Repeat place body e)) (statement_told (Tree.Repeat place body e)) (statements_told rest)

    pub branches_told : (bs : Branches) (o : Otherwise) → Told (AreBranches env Tree.no_branch o) (BranchesFail env Tree.no_branch o) (otherwise env o) →
        Told (AreBranches env bs o) (BranchesFail env bs o) (branches env bs (otherwise env o))
    branches_told Tree.no_branch o last = last
    branches_told (Tree.branch e body rest) o last =
        let R = AreBranches env (Tree.branch e body rest) o in
        let W = BranchesFail env (Tree.branch e body rest) o in
        step R W (IsTyped env InStatement e) (ExpressionFails env InStatement e) (expression env e InStatement) _ (expression_told env e InStatement)
        (λ x h. step_test R W (same_scalar_type x.type Boolean) TypesDiffer (first_place e) _
        (λ b. step R W (AreStatements env body) (StatementsFail env body) (statements env body) _ (statements_told body)
        (λ ss k. step R W (AreBranches env rest o) (BranchesFail env rest o) (branches env rest (otherwise env o)) _ (branches_told rest o last)
        (λ cs l. Typing.branch (boolean_condition b h) k l) (λ f l. Faults.other_branches (boolean_condition b h) k l))
        (λ f k. Faults.branch_body (boolean_condition b h) k))
        (λ b. Faults.branch_condition (integer_condition b h)))
        (λ f h. Faults.within_branch_condition h)

    pub otherwise_told : (o : Otherwise) → Told (AreBranches env Tree.no_branch o) (BranchesFail env Tree.no_branch o) (otherwise env o)
    otherwise_told Tree.no_else = Typing.no_else
    otherwise_told (Tree.else' body) =
        step (AreBranches env Tree.no_branch (Tree.else' body)) (BranchesFail env Tree.no_branch (Tree.else' body))
        (AreStatements env body) (StatementsFail env body) (statements env body) _ (statements_told body)
        (λ ss h. Typing.otherwise h) (λ f h. Faults.within_else h)

  some_told : (body : Stmts) (v : Verdict Statements) → Told (AreStatements env body) (StatementsFail env body) v → Told (IsBody env (Some body)) (BodyFails env (Some body)) v
  some_told body (Right ss) h = Typing.some h
  some_told body (Wrong f) h = DeclarationFaults.some h
  some_told body Foreign h = tt

  pub body_told : (body : Option Stmts) → Told (IsBody env body) (BodyFails env body) (body_checked env body)
  body_told None = Typing.none
  body_told (Some body) = some_told body (statements env body) (statements_told body)
