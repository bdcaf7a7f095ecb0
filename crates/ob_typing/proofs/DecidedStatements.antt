-- The types and the statements of a text have a verdict.
use Rattle.std.proofs.Common.{◌≡◌, refl, ℕ, arith, true, false, List, [], ◌∷◌, length, Option, Some, None, is_some}
use Rattle.std.specs.Prelude.{nat_eq, if◌then◌else◌}
use Rattle.std.specs.Prelude as Prelude
use Rattle.std.proofs.lemmas.Bool.{eqb-true}
use Rattle.ob_grammar.specs.Tree
use Rattle.ob_grammar.specs.Tree.{Expr, Selectors, TypeExpr, FieldLists, OneFieldList, Stmt, Stmts, Branches, Otherwise}
use Rattle.ob_grammar.specs.Grammar as Grammar
use Rattle.ob_grammar.specs.Grammar.{Lexemes, Expression, SimpleExpression, Term, Factor, Selector, IsType, FieldList, FieldListSequence, MoreFields, ActualParameters, Separated, Perhaps, Statement, StatementSequence, MoreStatements, Alternative, MoreAlternatives, ElsePart}
use Rattle.ob_scan.specs.declared.token.Kind.{Kind}
use Rattle.ob_interface.specs.declared.scalar.Scalar.{Scalar}
use Rattle.ob_interface.specs.declared.scalar.Scalar.TheVariants.{Int, Bool}
use Rattle.ob_interface.specs.declared.scalar.ScalarType.TheVariants.{Boolean}
use Rattle.ob_typing.specs.declared.rule.Rule.TheVariants.{DeclaredTwice, TypesDiffer, BadLength, PassesLimit, BadActuals}
use Rattle.ob_typing.specs.Program as Programs
use Rattle.ob_typing.specs.Program.{DataType, Parameter}
use Rattle.ob_typing.specs.Arithmetic.{same_scalar_type}
use Rattle.ob_typing.specs.Scopes.{Environment, Meant, Nothing, AConstant, AType, AVariable, FarVariable, AProcedure, meant, type_meant, is_small, holds, same_type}
use Rattle.ob_typing.specs.Expressions.{InStatement, InConstant}
use Rattle.ob_typing.specs.ExpressionFaults.{first_place}
use Rattle.ob_typing.specs.Types.{Taken, none_taken, and_all_taken, second, array_length}
use Rattle.ob_typing.specs.TypeFaults.{type_broken}
use Rattle.ob_typing.specs.Statements.{listed, bare, unless_constant}
use Rattle.ob_typing.specs.StatementFaults.{place_broken, procedure_broken}
use Rattle.ob_typing.specs.Verdict.{Verdict, Right, ◌>>=◌, need, test}
use Rattle.ob_typing.specs.ExpressionVerdicts.{Typed, expression, selecting}
use Rattle.ob_typing.specs.TypeVerdicts.{type_named, number_at, constant, denoted, denoted_fields, formal}
use Rattle.ob_typing.specs.StatementVerdicts.{Designation, slot_meant, procedure_meant, is_empty, designated, value_actual, place_actual, actual, actuals, statement, statements, branches, otherwise, body_checked}
use Rattle.ob_typing.proofs.Decided.{Has, Any, has_step, has_or_wrong, has_test, has_unless, has_unless_name, KnownIn}
use Rattle.ob_typing.proofs.DecidedExpressions.{IsDecided, SelectorsDecided, expression_decided, selector_decided}

module _ (env : Environment) where
  known_value : (x : Typed) → is_some x.value ≡ true → Has Any (need x.value)
  known_value x h = by x.value h
    where
      by : (v : Option Scalar) → is_some v ≡ true → Has Any (need v)
      by (Some s) h = tt
      by None h = absurd cc

  pub constant_decided : (e : Expr) → IsDecided env e → Has Any (constant env e)
  constant_decided e h = has_step Any (λ x. KnownIn InConstant x.value) (expression env e InConstant) _ (h InConstant) known_value

  -- types

  abbrev pub TypeDecided : TypeExpr → Type 0
  TypeDecided e = Has Any (denoted env e)

  abbrev FieldsDecided : FieldLists → Type 0
  FieldsDecided lists = (taken : Taken) → Has Any (denoted_fields env lists taken)

  named_type_has : (name : Tree.Name) → TypeDecided (Tree.NamedType name)
  named_type_has name = has_unless Any (type_broken (meant env name.text)) name.place _ (by (meant env name.text))
    where
      by : (m : Meant) → type_broken m ≡ None → Has Any (need (type_named m))
      by (AType t) h = tt
      by Nothing h = absurd cc
      by (AConstant v) h = absurd cc
      by (AVariable slot t) h = absurd cc
      by FarVariable h = absurd cc
      by (AProcedure n ps) h = absurd cc

  number_has : (place : ℕ) (s : Scalar) → Has Any (number_at place s)
  number_has place (Int z) = tt
  number_has place (Bool b) = tt

  array_has : (place : ℕ) (e : Expr) (t : TypeExpr) → IsDecided env e → TypeDecided t → TypeDecided (Tree.Array place e t)
  array_has place e t h k =
      has_step Any Any (constant env e) _ (constant_decided e h)
      (λ s l. has_step Any Any (number_at (first_place e) s) _ (number_has (first_place e) s)
      (λ z m. has_or_wrong Any (array_length z) BadLength (first_place e) _
      (λ n is. has_step Any Any (denoted env t) _ k
      (λ element d. has_test Any (is_small (Programs.Array place n element)) PassesLimit place _ (λ small. tt)))))

  record_has : (place : ℕ) (lists : FieldLists) → FieldsDecided lists → TypeDecided (Tree.Record place lists)
  record_has place lists h =
      has_step Any Any (denoted_fields env lists none_taken) _ (h none_taken)
      (λ fields k. has_test Any (is_small (Programs.Record place fields)) PassesLimit place _ (λ small. tt))

  fields_has : (names : List Tree.Name) (e : TypeExpr) (rest : FieldLists) → TypeDecided e → FieldsDecided rest → FieldsDecided (Tree.fields names e rest)
  fields_has names e rest h k taken =
      has_unless_name Any (second taken names) DeclaredTwice _
      (has_step Any Any (denoted env e) _ h
      (λ t l. has_step Any Any (denoted_fields env rest (and_all_taken taken names)) _ (k (and_all_taken taken names)) (λ fields m. tt)))

  mutual
    pub type_decided : {a b : Lexemes} {e : TypeExpr} → IsType a e b → TypeDecided e
    type_decided (Grammar.named_type {name = name} h) = named_type_has name
    type_decided (Grammar.array {place = place} {length = e} {element = t} w h o k) = array_has place e t (expression_decided env h) (type_decided k)
    type_decided (Grammar.record' {place = place} {lists = lists} w h e) = record_has place lists (sequence_decided h)

    list_decided : {a b : Lexemes} {names : List Tree.Name} {e : TypeExpr} → FieldList a (OneFieldList.fields names e) b → TypeDecided e
    list_decided (Grammar.fields n c h) = type_decided h

    sequence_decided : {a b : Lexemes} {lists : FieldLists} → FieldListSequence a lists b → FieldsDecided lists
    sequence_decided (Grammar.first_empty h k) = more_decided k
    sequence_decided (Grammar.first_fields {names = names} {of_type = e} {rest = rest} h k) = fields_has names e rest (list_decided h) (more_decided k)

    more_decided : {a b : Lexemes} {lists : FieldLists} → MoreFields a lists b → FieldsDecided lists
    more_decided Grammar.no_more_fields = λ taken. tt
    more_decided (Grammar.more_fields s h) = sequence_decided h

  pub formal_decided : {a b : Lexemes} {e : TypeExpr} → IsType a e b → Has Any (formal env e)
  formal_decided (Grammar.named_type {name = name} h) = named_type_has name
  formal_decided (Grammar.array {place = place} {length = e} {element = t} w h o k) =
      has_step Any Any (constant env e) _ (constant_decided e (expression_decided env h))
      (λ s l. has_step Any Any (number_at (first_place e) s) _ (number_has (first_place e) s)
      (λ z m. has_or_wrong Any (array_length z) BadLength (first_place e) _
      (λ n is. has_step Any Any (denoted env t) _ (type_decided k) (λ element d. tt))))
  formal_decided (Grammar.record' {lists = lists} w h e) =
      has_step Any Any (denoted_fields env lists none_taken) _ (sequence_decided h none_taken) (λ fields k. tt)

  -- statements

  designated_has : (name : Tree.Name) (selectors : Selectors) → SelectorsDecided env selectors → Has Any (designated env name selectors)
  designated_has name selectors h = has_unless Any (place_broken (meant env name.text)) name.place _ (by (meant env name.text))
    where
      by : (m : Meant) → place_broken m ≡ None →
          Has {A = Designation} Any (◌>>=◌ (need (type_meant m)) (λ s. ◌>>=◌ (selecting env selectors InStatement s) (λ path.
          ◌>>=◌ (need (slot_meant m)) (λ slot. Right (record { type = path.type; variable = Programs.Designated slot path.selectors })))))
      by (AVariable slot t) ok = has_step Any Any (selecting env selectors InStatement t) _ (h InStatement t) (λ path k. tt)
      by Nothing ok = absurd cc
      by (AConstant v) ok = absurd cc
      by (AType t) ok = absurd cc
      by FarVariable ok = absurd cc
      by (AProcedure n ps) ok = absurd cc

  -- the selectors of a bare name
  abbrev Bare : Expr → Type 0
  Bare (Tree.Named name selectors) = SelectorsDecided env selectors
  Bare e = Unit {0}

  record ActualDecided (e : Expr) : Type 0 where
    decided : IsDecided env e
    selects : Bare e

  value_has : (p : Parameter) (e : Expr) → IsDecided env e → Has Any (value_actual env p e)
  value_has p e h =
      has_step Any (λ x. KnownIn InStatement x.value) (expression env e InStatement) _ (h InStatement)
      (λ x k. has_test Any (holds p.type x.type) TypesDiffer (first_place e) _ (λ same. tt))

  no_bare_has : (p : Parameter) (e : Expr) → IsDecided env e → Has Any (place_actual env p e None)
  no_bare_has p e h =
      has_step Any (λ x. KnownIn InStatement x.value) (expression env e InStatement) _ (h InStatement)
      (λ x k. has_test Any (holds p.type x.type) TypesDiffer (first_place e) _ (λ same. tt))

  bare_has : (p : Parameter) (e : Expr) (name : Tree.Name) (selectors : Selectors) → SelectorsDecided env selectors → Has Any (place_actual env p e (Some (name, selectors)))
  bare_has p e name selectors h =
      has_step Any Any (designated env name selectors) _ (designated_has name selectors h)
      (λ d k. has_test Any (same_type d.type p.type) TypesDiffer (first_place e) _ (λ same. tt))

  named_place_has : (p : Parameter) (name : Tree.Name) (selectors : Selectors) → ActualDecided (Tree.Named name selectors) →
      Has Any (place_actual env p (Tree.Named name selectors) (bare env (Tree.Named name selectors)))
  named_place_has p name selectors h = by (meant env name.text)
    where
      by : (m : Meant) → Has Any (place_actual env p (Tree.Named name selectors) (unless_constant m name selectors))
      by (AConstant v) = no_bare_has p (Tree.Named name selectors) h.decided
      by Nothing = bare_has p (Tree.Named name selectors) name selectors h.selects
      by (AType t) = bare_has p (Tree.Named name selectors) name selectors h.selects
      by (AVariable slot t) = bare_has p (Tree.Named name selectors) name selectors h.selects
      by FarVariable = bare_has p (Tree.Named name selectors) name selectors h.selects
      by (AProcedure n ps) = bare_has p (Tree.Named name selectors) name selectors h.selects

  place_has : (p : Parameter) (e : Expr) → ActualDecided e → Has Any (place_actual env p e (bare env e))
  place_has p (Tree.Named name selectors) h = named_place_has p name selectors h
  place_has p (Tree.Number z place) h = no_bare_has p (Tree.Number z place) h.decided
  place_has p (Tree.Parens place e) h = no_bare_has p (Tree.Parens place e) h.decided
  place_has p (Tree.Not place e) h = no_bare_has p (Tree.Not place e) h.decided
  place_has p (Tree.Product first rest) h = no_bare_has p (Tree.Product first rest) h.decided
  place_has p (Tree.Sum sign first rest) h = no_bare_has p (Tree.Sum sign first rest) h.decided
  place_has p (Tree.Comparison left operator place right) h = no_bare_has p (Tree.Comparison left operator place right) h.decided

  actual_has : (p : Parameter) (e : Expr) → ActualDecided e → Has Any (actual env p e)
  actual_has p e h = by p.is_var
    where
      by : (b : Prelude.Bool) → Has Any (if b then place_actual env p e (bare env e) else value_actual env p e)
      by true = place_has p e h
      by false = value_has p e h.decided

  abbrev AllDecided : List Expr → Type 0
  AllDecided [] = Unit {0}
  AllDecided (e ∷ es) = ActualDecided e × AllDecided es

  actuals_has : (ps : List Parameter) (es : List Expr) → length es ≡ length ps → AllDecided es → Has Any (actuals env ps es)
  actuals_has [] [] n h = tt
  actuals_has [] (e ∷ es) n h = absurd (omega (arith, n))
  actuals_has (p ∷ ps) [] n h = absurd (omega (arith, n))
  actuals_has (p ∷ ps) (e ∷ es) n h =
      has_step Any Any (actual env p e) _ (actual_has p e h.0)
      (λ c k. has_step Any Any (actuals env ps es) _ (actuals_has ps es (omega (arith, n)) h.1) (λ cs l. tt))

  assign_has : (name : Tree.Name) (selectors : Selectors) (e : Expr) → SelectorsDecided env selectors → IsDecided env e → Has Any (statement env (Tree.Assign name selectors e))
  assign_has name selectors e h k =
      has_step Any Any (designated env name selectors) _ (designated_has name selectors h)
      (λ d l. has_step Any (λ x. KnownIn InStatement x.value) (expression env e InStatement) _ (k InStatement)
      (λ x m. has_test Any (holds d.type x.type) TypesDiffer (first_place e) _ (λ same. tt)))

  call_has : (name : Tree.Name) (es : Option (List Expr)) → AllDecided (listed es) → Has Any (statement env (Tree.Call name es))
  call_has name es h = has_unless Any (procedure_broken (meant env name.text)) name.place _ (by (meant env name.text))
    where
      by : (m : Meant) → procedure_broken m ≡ None →
          Has Any (◌>>=◌ (need (procedure_meant m)) (λ p. ◌>>=◌ (test (nat_eq (length (listed es)) (length p.1)) BadActuals name.place) (λ count.
          ◌>>=◌ (actuals env p.1 (listed es)) (λ cs. Right (Programs.Call p.0 cs)))))
      by (AProcedure n ps) ok =
          has_test Any (nat_eq (length (listed es)) (length ps)) BadActuals name.place _
          (λ count. has_step Any Any (actuals env ps (listed es)) _ (actuals_has ps (listed es) (eqb-true _ _ count) h) (λ cs k. tt))
      by Nothing ok = absurd cc
      by (AConstant v) ok = absurd cc
      by (AType t) ok = absurd cc
      by (AVariable slot t) ok = absurd cc
      by FarVariable ok = absurd cc

  while_has : (place : ℕ) (e : Expr) (body : Stmts) → IsDecided env e → Has Any (statements env body) → Has Any (statement env (Tree.While place e body))
  while_has place e body h k =
      has_step Any (λ x. KnownIn InStatement x.value) (expression env e InStatement) _ (h InStatement)
      (λ x l. has_test Any (same_scalar_type x.type Boolean) TypesDiffer (first_place e) _
      (λ boolean. has_step Any Any (statements env body) _ k (λ ss m. tt)))

  repeat_has : (place : ℕ) (body : Stmts) (e : Expr) → Has Any (statements env body) → IsDecided env e → Has Any (statement env (Tree.Repeat place body e))
  repeat_has place body e h k =
      has_step Any Any (statements env body) _ h
      (λ ss l. has_step Any (λ x. KnownIn InStatement x.value) (expression env e InStatement) _ (k InStatement)
      (λ x m. has_test Any (same_scalar_type x.type Boolean) TypesDiffer (first_place e) _ (λ boolean. tt)))

  branch_has : (e : Expr) (body : Stmts) (rest : Branches) (last : Verdict Programs.Branches) → IsDecided env e → Has Any (statements env body) →
      Has Any (branches env rest last) → Has Any (branches env (Tree.branch e body rest) last)
  branch_has e body rest last h k l =
      has_step Any (λ x. KnownIn InStatement x.value) (expression env e InStatement) _ (h InStatement)
      (λ x m. has_test Any (same_scalar_type x.type Boolean) TypesDiffer (first_place e) _
      (λ boolean. has_step Any Any (statements env body) _ k
      (λ ss n. has_step Any Any (branches env rest last) _ l (λ bs o. tt))))

  -- a statement that is not empty has a verdict
  abbrev StatementDecided : Stmt → Type 0
  StatementDecided s = is_empty s ≡ false → Has Any (statement env s)

  more_has : (s : Stmt) (rest : Stmts) → StatementDecided s → Has Any (statements env rest) → Has Any (statements env (Tree.stmt s rest))
  more_has s rest h k = by (is_empty s) h
    where
      by : (b : Prelude.Bool) → (b ≡ false → Has Any (statement env s)) →
          Has Any (if b then statements env rest else ◌>>=◌ (statement env s) (λ c. ◌>>=◌ (statements env rest) (λ cs. Right (Programs.statement c cs))))
      by true g = k
      by false g = has_step Any Any (statement env s) _ (g refl) (λ c l. has_step Any Any (statements env rest) _ k (λ cs m. tt))

  bare_factor : {a b : Lexemes} {e : Expr} → Factor a e b → Bare e
  bare_factor (Grammar.named t h) = selector_decided env h
  bare_factor Grammar.number = tt
  bare_factor (Grammar.parens l h r) = tt
  bare_factor (Grammar.not t h) = tt

  bare_term : {a b : Lexemes} {e : Expr} → Term a e b → Bare e
  bare_term (Grammar.one_factor h) = bare_factor h
  bare_term (Grammar.product h o at k l) = tt

  bare_simple : {a b : Lexemes} {e : Expr} → SimpleExpression a e b → Bare e
  bare_simple (Grammar.one_term h) = bare_term h
  bare_simple (Grammar.signed s h k) = tt
  bare_simple (Grammar.sum h o at k l) = tt

  bare_expression : {a b : Lexemes} {e : Expr} → Expression a e b → Bare e
  bare_expression (Grammar.simple h) = bare_simple h
  bare_expression (Grammar.comparison h o at k) = tt

  actual_decided : {a b : Lexemes} {e : Expr} → Expression a e b → ActualDecided e
  actual_decided h = record { decided = expression_decided env h; selects = bare_expression h }

  separated_decided : {a b : Lexemes} {es : List Expr} → Separated Kind.Comma Expression a es b → AllDecided es
  separated_decided (Grammar.one h) = (actual_decided h, tt)
  separated_decided (Grammar.more h c k) = (actual_decided h, separated_decided k)

  actuals_decided : {a b : Lexemes} {es : List Expr} → ActualParameters a es b → AllDecided es
  actuals_decided (Grammar.no_actual l r) = tt
  actuals_decided (Grammar.actuals l h r) = separated_decided h

  perhaps_decided : {a b : Lexemes} {es : Option (List Expr)} → Perhaps ActualParameters a es b → AllDecided (listed es)
  perhaps_decided Grammar.absent = tt
  perhaps_decided (Grammar.present h) = actuals_decided h

  mutual
    statement_decided : {a b : Lexemes} {s : Stmt} → Statement a s b → StatementDecided s
    statement_decided Grammar.empty = λ e. absurd cc
    statement_decided (Grammar.assignment {target = target} {selectors = selectors} {value = value} n h a k) =
        λ e. assign_has target selectors value (selector_decided env h) (expression_decided env k)
    statement_decided (Grammar.call {procedure = procedure} {actuals = actuals} n h) = λ e. call_has procedure actuals (perhaps_decided h)
    statement_decided (Grammar.if' {branches = bs} {otherwise = o} i h k e) =
        λ s. has_step Any Any (branches env bs (otherwise env o)) _ (alternative_decided h (otherwise env o) (else_decided k)) (λ c l. tt)
    statement_decided (Grammar.while {place = place} {condition = condition} {body = body} w h d k e) =
        λ s. while_has place condition body (expression_decided env h) (sequence_has k)
    statement_decided (Grammar.repeat {place = place} {body = body} {condition = condition} r h u k) =
        λ s. repeat_has place body condition (sequence_has h) (expression_decided env k)

    pub sequence_has : {a b : Lexemes} {ss : Stmts} → StatementSequence a ss b → Has Any (statements env ss)
    sequence_has (Grammar.sequence {s = s} {rest = rest} h k) = more_has s rest (statement_decided h) (rest_has k)

    rest_has : {a b : Lexemes} {ss : Stmts} → MoreStatements a ss b → Has Any (statements env ss)
    rest_has Grammar.no_more_statements = tt
    rest_has (Grammar.more_statements s h) = sequence_has h

    alternative_decided : {a b : Lexemes} {bs : Branches} → Alternative a bs b → (last : Verdict Programs.Branches) → Has Any last → Has Any (branches env bs last)
    alternative_decided (Grammar.alternative {condition = condition} {body = body} {rest = rest} h t k l) last g =
        branch_has condition body rest last (expression_decided env h) (sequence_has k) (alternatives_decided l last g)

    alternatives_decided : {a b : Lexemes} {bs : Branches} → MoreAlternatives a bs b → (last : Verdict Programs.Branches) → Has Any last → Has Any (branches env bs last)
    alternatives_decided Grammar.no_more_alternatives last g = g
    alternatives_decided (Grammar.elsif e h) last g = alternative_decided h last g

    else_decided : {a b : Lexemes} {o : Otherwise} → ElsePart a o b → Has Any (otherwise env o)
    else_decided Grammar.no_else_part = tt
    else_decided (Grammar.else_part {body = body} e h) = has_step Any Any (statements env body) _ (sequence_has h) (λ ss k. tt)

  pub body_decided : {a b : Lexemes} {body : Option Stmts} → Grammar.BodyPart a body b → Has Any (body_checked env body)
  body_decided Grammar.absent = tt
  body_decided (Grammar.present (Grammar.behind w h)) = sequence_has h
