-- The tasks of an activation of a checked module's procedure are few, since constructs of a text stand at most 100 deep.
use Rattle.std.proofs.Common.{◌≡◌, ℕ, zero, suc, ◌+◌, ◌*◌, ◌<◌, ◌≤◌, Bool, true, false, List, [], ◌∷◌, ◌++◌, map, if◌then◌else◌, Option, Some, None, refl, ap, subst, All, arith}
use Rattle.std.specs.Prelude.{flat_map, nat_le}
use Rattle.std.proofs.lemmas.Bool.Decides.{nat_tests}
use Rattle.std.proofs.lemmas.List.Elements.{All-nil, All-cons, All-append, All-head, All-tail}
use Rattle.ob_scan.specs.declared.token.Kind.{Kind}
use Rattle.ob_code_scheme.specs.Temporaries.{largest}
use Rattle.ob_code_correct.proofs.Typed.{Deeper, both_none, deeper, same_selectors}
use Rattle.ob_grammar.specs.EndNamesAndNesting.{too_deep, opening, in_expr, in_operands, in_selectors, in_actuals, in_stmt, in_stmts, in_branches, in_otherwise, in_body, in_constants, in_types, in_variables, in_parameters, in_declarations, in_procedures, differing, KeepsConditions}
use Rattle.ob_grammar.specs.Grammar as Grammar
use Rattle.ob_grammar.specs.Grammar.{Lexemes, Separated, Perhaps, BodyPart}
use Rattle.ob_grammar.specs.Texts.{HasText}
use Rattle.ob_grammar.specs.Tree
use Rattle.ob_grammar.specs.Tree.{Expr, Operands, Stmt, Stmts, Branches, Otherwise, Declarations, Procedures, ProcedureTree, Module}
use Rattle.ob_grammar.specs.declared.tree.Sign.{Sign}
use Rattle.ob_interface.specs.declared.scalar.Scalar.{Scalar}
use Rattle.ob_interface.specs.declared.scalar.ScalarType.{ScalarType}
use Rattle.ob_tree.specs.Rooms.{most_room, most_tasks}
use Rattle.ob_tree_law.specs.TreeEngine.{work_room}
use Rattle.ob_tree_law.specs.Reserve.{activation_most, actual_most, address_most, all_most, choosing_most, doing_most, handing_most, operators_most, procedure_most, selecting_most, value_most}
use Rattle.ob_typing.specs.Declarations as Typing
use Rattle.ob_typing.specs.Declarations.{Declares, DeclaresProcedures, Room, WellTyped}
use Rattle.ob_typing.specs.Expressions as Expressions
use Rattle.ob_typing.specs.Expressions.{AreOperands, HasType, IsVariable, Selects, Use, with_sign}
use Rattle.ob_typing.specs.Program
use Rattle.ob_typing.specs.Program.{Actual, DataType, Designator, Expression, Negated, Operations, Parameter, Procedure, Statement, Statements, Variable}
use Rattle.ob_typing.specs.Scopes.{AConstant, AProcedure, AType, AVariable, Environment, FarVariable, Meant, Nothing, meant}
use Rattle.ob_typing.specs.Statements as Typed
use Rattle.ob_typing.specs.Statements.{bare, listed, unless_constant}

-- ---- expressions

-- a sign is a task more
signed : (sign : Option Sign) (e : Expression) → value_most (with_sign sign e) ≤ value_most e + 1
signed None e = omega arith
signed (Some sign) e = by sign.is_minus
  where
    by : (b : Bool) → value_most (if b then Negated e else e) ≤ value_most e + 1
    by true = omega arith
    by false = omega arith

bare_same : (m : Meant) (a b : Tree.Name) (s r : Tree.Selectors) → unless_constant m a s ≡ Some (b, r) → s ≡ r
bare_same Nothing a b s r e = same_selectors a b s r e
bare_same (AConstant value) a b s r e = absurd (cc)
bare_same (AType type) a b s r e = same_selectors a b s r e
bare_same (AVariable slot type) a b s r e = same_selectors a b s r e
bare_same FarVariable a b s r e = same_selectors a b s r e
bare_same (AProcedure number parameters) a b s r e = same_selectors a b s r e

-- selectors of a text, between some of its tokens
abbrev AreOfText : Tree.Selectors → Type 0
AreOfText selectors = (a b : Lexemes) × Grammar.Selector a selectors b

-- those of an expression that is a name
selectors_of_text : {a b : Lexemes} {name : Tree.Name} {selectors : Tree.Selectors} → Grammar.Expression a (Tree.Named name selectors) b → AreOfText selectors
selectors_of_text (Grammar.simple (Grammar.one_term (Grammar.one_factor (Grammar.named {b = b} {c = c} name selectors)))) = (b, c, selectors)

module _ (env : Environment) where
  -- within n constructs, where k more may open
  mutual
    expression : {a b : Lexemes} {e : Expr} {use' : Use} {t : ScalarType} {c : Expression} {v : Option Scalar} → Grammar.Expression a e b → HasType env use' e t c v →
        (n k : ℕ) → n + k ≡ 100 → in_expr n e ≡ [] → value_most c ≤ 10 + 9 * k
    expression (Grammar.simple g) h n k all none = let x = simple g h n k all none in omega (arith, x)
    expression (Grammar.comparison {left = left} {right = right} g is' at g') (Expressions.comparison h h' is fits) n k all none =
        let parts = both_none (in_expr n left) (in_expr n right) none in
        let x = simple g h n k all parts.0 in
        let y = simple g' h' n k all parts.1 in
        omega (arith, x, y)

    simple : {a b : Lexemes} {e : Expr} {use' : Use} {t : ScalarType} {c : Expression} {v : Option Scalar} → Grammar.SimpleExpression a e b → HasType env use' e t c v →
        (n k : ℕ) → n + k ≡ 100 → in_expr n e ≡ [] → value_most c ≤ 8 + 9 * k
    simple (Grammar.one_term g) h n k all none = let x = term g h n k all none in omega (arith, x)
    simple (Grammar.signed {sign = sign} {first = first} {rest = rest} at g later) (Expressions.sum {b = b} h fits is others) n k all none =
        let parts = both_none (in_expr n first) (in_operands n rest) none in
        let x = term g h n k all parts.0 in
        let y = terms later others n k all parts.1 in
        let z = signed (Some sign) b in
        omega (arith, x, y, z)
    simple (Grammar.sum {first = first} {second = second} {rest = rest} g o at g' later) (Expressions.sum h fits is (Expressions.operand is' h' fits' gives others)) n k all none =
        let parts = both_none (in_expr n first) (in_expr n second ++ in_operands n rest) none in
        let behind = both_none (in_expr n second) (in_operands n rest) parts.1 in
        let x = term g h n k all parts.0 in
        let y = term g' h' n k all behind.0 in
        let z = terms later others n k all behind.1 in
        omega (arith, x, y, z)

    terms : {a b : Lexemes} {rest : Operands} {use' : Use} {t : ScalarType} {v : Option Scalar} {operations : Operations} {w : Option Scalar} → Grammar.Terms a rest b → AreOperands env use' t v rest operations w →
        (n k : ℕ) → n + k ≡ 100 → in_operands n rest ≡ [] → operators_most operations ≤ 8 + 9 * k
    terms Grammar.no_term Expressions.no_operand n k all none = omega arith
    terms (Grammar.more_terms {e = e} {rest = rest} o at g later) (Expressions.operand is h fits gives others) n k all none =
        let parts = both_none (in_expr n e) (in_operands n rest) none in
        let x = term g h n k all parts.0 in
        let y = terms later others n k all parts.1 in
        omega (arith, x, y)

    term : {a b : Lexemes} {e : Expr} {use' : Use} {t : ScalarType} {c : Expression} {v : Option Scalar} → Grammar.Term a e b → HasType env use' e t c v →
        (n k : ℕ) → n + k ≡ 100 → in_expr n e ≡ [] → value_most c ≤ 6 + 9 * k
    term (Grammar.one_factor g) h n k all none = let x = factor g h n k all none in omega (arith, x)
    term (Grammar.product {first = first} {second = second} {rest = rest} g o at g' later) (Expressions.product h (Expressions.operand is h' fits gives others)) n k all none =
        let parts = both_none (in_expr n first) (in_expr n second ++ in_operands n rest) none in
        let behind = both_none (in_expr n second) (in_operands n rest) parts.1 in
        let x = factor g h n k all parts.0 in
        let y = factor g' h' n k all behind.0 in
        let z = factors later others n k all behind.1 in
        omega (arith, x, y, z)

    factors : {a b : Lexemes} {rest : Operands} {use' : Use} {t : ScalarType} {v : Option Scalar} {operations : Operations} {w : Option Scalar} → Grammar.Factors a rest b → AreOperands env use' t v rest operations w →
        (n k : ℕ) → n + k ≡ 100 → in_operands n rest ≡ [] → operators_most operations ≤ 6 + 9 * k
    factors Grammar.no_factor Expressions.no_operand n k all none = omega arith
    factors (Grammar.more_factors {e = e} {rest = rest} o at g later) (Expressions.operand is h fits gives others) n k all none =
        let parts = both_none (in_expr n e) (in_operands n rest) none in
        let x = factor g h n k all parts.0 in
        let y = factors later others n k all parts.1 in
        omega (arith, x, y)

    factor : {a b : Lexemes} {e : Expr} {use' : Use} {t : ScalarType} {c : Expression} {v : Option Scalar} → Grammar.Factor a e b → HasType env use' e t c v →
        (n k : ℕ) → n + k ≡ 100 → in_expr n e ≡ [] → value_most c ≤ 4 + 9 * k
    factor Grammar.number Expressions.number n k all none = omega arith
    factor (Grammar.named name g) (Expressions.constant m) n k all none = omega arith
    factor (Grammar.named name g) (Expressions.variable (Expressions.of_slot m h)) n k all none = let x = selector g h n k all none in omega (arith, x)
    factor (Grammar.parens {place = place} {inner = inner} at g close) (Expressions.parens h) n k all none =
        let parts = both_none (opening n place) (in_expr (n + 1) inner) none in
        let down = deeper n k place all parts.0 in
        let x = expression g h (n + 1) down.left down.all parts.1 in
        omega (arith, x, down.one_less)
    factor (Grammar.not {place = place} {e = e} at g) (Expressions.not h) n k all none =
        let parts = both_none (opening n place) (in_expr (n + 1) e) none in
        let down = deeper n k place all parts.0 in
        let x = factor g h (n + 1) down.left down.all parts.1 in
        omega (arith, x, down.one_less)

    selector : {a b : Lexemes} {selectors : Tree.Selectors} {s t : DataType} {path : Program.Selectors} → Grammar.Selector a selectors b → Selects env s selectors t path →
        (n k : ℕ) → n + k ≡ 100 → in_selectors n selectors ≡ [] → selecting_most path ≤ 3 + 9 * k
    selector Grammar.no_more Expressions.itself n k all none = omega arith
    selector (Grammar.field at name g) (Expressions.field e f h) n k all none = let x = selector g h n k all none in omega (arith, x)
    selector (Grammar.index {place = place} {i = i} {rest = rest} at g close later) (Expressions.index h e others) n k all none =
        let parts = both_none (opening n place ++ in_expr (n + 1) i) (in_selectors n rest) none in
        let inner = both_none (opening n place) (in_expr (n + 1) i) parts.0 in
        let down = deeper n k place all inner.0 in
        let x = expression g h (n + 1) down.left down.all inner.1 in
        let y = selector later others n k all parts.1 in
        omega (arith, x, y, down.one_less)

  variable : {a b : Lexemes} {name : Tree.Name} {selectors : Tree.Selectors} {t : DataType} {d : Designator} → Grammar.Selector a selectors b → IsVariable env name selectors t d →
      (n k : ℕ) → n + k ≡ 100 → in_selectors n selectors ≡ [] → address_most d ≤ 3 + 9 * k
  variable g (Expressions.of_slot m h) n k all none = let x = selector g h n k all none in omega (arith, x)

  -- ---- statements

  bare_parts : {a b : Lexemes} (n : ℕ) (e : Expr) (name : Tree.Name) (selectors : Tree.Selectors) → Grammar.Expression a e b → bare env e ≡ Some (name, selectors) → in_expr n e ≡ [] → (in_selectors n selectors ≡ []) × AreOfText selectors
  bare_parts n (Tree.Named other own) name selectors g is none =
      let same = bare_same (meant env other.text) other name own selectors is in
      (subst (λ (s : Tree.Selectors). in_selectors n s ≡ []) same none, subst AreOfText same (selectors_of_text g))
  bare_parts n (Tree.Number z place) name selectors g is none = absurd (cc)
  bare_parts n (Tree.Parens place inner) name selectors g is none = absurd (cc)
  bare_parts n (Tree.Not place e) name selectors g is none = absurd (cc)
  bare_parts n (Tree.Product first rest) name selectors g is none = absurd (cc)
  bare_parts n (Tree.Sum sign first rest) name selectors g is none = absurd (cc)
  bare_parts n (Tree.Comparison left operator place right) name selectors g is none = absurd (cc)

  actual : {a b : Lexemes} {p : Parameter} {e : Expr} {c : Actual} → Grammar.Expression a e b → Typed.IsActual env p e c → (n k : ℕ) → n + k ≡ 100 → in_expr n e ≡ [] → actual_most c ≤ 10 + 9 * k
  actual g (Typed.value v h fits) n k all none = expression g h n k all none
  actual g (Typed.place {e = e} {name = name} {selectors = selectors} v is h same) n k all none =
      let parts = bare_parts n e name selectors g is none in
      let x = variable parts.1.2 h n k all parts.0 in
      omega (arith, x)

  actuals : {a b : Lexemes} {ps : List Parameter} {es : List Expr} {cs : List Actual} → Separated Kind.Comma Grammar.Expression a es b → Typed.Fits env ps es cs →
      (n k : ℕ) → n + k ≡ 100 → flat_map (in_expr n) es ≡ [] → handing_most cs ≤ 11 + 9 * k
  actuals (Grammar.one {x = e} g) (Typed.more h Typed.none) n k all none =
      let parts = both_none (in_expr n e) [] none in
      let x = actual g h n k all parts.0 in
      omega (arith, x)
  actuals (Grammar.more {x = e} {xs = es} g at later) (Typed.more h others) n k all none =
      let parts = both_none (in_expr n e) (flat_map (in_expr n) es) none in
      let x = actual g h n k all parts.0 in
      let y = actuals later others n k all parts.1 in
      omega (arith, x, y)

  all_actuals : {a b : Lexemes} {es : Option (List Expr)} {ps : List Parameter} {cs : List Actual} → Perhaps Grammar.ActualParameters a es b → Typed.Fits env ps (listed es) cs →
      (n k : ℕ) → n + k ≡ 100 → in_actuals n es ≡ [] → handing_most cs ≤ 11 + 9 * k
  all_actuals Grammar.absent Typed.none n k all none = omega arith
  all_actuals (Grammar.present (Grammar.no_actual opened closed)) Typed.none n k all none = omega arith
  all_actuals (Grammar.present (Grammar.actuals opened g closed)) h n k all none = actuals g h n k all none

  -- what stands behind ELSE, whatever it is as statements of the program
  abbrev EndsFew : ℕ → Otherwise → Type 0
  EndsFew k Tree.no_else = Unit {0}
  EndsFew k (Tree.else' body) = (ss : Statements) → Typed.AreStatements env body ss → all_most ss ≤ 13 + 9 * k

  mutual
    statement : {a b : Lexemes} {s : Stmt} {c : Statement} → Grammar.Statement a s b → Typed.IsStatement env s c → (n k : ℕ) → n + k ≡ 100 → in_stmt n s ≡ [] → doing_most c ≤ 12 + 9 * k
    statement (Grammar.assignment {selectors = selectors} {value = e} name g at g') (Typed.assign h v same) n k all none =
        let parts = both_none (in_selectors n selectors) (in_expr n e) none in
        let x = variable g h n k all parts.0 in
        let y = expression g' v n k all parts.1 in
        omega (arith, x, y)
    statement Grammar.Statement.empty h n k all none = elim h [ ]
    statement (Grammar.call name g) (Typed.call m count h) n k all none = let x = all_actuals g h n k all none in omega (arith, x)
    statement (Grammar.if' {place = place} {branches = branches} {otherwise = otherwise} at g last end) (Typed.if' h) n k all none =
        let parts = both_none (opening n place) (in_branches (n + 1) branches ++ in_otherwise (n + 1) otherwise) none in
        let down = deeper n k place all parts.0 in
        let inner = both_none (in_branches (n + 1) branches) (in_otherwise (n + 1) otherwise) parts.1 in
        let x = alternatives g h (n + 1) down.left down.all inner.0 (else_part last (n + 1) down.left down.all inner.1) in
        omega (arith, x, down.one_less)
    statement (Grammar.while {place = place} {condition = condition} {body = body} at g do' later end) (Typed.while v h) n k all none =
        let parts = both_none (opening n place) (in_expr (n + 1) condition ++ in_stmts (n + 1) body) none in
        let down = deeper n k place all parts.0 in
        let inner = both_none (in_expr (n + 1) condition) (in_stmts (n + 1) body) parts.1 in
        let x = expression g v (n + 1) down.left down.all inner.0 in
        let y = statements later h (n + 1) down.left down.all inner.1 in
        omega (arith, x, y, down.one_less)
    statement (Grammar.repeat {place = place} {body = body} {condition = condition} at later until g) (Typed.repeat h v) n k all none =
        let parts = both_none (opening n place) (in_stmts (n + 1) body ++ in_expr (n + 1) condition) none in
        let down = deeper n k place all parts.0 in
        let inner = both_none (in_stmts (n + 1) body) (in_expr (n + 1) condition) parts.1 in
        let x = expression g v (n + 1) down.left down.all inner.1 in
        let y = statements later h (n + 1) down.left down.all inner.0 in
        omega (arith, x, y, down.one_less)

    statements : {a b : Lexemes} {ss : Stmts} {cs : Statements} → Grammar.StatementSequence a ss b → Typed.AreStatements env ss cs → (n k : ℕ) → n + k ≡ 100 → in_stmts n ss ≡ [] → all_most cs ≤ 13 + 9 * k
    statements (Grammar.sequence g later) (Typed.empty h) n k all none = more_statements later h n k all none
    statements (Grammar.sequence {s = s} {rest = rest} g later) (Typed.more h others) n k all none =
        let parts = both_none (in_stmt n s) (in_stmts n rest) none in
        let x = statement g h n k all parts.0 in
        let y = more_statements later others n k all parts.1 in
        omega (arith, x, y)

    more_statements : {a b : Lexemes} {ss : Stmts} {cs : Statements} → Grammar.MoreStatements a ss b → Typed.AreStatements env ss cs → (n k : ℕ) → n + k ≡ 100 → in_stmts n ss ≡ [] → all_most cs ≤ 13 + 9 * k
    more_statements Grammar.no_more_statements Typed.no_statement n k all none = omega arith
    more_statements (Grammar.more_statements at g) h n k all none = statements g h n k all none

    alternatives : {a b : Lexemes} {bs : Branches} {o : Otherwise} {cs : Program.Branches} → Grammar.Alternative a bs b → Typed.AreBranches env bs o cs →
        (n k : ℕ) → n + k ≡ 100 → in_branches n bs ≡ [] → EndsFew k o → choosing_most cs ≤ 14 + 9 * k
    alternatives (Grammar.alternative {condition = condition} {body = body} {rest = rest} g behind g' later) (Typed.branch v h others) n k all none last =
        let parts = both_none (in_expr n condition ++ in_stmts n body) (in_branches n rest) none in
        let inner = both_none (in_expr n condition) (in_stmts n body) parts.0 in
        let x = expression g v n k all inner.0 in
        let y = statements g' h n k all inner.1 in
        let z = more_alternatives later others n k all parts.1 last in
        omega (arith, x, y, z)

    more_alternatives : {a b : Lexemes} {bs : Branches} {o : Otherwise} {cs : Program.Branches} → Grammar.MoreAlternatives a bs b → Typed.AreBranches env bs o cs →
        (n k : ℕ) → n + k ≡ 100 → in_branches n bs ≡ [] → EndsFew k o → choosing_most cs ≤ 14 + 9 * k
    more_alternatives Grammar.no_more_alternatives Typed.no_else n k all none last = omega arith
    more_alternatives Grammar.no_more_alternatives (Typed.otherwise {ss = ss} h) n k all none last = let x = last ss h in omega (arith, x)
    more_alternatives (Grammar.elsif at g) h n k all none last = alternatives g h n k all none last

    else_part : {a b : Lexemes} {o : Otherwise} → Grammar.ElsePart a o b → (n k : ℕ) → n + k ≡ 100 → in_otherwise n o ≡ [] → EndsFew k o
    else_part Grammar.no_else_part n k all none = tt
    else_part (Grammar.else_part at g) n k all none = λ ss h. statements g h n k all none

  body : {a b : Lexemes} {x : Option Stmts} {ss : Statements} → BodyPart a x b → Typed.IsBody env x ss → (n k : ℕ) → n + k ≡ 100 → in_body n x ≡ [] → all_most ss ≤ 13 + 9 * k
  body Grammar.absent Typed.none n k all none = omega arith
  body (Grammar.present (Grammar.behind at g)) (Typed.some h) n k all none = statements g h n k all none

-- ---- procedures

abbrev HasFewTasks : Procedure → Type 0
HasFewTasks p = procedure_most p ≤ most_tasks

mutual
  declarations : {a b : Lexemes} {env after : Environment} {n : ℕ} {room : Room} {d : Declarations} {vs : List Variable} {ps : List Procedure} → Grammar.DeclarationsPart a d b → Declares env n room d after vs ps →
      (m k : ℕ) → m + k ≡ 100 → in_declarations m d ≡ [] → All HasFewTasks ps
  declarations (Grammar.declarations {constants = cs} {types = ts} {variables = xs} {procedures = ps} c t v g) (Typing.declarations c' t' v' h) m k all none =
      let first = both_none (in_constants m cs) (in_types m ts ++ (in_variables m xs ++ in_procedures m ps)) none in
      let second = both_none (in_types m ts) (in_variables m xs ++ in_procedures m ps) first.1 in
      let third = both_none (in_variables m xs) (in_procedures m ps) second.1 in
      procedures g h m k all third.1

  -- of one procedure those within it, and its own statements
  procedure : {a b : Lexemes} {env inside : Environment} {n : ℕ} {room : Room} {x : ProcedureTree} {vs : List Variable} {ps : List Procedure} {ss : Statements} →
      Grammar.ProcedureDeclaration a x b → Declares env n room x.declarations inside vs ps → Typed.IsBody inside x.body ss →
      (m k : ℕ) → m + k ≡ 100 → in_declarations m x.declarations ≡ [] → in_body m x.body ≡ [] → All HasFewTasks ps × (all_most ss ≤ 13 + 9 * k)
  procedure {inside = inside} (Grammar.declares head semicolon g g' end name) d b m k all none none' =
      (declarations g d m k all none, body inside g' b m k all none')

  procedures : {a b : Lexemes} {env after : Environment} {n exported : ℕ} {xs : Procedures} {ps : List Procedure} → Grammar.ProcedureDeclarations a xs b → DeclaresProcedures env n exported xs after ps →
      (m k : ℕ) → m + k ≡ 100 → in_procedures m xs ≡ [] → All HasFewTasks ps
  procedures Grammar.no_more_procedures Typing.none m k all none = All-nil HasFewTasks
  procedures (Grammar.procedure {head = heading} {inner = inner} {body = text} {end_name = end_name} {rest = rest} g semicolon more) (Typing.procedure {ps = ps} {vs = vs} {nested = nested} {others = others} {ss = ss} new formal simple d b later) m k all none =
      let parts = both_none ((opening m heading.place ++ in_parameters (m + 1) heading.parameters) ++ (in_declarations (m + 1) inner ++ (in_body (m + 1) text ++ differing heading.name end_name))) (in_procedures m rest) none in
      let here = both_none (opening m heading.place ++ in_parameters (m + 1) heading.parameters) (in_declarations (m + 1) inner ++ (in_body (m + 1) text ++ differing heading.name end_name)) parts.0 in
      let head = both_none (opening m heading.place) (in_parameters (m + 1) heading.parameters) here.0 in
      let behind = both_none (in_declarations (m + 1) inner) (in_body (m + 1) text ++ differing heading.name end_name) here.1 in
      let last = both_none (in_body (m + 1) text) (differing heading.name end_name) behind.1 in
      let down = deeper m k heading.place all head.0 in
      let within = procedure g d b (m + 1) down.left down.all behind.0 last.0 in
      let behind_it = procedures more later m k all parts.1 in
      let p : Procedure = record { name = heading.name.text; is_exported = heading.is_exported; parameters = ps; variables = vs; body = ss } in
      let own : HasFewTasks p = omega (arith, within.1, down.all) in
      All-cons HasFewTasks p (nested ++ others) own (All-append HasFewTasks nested others within.0 behind_it)

largest_few : (ps : List Procedure) → All HasFewTasks ps → largest (map procedure_most ps) ≤ most_tasks
largest_few [] h = omega arith
largest_few (p ∷ ps) h =
    let here = All-head HasFewTasks p ps h in
    let rest = largest_few ps (All-tail HasFewTasks p ps h) in
    omega (arith, here, rest)

typed_few : {a b : Lexemes} (m : Module) (program : Program.Program) → Grammar.ModuleText a m b → KeepsConditions m → WellTyped m program → activation_most program.procedures ≤ most_tasks
typed_few m program (Grammar.module' opened name semicolon g g' end end_name dot) keeps (Typing.well_typed d b) =
    let parts = both_none (in_declarations 0 m.declarations) (in_body 0 m.body ++ differing m.name m.end_name) keeps in
    largest_few program.procedures (declarations g d 0 100 (omega arith) parts.0)

-- so a work list needs little room
pub little_room : (m : Module) (program : Program.Program) → HasText m → KeepsConditions m → WellTyped m program → work_room program ≤ most_room
little_room m program text keeps typed = let few = typed_few m program text.derives keeps typed in omega (arith, few)
