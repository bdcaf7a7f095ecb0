-- Statements: what is left of each phrase, by the token that stands there.
use Rattle.std.proofs.Common.{◌≡◌, ℕ, pos, ◌+◌, true, false, List, [], ◌∷◌, ◌++◌, Option, Some, None, refl, sym, ap, arith, flat_map}
use Rattle.std.proofs.lemmas.List.{append-nil}
use Rattle.ob_scan.specs.declared.token.Kind.{Kind}
use Rattle.ob_scan.specs.Lexemes.{lexeme}
use Rattle.ob_grammar.specs.Tree
use Rattle.ob_grammar.specs.Tree.{Name, Expr, Selectors, Stmt, Stmts, no_stmt, stmt, Branches, no_branch, Otherwise, no_else, else'}
use Rattle.ob_grammar.specs.Grammar
use Rattle.ob_grammar.specs.Grammar.{Lexemes, Takes, TakesAt, takes, TakesName, Separated, Perhaps, Expression, ActualParameters, Statement, StatementSequence, MoreStatements, Alternative, MoreAlternatives, ElsePart}
use Rattle.ob_grammar.specs.EndNamesAndNesting.{Breach, opening, in_expr, in_selectors, in_actuals, in_stmt, in_stmts, in_branches, in_otherwise, in_body}
use Rattle.ob_parser.specs.Reading.{Form, Stops, Reads, kind_at}
use Rattle.ob_parser.specs.Forms as forms
use Rattle.ob_parser.specs.Forms.{assignment_goes_on, OneBranch, TakesBranch, token, opens, Both, both}
use Rattle.ob_parser.proofs.Steps.{Leads, Follows, Fills, takes_same, no_takes_same, same_token, stops_at, not_stopped, weaker, nothing_stops, before_last, across, fill_token, takes_at_only, itself}
use Rattle.ob_parser.proofs.Phrases.{Optional, Listed, begins_behind, fill_perhaps, fill_separated}
use Rattle.ob_parser.proofs.Names.{begins_name}
use Rattle.ob_parser.proofs.Firsts.{Starts, there, expression_starts, starts_not, fill_expression}

-- a token of this kind, at a place
abbrev One : Kind → Lexemes → ℕ → Lexemes → Type 0
One kind a place b = TakesAt kind place a b

-- what does not continue a phrase does not continue its last part

only_expression : (k : Kind) → forms.name_goes_on k ≡ false → forms.expression_goes_on k ≡ false
only_expression Kind.Assign h = refl
only_expression Kind.LeftParen h = refl
only_expression _ h = h

only_left_paren : (k : Kind) → forms.name_goes_on k ≡ false → forms.left_paren k ≡ false
only_left_paren Kind.LeftParen h = h
only_left_paren _ h = refl

only_name : (k : Kind) → forms.statement_goes_on k ≡ false → forms.name_goes_on k ≡ false
only_name Kind.Ident h = refl
only_name Kind.If h = refl
only_name Kind.While h = refl
only_name Kind.Repeat h = refl
only_name _ h = h

only_statement : (k : Kind) → forms.statements_go_on k ≡ false → forms.statement_goes_on k ≡ false
only_statement Kind.Semicolon h = refl
only_statement _ h = h

only_branch : (k : Kind) → forms.alternatives_go_on k ≡ false → forms.statements_go_on k ≡ false
only_branch Kind.Elsif h = refl
only_branch _ h = h

only_behind_else : (k : Kind) → forms.else_goes_on k ≡ false → forms.statements_go_on k ≡ false
only_behind_else Kind.Else h = refl
only_behind_else _ h = h

only_behind_begin : (k : Kind) → forms.body_goes_on k ≡ false → forms.statements_go_on k ≡ false
only_behind_begin Kind.Begin h = refl
only_behind_begin _ h = h

only_argument : (k : Kind) → forms.arguments_go_on k ≡ false → forms.expression_goes_on k ≡ false
only_argument Kind.Comma h = refl
only_argument _ h = h

-- smallest phrases

pub fill_statement : {n : ℕ} → Fills (forms.statement n)
fill_statement = record { more = []; tree = Tree.Empty; derives = λ rest. Grammar.empty; kept = refl }

pub fill_more_statements : {n : ℕ} → Fills (forms.more_statements n)
fill_more_statements = record { more = []; tree = no_stmt; derives = λ rest. Grammar.no_more_statements; kept = refl }

pub fill_statements : {n : ℕ} → Fills (forms.statements n)
fill_statements = record {
  more = [];
  tree = stmt Tree.Empty no_stmt;
  derives = λ rest. Grammar.sequence Grammar.empty Grammar.no_more_statements;
  kept = refl;
}

pub fill_more_branches : {n : ℕ} → Fills (forms.more_branches n)
fill_more_branches = record { more = []; tree = no_branch; derives = λ rest. Grammar.no_more_alternatives; kept = refl }

pub fill_branches : {n : ℕ} → Fills (forms.branches n)
fill_branches = record {
  more = lexeme Kind.Number 0 [] ∷ lexeme Kind.Then 0 [] ∷ [];
  tree = Tree.branch (Tree.Number (pos 0) 0) (stmt Tree.Empty no_stmt) no_branch;
  derives = λ rest.
      Grammar.alternative (Grammar.simple (Grammar.one_term (Grammar.one_factor Grammar.number))) (0, takes)
      (Grammar.sequence Grammar.empty Grammar.no_more_statements) Grammar.no_more_alternatives;
  kept = refl;
}

pub fill_otherwise : {n : ℕ} → Fills (forms.otherwise n)
fill_otherwise = record { more = []; tree = no_else; derives = λ rest. Grammar.no_else_part; kept = refl }

-- expression {"," expression}

pub listed_arguments : {n : ℕ} → Listed Kind.Comma forms.arguments_go_on (flat_map (in_expr n)) (forms.expression n)
listed_arguments = record { more = refl; stops = refl; inner = only_argument; none = refl; some = λ x xs. refl }

pub fill_arguments : {n : ℕ} → Fills (forms.arguments n)
fill_arguments = fill_separated listed_arguments fill_expression

no_argument : {a b rest : Lexemes} {place : ℕ} {y : List Expr} → TakesAt Kind.RightParen place a b →
    Separated Kind.Comma Expression a y rest → ⊥
no_argument t (Grammar.one d) = starts_not refl t (expression_starts d)
no_argument t (Grammar.more d u e) = starts_not refl t (expression_starts d)

-- ActualParameters = "(" [expression {"," expression}] ")"

-- [expression {"," expression}] ")"
pub data InParens : Lexemes → List Expr → Lexemes → Type 0 where
  empty : {a b : Lexemes} {place : ℕ} → TakesAt Kind.RightParen place a b → InParens a [] b
  filled : {a b c : Lexemes} {es : List Expr} {place : ℕ} →
      Separated Kind.Comma Expression a es b → TakesAt Kind.RightParen place b c → InParens a es c

abbrev pub in_parens : ℕ → Form (List Expr)
in_parens n = record { relation = InParens; continues = forms.nothing; breaches = flat_map (in_expr n) }

parens_into : {a b c : Lexemes} {place : ℕ} {es : List Expr} → TakesAt Kind.LeftParen place a b → InParens b es c → ActualParameters a es c
parens_into {place = place} t (empty {place = q} u) = Grammar.no_actual (place, t) (q, u)
parens_into {place = place} t (filled {place = q} d u) = Grammar.actuals (place, t) d (q, u)

parens_only : {a rest : Lexemes} {y : List Expr} → ActualParameters a y rest →
    (x : ℕ × List Expr) × (y ≡ x.1) × Both (One Kind.LeftParen) InParens a x rest
parens_only (Grammar.no_actual t u) = ((t.0, []), refl, (_, t.1, empty u.1))
parens_only (Grammar.actuals {es = es} t d u) = ((t.0, es), refl, (_, t.1, filled d u.1))

pub leads_parens : {n : ℕ} {tokens : Lexemes} {p : ℕ} →
    Leads (forms.actual_parameters n) tokens p (both (token Kind.LeftParen) (in_parens n)) p (λ x. x.1)
leads_parens = record {
  order = omega arith;
  within = λ h. h;
  into = λ other same x rest d. parens_into d.1 d.2;
  onto = λ other same y rest d stops. (let m = parens_only d in (m.0, m.1, m.2, nothing_stops rest));
  breaches = λ x. refl;
}

empty_parens : {a b rest : Lexemes} {place : ℕ} {y : List Expr} → TakesAt Kind.RightParen place a b → InParens a y rest →
    (x : ℕ) × (y ≡ []) × TakesAt Kind.RightParen x a rest
empty_parens t (empty {place = place} u) = (place, refl, u)
empty_parens t (filled d u) = absurd (no_argument t d)

pub leads_empty : {n : ℕ} {tokens : Lexemes} {p : ℕ} → kind_at tokens p ≡ Some Kind.RightParen →
    Leads (in_parens n) tokens p (token Kind.RightParen) p (λ x. [])
leads_empty here = record {
  order = omega arith;
  within = λ h. h;
  into = λ other same x rest d. empty d;
  onto = λ other same y rest d stops. (let m = empty_parens (takes_same other here same) d in (m.0, m.1, m.2, nothing_stops rest));
  breaches = λ x. refl;
}

filled_parens : {a rest : Lexemes} {y : List Expr} → ((place : ℕ) (b : Lexemes) → TakesAt Kind.RightParen place a b → ⊥) →
    InParens a y rest → (x : List Expr × ℕ) × (y ≡ x.0) × Both (Separated Kind.Comma Expression) (One Kind.RightParen) a x rest
filled_parens h (empty {b = b} {place = place} u) = absurd (h place b u)
filled_parens h (filled {es = es} {place = place} d u) = ((es, place), refl, (_, d, u))

pub leads_filled : {n : ℕ} {tokens : Lexemes} {p : ℕ} → (kind_at tokens p ≡ Some Kind.RightParen → ⊥) →
    Leads (in_parens n) tokens p (both (forms.arguments n) (token Kind.RightParen)) p (λ x. x.0)
leads_filled {n = n} missing = record {
  order = omega arith;
  within = λ h. h;
  into = λ other same x rest d. filled d.1 d.2;
  onto = λ other same y rest d stops.
      (let m = filled_parens (λ place b t. no_takes_same missing same t) d in (m.0, m.1, m.2, nothing_stops rest));
  breaches = λ x. sym (append-nil (flat_map (in_expr n) x.0));
}

pub fill_in_parens : {n : ℕ} → Fills (in_parens n)
fill_in_parens =
    let f = fill_token {kind = Kind.RightParen} in
    record { more = f.more; tree = []; derives = λ rest. empty (f.derives rest); kept = refl }

begins_actuals : {a rest : Lexemes} {y : List Expr} → ActualParameters a y rest →
    (place : ℕ) × (b : Lexemes) × TakesAt Kind.LeftParen place a b
begins_actuals d = let m = parens_only d in (m.0.0, m.2.0, m.2.1)

-- What stands behind the name that begins a statement: selector ":=" expression, or [ActualParameters].

pub data AfterName : Type 0 where
  assigned : (selectors : Selectors) (value : Expr) → AfterName
  called : (actuals : Option (List Expr)) → AfterName

pub data TakesAfterName : Lexemes → AfterName → Lexemes → Type 0 where
  assigned : {a b c d : Lexemes} {selectors : Selectors} {value : Expr} →
      Grammar.Selector a selectors b → Takes Kind.Assign b c → Expression c value d →
      TakesAfterName a (AfterName.assigned selectors value) d
  called : {a b : Lexemes} {actuals : Option (List Expr)} →
      Perhaps ActualParameters a actuals b → TakesAfterName a (AfterName.called actuals) b

abbrev in_after_name : ℕ → AfterName → List Breach
in_after_name n (AfterName.assigned selectors value) = in_selectors n selectors ++ in_expr n value
in_after_name n (AfterName.called actuals) = in_actuals n actuals

abbrev pub after_name : ℕ → Form AfterName
after_name n = record { relation = TakesAfterName; continues = forms.name_goes_on; breaches = in_after_name n }

pub fill_after_name : {n : ℕ} → Fills (after_name n)
fill_after_name = record {
  more = [];
  tree = AfterName.called None;
  derives = λ rest. TakesAfterName.called Grammar.absent;
  kept = refl;
}

-- the statement of a name and what stands behind it
abbrev pub named : Name → AfterName → Stmt
named x (AfterName.assigned selectors value) = Tree.Assign x selectors value
named x (AfterName.called actuals) = Tree.Call x actuals

in_named : (n : ℕ) (x : Name) (after : AfterName) → in_stmt n (named x after) ≡ in_after_name n after
in_named n x (AfterName.assigned selectors value) = refl
in_named n x (AfterName.called actuals) = refl

named_into : {a b c : Lexemes} {x : Name} {after : AfterName} → TakesName a x b → TakesAfterName b after c → Statement a (named x after) c
named_into d (TakesAfterName.assigned e t f) = Grammar.assignment d e t f
named_into d (TakesAfterName.called e) = Grammar.call d e

named_only : {a b rest : Lexemes} {place : ℕ} {y : Stmt} → TakesAt Kind.Ident place a b →
    Statement a y rest → Stops forms.statement_goes_on rest →
    (x : Name × AfterName) × (y ≡ named x.0 x.1) × Both TakesName TakesAfterName a x rest
named_only t Grammar.empty s = absurd (not_stopped refl t s)
named_only t (Grammar.assignment {target = target} {selectors = selectors} {value = value} d e u f) s =
    ((target, AfterName.assigned selectors value), refl, (_, d, TakesAfterName.assigned e u f))
named_only t (Grammar.call {procedure = procedure} {actuals = actuals} d e) s =
    ((procedure, AfterName.called actuals), refl, (_, d, TakesAfterName.called e))
named_only t (Grammar.if' u d e v) s = let k = (same_token t u).0 in absurd (cc)
named_only t (Grammar.while u d v e w) s = let k = (same_token t u).0 in absurd (cc)
named_only t (Grammar.repeat u d v e) s = let k = (same_token t u).0 in absurd (cc)

pub leads_named : {n : ℕ} {tokens : Lexemes} {p : ℕ} → kind_at tokens p ≡ Some Kind.Ident →
    Leads (forms.statement n) tokens p (both forms.name (after_name n)) p (λ x. named x.0 x.1)
leads_named {n = n} here = record {
  order = omega arith;
  within = λ h. h;
  into = λ other same x rest d. named_into d.1 d.2;
  onto = λ other same y rest d stops.
      (let m = named_only (takes_same other here same) d stops in (m.0, m.1, m.2, weaker only_name stops));
  breaches = λ x. in_named n x.0 x.1;
}

assignment_starts : {a b c : Lexemes} {place : ℕ} {y : Selectors} → Grammar.Selector a y b → TakesAt Kind.Assign place b c →
    Starts assignment_goes_on a
assignment_starts Grammar.no_more t = there refl t
assignment_starts (Grammar.field u d e) t = there refl u
assignment_starts (Grammar.index u d v e) t = there refl u

-- each of these tokens goes on behind a name
goes_on_there : (k : Kind) → assignment_goes_on k ≡ true → forms.name_goes_on k ≡ true
goes_on_there Kind.Assign h = refl
goes_on_there Kind.Dot h = refl
goes_on_there Kind.LeftBracket h = refl
goes_on_there _ h = absurd (cc)

assigned_only : {kind : Kind} {a b rest : Lexemes} {place : ℕ} {y : AfterName} → assignment_goes_on kind ≡ true → TakesAt kind place a b →
    TakesAfterName a y rest → Stops forms.name_goes_on rest →
    (x : Selectors × (ℕ × Expr)) × (y ≡ AfterName.assigned x.0 x.1.1)
    × Both Grammar.Selector (Both (One Kind.Assign) Expression) a x rest
assigned_only e t (TakesAfterName.assigned {selectors = selectors} {value = value} d u f) s =
    ((selectors, (u.0, value)), refl, (_, d, (_, u.1, f)))
assigned_only {kind = kind} e t (TakesAfterName.called Grammar.absent) s = absurd (not_stopped (goes_on_there kind e) t s)
assigned_only e t (TakesAfterName.called (Grammar.present d)) s =
    absurd (starts_not {first = assignment_goes_on} refl (begins_actuals d).2 (there e t))

pub leads_assigned : {kind : Kind} {n : ℕ} {tokens : Lexemes} {p : ℕ} → assignment_goes_on kind ≡ true → kind_at tokens p ≡ Some kind →
    Leads (after_name n) tokens p (both (forms.selectors n) (both (token Kind.Assign) (forms.expression n))) p
    (λ x. AfterName.assigned x.0 x.1.1)
leads_assigned e here = record {
  order = omega arith;
  within = λ h. h;
  into = λ other same x rest d. TakesAfterName.assigned d.1 (x.1.0, d.2.1) d.2.2;
  onto = λ other same y rest d stops.
      (let m = assigned_only e (takes_same other here same) d stops in (m.0, m.1, m.2, weaker only_expression stops));
  breaches = λ x. refl;
}

-- no part of an assignment begins with this token
no_assigned : {kind : Kind} {a b c d : Lexemes} {place : ℕ} {y : Selectors} → assignment_goes_on kind ≡ false → TakesAt kind place a d →
    Grammar.Selector a y b → Takes Kind.Assign b c → ⊥
no_assigned e t f u = starts_not e t (assignment_starts f u.1)

actuals_only : {a b rest : Lexemes} {place : ℕ} {y : AfterName} → TakesAt Kind.LeftParen place a b →
    TakesAfterName a y rest → Stops forms.name_goes_on rest →
    (x : List Expr) × (y ≡ AfterName.called (Some x)) × ActualParameters a x rest
actuals_only t (TakesAfterName.assigned d u f) s = absurd (no_assigned refl t d u)
actuals_only t (TakesAfterName.called Grammar.absent) s = absurd (not_stopped refl t s)
actuals_only t (TakesAfterName.called (Grammar.present {x = x} d)) s = (x, refl, d)

pub leads_actuals : {n : ℕ} {tokens : Lexemes} {p : ℕ} → kind_at tokens p ≡ Some Kind.LeftParen →
    Leads (after_name n) tokens p (forms.actual_parameters n) p (λ es. AfterName.called (Some es))
leads_actuals here = record {
  order = omega arith;
  within = λ h. h;
  into = λ other same x rest d. TakesAfterName.called (Grammar.present d);
  onto = λ other same y rest d stops.
      (let m = actuals_only (takes_same other here same) d stops in (m.0, m.1, m.2, nothing_stops rest));
  breaches = λ x. refl;
}

-- a name alone

bare_only : {a rest : Lexemes} {y : AfterName} → ((place : ℕ) (b : Lexemes) → TakesAt Kind.LeftParen place a b → ⊥) →
    (Starts assignment_goes_on a → ⊥) → TakesAfterName a y rest → (y ≡ AfterName.called None) × (rest ≡ a)
bare_only h k (TakesAfterName.assigned d u f) = absurd (k (assignment_starts d u.1))
bare_only h k (TakesAfterName.called Grammar.absent) = (refl, refl)
bare_only h k (TakesAfterName.called (Grammar.present d)) = (let m = begins_actuals d in absurd (h m.0 m.1 m.2))

no_assignment : {a : Lexemes} → ((kind : Kind) (place : ℕ) (b : Lexemes) → assignment_goes_on kind ≡ true → TakesAt kind place a b → ⊥) →
    Starts assignment_goes_on a → ⊥
no_assignment h (there e t) = h _ _ _ e t

pub reads_bare : {n : ℕ} {tokens : Lexemes} {p : ℕ} → (kind_at tokens p ≡ Some Kind.LeftParen → ⊥) →
    ((kind : Kind) × (assignment_goes_on kind ≡ true) × (kind_at tokens p ≡ Some kind) → ⊥) →
    Reads (after_name n) tokens p (AfterName.called None) p
reads_bare no_paren no_assigned = record {
  order = omega arith;
  within = λ h. h;
  sound = λ other same. TakesAfterName.called Grammar.absent;
  only = λ other same y rest d stops.
      bare_only (λ place b t. no_takes_same no_paren same t)
      (no_assignment (λ kind place b e t. no_takes_same (λ h. no_assigned (kind, e, h)) same t)) d;
  kept = refl;
}

-- statement = [assignment | ProcedureCall | IfStatement | WhileStatement | RepeatStatement]

empty_only : {a rest : Lexemes} {y : Stmt} → ((place : ℕ) (b : Lexemes) → TakesAt Kind.Ident place a b → ⊥) →
    ((place : ℕ) (b : Lexemes) → TakesAt Kind.If place a b → ⊥) → ((place : ℕ) (b : Lexemes) → TakesAt Kind.While place a b → ⊥) →
    ((place : ℕ) (b : Lexemes) → TakesAt Kind.Repeat place a b → ⊥) → Statement a y rest → (y ≡ Tree.Empty) × (rest ≡ a)
empty_only h k l m Grammar.empty = (refl, refl)
empty_only h k l m (Grammar.assignment {target = target} d e u f) = (let n = begins_name.begins _ target _ d in absurd (h n.0 n.1 n.2))
empty_only h k l m (Grammar.call {procedure = procedure} d e) = (let n = begins_name.begins _ procedure _ d in absurd (h n.0 n.1 n.2))
empty_only h k l m (Grammar.if' u d e v) = absurd (k _ _ u)
empty_only h k l m (Grammar.while u d v e w) = absurd (l _ _ u)
empty_only h k l m (Grammar.repeat u d v e) = absurd (m _ _ u)

pub reads_empty : {n : ℕ} {tokens : Lexemes} {p : ℕ} → (kind_at tokens p ≡ Some Kind.Ident → ⊥) →
    (kind_at tokens p ≡ Some Kind.If → ⊥) → (kind_at tokens p ≡ Some Kind.While → ⊥) → (kind_at tokens p ≡ Some Kind.Repeat → ⊥) →
    Reads (forms.statement n) tokens p Tree.Empty p
reads_empty no_ident no_if no_while no_repeat = record {
  order = omega arith;
  within = λ h. h;
  sound = λ other same. Grammar.empty;
  only = λ other same y rest d stops.
      empty_only (λ place b t. no_takes_same no_ident same t) (λ place b t. no_takes_same no_if same t)
      (λ place b t. no_takes_same no_while same t) (λ place b t. no_takes_same no_repeat same t) d;
  kept = refl;
}

-- no statement begins with its name at another token
no_name : {kind : Kind} {a b c : Lexemes} {place : ℕ} {x : Name} → (kind ≡ Kind.Ident → ⊥) → TakesAt kind place a b → TakesName a x c → ⊥
no_name {x = x} h t d = let m = begins_name.begins _ x _ d in h (same_token m.2 t).0

-- IfStatement = "IF" expression "THEN" StatementSequence
--   {"ELSIF" expression "THEN" StatementSequence} ["ELSE" StatementSequence] "END"

-- the parts behind IF
abbrev pub behind_if : ℕ → Form (Branches × (Otherwise × ℕ))
behind_if n = both (forms.branches n) (both (forms.otherwise n) (token Kind.End))

if_only : {a b rest : Lexemes} {place : ℕ} {y : Stmt} → TakesAt Kind.If place a b → Statement a y rest → Stops forms.statement_goes_on rest →
    (x : ℕ × (Branches × (Otherwise × ℕ))) × (y ≡ Tree.If x.0 x.1.0 x.1.1.0)
    × Both (One Kind.If) (Both Alternative (Both ElsePart (One Kind.End))) a x rest
if_only t Grammar.empty s = absurd (not_stopped refl t s)
if_only t (Grammar.assignment d e u f) s = absurd (no_name (λ e. cc) t d)
if_only t (Grammar.call d e) s = absurd (no_name (λ e. cc) t d)
if_only t (Grammar.if' {place = place} {branches = branches} {otherwise = otherwise} u d e v) s =
    ((place, (branches, (otherwise, v.0))), refl, (_, u, (_, d, (_, e, v.1))))
if_only t (Grammar.while u d v e w) s = let k = (same_token t u).0 in absurd (cc)
if_only t (Grammar.repeat u d v e) s = let k = (same_token t u).0 in absurd (cc)

pub leads_if : {n : ℕ} {tokens : Lexemes} {p : ℕ} → kind_at tokens p ≡ Some Kind.If →
    Leads (forms.statement n) tokens p (both (opens n Kind.If) (behind_if (n + 1))) p (λ x. Tree.If x.0 x.1.0 x.1.1.0)
leads_if {n = n} here = record {
  order = omega arith;
  within = λ h. h;
  into = λ other same x rest d. Grammar.if' d.1 d.2.1 d.2.2.1 (x.1.1.1, d.2.2.2);
  onto = λ other same y rest d stops.
      (let m = if_only (takes_same other here same) d stops in (m.0, m.1, m.2, nothing_stops rest));
  breaches = λ x.
      ap (λ bs. opening n x.0 ++ (in_branches (n + 1) x.1.0 ++ bs)) (sym (append-nil (in_otherwise (n + 1) x.1.1.0)));
}

-- WhileStatement = "WHILE" expression "DO" StatementSequence "END"

-- the parts behind WHILE
abbrev pub behind_while : ℕ → Form (Expr × (ℕ × (Stmts × ℕ)))
behind_while n = both (forms.expression n) (both (token Kind.Do) (both (forms.statements n) (token Kind.End)))

while_only : {a b rest : Lexemes} {place : ℕ} {y : Stmt} → TakesAt Kind.While place a b → Statement a y rest → Stops forms.statement_goes_on rest →
    (x : ℕ × (Expr × (ℕ × (Stmts × ℕ)))) × (y ≡ Tree.While x.0 x.1.0 x.1.1.1.0)
    × Both (One Kind.While) (Both Expression (Both (One Kind.Do) (Both StatementSequence (One Kind.End)))) a x rest
while_only t Grammar.empty s = absurd (not_stopped refl t s)
while_only t (Grammar.assignment d e u f) s = absurd (no_name (λ e. cc) t d)
while_only t (Grammar.call d e) s = absurd (no_name (λ e. cc) t d)
while_only t (Grammar.if' u d e v) s = let k = (same_token t u).0 in absurd (cc)
while_only t (Grammar.while {place = place} {condition = condition} {body = body} u d v e w) s =
    ((place, (condition, (v.0, (body, w.0)))), refl, (_, u, (_, d, (_, v.1, (_, e, w.1)))))
while_only t (Grammar.repeat u d v e) s = let k = (same_token t u).0 in absurd (cc)

pub leads_while : {n : ℕ} {tokens : Lexemes} {p : ℕ} → kind_at tokens p ≡ Some Kind.While →
    Leads (forms.statement n) tokens p (both (opens n Kind.While) (behind_while (n + 1))) p (λ x. Tree.While x.0 x.1.0 x.1.1.1.0)
leads_while {n = n} here = record {
  order = omega arith;
  within = λ h. h;
  into = λ other same x rest d. Grammar.while d.1 d.2.1 (x.1.1.0, d.2.2.1) d.2.2.2.1 (x.1.1.1.1, d.2.2.2.2);
  onto = λ other same y rest d stops.
      (let m = while_only (takes_same other here same) d stops in (m.0, m.1, m.2, nothing_stops rest));
  breaches = λ x.
      ap (λ bs. opening n x.0 ++ (in_expr (n + 1) x.1.0 ++ bs)) (sym (append-nil (in_stmts (n + 1) x.1.1.1.0)));
}

-- RepeatStatement = "REPEAT" StatementSequence "UNTIL" expression

-- the parts behind REPEAT
abbrev pub behind_repeat : ℕ → Form (Stmts × (ℕ × Expr))
behind_repeat n = both (forms.statements n) (both (token Kind.Until) (forms.expression n))

repeat_only : {a b rest : Lexemes} {place : ℕ} {y : Stmt} → TakesAt Kind.Repeat place a b → Statement a y rest → Stops forms.statement_goes_on rest →
    (x : ℕ × (Stmts × (ℕ × Expr))) × (y ≡ Tree.Repeat x.0 x.1.0 x.1.1.1)
    × Both (One Kind.Repeat) (Both StatementSequence (Both (One Kind.Until) Expression)) a x rest
repeat_only t Grammar.empty s = absurd (not_stopped refl t s)
repeat_only t (Grammar.assignment d e u f) s = absurd (no_name (λ e. cc) t d)
repeat_only t (Grammar.call d e) s = absurd (no_name (λ e. cc) t d)
repeat_only t (Grammar.if' u d e v) s = let k = (same_token t u).0 in absurd (cc)
repeat_only t (Grammar.while u d v e w) s = let k = (same_token t u).0 in absurd (cc)
repeat_only t (Grammar.repeat {place = place} {body = body} {condition = condition} u d v e) s =
    ((place, (body, (v.0, condition))), refl, (_, u, (_, d, (_, v.1, e))))

-- what does not continue a statement does not continue the condition that ends it
only_condition : (k : Kind) → forms.statement_goes_on k ≡ false → forms.expression_goes_on k ≡ false
only_condition k h = only_expression k (only_name k h)

pub leads_repeat : {n : ℕ} {tokens : Lexemes} {p : ℕ} → kind_at tokens p ≡ Some Kind.Repeat →
    Leads (forms.statement n) tokens p (both (opens n Kind.Repeat) (behind_repeat (n + 1))) p (λ x. Tree.Repeat x.0 x.1.0 x.1.1.1)
leads_repeat here = record {
  order = omega arith;
  within = λ h. h;
  into = λ other same x rest d. Grammar.repeat d.1 d.2.1 (x.1.1.0, d.2.2.1) d.2.2.2;
  onto = λ other same y rest d stops.
      (let m = repeat_only (takes_same other here same) d stops in (m.0, m.1, m.2, weaker only_condition stops));
  breaches = λ x. refl;
}

-- StatementSequence = statement {";" statement}

sequence_only : {a rest : Lexemes} {y : Stmts} → StatementSequence a y rest →
    (x : Stmt × Stmts) × (y ≡ stmt x.0 x.1) × Both Statement MoreStatements a x rest
sequence_only (Grammar.sequence {s = s} {rest = rest} d e) = ((s, rest), refl, (_, d, e))

pub leads_statements : {n : ℕ} {tokens : Lexemes} {p : ℕ} →
    Leads (forms.statements n) tokens p (both (forms.statement n) (forms.more_statements n)) p (λ x. stmt x.0 x.1)
leads_statements = record {
  order = omega arith;
  within = λ h. h;
  into = λ other same x rest d. Grammar.sequence d.1 d.2;
  onto = λ other same y rest d stops. (let m = sequence_only d in (m.0, m.1, m.2, stops));
  breaches = λ x. refl;
}

more_statements_stop : {a b : Lexemes} {x : Stmts} → MoreStatements a x b → Stops forms.statements_go_on b → Stops forms.statement_goes_on a
more_statements_stop Grammar.no_more_statements s = weaker only_statement s
more_statements_stop (Grammar.more_statements t d) s = stops_at refl t.1

pub statement_follows : {n : ℕ} → Follows (forms.statement n) (forms.more_statements n)
statement_follows = record { stops = λ a x rest d s. more_statements_stop d s }

more_only : {a b rest : Lexemes} {place : ℕ} {y : Stmts} → TakesAt Kind.Semicolon place a b → MoreStatements a y rest →
    Stops forms.statements_go_on rest →
    (x : ℕ × Stmts) × (y ≡ x.1) × Both (One Kind.Semicolon) StatementSequence a x rest
more_only t Grammar.no_more_statements s = absurd (not_stopped refl t s)
more_only t (Grammar.more_statements {rest = rest} u d) s = ((u.0, rest), refl, (_, u.1, d))

pub leads_more_statements : {n : ℕ} {tokens : Lexemes} {p : ℕ} → kind_at tokens p ≡ Some Kind.Semicolon →
    Leads (forms.more_statements n) tokens p (both (token Kind.Semicolon) (forms.statements n)) p (λ x. x.1)
leads_more_statements here = record {
  order = omega arith;
  within = λ h. h;
  into = λ other same x rest d. Grammar.more_statements (x.0, d.1) d.2;
  onto = λ other same y rest d stops. (let m = more_only (takes_same other here same) d stops in (m.0, m.1, m.2, stops));
  breaches = λ x. refl;
}

no_more_only : {a rest : Lexemes} {y : Stmts} → ((place : ℕ) (b : Lexemes) → TakesAt Kind.Semicolon place a b → ⊥) →
    MoreStatements a y rest → (y ≡ no_stmt) × (rest ≡ a)
no_more_only h Grammar.no_more_statements = (refl, refl)
no_more_only h (Grammar.more_statements t d) = absurd (h _ _ t.1)

pub reads_no_statements : {n : ℕ} {tokens : Lexemes} {p : ℕ} → (kind_at tokens p ≡ Some Kind.Semicolon → ⊥) →
    Reads (forms.more_statements n) tokens p no_stmt p
reads_no_statements missing = record {
  order = omega arith;
  within = λ h. h;
  sound = λ other same. Grammar.no_more_statements;
  only = λ other same y rest d stops. no_more_only (λ place b t. no_takes_same missing same t) d;
  kept = refl;
}

-- expression "THEN" StatementSequence

branch_only : {a rest : Lexemes} {y : OneBranch} → TakesBranch a y rest →
    (x : Expr × (ℕ × Stmts)) × (y ≡ record { condition = x.0; body = x.1.1 })
    × Both Expression (Both (One Kind.Then) StatementSequence) a x rest
branch_only (forms.takes_branch {x = x} d t e) = ((x.condition, (t.0, x.body)), refl, (_, d, (_, t.1, e)))

pub leads_branch : {n : ℕ} {tokens : Lexemes} {p : ℕ} →
    Leads (forms.branch n) tokens p (both (forms.expression n) (both (token Kind.Then) (forms.statements n))) p
    (λ x. record { condition = x.0; body = x.1.1 })
leads_branch = record {
  order = omega arith;
  within = λ h. h;
  into = λ other same x rest d. forms.takes_branch d.1 (x.1.0, d.2.1) d.2.2;
  onto = λ other same y rest d stops. (let m = branch_only d in (m.0, m.1, m.2, stops));
  breaches = λ x. refl;
}

-- a branch with each ELSIF behind it

branches_only : {a rest : Lexemes} {y : Branches} → Alternative a y rest →
    (x : OneBranch × Branches) × (y ≡ Tree.branch x.0.condition x.0.body x.1) × Both TakesBranch MoreAlternatives a x rest
branches_only (Grammar.alternative {condition = condition} {body = body} {rest = rest} d t e f) =
    ((record { condition = condition; body = body }, rest), refl, (_, forms.takes_branch d t e, f))

branches_into : {a b c : Lexemes} {x : OneBranch} {rest : Branches} → TakesBranch a x b → MoreAlternatives b rest c →
    Alternative a (Tree.branch x.condition x.body rest) c
branches_into (forms.takes_branch d t e) f = Grammar.alternative d t e f

pub leads_branches : {n : ℕ} {tokens : Lexemes} {p : ℕ} →
    Leads (forms.branches n) tokens p (both (forms.branch n) (forms.more_branches n)) p (λ x. Tree.branch x.0.condition x.0.body x.1)
leads_branches = record {
  order = omega arith;
  within = λ h. h;
  into = λ other same x rest d. branches_into d.1 d.2;
  onto = λ other same y rest d stops. (let m = branches_only d in (m.0, m.1, m.2, stops));
  breaches = λ x. refl;
}

more_branches_stop : {a b : Lexemes} {x : Branches} → MoreAlternatives a x b → Stops forms.alternatives_go_on b → Stops forms.statements_go_on a
more_branches_stop Grammar.no_more_alternatives s = weaker only_branch s
more_branches_stop (Grammar.elsif t d) s = stops_at refl t.1

pub branch_follows : {n : ℕ} → Follows (forms.branch n) (forms.more_branches n)
branch_follows = record { stops = λ a x rest d s. more_branches_stop d s }

elsif_only : {a b rest : Lexemes} {place : ℕ} {y : Branches} → TakesAt Kind.Elsif place a b → MoreAlternatives a y rest →
    Stops forms.alternatives_go_on rest →
    (x : ℕ × Branches) × (y ≡ x.1) × Both (One Kind.Elsif) Alternative a x rest
elsif_only t Grammar.no_more_alternatives s = absurd (not_stopped refl t s)
elsif_only t (Grammar.elsif {rest = rest} u d) s = ((u.0, rest), refl, (_, u.1, d))

pub leads_elsif : {n : ℕ} {tokens : Lexemes} {p : ℕ} → kind_at tokens p ≡ Some Kind.Elsif →
    Leads (forms.more_branches n) tokens p (both (token Kind.Elsif) (forms.branches n)) p (λ x. x.1)
leads_elsif here = record {
  order = omega arith;
  within = λ h. h;
  into = λ other same x rest d. Grammar.elsif (x.0, d.1) d.2;
  onto = λ other same y rest d stops. (let m = elsif_only (takes_same other here same) d stops in (m.0, m.1, m.2, stops));
  breaches = λ x. refl;
}

no_elsif : {a rest : Lexemes} {y : Branches} → ((place : ℕ) (b : Lexemes) → TakesAt Kind.Elsif place a b → ⊥) →
    MoreAlternatives a y rest → (y ≡ no_branch) × (rest ≡ a)
no_elsif h Grammar.no_more_alternatives = (refl, refl)
no_elsif h (Grammar.elsif t d) = absurd (h _ _ t.1)

pub reads_no_elsif : {n : ℕ} {tokens : Lexemes} {p : ℕ} → (kind_at tokens p ≡ Some Kind.Elsif → ⊥) →
    Reads (forms.more_branches n) tokens p no_branch p
reads_no_elsif missing = record {
  order = omega arith;
  within = λ h. h;
  sound = λ other same. Grammar.no_more_alternatives;
  only = λ other same y rest d stops. no_elsif (λ place b t. no_takes_same missing same t) d;
  kept = refl;
}

-- ["ELSE" StatementSequence]

else_only : {a b rest : Lexemes} {place : ℕ} {y : Otherwise} → TakesAt Kind.Else place a b → ElsePart a y rest →
    Stops forms.else_goes_on rest →
    (x : ℕ × Stmts) × (y ≡ else' x.1) × Both (One Kind.Else) StatementSequence a x rest
else_only t Grammar.no_else_part s = absurd (not_stopped refl t s)
else_only t (Grammar.else_part {body = body} u d) s = ((u.0, body), refl, (_, u.1, d))

pub leads_else : {n : ℕ} {tokens : Lexemes} {p : ℕ} → kind_at tokens p ≡ Some Kind.Else →
    Leads (forms.otherwise n) tokens p (both (token Kind.Else) (forms.statements n)) p (λ x. else' x.1)
leads_else here = record {
  order = omega arith;
  within = λ h. h;
  into = λ other same x rest d. Grammar.else_part (x.0, d.1) d.2;
  onto = λ other same y rest d stops.
      (let m = else_only (takes_same other here same) d stops in (m.0, m.1, m.2, weaker only_behind_else stops));
  breaches = λ x. refl;
}

no_else_only : {a rest : Lexemes} {y : Otherwise} → ((place : ℕ) (b : Lexemes) → TakesAt Kind.Else place a b → ⊥) →
    ElsePart a y rest → (y ≡ no_else) × (rest ≡ a)
no_else_only h Grammar.no_else_part = (refl, refl)
no_else_only h (Grammar.else_part t d) = absurd (h _ _ t.1)

pub reads_no_else : {n : ℕ} {tokens : Lexemes} {p : ℕ} → (kind_at tokens p ≡ Some Kind.Else → ⊥) →
    Reads (forms.otherwise n) tokens p no_else p
reads_no_else missing = record {
  order = omega arith;
  within = λ h. h;
  sound = λ other same. Grammar.no_else_part;
  only = λ other same y rest d stops. no_else_only (λ place b t. no_takes_same missing same t) d;
  kept = refl;
}

else_passes : {a rest : Lexemes} {y : Otherwise} → ElsePart a y rest → Stops forms.alternatives_go_on rest → Stops forms.alternatives_go_on a
else_passes Grammar.no_else_part s = s
else_passes (Grammar.else_part t d) s = stops_at refl t.1

-- the branches, before ELSE or END
pub branches_follow : {n : ℕ} → Follows (forms.branches n) (both (forms.otherwise n) (token Kind.End))
branches_follow {n = n} =
    across {G = forms.otherwise n} (record { passes = λ a x rest d s. else_passes d s }) (before_last refl)

-- ["BEGIN" StatementSequence]

pub optional_body : {n : ℕ} → Optional forms.body_goes_on (in_body n) (forms.behind Kind.Begin (forms.statements n)) Kind.Begin
optional_body = record { begins = begins_behind; absent = refl; inner = only_behind_begin; none = refl; some = λ x. refl }

pub fill_body : {n : ℕ} → Fills (forms.body n)
fill_body = fill_perhaps optional_body
