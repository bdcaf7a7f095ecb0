-- Expressions: what is left of each, by the token that stands there.
use Rattle.std.proofs.Common.{ℤ, pos, drop, ◌≡◌, ℕ, suc, zero, ◌+◌, ◌<◌, Bool, true, false, List, [], ◌∷◌, ◌++◌, Option, Some, None, refl, sym, ◌∙◌, ap, subst, arith, slice_get}
use Rattle.std.proofs.lemmas.Option.{slice_get_within}
use Rattle.std.proofs.lemmas.List.{append-nil}
use Rattle.std.specs.Option.{option_map_or}
use Rattle.ob_scan.specs.declared.token.Kind.{Kind}
use Rattle.ob_scan.specs.Spelling.{number_value}
use Rattle.ob_scan.specs.Lexemes.{Lexeme, lexeme}
use Rattle.ob_grammar.specs.declared.tree.Operator.{Operator}
use Rattle.ob_grammar.specs.declared.tree.Sign.{Sign}
use Rattle.ob_grammar.specs.Tree
use Rattle.ob_grammar.specs.Tree.{Name, Expr, Operands, no_operand, operand, Selectors}
use Rattle.ob_grammar.specs.Grammar
use Rattle.ob_grammar.specs.Grammar.{Lexemes, TakesAt, takes, TakesName, Perhaps, IsRelation, TakesSign, Expression, SimpleExpression, Terms, Term, Factors, Factor, Selector}
use Rattle.ob_grammar.specs.EndNamesAndNesting.{opening, in_expr, in_operands}
use Rattle.ob_parser.specs.Reading.{Form, Stops, Reads, unexpected, Refuses, kind_at, place_at}
use Rattle.ob_parser.specs.Forms as forms
use Rattle.ob_parser.specs.Forms.{token, opens, Both, both, simple_goes_on, expression_goes_on}
use Rattle.ob_scan.specs.Sources.{State, Steps}
use Rattle.ob_parser.specs.ParseFaults.{lexemes_of}
use Rattle.ob_parser.specs.Answers.{IsAt, IsSpelledAt, place_here, Went}
use Rattle.ob_parser.proofs.States.{at_here, place_there, went_one}
use Rattle.ob_parser.proofs.Steps.{Leads, Follows, Fills, lexeme_there, takes_same, no_takes_same, same_token, stops_at, not_stopped, weaker, kind_within, shorter, same_place, nothing_stops}
use Rattle.ob_parser.proofs.Firsts.{factor_first, term_starts, factor_starts, starts_stop, refuses_starting, fill_factor}
use Rattle.ob_parser.proofs.Selectors.{ends_expression}
use Rattle.ob_parser.proofs.Operators.{one_relation, relation_goes_on, relation_stops}

-- ["+" | "-"]

-- the token of a sign
abbrev pub sign_kind : Bool → Kind
sign_kind true = Kind.Minus
sign_kind false = Kind.Plus

sign_made : {a b : Lexemes} {place : ℕ} (is_minus : Bool) → TakesAt (sign_kind is_minus) place a b →
    TakesSign a (record { is_minus = is_minus; place = place }) b
sign_made true t = Grammar.minus t
sign_made false t = Grammar.plus t

sign_from : {a b : Lexemes} {y : Sign} → TakesSign a y b → TakesAt (sign_kind y.is_minus) y.place a b
sign_from (Grammar.plus t) = t
sign_from (Grammar.minus t) = t

signs_go_on : (is_minus : Bool) → forms.signs (sign_kind is_minus) ≡ true
signs_go_on true = refl
signs_go_on false = refl

one_sign : (is_minus other : Bool) → sign_kind other ≡ sign_kind is_minus → other ≡ is_minus
one_sign true true e = refl
one_sign true false e = absurd (cc)
one_sign false true e = absurd (cc)
one_sign false false e = refl

sign_only : {place : ℕ} {a b rest : Lexemes} {y : Option Sign} (is_minus : Bool) →
    TakesAt (sign_kind is_minus) place a b → Perhaps TakesSign a y rest → Stops forms.signs rest →
    (y ≡ Some (record { is_minus = is_minus; place = place })) × (rest ≡ b)
sign_only is_minus t Grammar.absent s = absurd (not_stopped (signs_go_on is_minus) t s)
sign_only {place = place} is_minus t (Grammar.present {x = x} d) s =
    let one = same_token t (sign_from d) in
    let P : Bool → Option Sign = λ b. Some (record { is_minus = b; place = x.place }) in
    let Q : ℕ → Option Sign = λ q. Some (record { is_minus = is_minus; place = q }) in
    (ap P (one_sign is_minus x.is_minus one.0) ∙ ap Q one.1, one.2)

pub reads_sign : {tokens : Lexemes} {p : ℕ} (is_minus : Bool) → kind_at tokens p ≡ Some (sign_kind is_minus) →
    Reads forms.sign tokens p (Some (record { is_minus = is_minus; place = place_at 0 tokens p })) (suc p)
reads_sign {tokens = tokens} {p = p} is_minus here = record {
  order = omega arith;
  within = λ h. (let k = kind_within tokens p (sign_kind is_minus) here in omega arith);
  sound = λ other same.
      (let P : ℕ → Type 0 = λ q. Perhaps TakesSign (drop p other) (Some (record { is_minus = is_minus; place = q })) (drop (suc p) other) in
      let below : p < suc p = omega arith in
      subst P (same_place same below) (Grammar.present (sign_made is_minus (takes_same other here same))));
  only = λ other same y rest d stops.
      (let m = sign_only is_minus (takes_same other here (shorter (omega arith) same)) d stops in
      let below : p < suc (suc p) = omega arith in
      let P : ℕ → Option Sign = λ q. Some (record { is_minus = is_minus; place = q }) in
      (m.0 ∙ ap P (same_place same below), m.1));
  kept = refl;
}

no_sign : {a rest : Lexemes} {y : Option Sign} →
    ((is_minus : Bool) (place : ℕ) (b : Lexemes) → TakesAt (sign_kind is_minus) place a b → ⊥) →
    Perhaps TakesSign a y rest → (y ≡ None) × (rest ≡ a)
no_sign h Grammar.absent = (refl, refl)
no_sign h (Grammar.present {x = x} d) = absurd (h x.is_minus x.place _ (sign_from d))

pub reads_no_sign : {tokens : Lexemes} {p : ℕ} → ((is_minus : Bool) → kind_at tokens p ≡ Some (sign_kind is_minus) → ⊥) →
    Reads forms.sign tokens p None p
reads_no_sign missing = record {
  order = omega arith;
  within = λ h. h;
  sound = λ other same. Grammar.absent;
  only = λ other same y rest d stops. no_sign (λ is_minus place b t. no_takes_same (missing is_minus) same t) d;
  kept = refl;
}

no_sign_first : (k : Kind) → factor_first k ≡ true → forms.signs k ≡ false
no_sign_first Kind.Plus h = absurd (cc)
no_sign_first Kind.Minus h = absurd (cc)
no_sign_first _ h = refl

-- a sign and the term behind it
pub sign_follows : {B : Type 0} {n : ℕ} (G : Form B) → Follows forms.sign (both (forms.term n) G)
sign_follows G = record { stops = λ a x rest d s. starts_stop no_sign_first (term_starts d.1) }

-- factor = ident selector | number | "(" expression ")" | "~" factor

factor_name : {a b rest : Lexemes} {place : ℕ} {y : Expr} → TakesAt Kind.Ident place a b → Factor a y rest →
    (x : Name × Selectors) × (y ≡ Tree.Named x.0 x.1) × Both TakesName Selector a x rest
factor_name t (Grammar.named {name = name} {selectors = selectors} d e) = ((name, selectors), refl, (_, d, e))
factor_name t Grammar.number = elim t [ ]
factor_name takes (Grammar.parens t d u) = elim t [ ]
factor_name takes (Grammar.not t d) = elim t [ ]

pub leads_named : {n p : ℕ} {tokens : Lexemes} → kind_at tokens p ≡ Some Kind.Ident →
    Leads (forms.factor n) tokens p (both forms.name (forms.selectors n)) p (λ x. Tree.Named x.0 x.1)
leads_named here = record {
  order = omega arith;
  within = λ h. h;
  into = λ other same x rest d. Grammar.named d.1 d.2;
  onto = λ other same y rest d stops. (let m = factor_name (takes_same other here same) d in (m.0, m.1, m.2, stops));
  breaches = λ x. refl;
}

factor_number : {t : Lexeme} {a rest : Lexemes} {y : Expr} (place : ℕ) (bytes : List ℕ) → Factor (t ∷ a) y rest →
    t ≡ lexeme Kind.Number place bytes → (y ≡ Tree.Number (pos (number_value bytes)) place) × (rest ≡ a)
factor_number place bytes (Grammar.named Grammar.takes d) e = absurd (cc)
factor_number place bytes (Grammar.number {place = q} {bytes = cs}) e =
    let located : q ≡ place = cc in
    let which : cs ≡ bytes = cc in
    (ap (λ ds. Tree.Number (pos (number_value ds)) q) which ∙ ap (λ r. Tree.Number (pos (number_value bytes)) r) located, refl)
factor_number place bytes (Grammar.parens takes d u) e = absurd (cc)
factor_number place bytes (Grammar.not takes d) e = absurd (cc)

number_only : (tokens : Lexemes) (p place : ℕ) (bytes : List ℕ) {y : Expr} {rest : Lexemes} →
    slice_get tokens p ≡ Some (lexeme Kind.Number place bytes) → Factor (drop p tokens) y rest →
    (y ≡ Tree.Number (pos (number_value bytes)) place) × (rest ≡ drop (suc p) tokens)
number_only [] p place bytes e h = absurd (cc)
number_only (t ∷ tokens) zero place bytes e h = factor_number place bytes h (cc)
number_only (t ∷ tokens) (suc p) place bytes e h = number_only tokens p place bytes e h

number_there : (tokens : Lexemes) (p place : ℕ) (bytes : List ℕ) → slice_get tokens p ≡ Some (lexeme Kind.Number place bytes) →
    Factor (drop p tokens) (Tree.Number (pos (number_value bytes)) place) (drop (suc p) tokens)
number_there [] p place bytes e = absurd (cc)
number_there (t ∷ tokens) zero place bytes e =
    let P : Lexeme → Type 0 = λ u. Factor (u ∷ tokens) (Tree.Number (pos (number_value bytes)) place) tokens in
    let same : lexeme Kind.Number place bytes ≡ t = cc in
    subst P same Grammar.number
number_there (t ∷ tokens) (suc p) place bytes e = number_there tokens p place bytes e

reads_number : {n p place : ℕ} {tokens : Lexemes} {bytes : List ℕ} → slice_get tokens p ≡ Some (lexeme Kind.Number place bytes) →
    Reads (forms.factor n) tokens p (Tree.Number (pos (number_value bytes)) place) (suc p)
reads_number {p = p} {place = place} {tokens = tokens} {bytes = bytes} here = record {
  order = omega arith;
  within = λ h. (let k = slice_get_within tokens p _ here in omega arith);
  sound = λ other same. number_there other p place bytes (same.at p (omega arith) ∙ here);
  only = λ other same y rest d stops. number_only other p place bytes (same.at p (omega arith) ∙ here) d;
  kept = refl;
}

-- a number that is read, from its token
pub went_number : {n : ℕ} {s t : State} (value : ℤ) (place : ℕ) (bytes : List ℕ) → Steps s t → IsAt s Kind.Number → IsSpelledAt s bytes →
    value ≡ pos (number_value bytes) → place ≡ place_here s → Went (forms.factor n) s (Tree.Number value place) t
went_number {n = n} value place bytes steps here spelled is located =
    went_one steps
    (λ source p w.
    (let tokens = lexemes_of source in
    let there = lexeme_there tokens p (at_here w here) in
    let same : value ≡ pos (number_value there.0) =
    is ∙ ap (λ ds. pos (number_value ds)) (spelled Kind.Number (place_at 0 tokens p) there.0 (sym w.next ∙ there.1)) in
    let P : Expr → Type 0 = λ x. Reads (forms.factor n) tokens p x (suc p) in
    subst P
    (ap (λ v. Tree.Number v (place_at 0 tokens p)) (sym same) ∙ ap (λ q. Tree.Number value q) (sym (located ∙ place_there w)))
    (reads_number there.1)))

factor_parens : {a b rest : Lexemes} {place : ℕ} {y : Expr} → TakesAt Kind.LeftParen place a b → Factor a y rest →
    (x : ℕ × (Expr × ℕ)) × (y ≡ Tree.Parens x.0 x.1.0)
    × Both (λ c q d. TakesAt Kind.LeftParen q c d) (Both Expression (λ c q d. TakesAt Kind.RightParen q c d)) a x rest
factor_parens takes (Grammar.named d e) = elim d [ ]
factor_parens t Grammar.number = elim t [ ]
factor_parens t (Grammar.parens {place = place} {inner = inner} u d v) = ((place, (inner, v.0)), refl, (_, u, (_, d, v.1)))
factor_parens takes (Grammar.not t d) = elim t [ ]

pub leads_parens : {n p : ℕ} {tokens : Lexemes} → kind_at tokens p ≡ Some Kind.LeftParen →
    Leads (forms.factor n) tokens p (both (opens n Kind.LeftParen) (both (forms.expression (n + 1)) (token Kind.RightParen))) p
    (λ x. Tree.Parens x.0 x.1.0)
leads_parens {n = n} here = record {
  order = omega arith;
  within = λ h. h;
  into = λ other same x rest d. Grammar.parens d.1 d.2.1 (x.1.1, d.2.2);
  onto = λ other same y rest d stops. (let m = factor_parens (takes_same other here same) d in (m.0, m.1, m.2, nothing_stops rest));
  breaches = λ x. ap (λ ds. opening n x.0 ++ ds) (sym (append-nil (in_expr (n + 1) x.1.0)));
}

factor_not : {a b rest : Lexemes} {place : ℕ} {y : Expr} → TakesAt Kind.Not place a b → Factor a y rest →
    (x : ℕ × Expr) × (y ≡ Tree.Not x.0 x.1) × Both (λ c q d. TakesAt Kind.Not q c d) Factor a x rest
factor_not takes (Grammar.named d e) = elim d [ ]
factor_not t Grammar.number = elim t [ ]
factor_not takes (Grammar.parens t d u) = elim t [ ]
factor_not t (Grammar.not {place = place} {e = e} u d) = ((place, e), refl, (_, u, d))

pub leads_not : {n p : ℕ} {tokens : Lexemes} → kind_at tokens p ≡ Some Kind.Not →
    Leads (forms.factor n) tokens p (both (opens n Kind.Not) (forms.factor (n + 1))) p (λ x. Tree.Not x.0 x.1)
leads_not here = record {
  order = omega arith;
  within = λ h. h;
  into = λ other same x rest d. Grammar.not d.1 d.2;
  onto = λ other same y rest d stops. (let m = factor_not (takes_same other here same) d in (m.0, m.1, m.2, stops));
  breaches = λ x. refl;
}

no_factor_here : (tokens : Lexemes) (p : ℕ) → (kind_at tokens p ≡ Some Kind.LeftParen → ⊥) → (kind_at tokens p ≡ Some Kind.Not → ⊥) →
    (kind_at tokens p ≡ Some Kind.Number → ⊥) → (kind_at tokens p ≡ Some Kind.Ident → ⊥) →
    (k : Kind) → factor_first k ≡ true → kind_at tokens p ≡ Some k → ⊥
no_factor_here tokens p no_paren no_not no_number no_name Kind.LeftParen e here = no_paren here
no_factor_here tokens p no_paren no_not no_number no_name Kind.Not e here = no_not here
no_factor_here tokens p no_paren no_not no_number no_name Kind.Number e here = no_number here
no_factor_here tokens p no_paren no_not no_number no_name Kind.Ident e here = no_name here
no_factor_here tokens p no_paren no_not no_number no_name _ e here = absurd (cc)

pub refuses_factor : {n p : ℕ} {tokens : Lexemes} → (kind_at tokens p ≡ Some Kind.LeftParen → ⊥) →
    (kind_at tokens p ≡ Some Kind.Not → ⊥) → (kind_at tokens p ≡ Some Kind.Number → ⊥) → (kind_at tokens p ≡ Some Kind.Ident → ⊥) →
    Refuses (forms.factor n) tokens p unexpected p
refuses_factor {p = p} {tokens = tokens} no_paren no_not no_number no_name =
    refuses_starting (λ a x rest d. factor_starts d) fill_factor (no_factor_here tokens p no_paren no_not no_number no_name)

-- term = factor {("*" | "DIV" | "MOD" | "&") factor}

abbrev pub product_of : Expr → Operands → Expr
product_of e no_operand = e
product_of e (operand o p f rest) = Tree.Product e (operand o p f rest)

term_made : {a b c : Lexemes} {e : Expr} (fs : Operands) → Factor a e b → Factors b fs c → Term a (product_of e fs) c
term_made no_operand d Grammar.no_factor = Grammar.one_factor d
term_made (operand o p f rest) d (Grammar.more_factors i t e g) = Grammar.product d i t e g

term_only : {a rest : Lexemes} {y : Expr} → Term a y rest →
    (x : Expr × Operands) × (y ≡ product_of x.0 x.1) × Both Factor Factors a x rest
term_only (Grammar.one_factor {e = e} d) = ((e, no_operand), refl, (_, d, Grammar.no_factor))
term_only (Grammar.product {first = first} {second = second} {operator = operator} {place = place} {rest = rest} d i t e f) =
    ((first, operand operator place second rest), refl, (_, d, Grammar.more_factors i t e f))

product_breaches : (n : ℕ) (e : Expr) (fs : Operands) → in_expr n (product_of e fs) ≡ in_expr n e ++ in_operands n fs
product_breaches n e no_operand = sym (append-nil (in_expr n e))
product_breaches n e (operand o p f rest) = refl

pub leads_term : {n p : ℕ} {tokens : Lexemes} →
    Leads (forms.term n) tokens p (both (forms.factor n) (forms.factors n)) p (λ x. product_of x.0 x.1)
leads_term {n = n} = record {
  order = omega arith;
  within = λ h. h;
  into = λ other same x rest d. term_made x.1 d.1 d.2;
  onto = λ other same y rest d stops. (let m = term_only d in (m.0, m.1, m.2, stops));
  breaches = λ x. product_breaches n x.0 x.1;
}

-- SimpleExpression = ["+" | "-"] term {("+" | "-" | "OR") term}

abbrev pub sum_of : Option Sign → Expr → Operands → Expr
sum_of None e no_operand = e
sum_of None e (operand o p f rest) = Tree.Sum None e (operand o p f rest)
sum_of (Some s) e rest = Tree.Sum (Some s) e rest

simple_made : {a b c d : Lexemes} {e : Expr} (s : Option Sign) (ts : Operands) →
    Perhaps TakesSign a s b → Term b e c → Terms c ts d → SimpleExpression a (sum_of s e ts) d
simple_made None no_operand Grammar.absent d Grammar.no_term = Grammar.one_term d
simple_made None (operand o p f rest) Grammar.absent d (Grammar.more_terms i t e g) = Grammar.sum d i t e g
simple_made (Some s) ts (Grammar.present t) d g = Grammar.signed t d g

simple_only : {a rest : Lexemes} {y : Expr} → SimpleExpression a y rest →
    (x : Option Sign × (Expr × Operands)) × (y ≡ sum_of x.0 x.1.0 x.1.1) × Both (Perhaps TakesSign) (Both Term Terms) a x rest
simple_only (Grammar.one_term {e = e} d) = ((None, (e, no_operand)), refl, (_, Grammar.absent, (_, d, Grammar.no_term)))
simple_only (Grammar.signed {sign = sign} {first = first} {rest = rest} t d f) =
    ((Some sign, (first, rest)), refl, (_, Grammar.present t, (_, d, f)))
simple_only (Grammar.sum {first = first} {second = second} {operator = operator} {place = place} {rest = rest} d i t e f) =
    ((None, (first, operand operator place second rest)), refl, (_, Grammar.absent, (_, d, Grammar.more_terms i t e f)))

sum_breaches : (n : ℕ) (s : Option Sign) (e : Expr) (ts : Operands) → in_expr n (sum_of s e ts) ≡ in_expr n e ++ in_operands n ts
sum_breaches n None e no_operand = sym (append-nil (in_expr n e))
sum_breaches n None e (operand o p f rest) = refl
sum_breaches n (Some s) e ts = refl

pub leads_simple : {n p : ℕ} {tokens : Lexemes} →
    Leads (forms.simple_expression n) tokens p (both forms.sign (both (forms.term n) (forms.terms n))) p (λ x. sum_of x.0 x.1.0 x.1.1)
leads_simple {n = n} = record {
  order = omega arith;
  within = λ h. h;
  into = λ other same x rest d. simple_made x.0 x.1.1 d.1 d.2.1 d.2.2;
  onto = λ other same y rest d stops. (let m = simple_only d in (m.0, m.1, m.2, stops));
  breaches = λ x. sum_breaches n x.0 x.1.0 x.1.1;
}

-- expression = SimpleExpression [("=" | "#" | "<" | "<=" | ">" | ">=") SimpleExpression]

-- [("=" | "#" | "<" | "<=" | ">" | ">=") SimpleExpression], with the place of the operator
pub data Compared : Lexemes → Option (Operator × (ℕ × Expr)) → Lexemes → Type 0 where
  alone : {a : Lexemes} → Compared a None a
  compared : {a b c : Lexemes} {kind : Kind} {operator : Operator} {place : ℕ} {right : Expr} →
      IsRelation kind operator → TakesAt kind place a b → SimpleExpression b right c → Compared a (Some (operator, (place, right))) c

abbrev pub comparison : ℕ → Form (Option (Operator × (ℕ × Expr)))
comparison n = record { relation = Compared; continues = expression_goes_on; breaches = λ r. option_map_or (λ c. in_expr n c.1.1) r [] }

abbrev pub comparison_of : Expr → Option (Operator × (ℕ × Expr)) → Expr
comparison_of e None = e
comparison_of e (Some r) = Tree.Comparison e r.0 r.1.0 r.1.1

expression_made : {a b c : Lexemes} {e : Expr} (r : Option (Operator × (ℕ × Expr))) →
    SimpleExpression a e b → Compared b r c → Expression a (comparison_of e r) c
expression_made None d alone = Grammar.simple d
expression_made (Some r) d (compared i t e) = Grammar.comparison d i t e

expression_only : {a rest : Lexemes} {y : Expr} → Expression a y rest →
    (x : Expr × Option (Operator × (ℕ × Expr))) × (y ≡ comparison_of x.0 x.1) × Both SimpleExpression Compared a x rest
expression_only (Grammar.simple {e = e} d) = ((e, None), refl, (_, d, alone))
expression_only (Grammar.comparison {left = left} {right = right} {operator = operator} {place = place} d i t e) =
    ((left, Some (operator, (place, right))), refl, (_, d, compared i t e))

comparison_breaches : (n : ℕ) (e : Expr) (r : Option (Operator × (ℕ × Expr))) →
    in_expr n (comparison_of e r) ≡ in_expr n e ++ (comparison n).breaches r
comparison_breaches n e None = sym (append-nil (in_expr n e))
comparison_breaches n e (Some r) = refl

pub leads_expression : {n p : ℕ} {tokens : Lexemes} →
    Leads (forms.expression n) tokens p (both (forms.simple_expression n) (comparison n)) p (λ x. comparison_of x.0 x.1)
leads_expression {n = n} = record {
  order = omega arith;
  within = λ h. h;
  into = λ other same x rest d. expression_made x.1 d.1 d.2;
  onto = λ other same y rest d stops. (let m = expression_only d in (m.0, m.1, m.2, stops));
  breaches = λ x. comparison_breaches n x.0 x.1;
}

compared_stops : {a rest : Lexemes} {r : Option (Operator × (ℕ × Expr))} → Compared a r rest → Stops expression_goes_on rest → Stops simple_goes_on a
compared_stops alone s = weaker ends_expression s
compared_stops (compared i t d) s = stops_at (relation_stops i) t

pub comparison_follows : {n : ℕ} → Follows (forms.simple_expression n) (comparison n)
comparison_follows = record { stops = λ a x rest d s. compared_stops d s }

pub fill_comparison : {n : ℕ} → Fills (comparison n)
fill_comparison = record { more = []; tree = None; derives = λ rest. alone; kept = refl }

compared_only : {kind : Kind} {operator : Operator} {place : ℕ} {a b rest : Lexemes} {r : Option (Operator × (ℕ × Expr))} →
    IsRelation kind operator → TakesAt kind place a b → Compared a r rest → Stops expression_goes_on rest →
    (x : ℕ × Expr) × (r ≡ Some (operator, x)) × Both (λ c q d. TakesAt kind q c d) SimpleExpression a x rest
compared_only i t alone s = absurd (not_stopped (relation_goes_on i) t s)
compared_only {kind = kind} {a = a} i t (compared {b = c} {place = place} {right = right} j u d) s =
    let one = same_token t u in
    let P : Kind → Type 0 = λ k. TakesAt k place a c in
    ((place, right), ap (λ o. Some (o, (place, right))) (one_relation i j one.0), (c, subst P one.0 u, d))

pub leads_comparison : {n p : ℕ} {kind : Kind} {operator : Operator} {tokens : Lexemes} → IsRelation kind operator → kind_at tokens p ≡ Some kind →
    Leads (comparison n) tokens p (both (token kind) (forms.simple_expression n)) p (λ x. Some (operator, x))
leads_comparison i here = record {
  order = omega arith;
  within = λ h. h;
  into = λ other same x rest d. compared i d.1 d.2;
  onto = λ other same y rest d stops.
      (let m = compared_only i (takes_same other here same) d stops in (m.0, m.1, m.2, weaker ends_expression stops));
  breaches = λ x. refl;
}

not_compared : {a rest : Lexemes} {r : Option (Operator × (ℕ × Expr))} →
    ((kind : Kind) (operator : Operator) (place : ℕ) (b : Lexemes) → IsRelation kind operator → TakesAt kind place a b → ⊥) →
    Compared a r rest → (r ≡ None) × (rest ≡ a)
not_compared h alone = (refl, refl)
not_compared h (compared i t d) = absurd (h _ _ _ _ i t)

pub reads_no_comparison : {n p : ℕ} {tokens : Lexemes} →
    ((kind : Kind) (operator : Operator) → IsRelation kind operator → kind_at tokens p ≡ Some kind → ⊥) → Reads (comparison n) tokens p None p
reads_no_comparison missing = record {
  order = omega arith;
  within = λ h. h;
  sound = λ other same. alone;
  only = λ other same y rest d stops. not_compared (λ kind operator place b i t. no_takes_same (missing kind operator i) same t) d;
  kept = refl;
}
