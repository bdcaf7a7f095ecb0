-- {operator operand}: terms and factors behind the first one. Each lemma once, over both.
use Rattle.std.proofs.Common.{drop, ◌≡◌, ℕ, ◌<◌, true, false, List, [], ◌++◌, Some, refl, sym, ◌∙◌, ap, subst, arith, option_map, is_some, IsSome}
use Rattle.std.proofs.lemmas.Option.{same_Some}
use Rattle.ob_scan.specs.declared.token.Kind.{Kind}
use Rattle.ob_scan.specs.Lexemes.{lexeme}
use Rattle.ob_grammar.specs.declared.tree.Operator.{Operator}
use Rattle.ob_grammar.specs.Tree.{Expr, Operands, no_operand, operand}
use Rattle.ob_grammar.specs.Grammar
use Rattle.ob_grammar.specs.Grammar.{Lexemes, Phrase, TakesAt, IsRelation, IsAddition, IsMultiplication, Terms, Factors, Term, Factor}
use Rattle.ob_parser.specs.Reading.{Form, Stops, Reads, kind_of, kind_at}
use Rattle.ob_parser.specs.Forms as forms
use Rattle.ob_parser.specs.Forms.{token, Both, both, selectors_go_on, term_goes_on, simple_goes_on, expression_goes_on}
use Rattle.ob_scan.specs.Sources.{State}
use Rattle.ob_parser.specs.Answers.{IsAt}
use Rattle.ob_parser.proofs.Steps.{Leads, Follows, Fills, takes_same, no_takes_same, same_token, stops_at, not_stopped, weaker}
use Rattle.ob_parser.proofs.Selectors.{ends_term, ends_simple}

-- the token that stands here is an operator, or none

pub operator_found : (R : Kind → Operator → Type 0) (s : State) {k kind : Kind} {place : ℕ} {bytes : List ℕ} {operator : Operator} →
    s.here ≡ Some (lexeme k place bytes) → k ≡ kind → R kind operator →
    record { some : (l : Kind) × R l operator × IsAt s l; none : Unit {0}; within : IsSome s.here }
operator_found R s {kind = kind} e same i = record {
  some = (kind, i, ap (option_map kind_of) e ∙ ap Some same);
  none = tt;
  within = ap is_some e;
}

pub operator_missing : (R : Kind → Operator → Type 0) (s : State) {k : Kind} {place : ℕ} {bytes : List ℕ} → s.here ≡ Some (lexeme k place bytes) →
    ((operator : Operator) → R k operator → ⊥) →
    record { some : Unit {0}; none : (kind : Kind) (operator : Operator) → R kind operator → IsAt s kind → ⊥; within : Unit {0} }
operator_missing R s e none = record {
  some = tt;
  none = λ kind operator i h.
      (let same = same_Some _ _ (sym (ap (option_map kind_of) e) ∙ h) in
      let P : Kind → Type 0 = λ l. R l operator in
      none operator (subst P (sym same) i));
  within = tt;
}

pub no_relation : {k : Kind} {o : Operator} → (k ≡ Kind.Equal → ⊥) → (k ≡ Kind.NotEqual → ⊥) → (k ≡ Kind.Less → ⊥) →
    (k ≡ Kind.LessOrEqual → ⊥) → (k ≡ Kind.Greater → ⊥) → (k ≡ Kind.GreaterOrEqual → ⊥) → IsRelation k o → ⊥
no_relation a b c d e f Grammar.equal = a refl
no_relation a b c d e f Grammar.not_equal = b refl
no_relation a b c d e f Grammar.less = c refl
no_relation a b c d e f Grammar.less_or_equal = d refl
no_relation a b c d e f Grammar.greater = e refl
no_relation a b c d e f Grammar.greater_or_equal = f refl

pub no_addition : {k : Kind} {o : Operator} → (k ≡ Kind.Plus → ⊥) → (k ≡ Kind.Minus → ⊥) → (k ≡ Kind.Or → ⊥) → IsAddition k o → ⊥
no_addition a b c Grammar.plus = a refl
no_addition a b c Grammar.minus = b refl
no_addition a b c Grammar.or = c refl

pub no_multiplication : {k : Kind} {o : Operator} → (k ≡ Kind.Times → ⊥) → (k ≡ Kind.Div → ⊥) → (k ≡ Kind.Mod → ⊥) →
    (k ≡ Kind.And → ⊥) → IsMultiplication k o → ⊥
no_multiplication a b c d Grammar.times = a refl
no_multiplication a b c d Grammar.div = b refl
no_multiplication a b c d Grammar.mod' = c refl
no_multiplication a b c d Grammar.and = d refl

-- a token is one operator

abbrev operator_of : Kind → Operator
operator_of Kind.Equal = Operator.Equal
operator_of Kind.NotEqual = Operator.NotEqual
operator_of Kind.Less = Operator.Less
operator_of Kind.LessOrEqual = Operator.LessOrEqual
operator_of Kind.Greater = Operator.Greater
operator_of Kind.GreaterOrEqual = Operator.GreaterOrEqual
operator_of Kind.Plus = Operator.Plus
operator_of Kind.Minus = Operator.Minus
operator_of Kind.Times = Operator.Times
operator_of Kind.Div = Operator.Div
operator_of Kind.Mod = Operator.Mod
operator_of Kind.And = Operator.And
operator_of _ = Operator.Or

is_relation : {k : Kind} {o : Operator} → IsRelation k o → o ≡ operator_of k
is_relation Grammar.equal = refl
is_relation Grammar.not_equal = refl
is_relation Grammar.less = refl
is_relation Grammar.less_or_equal = refl
is_relation Grammar.greater = refl
is_relation Grammar.greater_or_equal = refl

is_addition : {k : Kind} {o : Operator} → IsAddition k o → o ≡ operator_of k
is_addition Grammar.plus = refl
is_addition Grammar.minus = refl
is_addition Grammar.or = refl

is_multiplication : {k : Kind} {o : Operator} → IsMultiplication k o → o ≡ operator_of k
is_multiplication Grammar.times = refl
is_multiplication Grammar.div = refl
is_multiplication Grammar.mod' = refl
is_multiplication Grammar.and = refl

pub one_relation : {k l : Kind} {o p : Operator} → IsRelation k o → IsRelation l p → l ≡ k → p ≡ o
one_relation i j e = is_relation j ∙ ap operator_of e ∙ sym (is_relation i)

-- an operator continues what holds its operands, and not the operand in front of it

pub relation_goes_on : {k : Kind} {o : Operator} → IsRelation k o → expression_goes_on k ≡ true
relation_goes_on Grammar.equal = refl
relation_goes_on Grammar.not_equal = refl
relation_goes_on Grammar.less = refl
relation_goes_on Grammar.less_or_equal = refl
relation_goes_on Grammar.greater = refl
relation_goes_on Grammar.greater_or_equal = refl

pub relation_stops : {k : Kind} {o : Operator} → IsRelation k o → simple_goes_on k ≡ false
relation_stops Grammar.equal = refl
relation_stops Grammar.not_equal = refl
relation_stops Grammar.less = refl
relation_stops Grammar.less_or_equal = refl
relation_stops Grammar.greater = refl
relation_stops Grammar.greater_or_equal = refl

addition_goes_on : {k : Kind} {o : Operator} → IsAddition k o → simple_goes_on k ≡ true
addition_goes_on Grammar.plus = refl
addition_goes_on Grammar.minus = refl
addition_goes_on Grammar.or = refl

addition_stops : {k : Kind} {o : Operator} → IsAddition k o → term_goes_on k ≡ false
addition_stops Grammar.plus = refl
addition_stops Grammar.minus = refl
addition_stops Grammar.or = refl

multiplication_goes_on : {k : Kind} {o : Operator} → IsMultiplication k o → term_goes_on k ≡ true
multiplication_goes_on Grammar.times = refl
multiplication_goes_on Grammar.div = refl
multiplication_goes_on Grammar.mod' = refl
multiplication_goes_on Grammar.and = refl

multiplication_stops : {k : Kind} {o : Operator} → IsMultiplication k o → selectors_go_on k ≡ false
multiplication_stops Grammar.times = refl
multiplication_stops Grammar.div = refl
multiplication_stops Grammar.mod' = refl
multiplication_stops Grammar.and = refl

-- {operator operand}

-- an operator and its operand with those behind it, or nothing
pub data Chain (R : Kind → Operator → Type 0) (One : Phrase Expr) (More : Phrase Operands) : Lexemes → Operands → Lexemes → Type 0 where
  ends : {a : Lexemes} → Chain R One More a no_operand a
  link : {a b c d : Lexemes} {kind : Kind} {operator : Operator} {place : ℕ} {e : Expr} {rest : Operands} →
      R kind operator → TakesAt kind place a b → One b e c → More c rest d → Chain R One More a (operand operator place e rest) d

-- the operands of G are those of F with these operators
pub record Chained (R : Kind → Operator → Type 0) (F : Form Expr) (G : Form Operands) : Type 0 where
  pub from : (a : Lexemes) (y : Operands) (b : Lexemes) → G.relation a y b → Chain R F.relation G.relation a y b
  pub into : (a : Lexemes) (y : Operands) (b : Lexemes) → Chain R F.relation G.relation a y b → G.relation a y b
  pub is : (kind : Kind) (operator : Operator) → R kind operator → operator ≡ operator_of kind
  pub more : (kind : Kind) (operator : Operator) → R kind operator → G.continues kind ≡ true
  pub stops : (kind : Kind) (operator : Operator) → R kind operator → F.continues kind ≡ false
  pub inner : (k : Kind) → G.continues k ≡ false → F.continues k ≡ false
  pub none : G.breaches no_operand ≡ []
  pub some : (operator : Operator) (place : ℕ) (e : Expr) (rest : Operands) →
      G.breaches (operand operator place e rest) ≡ F.breaches e ++ G.breaches rest

terms_from : {a b : Lexemes} {y : Operands} → Terms a y b → Chain IsAddition Term Terms a y b
terms_from Grammar.no_term = ends
terms_from (Grammar.more_terms i t d e) = link i t d e

terms_into : {a b : Lexemes} {y : Operands} → Chain IsAddition Term Terms a y b → Terms a y b
terms_into ends = Grammar.no_term
terms_into (link i t d e) = Grammar.more_terms i t d e

pub chained_terms : {n : ℕ} → Chained IsAddition (forms.term n) (forms.terms n)
chained_terms = record {
  from = λ a y b d. terms_from d;
  into = λ a y b d. terms_into d;
  is = λ kind operator i. is_addition i;
  more = λ kind operator i. addition_goes_on i;
  stops = λ kind operator i. addition_stops i;
  inner = ends_simple;
  none = refl;
  some = λ operator place e rest. refl;
}

factors_from : {a b : Lexemes} {y : Operands} → Factors a y b → Chain IsMultiplication Factor Factors a y b
factors_from Grammar.no_factor = ends
factors_from (Grammar.more_factors i t d e) = link i t d e

factors_into : {a b : Lexemes} {y : Operands} → Chain IsMultiplication Factor Factors a y b → Factors a y b
factors_into ends = Grammar.no_factor
factors_into (link i t d e) = Grammar.more_factors i t d e

pub chained_factors : {n : ℕ} → Chained IsMultiplication (forms.factor n) (forms.factors n)
chained_factors = record {
  from = λ a y b d. factors_from d;
  into = λ a y b d. factors_into d;
  is = λ kind operator i. is_multiplication i;
  more = λ kind operator i. multiplication_goes_on i;
  stops = λ kind operator i. multiplication_stops i;
  inner = ends_term;
  none = refl;
  some = λ operator place e rest. refl;
}

link_only : {R : Kind → Operator → Type 0} {F : Form Expr} {G : Form Operands} → Chained R F G →
    {kind : Kind} {operator : Operator} {place : ℕ} {a b rest : Lexemes} {y : Operands} →
    R kind operator → TakesAt kind place a b → Chain R F.relation G.relation a y rest → Stops G.continues rest →
    (x : ℕ × (Expr × Operands)) × (y ≡ operand operator x.0 x.1.0 x.1.1)
    × Both (λ c q d. TakesAt kind q c d) (Both F.relation G.relation) a x rest
link_only h i t ends s = absurd (not_stopped (h.more _ _ i) t s)
link_only h {kind = kind} {operator = operator} {a = a} i t (link {b = c} {kind = k} {operator = o} {place = place} {e = e} {rest = rest} j u d f) s =
    let one : k ≡ kind = (same_token t u).0 in
    let same : o ≡ operator = h.is _ _ j ∙ ap operator_of one ∙ sym (h.is _ _ i) in
    let P : Kind → Type 0 = λ l. TakesAt l place a c in
    ((place, (e, rest)), ap (λ p. operand p place e rest) same, (c, subst P one u, (_, d, f)))

pub leads_operand : {R : Kind → Operator → Type 0} {F : Form Expr} {G : Form Operands} {kind : Kind} {operator : Operator}
    {tokens : Lexemes} {p : ℕ} → Chained R F G → R kind operator → kind_at tokens p ≡ Some kind →
    Leads G tokens p (both (token kind) (both F G)) p (λ x. operand operator x.0 x.1.0 x.1.1)
leads_operand {F = F} {G = G} {operator = operator} {p = p} h i here = record {
  order = omega arith;
  within = λ k. k;
  into = λ other same x rest d. h.into (drop p other) (operand operator x.0 x.1.0 x.1.1) rest (link i d.1 d.2.1 d.2.2);
  onto = λ other same y rest d stops.
      (let m = link_only h i (takes_same other here same) (h.from (drop p other) y rest d) stops in (m.0, m.1, m.2, stops));
  breaches = λ x. h.some operator x.0 x.1.0 x.1.1;
}

no_link : {R : Kind → Operator → Type 0} {One : Phrase Expr} {More : Phrase Operands} {a rest : Lexemes} {y : Operands} →
    ((kind : Kind) (operator : Operator) (place : ℕ) (b : Lexemes) → R kind operator → TakesAt kind place a b → ⊥) →
    Chain R One More a y rest → (y ≡ no_operand) × (rest ≡ a)
no_link h ends = (refl, refl)
no_link h (link i t d f) = absurd (h _ _ _ _ i t)

pub reads_no_operand : {R : Kind → Operator → Type 0} {F : Form Expr} {G : Form Operands} {tokens : Lexemes} {p : ℕ} → Chained R F G →
    ((kind : Kind) (operator : Operator) → R kind operator → kind_at tokens p ≡ Some kind → ⊥) → Reads G tokens p no_operand p
reads_no_operand {p = p} h missing = record {
  order = omega arith;
  within = λ k. k;
  sound = λ other same. h.into (drop p other) no_operand (drop p other) ends;
  only = λ other same y rest d stops.
      no_link (λ kind operator place b i t. no_takes_same (missing kind operator i) same t) (h.from (drop p other) y rest d);
  kept = h.none;
}

link_stops : {R : Kind → Operator → Type 0} {F : Form Expr} {G : Form Operands} → Chained R F G → {a rest : Lexemes} {y : Operands} →
    Chain R F.relation G.relation a y rest → Stops G.continues rest → Stops F.continues a
link_stops h ends s = weaker h.inner s
link_stops h (link i t d f) s = stops_at (h.stops _ _ i) t

-- an operand and those behind it
pub operands_follow : {R : Kind → Operator → Type 0} {F : Form Expr} {G : Form Operands} → Chained R F G → Follows F G
operands_follow h = record { stops = λ a x rest d s. link_stops h (h.from a x rest d) s }

pub fill_operands : {R : Kind → Operator → Type 0} {F : Form Expr} {G : Form Operands} → Chained R F G → Fills G
fill_operands h = record { more = []; tree = no_operand; derives = λ rest. h.into rest no_operand rest ends; kept = h.none }
