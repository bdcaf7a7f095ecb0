-- The tokens that expressions begin with, and a smallest expression of each kind.
use Rattle.std.proofs.Common.{◌≡◌, ℕ, pos, Bool, true, false, [], ◌∷◌, drop, Some, refl, arith}
use Rattle.ob_scan.specs.declared.token.Kind.{Kind}
use Rattle.ob_scan.specs.Lexemes.{lexeme}
use Rattle.ob_grammar.specs.Tree
use Rattle.ob_grammar.specs.Tree.{Expr}
use Rattle.ob_grammar.specs.Grammar
use Rattle.ob_grammar.specs.Grammar.{Lexemes, TakesAt, TakesName, takes, Expression, SimpleExpression, Term, Factor}
use Rattle.ob_parser.specs.Reading.{Form, Stops, unexpected, Refuses, kind_at}
use Rattle.ob_parser.specs.Forms as forms
use Rattle.ob_parser.proofs.Steps.{Fills, Follows, same_token, stops_at, no_takes_same, alive_here}

-- one of these tokens stands here
pub data Starts (first : Kind → Bool) (a : Lexemes) : Type 0 where
  there : {kind : Kind} {place : ℕ} {b : Lexemes} → first kind ≡ true → TakesAt kind place a b → Starts first a

abbrev pub factor_first : Kind → Bool
factor_first Kind.Ident = true
factor_first Kind.Number = true
factor_first Kind.LeftParen = true
factor_first Kind.Not = true
factor_first _ = false

abbrev pub expression_first : Kind → Bool
expression_first Kind.Plus = true
expression_first Kind.Minus = true
expression_first k = factor_first k

name_there : {a b : Lexemes} {x : Tree.Name} → TakesName a x b → Starts factor_first a
name_there Grammar.takes = there refl takes

pub factor_starts : {a rest : Lexemes} {y : Expr} → Factor a y rest → Starts factor_first a
factor_starts (Grammar.named d e) = name_there d
factor_starts Grammar.number = there refl takes
factor_starts (Grammar.parens t d e) = there refl t
factor_starts (Grammar.not t d) = there refl t

pub term_starts : {a rest : Lexemes} {y : Expr} → Term a y rest → Starts factor_first a
term_starts (Grammar.one_factor d) = factor_starts d
term_starts (Grammar.product d i t e f) = factor_starts d

sign_there : {a b : Lexemes} {y : _} → Grammar.TakesSign a y b → Starts expression_first a
sign_there (Grammar.plus t) = there refl t
sign_there (Grammar.minus t) = there refl t

wider : (k : Kind) → factor_first k ≡ true → expression_first k ≡ true
wider Kind.Plus h = refl
wider Kind.Minus h = refl
wider _ h = h

widened : {a : Lexemes} → Starts factor_first a → Starts expression_first a
widened (there {kind = kind} e t) = there (wider kind e) t

pub simple_starts : {a rest : Lexemes} {y : Expr} → SimpleExpression a y rest → Starts expression_first a
simple_starts (Grammar.one_term d) = widened (term_starts d)
simple_starts (Grammar.signed s d e) = sign_there s
simple_starts (Grammar.sum d i t e f) = widened (term_starts d)

pub expression_starts : {a rest : Lexemes} {y : Expr} → Expression a y rest → Starts expression_first a
expression_starts (Grammar.simple d) = simple_starts d
expression_starts (Grammar.comparison d i t e) = simple_starts d

-- what begins so does not continue what these tokens don't continue
pub starts_stop : {first C : Kind → Bool} {a : Lexemes} → ((k : Kind) → first k ≡ true → C k ≡ false) → Starts first a → Stops C a
starts_stop h (there {kind = kind} e t) = stops_at (h kind e) t

-- another token doesn't stand there
pub starts_not : {first : Kind → Bool} {kind : Kind} {a b : Lexemes} {place : ℕ} → first kind ≡ false → TakesAt kind place a b → Starts first a → ⊥
starts_not {first = first} e t (there f u) = let m = (same_token t u).0 in cc

-- no phrase stands where none of its first tokens does
pub refuses_starting : {A : Type 0} {F : Form A} {first : Kind → Bool} {tokens : Lexemes} {p : ℕ} →
    ((a : Lexemes) (x : A) (rest : Lexemes) → F.relation a x rest → Starts first a) → Fills F →
    ((k : Kind) → first k ≡ true → kind_at tokens p ≡ Some k → ⊥) → Refuses F tokens p unexpected p
refuses_starting {F = F} {first = first} {tokens = tokens} {p = p} begins fills missing = record {
  order = omega arith;
  never = λ other same y rest d stops.
      elim (begins (drop p other) y rest d) [
        | there {kind = kind} e t ↦ no_takes_same (missing kind e) same t
      ];
  within = λ h. h;
  alive = alive_here tokens p fills;
  there = λ breach. absurd breach;
  reached = λ breach. absurd breach;
}

-- before an expression
pub before_expression : {A : Type 0} {F : Form A} {n : ℕ} → ((k : Kind) → expression_first k ≡ true → F.continues k ≡ false) →
    Follows F (forms.expression n)
before_expression h = record { stops = λ a x rest d s. starts_stop h (expression_starts d) }

-- smallest phrases

pub fill_factor : {n : ℕ} → Fills (forms.factor n)
fill_factor = record {
  more = lexeme Kind.Number 0 [] ∷ [];
  tree = Tree.Number (pos 0) 0;
  derives = λ rest. Grammar.number;
  kept = refl;
}

pub fill_term : {n : ℕ} → Fills (forms.term n)
fill_term = record {
  more = lexeme Kind.Number 0 [] ∷ [];
  tree = Tree.Number (pos 0) 0;
  derives = λ rest. Grammar.one_factor Grammar.number;
  kept = refl;
}

pub fill_simple_expression : {n : ℕ} → Fills (forms.simple_expression n)
fill_simple_expression = record {
  more = lexeme Kind.Number 0 [] ∷ [];
  tree = Tree.Number (pos 0) 0;
  derives = λ rest. Grammar.one_term (Grammar.one_factor Grammar.number);
  kept = refl;
}

pub fill_expression : {n : ℕ} → Fills (forms.expression n)
fill_expression = record {
  more = lexeme Kind.Number 0 [] ∷ [];
  tree = Tree.Number (pos 0) 0;
  derives = λ rest. Grammar.simple (Grammar.one_term (Grammar.one_factor Grammar.number));
  kept = refl;
}
