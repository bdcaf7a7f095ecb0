-- What continues expressions and their parts, and selectors by the token that stands there.
use Rattle.std.proofs.Common.{drop, ◌≡◌, ℕ, suc, ◌+◌, ◌<◌, ◌≤◌, Bool, false, [], ◌∷◌, ◌++◌, Some, refl, sym, ap, subst, arith, ◌⊎◌, inl, inr, length, take}
use Rattle.std.proofs.lemmas.List.{append-nil, length-map}
use Rattle.ob_scan.specs.declared.token.Kind.{Kind}
use Rattle.ob_scan.specs.Lexemes.{lexeme}
use Rattle.ob_grammar.specs.Tree.{Name, Expr, Selectors, no_selector}
use Rattle.ob_grammar.specs.Grammar
use Rattle.ob_grammar.specs.Grammar.{Lexemes, TakesAt, takes, TakesName, Expression, Selector}
use Rattle.ob_grammar.specs.EndNamesAndNesting.{opening, in_expr, in_selectors}
use Rattle.ob_parser.specs.Reading.{Form, Same, Stops, Reads, kind_at}
use Rattle.ob_parser.specs.Forms as forms
use Rattle.ob_parser.specs.Forms.{OneSelector, TakesSelector, in_front, in_selector, token, opens, Both, both, selectors_go_on, term_goes_on, simple_goes_on, expression_goes_on}
use Rattle.ob_parser.proofs.Steps.{Leads, Fills, Passes, takes_same, no_takes_same, stops_at, not_stopped, nothing_stops, same_before, drop_before, shorter}

-- what continues a part continues the whole

pub ends_term : (k : Kind) → term_goes_on k ≡ false → selectors_go_on k ≡ false
ends_term Kind.Times h = refl
ends_term Kind.Div h = refl
ends_term Kind.Mod h = refl
ends_term Kind.And h = refl
ends_term _ h = h

pub ends_simple : (k : Kind) → simple_goes_on k ≡ false → term_goes_on k ≡ false
ends_simple Kind.Plus h = refl
ends_simple Kind.Minus h = refl
ends_simple Kind.Or h = refl
ends_simple _ h = h

pub ends_expression : (k : Kind) → expression_goes_on k ≡ false → simple_goes_on k ≡ false
ends_expression Kind.Equal h = refl
ends_expression Kind.NotEqual h = refl
ends_expression Kind.Less h = refl
ends_expression Kind.LessOrEqual h = refl
ends_expression Kind.Greater h = refl
ends_expression Kind.GreaterOrEqual h = refl
ends_expression _ h = h

pub simple_ends_selectors : (k : Kind) → simple_goes_on k ≡ false → selectors_go_on k ≡ false
simple_ends_selectors k h = ends_term k (ends_simple k h)

pub expression_ends_term : (k : Kind) → expression_goes_on k ≡ false → term_goes_on k ≡ false
expression_ends_term k h = ends_simple k (ends_expression k h)

pub expression_ends_selectors : (k : Kind) → expression_goes_on k ≡ false → selectors_go_on k ≡ false
expression_ends_selectors k h = ends_term k (expression_ends_term k h)

-- selector = {"." ident | "[" expression "]"}

pub fill_selectors : {n : ℕ} → Fills (forms.selectors n)
fill_selectors = record { more = []; tree = no_selector; derives = λ rest. Grammar.no_more; kept = refl }

selectors_stop : {D : Kind → Bool} {a rest : Lexemes} {y : Selectors} → D Kind.Dot ≡ false → D Kind.LeftBracket ≡ false →
    Selector a y rest → Stops D rest → Stops D a
selectors_stop e f Grammar.no_more s = s
selectors_stop e f (Grammar.field t d g) s = stops_at e t
selectors_stop e f (Grammar.index t d u g) s = stops_at f t

-- before selectors, where neither "." nor "[" continues what stands in front of them
pub selectors_pass : {A : Type 0} {F : Form A} {n : ℕ} → F.continues Kind.Dot ≡ false → F.continues Kind.LeftBracket ≡ false →
    Passes F (forms.selectors n)
selectors_pass e f = record { passes = λ a x rest d s. selectors_stop e f d s }

-- "." or "[" stands here
pub data GoOn (a : Lexemes) : Type 0 where
  dot : {place : ℕ} {b : Lexemes} → TakesAt Kind.Dot place a b → GoOn a
  bracket : {place : ℕ} {b : Lexemes} → TakesAt Kind.LeftBracket place a b → GoOn a

selectors_only : {a rest : Lexemes} {y : Selectors} → GoOn a → Selector a y rest → Stops selectors_go_on rest →
    (x : OneSelector × Selectors) × (y ≡ in_front x.0 x.1) × Both TakesSelector Selector a x rest
selectors_only (dot t) Grammar.no_more s = absurd (not_stopped refl t s)
selectors_only (bracket t) Grammar.no_more s = absurd (not_stopped refl t s)
selectors_only g (Grammar.field {place = place} {name = name} {rest = rest} t d e) s =
    ((OneSelector.field place name, rest), refl, (_, TakesSelector.field t d, e))
selectors_only g (Grammar.index {place = place} {i = i} {rest = rest} t d u e) s =
    ((OneSelector.index place i, rest), refl, (_, TakesSelector.index t d u, e))

selectors_made : {a b c : Lexemes} {x : OneSelector} {xs : Selectors} → TakesSelector a x b → Selector b xs c → Selector a (in_front x xs) c
selectors_made (TakesSelector.field t d) e = Grammar.field t d e
selectors_made (TakesSelector.index t d u) e = Grammar.index t d u e

in_front-breaches : (n : ℕ) (x : OneSelector) (xs : Selectors) → in_selectors n (in_front x xs) ≡ in_selector n x ++ in_selectors n xs
in_front-breaches n (OneSelector.field place name) xs = refl
in_front-breaches n (OneSelector.index place i) xs = refl

go_on : {tokens : Lexemes} {p : ℕ} → (kind_at tokens p ≡ Some Kind.Dot) ⊎ (kind_at tokens p ≡ Some Kind.LeftBracket) →
    (other : Lexemes) → Same (suc p) tokens other → GoOn (drop p other)
go_on (inl here) other same = dot (takes_same other here same)
go_on (inr here) other same = bracket (takes_same other here same)

pub leads_more_selectors : {n p : ℕ} {tokens : Lexemes} → (kind_at tokens p ≡ Some Kind.Dot) ⊎ (kind_at tokens p ≡ Some Kind.LeftBracket) →
    Leads (forms.selectors n) tokens p (both (forms.selector n) (forms.selectors n)) p (λ x. in_front x.0 x.1)
leads_more_selectors {n = n} here = record {
  order = omega arith;
  within = λ h. h;
  into = λ other same x rest d. selectors_made d.1 d.2;
  onto = λ other same y rest d stops. (let m = selectors_only (go_on here other same) d stops in (m.0, m.1, m.2, stops));
  breaches = λ x. in_front-breaches n x.0 x.1;
}

no_selectors : {a rest : Lexemes} {y : Selectors} → (GoOn a → ⊥) → Selector a y rest → (y ≡ no_selector) × (rest ≡ a)
no_selectors h Grammar.no_more = (refl, refl)
no_selectors h (Grammar.field t d e) = absurd (h (dot t))
no_selectors h (Grammar.index t d u e) = absurd (h (bracket t))

not_on : {tokens : Lexemes} {p : ℕ} → (kind_at tokens p ≡ Some Kind.Dot → ⊥) → (kind_at tokens p ≡ Some Kind.LeftBracket → ⊥) →
    (other : Lexemes) → Same (suc p) tokens other → GoOn (drop p other) → ⊥
not_on no_dot no_bracket other same (dot t) = no_takes_same no_dot same t
not_on no_dot no_bracket other same (bracket t) = no_takes_same no_bracket same t

pub reads_no_selectors : {n p : ℕ} {tokens : Lexemes} → (kind_at tokens p ≡ Some Kind.Dot → ⊥) → (kind_at tokens p ≡ Some Kind.LeftBracket → ⊥) →
    Reads (forms.selectors n) tokens p no_selector p
reads_no_selectors no_dot no_bracket = record {
  order = omega arith;
  within = λ h. h;
  sound = λ other same. Grammar.no_more;
  only = λ other same y rest d stops. no_selectors (not_on no_dot no_bracket other same) d;
  kept = refl;
}

-- one selector

selector_field : {a rest : Lexemes} {y : OneSelector} → ((place : ℕ) (b : Lexemes) → TakesAt Kind.LeftBracket place a b → ⊥) → TakesSelector a y rest →
    (x : ℕ × Name) × (y ≡ OneSelector.field x.0 x.1) × Both (λ b place c. TakesAt Kind.Dot place b c) TakesName a x rest
selector_field h (TakesSelector.field {place = place} {name = name} t d) = ((place, name), refl, (_, t, d))
selector_field h (TakesSelector.index t d u) = absurd (h _ _ t)

pub leads_field : (n : ℕ) {p : ℕ} {tokens : Lexemes} → (kind_at tokens p ≡ Some Kind.LeftBracket → ⊥) →
    Leads (forms.selector n) tokens p (both (token Kind.Dot) forms.name) p (λ x. OneSelector.field x.0 x.1)
leads_field n missing = record {
  order = omega arith;
  within = λ h. h;
  into = λ other same x rest d. TakesSelector.field d.1 d.2;
  onto = λ other same y rest d stops.
      (let m = selector_field (λ place b t. no_takes_same missing same t) d in (m.0, m.1, m.2, nothing_stops rest));
  breaches = λ x. refl;
}

selector_index : {a b rest : Lexemes} {place : ℕ} {y : OneSelector} → TakesAt Kind.LeftBracket place a b → TakesSelector a y rest →
    (x : ℕ × (Expr × ℕ)) × (y ≡ OneSelector.index x.0 x.1.0)
    × Both (λ c q d. TakesAt Kind.LeftBracket q c d) (Both Expression (λ c q d. TakesAt Kind.RightBracket q c d)) a x rest
selector_index takes (TakesSelector.field t d) = elim t [ ]
selector_index t (TakesSelector.index {place = place} {i = i} u d v) = ((place, (i, v.0)), refl, (_, u, (_, d, v.1)))

pub leads_index : (n : ℕ) {p : ℕ} {tokens : Lexemes} → kind_at tokens p ≡ Some Kind.LeftBracket →
    Leads (forms.selector n) tokens p (both (opens n Kind.LeftBracket) (both (forms.expression (n + 1)) (token Kind.RightBracket))) p
    (λ x. OneSelector.index x.0 x.1.0)
leads_index n here = record {
  order = omega arith;
  within = λ h. h;
  into = λ other same x rest d. TakesSelector.index d.1 d.2.1 (x.1.1, d.2.2);
  onto = λ other same y rest d stops. (let m = selector_index (takes_same other here same) d in (m.0, m.1, m.2, nothing_stops rest));
  breaches = λ x. ap (λ ds. opening n x.0 ++ ds) (sym (append-nil (in_expr (n + 1) x.1.0)));
}

pub fill_selector : (n : ℕ) → Fills (forms.selector n)
fill_selector n = record {
  more = lexeme Kind.Dot 0 [] ∷ lexeme Kind.Ident 0 [] ∷ [];
  tree = OneSelector.field 0 (record { text = []; place = 0 });
  derives = λ rest. TakesSelector.field takes Grammar.takes;
  kept = refl;
}
