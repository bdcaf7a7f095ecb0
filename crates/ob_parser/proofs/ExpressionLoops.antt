-- What a loop of expressions has read so far, in front of what is left, and the expression that it makes.
use Rattle.std.proofs.Common.{◌≡◌, List, [], ◌∷◌, ◌++◌, Option, Some, None, refl, sym, ◌∙◌, ap, length, arith, Box, Vec, Global, is_some, false}
use Rattle.ob_grammar.specs.declared.tree.Expr.{Expr}
use Rattle.ob_grammar.specs.declared.tree.Expr.TheVariants as Exprs
use Rattle.ob_grammar.specs.declared.tree.Operand.{Operand}
use Rattle.ob_grammar.specs.declared.tree.Selector.{Selector}
use Rattle.ob_grammar.specs.declared.tree.Selector.TheVariants.{Field, Index}
use Rattle.ob_grammar.specs.declared.tree.Sign.{Sign}
use Rattle.ob_grammar.specs.Tree
use Rattle.ob_grammar.specs.Tree.{Operands, Selectors}
use Rattle.ob_grammar.specs.View.{name_of, expr_of, operands_in, selectors_in}
use Rattle.ob_parser.specs.Forms.{in_front}
use Rattle.ob_parser.specs.Answers.{selector_of}
use Rattle.ob_parser.proofs.Expressions.{product_of, sum_of}
use Rattle.ob_grammar.proofs.Rows.{expr_of-product, expr_of-sum}

-- operands

abbrev pub operands_before : List Operand → Operands → Operands
operands_before [] rest = rest
operands_before (o ∷ os) rest = Tree.operand o.operator o.place (expr_of o.value) (operands_before os rest)

operands_before-push : (os : List Operand) (o : Operand) (rest : Operands) →
    operands_before os (Tree.operand o.operator o.place (expr_of o.value) rest) ≡ operands_before (os ++ o ∷ []) rest
operands_before-push [] o rest = refl
operands_before-push (x ∷ os) o rest = ap (Tree.operand x.operator x.place (expr_of x.value)) (operands_before-push os o rest)

-- one more operand
pub operands_before_more : (os ps : List Operand) (o : Operand) → ps ≡ os ++ o ∷ [] → (rest : Operands) →
    operands_before os (Tree.operand o.operator o.place (expr_of o.value) rest) ≡ operands_before ps rest
operands_before_more os ps o e rest = operands_before-push os o rest ∙ ap (λ all. operands_before all rest) (sym e)

pub operands_before-end : (os : List Operand) → operands_before os Tree.no_operand ≡ operands_in os
operands_before-end [] = refl
operands_before-end (o ∷ os) = ap (Tree.operand o.operator o.place (expr_of o.value)) (operands_before-end os)

-- a factor alone
pub product_alone : (e : Tree.Expr) (os : List Operand) → length os ≡ 0 → product_of e (operands_in os) ≡ e
product_alone e [] h = refl
product_alone e (o ∷ os) h = absurd (omega arith)

product_list : (e : Tree.Expr) (os : List Operand) → (length os ≡ 0 → ⊥) → product_of e (operands_in os) ≡ Tree.Product e (operands_in os)
product_list e [] h = absurd (h refl)
product_list e (o ∷ os) h = refl

-- two factors or more
pub product_made : (f : Expr) (first : Box Expr Global) (rest : Vec Operand Global) → first.value ≡ f → (length rest.items ≡ 0 → ⊥) →
    product_of (expr_of f) (operands_in rest.items) ≡ expr_of (Exprs.Product first rest)
product_made f first rest e h =
    product_list (expr_of f) rest.items h ∙ ap (λ x. Tree.Product (expr_of x) (operands_in rest.items)) (sym e)
    ∙ sym (expr_of-product first rest)

-- a term alone
pub sum_alone : (sign : Option Sign) (e : Tree.Expr) (os : List Operand) → is_some sign ≡ false → length os ≡ 0 →
    sum_of sign e (operands_in os) ≡ e
sum_alone None e [] s h = refl
sum_alone None e (o ∷ os) s h = absurd (omega arith)
sum_alone (Some t) e os s h = absurd (cc)

sum_list : (sign : Option Sign) (e : Tree.Expr) (os : List Operand) → (is_some sign ≡ false → length os ≡ 0 → ⊥) →
    sum_of sign e (operands_in os) ≡ Tree.Sum sign e (operands_in os)
sum_list None e [] h = absurd (h refl refl)
sum_list None e (o ∷ os) h = refl
sum_list (Some t) e os h = refl

-- a sign, or two terms or more
pub sum_made : (sign : Option Sign) (f : Expr) (first : Box Expr Global) (rest : Vec Operand Global) → first.value ≡ f →
    (is_some sign ≡ false → length rest.items ≡ 0 → ⊥) →
    sum_of sign (expr_of f) (operands_in rest.items) ≡ expr_of (Exprs.Sum sign first rest)
sum_made sign f first rest e h =
    sum_list sign (expr_of f) rest.items h ∙ ap (λ x. Tree.Sum sign (expr_of x) (operands_in rest.items)) (sym e)
    ∙ sym (expr_of-sum sign first rest)

-- selectors

abbrev pub selectors_before : List Selector → Selectors → Selectors
selectors_before [] rest = rest
selectors_before (s ∷ ss) rest = in_front (selector_of s) (selectors_before ss rest)

selectors_before-push : (ss : List Selector) (s : Selector) (rest : Selectors) →
    selectors_before ss (in_front (selector_of s) rest) ≡ selectors_before (ss ++ s ∷ []) rest
selectors_before-push [] s rest = refl
selectors_before-push (x ∷ ss) s rest = ap (in_front (selector_of x)) (selectors_before-push ss s rest)

-- one more selector
pub selectors_before_more : (ss ts : List Selector) (s : Selector) → ts ≡ ss ++ s ∷ [] → (rest : Selectors) →
    selectors_before ss (in_front (selector_of s) rest) ≡ selectors_before ts rest
selectors_before_more ss ts s e rest = selectors_before-push ss s rest ∙ ap (λ all. selectors_before all rest) (sym e)

pub selectors_before-end : (ss : List Selector) → selectors_before ss Tree.no_selector ≡ selectors_in ss
selectors_before-end [] = refl
selectors_before-end (Field place name ∷ ss) = ap (Tree.field place (name_of name)) (selectors_before-end ss)
selectors_before-end (Index place i ∷ ss) = ap (Tree.index place (expr_of i)) (selectors_before-end ss)
