-- The parts of a construct by their numbers.
use Rattle.std.proofs.Common.{◌≡◌, refl, ap, sym, ◌∙◌, arith, ℕ, zero, suc, ◌+◌, ◌-◌, ◌<◌, ◌≤◌, Bool, true, if◌then◌else◌, List, [], ◌∷◌, ◌++◌, drop, get_or, length, map, Option, Some, None}
use Rattle.std.specs.Prelude.{slice_get}
use Rattle.ob_grammar.specs.declared.tree.Expr.{Expr}
use Rattle.ob_grammar.specs.declared.tree.Operand.{Operand}
use Rattle.ob_grammar.specs.declared.tree.Selector.{Selector}
use Rattle.ob_grammar.specs.declared.tree.Selector.TheVariants.{Field, Index}
use Rattle.ob_grammar.specs.declared.tree.Branch.{Branch}
use Rattle.ob_grammar.specs.declared.tree.Procedure.{Procedure}
use Rattle.ob_grammar.specs.declared.tree.Sign.{Sign}
use Rattle.ob_grammar.specs.View.{expr_of, operands_in, selectors_in, stmts_in, branches_in, procedures_in}
use Rattle.ob_trap_places.specs.Places.{Places, Parts, before, of_parts, signed, with_behind, places_in, parts_of_operands, parts_of_selectors, parts_of_actuals, parts_of_branches, bodies_in}
use Rattle.ob_trap_places.specs.Bodies.{selector_places, branch_places, bodies_of_procedure}
use Rattle.ob_grammar.specs.Tree as Tree
use Rattle.std.proofs.lemmas.List.{length-append}

-- a part behind the first
pub chain_later : (first : Places) (rest : Parts) (path further : List ℕ) (part : ℕ) → path ≡ part ∷ further → 0 < part →
    of_parts (before first rest) path ≡ rest (part - 1) further
chain_later first rest path further zero e some = absurd (omega (arith, some))
chain_later first rest path further (suc part) e some =
    let same : part ≡ suc part - 1 = omega arith in
    ap (of_parts (before first rest)) e ∙ ap (λ n. rest n further) same

pub signed_minus : (sign : Option Sign) (s : Sign) (inner : Places) (path : List ℕ) → sign ≡ Some s → s.is_minus ≡ true →
    signed sign inner path ≡ with_behind s.place inner path
signed_minus sign s inner path e minus =
    ap (λ x. signed x inner path) e ∙ ap (λ (b : Bool). (if b then with_behind s.place inner else inner) path) minus

pub operand_here : (os : List Operand) (k : ℕ) (o : Operand) (path : List ℕ) → k < length os → o ≡ get_or os k o →
    parts_of_operands (operands_in os) k path ≡ with_behind o.place (places_in (expr_of o.value)) path
operand_here [] k o path h e = absurd (omega (arith, h))
operand_here (x ∷ os) zero o path h e = ap (λ (y : Operand). with_behind y.place (places_in (expr_of y.value)) path) (sym e)
operand_here (x ∷ os) (suc k) o path h e = operand_here os k o path (omega (arith, h)) e

pub no_operand_here : (os : List Operand) (k : ℕ) (path : List ℕ) → length os ≤ k → parts_of_operands (operands_in os) k path ≡ None
no_operand_here [] k path h = refl
no_operand_here (x ∷ os) zero path h = absurd (omega (arith, h))
no_operand_here (x ∷ os) (suc k) path h = no_operand_here os k path (omega (arith, h))

selector_first : (x : Selector) (ss : List Selector) (path : List ℕ) → parts_of_selectors (selectors_in (x ∷ ss)) zero path ≡ selector_places x path
selector_first (Field place name) ss path = refl
selector_first (Index place i) ss path = refl

selector_later : (x : Selector) (ss : List Selector) (k : ℕ) (path : List ℕ) → parts_of_selectors (selectors_in (x ∷ ss)) (suc k) path ≡ parts_of_selectors (selectors_in ss) k path
selector_later (Field place name) ss k path = refl
selector_later (Index place i) ss k path = refl

pub selector_here : (ss : List Selector) (k : ℕ) (s : Selector) (path : List ℕ) → k < length ss → s ≡ get_or ss k s →
    parts_of_selectors (selectors_in ss) k path ≡ selector_places s path
selector_here [] k s path h e = absurd (omega (arith, h))
selector_here (x ∷ ss) zero s path h e = selector_first x ss path ∙ ap (λ y. selector_places y path) (sym e)
selector_here (x ∷ ss) (suc k) s path h e = selector_later x ss k path ∙ selector_here ss k s path (omega (arith, h)) e

pub no_selector_here : (ss : List Selector) (k : ℕ) (path : List ℕ) → length ss ≤ k → parts_of_selectors (selectors_in ss) k path ≡ None
no_selector_here [] k path h = refl
no_selector_here (x ∷ ss) zero path h = absurd (omega (arith, h))
no_selector_here (x ∷ ss) (suc k) path h = selector_later x ss k path ∙ no_selector_here ss k path (omega (arith, h))

pub actual_here : (es : List Expr) (k : ℕ) (e : Expr) (path : List ℕ) → k < length es → e ≡ get_or es k e →
    parts_of_actuals (map expr_of es) k path ≡ places_in (expr_of e) path
actual_here [] k e path h is = absurd (omega (arith, h))
actual_here (x ∷ es) zero e path h is = ap (λ y. places_in (expr_of y) path) (sym is)
actual_here (x ∷ es) (suc k) e path h is = actual_here es k e path (omega (arith, h)) is

pub no_actual_here : (es : List Expr) (k : ℕ) (path : List ℕ) → length es ≤ k → parts_of_actuals (map expr_of es) k path ≡ None
no_actual_here [] k path h = refl
no_actual_here (x ∷ es) zero path h = absurd (omega (arith, h))
no_actual_here (x ∷ es) (suc k) path h = no_actual_here es k path (omega (arith, h))

module _ (last : Parts) where
  pub branch_here : (bs : List Branch) (k : ℕ) (b : Branch) (path : List ℕ) → k < length bs → b ≡ get_or bs k b →
      parts_of_branches (branches_in bs) last k path ≡ branch_places (expr_of b.condition) (stmts_in b.body.items) path
  branch_here [] k b path h e = absurd (omega (arith, h))
  branch_here (x ∷ bs) zero b path h e = ap (λ (y : Branch). branch_places (expr_of y.condition) (stmts_in y.body.items) path) (sym e)
  branch_here (x ∷ bs) (suc k) b path h e = branch_here bs k b path (omega (arith, h)) e

  pub behind_branches : (bs : List Branch) (k : ℕ) (path : List ℕ) → length bs ≤ k → parts_of_branches (branches_in bs) last k path ≡ last (k - length bs) path
  behind_branches [] k path h =
      let same : k ≡ k - length {A = Branch} [] = omega arith in ap (λ n. last n path) same
  behind_branches (x ∷ bs) zero path h = absurd (omega (arith, h))
  behind_branches (x ∷ bs) (suc k) path h =
      let same : k - length bs ≡ suc k - length (x ∷ bs) = omega arith in
      behind_branches bs k path (omega (arith, h)) ∙ ap (λ n. last n path) same

-- a list behind another one

drop_here : {A : Type 0} (all : List A) (i : ℕ) (d : A) → i < length all → drop i all ≡ get_or all i d ∷ drop (i + 1) all
drop_here [] i d h = absurd (omega (arith, h))
drop_here (x ∷ all) zero d h = refl
drop_here (x ∷ all) (suc i) d h =
    let e : suc (i + 1) ≡ suc i + 1 = omega arith in
    drop_here all i d (omega (arith, h)) ∙ ap (λ n. get_or all i d ∷ drop n (x ∷ all)) e

pub found_first : {A : Type 0} (xs ys : List A) (k : ℕ) (x : A) → slice_get xs k ≡ Some x → slice_get (xs ++ ys) k ≡ Some x
found_first [] ys k x e = absurd cc
found_first (y ∷ xs) ys zero x e = e
found_first (y ∷ xs) ys (suc k) x e = found_first xs ys k x e

pub found_later : {A : Type 0} (xs ys : List A) (k : ℕ) → length xs ≤ k → slice_get (xs ++ ys) k ≡ slice_get ys (k - length xs)
found_later {A = A} [] ys k h = let same : k ≡ k - length {A = A} [] = omega arith in ap (slice_get ys) same
found_later (x ∷ xs) ys zero h = absurd (omega (arith, h))
found_later (x ∷ xs) ys (suc k) h =
    let same : k - length xs ≡ suc k - length (x ∷ xs) = omega arith in
    found_later xs ys k (omega (arith, h)) ∙ ap (slice_get ys) same

-- procedures

module _ (all : List Procedure) (i left number : ℕ) (p : Procedure) (below : i < length all) (is : p ≡ get_or all i p) where
  procedure_here : drop i all ≡ p ∷ drop (i + 1) all
  procedure_here = drop_here all i p below ∙ ap (λ x. x ∷ drop (i + 1) all) (sym is)

  pub among_found : (b : Option Tree.Stmts) → slice_get (bodies_of_procedure p) left ≡ Some b →
      slice_get (bodies_in (procedures_in (drop i all))) left ≡ slice_get (bodies_in (procedures_in all)) number →
      slice_get (bodies_in (procedures_in all)) number ≡ Some b
  among_found b found so_far =
      sym so_far ∙ ap (λ ps. slice_get (bodies_in (procedures_in ps)) left) procedure_here
      ∙ found_first (bodies_of_procedure p) (bodies_in (procedures_in (drop (i + 1) all))) left b found

  pub among_passed : (count : ℕ) → count ≡ length (bodies_of_procedure p) → count ≤ left → left ≤ number →
      slice_get (bodies_in (procedures_in (drop i all))) left ≡ slice_get (bodies_in (procedures_in all)) number →
      number - left + length (bodies_in (procedures_in (drop i all))) ≡ length (bodies_in (procedures_in all)) →
      (slice_get (bodies_in (procedures_in (drop (i + 1) all))) (left - count) ≡ slice_get (bodies_in (procedures_in all)) number)
      × ((number - (left - count) + length (bodies_in (procedures_in (drop (i + 1) all))) ≡ length (bodies_in (procedures_in all)))
      × (left - count ≤ number))
  among_passed count counted few within so_far total =
      let rest : List (Option Tree.Stmts) = bodies_in (procedures_in (drop (i + 1) all)) in
      let both = length-append (bodies_of_procedure p) rest in
      let here_total : number - left + length (bodies_of_procedure p ++ rest) ≡ length (bodies_in (procedures_in all)) =
      ap (λ ps. number - left + length (bodies_in (procedures_in ps))) (sym procedure_here) ∙ total in (
        ap (λ n. slice_get rest (left - n)) counted
            ∙ sym (found_later (bodies_of_procedure p) rest left (omega (arith, counted, few)))
            ∙ sym (ap (λ ps. slice_get (bodies_in (procedures_in ps)) left) procedure_here)
            ∙ so_far,
        (omega (arith, both, here_total, counted, few, within), omega (arith, few, within)),
      )
