-- Whether a module keeps the conditions beside the grammar does not depend on its places.
use Rattle.std.proofs.Common.{◌≡◌, ℕ, ◌+◌, Bool, true, false, List, [], ◌∷◌, ◌++◌, Option, Some, None, length, map, option_map, flat_map, refl, sym, ◌∙◌, ap, arith, length-append}
use Rattle.std.specs.Prelude.{if◌then◌else◌, nat_le}
use Rattle.std.specs.Option.{option_map_or}
use Rattle.std.specs.Str.{bytes_eq}
use Rattle.ob_grammar.specs.Tree.{Name, Expr, Number, Named, Parens, Not, Product, Sum, Comparison, Operands, no_operand, operand, Selectors, no_selector, field, index, TypeExpr, NamedType, Array, Record, FieldLists, no_list, empty_list, fields, Stmt, Empty, Assign, Call, If, While, Repeat, Stmts, no_stmt, stmt, Branches, no_branch, branch, Otherwise, no_else, else', DeclarationPart, Declarations, Declared, Procedures, no_procedure, procedure, Module}
use Rattle.ob_grammar.specs.Limits.{deepest_nesting}
use Rattle.ob_grammar.specs.EndNamesAndNesting.{Breach, name_differs, too_deep, opening, differing, in_expr, in_operands, in_selectors, in_type, in_fields, in_stmt, in_stmts, in_branches, in_otherwise, in_body, in_declarations, in_procedures, breaches, KeepsConditions}
use Rattle.ob_syntax.specs.Places.{bare_name, bare_expr, bare_operands, bare_selectors, bare_type, bare_fields, bare_stmt, bare_stmts, bare_branches, bare_otherwise, bare_const, bare_type_decl, bare_variables, bare_part, bare_section, bare_declarations, bare_procedures, bare}

-- as many breaches
record AsMany (xs ys : List Breach) : Type 0 where
  same : length xs ≡ length ys

none : AsMany [] []
none = record { same = refl }

joined : {a b c d : List Breach} → AsMany a c → AsMany b d → AsMany (a ++ b) (c ++ d)
joined {a = a} {b = b} {c = c} {d = d} p q = record { same = omega (arith, length-append a b, length-append c d, p.same, q.same) }

either_one : (test : Bool) (x y : Breach) → AsMany (if test then (x ∷ []) else []) (if test then (y ∷ []) else [])
either_one true x y = record { same = refl }
either_one false x y = record { same = refl }

either_none : (test : Bool) (x y : Breach) → AsMany (if test then [] else (x ∷ [])) (if test then [] else (y ∷ []))
either_none true x y = record { same = refl }
either_none false x y = record { same = refl }

opens : (n p q : ℕ) → AsMany (opening n p) (opening n q)
opens n p q = either_one (nat_le deepest_nesting n) (too_deep p) (too_deep q)

differs : (x y : Name) → AsMany (differing (bare_name x) (bare_name y)) (differing x y)
differs x y = either_none (bytes_eq x.text y.text) (name_differs 0) (name_differs y.place)

each : {A : Type 0} (f : A → List Breach) (g : A → A) → ((x : A) → AsMany (f (g x)) (f x)) → (xs : List A) →
    AsMany (flat_map f (map g xs)) (flat_map f xs)
each f g h [] = none
each f g h (x ∷ xs) = joined (h x) (each f g h xs)

perhaps : {A : Type 0} (f : A → List Breach) (g : A → A) → ((x : A) → AsMany (f (g x)) (f x)) → (o : Option A) →
    AsMany (option_map_or f (option_map g o) []) (option_map_or f o [])
perhaps f g h None = none
perhaps f g h (Some x) = h x

perhaps_each : {A : Type 0} (f : A → List Breach) (g : A → A) → ((x : A) → AsMany (f (g x)) (f x)) → (o : Option (List A)) →
    AsMany (option_map_or (flat_map f) (option_map (map g) o) []) (option_map_or (flat_map f) o [])
perhaps_each f g h = perhaps (flat_map f) (map g) (each f g h)

perhaps_part : {A : Type 0} (f : A → List Breach) (g : A → A) → ((x : A) → AsMany (f (g x)) (f x)) → (o : Option (DeclarationPart A)) →
    AsMany (option_map_or (λ p. flat_map f p.declared) (option_map (bare_part g) o) []) (option_map_or (λ p. flat_map f p.declared) o [])
perhaps_part f g h = perhaps (λ p. flat_map f p.declared) (bare_part g) (λ p. each f g h p.declared)

mutual
  expr : (n : ℕ) (e : Expr) → AsMany (in_expr n (bare_expr e)) (in_expr n e)
  expr n (Number value place) = none
  expr n (Named name s) = selectors n s
  expr n (Parens place inner) = joined (opens n 0 place) (expr (n + 1) inner)
  expr n (Not place e) = joined (opens n 0 place) (expr (n + 1) e)
  expr n (Product first rest) = joined (expr n first) (operands n rest)
  expr n (Sum sign first rest) = joined (expr n first) (operands n rest)
  expr n (Comparison left operator place right) = joined (expr n left) (expr n right)

  operands : (n : ℕ) (os : Operands) → AsMany (in_operands n (bare_operands os)) (in_operands n os)
  operands n no_operand = none
  operands n (operand operator place e rest) = joined (expr n e) (operands n rest)

  selectors : (n : ℕ) (s : Selectors) → AsMany (in_selectors n (bare_selectors s)) (in_selectors n s)
  selectors n no_selector = none
  selectors n (field place name rest) = selectors n rest
  selectors n (index place i rest) = joined (joined (opens n 0 place) (expr (n + 1) i)) (selectors n rest)

mutual
  type_expr : (n : ℕ) (t : TypeExpr) → AsMany (in_type n (bare_type t)) (in_type n t)
  type_expr n (NamedType name) = none
  type_expr n (Array place length element) = joined (opens n 0 place) (joined (expr (n + 1) length) (type_expr (n + 1) element))
  type_expr n (Record place lists) = joined (opens n 0 place) (field_lists (n + 1) lists)

  field_lists : (n : ℕ) (f : FieldLists) → AsMany (in_fields n (bare_fields f)) (in_fields n f)
  field_lists n no_list = none
  field_lists n (empty_list rest) = field_lists n rest
  field_lists n (fields names t rest) = joined (type_expr n t) (field_lists n rest)

mutual
  statement : (n : ℕ) (s : Stmt) → AsMany (in_stmt n (bare_stmt s)) (in_stmt n s)
  statement n Empty = none
  statement n (Assign target s e) = joined (selectors n s) (expr n e)
  statement n (Call name actuals) = perhaps_each (in_expr n) bare_expr (expr n) actuals
  statement n (If place b o) = joined (opens n 0 place) (joined (branches (n + 1) b) (otherwise (n + 1) o))
  statement n (While place condition body) = joined (opens n 0 place) (joined (expr (n + 1) condition) (statements (n + 1) body))
  statement n (Repeat place body condition) = joined (opens n 0 place) (joined (statements (n + 1) body) (expr (n + 1) condition))

  statements : (n : ℕ) (ss : Stmts) → AsMany (in_stmts n (bare_stmts ss)) (in_stmts n ss)
  statements n no_stmt = none
  statements n (stmt s rest) = joined (statement n s) (statements n rest)

  branches : (n : ℕ) (b : Branches) → AsMany (in_branches n (bare_branches b)) (in_branches n b)
  branches n no_branch = none
  branches n (branch condition body rest) = joined (joined (expr n condition) (statements n body)) (branches n rest)

  otherwise : (n : ℕ) (o : Otherwise) → AsMany (in_otherwise n (bare_otherwise o)) (in_otherwise n o)
  otherwise n no_else = none
  otherwise n (else' body) = statements n body

body_part : (n : ℕ) (o : Option Stmts) → AsMany (in_body n (option_map bare_stmts o)) (in_body n o)
body_part n = perhaps (in_stmts n) bare_stmts (statements n)

mutual
  declared : (n : ℕ) (d : Declarations) → AsMany (in_declarations n (bare_declarations d)) (in_declarations n d)
  declared n (Declared constants types variables ps) =
      joined (perhaps_part (λ c. in_expr n c.value) bare_const (λ c. expr n c.value) constants)
      (joined (perhaps_part (λ t. in_type n t.definition) bare_type_decl (λ t. type_expr n t.definition) types)
      (joined (perhaps_part (λ v. in_type n v.of_type) bare_variables (λ v. type_expr n v.of_type) variables)
      (procedures n ps)))

  procedures : (n : ℕ) (ps : Procedures) → AsMany (in_procedures n (bare_procedures ps)) (in_procedures n ps)
  procedures n no_procedure = none
  procedures n (procedure heading inner body end_name rest) =
      joined
      (joined (joined (opens n 0 heading.place)
      (perhaps_each (λ s. in_type (n + 1) s.of_type) bare_section (λ s. type_expr (n + 1) s.of_type) heading.parameters))
      (joined (declared (n + 1) inner) (joined (body_part (n + 1) body) (differs heading.name end_name))))
      (procedures n rest)

as_many : (m : Module) → AsMany (breaches (bare m)) (breaches m)
as_many m = joined (declared 0 m.declarations) (joined (body_part 0 m.body) (differs m.name m.end_name))

no_breach : (xs : List Breach) → length xs ≡ 0 → xs ≡ []
no_breach [] h = refl
no_breach (x ∷ xs) h = absurd (omega arith)

-- modules that are the same but for places keep the conditions together
pub keeps_bare : (tree m : Module) → bare tree ≡ bare m → KeepsConditions m → KeepsConditions tree
keeps_bare tree m e keeps =
    let same = sym (as_many tree).same ∙ ap (λ x. length (breaches x)) e ∙ (as_many m).same ∙ ap length keeps in
    no_breach (breaches tree) same
