-- What a variable holds, and which names may be variables.
use Rattle.std.proofs.Common.{◌≡◌, ℕ, List, refl, false, Some, None, sym, ap, ◌∙◌, string_bytes}
use Rattle.ob_grammar.specs.declared.tree.Designator.{Designator}
use Rattle.ob_grammar.specs.declared.tree.Expr.{Expr}
use Rattle.ob_grammar.specs.declared.tree.Expr.TheVariants as Exprs
use Rattle.ob_grammar.specs.View.{name_of, expr_of, selectors_in}
use Rattle.ob_grammar.proofs.Rows.{expr_of-named}
use Rattle.ob_interface.specs.declared.scalar.Scalar.{Scalar}
use Rattle.ob_interface.specs.declared.scalar.ScalarType.{ScalarType}
use Rattle.ob_typing.specs.Program as Programs
use Rattle.ob_typing.specs.Arithmetic.{same_scalar_type}
use Rattle.ob_typing.specs.Scopes.{Environment, meant, holds}
use Rattle.ob_typing.specs.Statements.{bare, unless_constant}
use Rattle.ob_checked.specs.Types.{Entry}
use Rattle.ob_scopes.specs.declared.scopes.Meant.{Meant}
use Rattle.ob_scopes.specs.declared.scopes.Meant.TheVariants.{Nothing, Constant, TypeName, Variable, FarVariable, Procedure}
use Rattle.ob_scopes.specs.Names.{meant_of}
use Rattle.ob_scopes.specs.SimpleTypes.{simple_type}

-- what a variable of a type holds
pub holds_simple : (u s : ScalarType) (t : Programs.DataType) → Some u ≡ simple_type t → same_scalar_type u s ≡ holds t s
holds_simple u s (Programs.Simple v) h =
    let is : u ≡ v = cc in
    ap (λ x. same_scalar_type x s) is
holds_simple u s (Programs.Array p n e) h = absurd cc
holds_simple u s (Programs.Record p fs) h = absurd cc

pub holds_none : (s : ScalarType) (t : Programs.DataType) → None ≡ simple_type t → false ≡ holds t s
holds_none s (Programs.Simple v) h = absurd cc
holds_none s (Programs.Array p n e) h = refl
holds_none s (Programs.Record p fs) h = refl

-- a bare name: nothing but a constant is left out
module _ (env : Environment) (e : Expr) (d : Designator) (is : e ≡ Exprs.Named d) where
  named_tree : bare env (expr_of e) ≡ unless_constant (meant env (string_bytes d.name.text)) (name_of d.name) (selectors_in d.selectors.items)
  named_tree = ap (λ x. bare env (expr_of x)) is ∙ ap (bare env) (expr_of-named d)

  pub bare_variable : (types : List Entry) (text : List ℕ) (m : Meant) → text ≡ string_bytes d.name.text → meant_of types text m ≡ meant env text →
      ((v : Scalar) → m ≡ Constant v → ⊥) → Some (name_of d.name, selectors_in d.selectors.items) ≡ bare env (expr_of e)
  bare_variable types text m at known other =
      by m other
      ∙ ap (λ x. unless_constant x (name_of d.name) (selectors_in d.selectors.items)) (known ∙ ap (meant env) at)
      ∙ sym named_tree
    where
      by : (x : Meant) → ((v : Scalar) → x ≡ Constant v → ⊥) →
          Some (name_of d.name, selectors_in d.selectors.items) ≡ unless_constant (meant_of types text x) (name_of d.name) (selectors_in d.selectors.items)
      by Nothing h = refl
      by (Constant v) h = absurd (h v refl)
      by (TypeName t) h = refl
      by (Variable owner position t) h = refl
      by FarVariable h = refl
      by (Procedure number parameters) h = refl
