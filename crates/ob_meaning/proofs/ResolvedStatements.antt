-- Well typed statements are resolved.
use Rattle.std.proofs.Common.{◌≡◌, refl, ap, sym, subst, ◌∙◌, true, List, bytes_eq, Option, eqb-true}
use Rattle.std.specs.Prelude.{nat_eq, ◌&&◌}
use Rattle.std.proofs.lemmas.Bool.{and_parts}
use Rattle.ob_grammar.specs.Tree
use Rattle.ob_grammar.specs.Tree.{Expr, Stmt, Stmts, Otherwise}
use Rattle.ob_interface.specs.declared.scalar.ScalarType.{ScalarType}
use Rattle.ob_typing.specs.Program.{DataType, Simple, Array, Record, Fields, no_field, field, Actual, Statement, Statements, Branches, Parameter, Procedure}
use Rattle.ob_typing.specs.Scopes.{Environment, same_type, same_fields, holds}
use Rattle.ob_typing.specs.Statements as Typing
use Rattle.ob_typing.specs.Statements.{Fits, IsStatement, AreStatements, AreBranches, IsBody}
use Rattle.ob_meaning.specs.Resolved.{IsVariable, IsActual, Fit, IsGood, AreGood, AreGoodBranches}
use Rattle.ob_meaning.proofs.Known.{Knows, same_name, procedure_meant}
use Rattle.ob_meaning.proofs.ResolvedExpressions.{one_scalar_type, typed, placed}

-- types that are found to be the same are one

mutual
  pub one_type : (s t : DataType) → same_type s t ≡ true → s ≡ t
  one_type (Simple s) (Simple t) e = ap Simple (one_scalar_type s t e)
  one_type (Simple s) (Array place n t) e = absurd cc
  one_type (Simple s) (Record place fs) e = absurd cc
  one_type (Array place n s) (Simple t) e = absurd cc
  one_type (Array place n s) (Array place' n' t) e =
      let a = and_parts (nat_eq place place') (nat_eq n n' && same_type s t) e in
      let b = and_parts (nat_eq n n') (same_type s t) a.1 in
      ap (λ p. Array p n s) (eqb-true place place' a.0) ∙ ap (λ m. Array place' m s) (eqb-true n n' b.0) ∙ ap (Array place' n') (one_type s t b.1)
  one_type (Array place n s) (Record place' fs) e = absurd cc
  one_type (Record place fs) (Simple t) e = absurd cc
  one_type (Record place fs) (Array place' n t) e = absurd cc
  one_type (Record place fs) (Record place' gs) e =
      let a = and_parts (nat_eq place place') (same_fields fs gs) e in
      ap (λ p. Record p fs) (eqb-true place place' a.0) ∙ ap (Record place') (one_fields fs gs a.1)

  one_fields : (fs gs : Fields) → same_fields fs gs ≡ true → fs ≡ gs
  one_fields no_field no_field e = refl
  one_fields no_field (field name t gs) e = absurd cc
  one_fields (field name s fs) no_field e = absurd cc
  one_fields (field name s fs) (field name' t gs) e =
      let a = and_parts (bytes_eq name name') (same_type s t && same_fields fs gs) e in
      let b = and_parts (same_type s t) (same_fields fs gs) a.1 in
      ap (λ n. field n s fs) (same_name name name' a.0) ∙ ap (λ u. field name' u fs) (one_type s t b.0) ∙ ap (field name' t) (one_fields fs gs b.1)

held_type : (s : DataType) (t : ScalarType) → holds s t ≡ true → s ≡ Simple t
held_type (Simple s) t e = ap Simple (one_scalar_type s t e)
held_type (Array place n s) t e = absurd cc
held_type (Record place fs) t e = absurd cc

module _ (outer : List Parameter) (procedures : List Procedure) (own : List Parameter) (env : Environment) (known : Knows outer procedures own env) where
  actual : {p : Parameter} {e : Expr} {c : Actual} → Typing.IsActual env p e c → IsActual outer own p c
  actual (Typing.value {p = p} {t = t} var h fits) = (var, (t, (held_type p.type t fits, typed outer procedures own env known h)))
  actual (Typing.place {p = p} {t = t} {d = d} var bare h same) =
      (var, subst (λ u. IsVariable outer own d u) (one_type t p.type same) (placed outer procedures own env known h))

  actuals : {ps : List Parameter} {es : List Expr} {cs : List Actual} → Fits env ps es cs → Fit outer own ps cs
  actuals Typing.none = tt
  actuals (Typing.more h k) = (actual h, actuals k)

  mutual
    good : {s : Stmt} {c : Statement} → IsStatement env s c → IsGood outer own procedures c
    good (Typing.assign {s = s} {t = t} {d = d} target h fits) =
        (t, (subst (λ u. IsVariable outer own d u) (held_type s t fits) (placed outer procedures own env known target), typed outer procedures own env known h))
    good (Typing.call {name = name} {n = n} {parameters = parameters} {cs = cs} m count fits) =
        let (p, (is, same)) = procedure_meant outer procedures own env known name.text n parameters m in
        (p, (is, subst (λ ps. Fit outer own ps cs) (sym same) (actuals fits)))
    good (Typing.if' h) = good_branches h
    good (Typing.while h k) = (typed outer procedures own env known h, good_all k)
    good (Typing.repeat h k) = (good_all h, typed outer procedures own env known k)

    good_all : {ss : Stmts} {cs : Statements} → AreStatements env ss cs → AreGood outer own procedures cs
    good_all Typing.no_statement = tt
    good_all (Typing.empty h) = good_all h
    good_all (Typing.more h k) = (good h, good_all k)

    good_branches : {bs : Tree.Branches} {o : Otherwise} {cs : Branches} → AreBranches env bs o cs → AreGoodBranches outer own procedures cs
    good_branches Typing.no_else = tt
    good_branches (Typing.otherwise h) = good_all h
    good_branches (Typing.branch h k rest) = (typed outer procedures own env known h, (good_all k, good_branches rest))

  pub good_body : {body : Option Stmts} {cs : Statements} → IsBody env body cs → AreGood outer own procedures cs
  good_body Typing.none = tt
  good_body (Typing.some h) = good_all h
