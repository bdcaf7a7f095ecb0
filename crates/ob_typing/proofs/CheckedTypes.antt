-- A constant and a type have one verdict.
use Rattle.std.proofs.Common.{◌≡◌, refl, true}
use Rattle.ob_grammar.specs.Tree.{Expr, TypeExpr, FieldLists}
use Rattle.ob_interface.specs.declared.scalar.Scalar.{Scalar}
use Rattle.ob_typing.specs.declared.rule.BrokenRule.{BrokenRule}
use Rattle.ob_typing.specs.Program.{DataType, Fields}
use Rattle.ob_typing.specs.Scopes.{Environment}
use Rattle.ob_typing.specs.Expressions
use Rattle.ob_typing.specs.Expressions.{InConstant, HasConstant}
use Rattle.ob_typing.specs.ExpressionFaults.{ExpressionFails}
use Rattle.ob_typing.specs.Types
use Rattle.ob_typing.specs.Types.{Taken, Denotes, DenotesFields}
use Rattle.ob_typing.specs.TypeFaults
use Rattle.ob_typing.specs.TypeFaults.{TypeFails, FieldsFail, FormalTypeFails}
use Rattle.ob_typing.specs.Declarations.{is_name}
use Rattle.ob_typing.specs.Verdict.{Right, Wrong}
use Rattle.ob_typing.proofs.CheckedExpressions.{expression_typed, expression_fails}
use Rattle.ob_typing.specs.TypeVerdicts.{constant, denoted, denoted_fields, formal}

module _ (env : Environment) where
  pub constant_typed : {e : Expr} {s : Scalar} → HasConstant env e s → constant env e ≡ Right s
  constant_typed (Expressions.constant h) = rw (expression_typed env h) refl

  pub constant_fails : {e : Expr} {fault : BrokenRule} → ExpressionFails env InConstant e fault → constant env e ≡ Wrong fault
  constant_fails h = rw (expression_fails env h) refl

  mutual
    pub type_denoted : {e : TypeExpr} {t : DataType} → Denotes env e t → denoted env e ≡ Right t
    type_denoted (Types.called h) = rw h refl
    type_denoted (Types.built (Types.array h l k) small) = rw (constant_typed h) (rw l (rw (type_denoted k) (rw small refl)))
    type_denoted (Types.built (Types.record' h) small) = rw (fields_denoted h) (rw small refl)

    pub fields_denoted : {taken : Taken} {lists : FieldLists} {fields : Fields} →
        DenotesFields env taken lists fields → denoted_fields env lists taken ≡ Right fields
    fields_denoted Types.none = refl
    fields_denoted (Types.empty h) = fields_denoted h
    fields_denoted (Types.of_type new h k) = rw new (rw (type_denoted h) (rw (fields_denoted k) refl))

  mutual
    pub type_fails : {e : TypeExpr} {fault : BrokenRule} → TypeFails env e fault → denoted env e ≡ Wrong fault
    type_fails (TypeFaults.name h) = rw h refl
    type_fails (TypeFaults.parts (TypeFaults.within_length h)) = rw (constant_fails h) refl
    type_fails (TypeFaults.parts (TypeFaults.no_number h)) = rw (constant_typed h) refl
    type_fails (TypeFaults.parts (TypeFaults.length h l)) = rw (constant_typed h) (rw l refl)
    type_fails (TypeFaults.parts (TypeFaults.element h l k)) = rw (constant_typed h) (rw l (rw (type_fails k) refl))
    type_fails (TypeFaults.large (Types.array h l k) small) = rw (constant_typed h) (rw l (rw (type_denoted k) (rw small refl)))
    type_fails (TypeFaults.parts (TypeFaults.within_record h)) = rw (fields_fail h) refl
    type_fails (TypeFaults.large (Types.record' h) small) = rw (fields_denoted h) (rw small refl)

    pub fields_fail : {taken : Taken} {lists : FieldLists} {fault : BrokenRule} →
        FieldsFail env taken lists fault → denoted_fields env lists taken ≡ Wrong fault
    fields_fail (TypeFaults.behind_empty h) = fields_fail h
    fields_fail (TypeFaults.twice h) = rw h refl
    fields_fail (TypeFaults.of_type new h) = rw new (rw (type_fails h) refl)
    fields_fail (TypeFaults.others new h k) = rw new (rw (type_denoted h) (rw (fields_fail k) refl))

  pub formal_denoted : {e : TypeExpr} {t : DataType} → Denotes env e t → is_name e ≡ true → formal env e ≡ Right t
  formal_denoted (Types.called h) is = type_denoted (Types.called h)
  formal_denoted (Types.built (Types.array h l k) small) is = absurd cc
  formal_denoted (Types.built (Types.record' h) small) is = absurd cc

  pub formal_fails : {e : TypeExpr} {fault : BrokenRule} → FormalTypeFails env e fault → formal env e ≡ Wrong fault
  formal_fails (TypeFaults.FormalTypeFails.name h) = rw h refl
  formal_fails (TypeFaults.FormalTypeFails.parts (TypeFaults.within_length h)) = rw (constant_fails h) refl
  formal_fails (TypeFaults.FormalTypeFails.parts (TypeFaults.no_number h)) = rw (constant_typed h) refl
  formal_fails (TypeFaults.FormalTypeFails.parts (TypeFaults.length h l)) = rw (constant_typed h) (rw l refl)
  formal_fails (TypeFaults.FormalTypeFails.parts (TypeFaults.element h l k)) = rw (constant_typed h) (rw l (rw (type_fails k) refl))
  formal_fails (TypeFaults.FormalTypeFails.parts (TypeFaults.within_record h)) = rw (fields_fail h) refl
  formal_fails (TypeFaults.no_name (Types.array h l k)) = rw (constant_typed h) (rw l (rw (type_denoted k) refl))
  formal_fails (TypeFaults.no_name (Types.record' h)) = rw (fields_denoted h) refl
