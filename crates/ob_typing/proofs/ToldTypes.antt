-- The verdict on a constant or a type tells its value or the type, or the rule that it breaks first.
use Rattle.std.proofs.Common.{◌≡◌, refl, ℕ, ℤ, true, Option, Some, None}
use Rattle.ob_grammar.specs.Tree
use Rattle.ob_grammar.specs.Tree.{Expr, TypeExpr, FieldLists}
use Rattle.ob_interface.specs.declared.scalar.Scalar.{Scalar}
use Rattle.ob_interface.specs.declared.scalar.Scalar.TheVariants.{Int, Bool}
use Rattle.ob_typing.specs.declared.rule.Rule.TheVariants.{DeclaredTwice, WrongKind, BadLength, PassesLimit}
use Rattle.ob_typing.specs.Program
use Rattle.ob_typing.specs.Program.{DataType, Fields}
use Rattle.ob_typing.specs.Scopes.{Environment, Meant, Nothing, AConstant, AType, AVariable, FarVariable, AProcedure, meant, is_small}
use Rattle.ob_typing.specs.Expressions
use Rattle.ob_typing.specs.Expressions.{InConstant, HasType, HasConstant}
use Rattle.ob_typing.specs.ExpressionFaults.{broken, first_place, ExpressionFails}
use Rattle.ob_typing.specs.Types
use Rattle.ob_typing.specs.Types.{Taken, none_taken, and_all_taken, second, array_length, Denotes, DenotesFields}
use Rattle.ob_typing.specs.TypeFaults
use Rattle.ob_typing.specs.TypeFaults.{type_broken, TypeFails, FieldsFail, FormalTypeFails}
use Rattle.ob_typing.specs.Declarations.{is_name}
use Rattle.ob_typing.specs.Verdict.{Verdict, Right, Wrong, Foreign, ◌>>=◌, need, or_wrong}
use Rattle.ob_typing.proofs.Told.{Told, step, step_or_wrong, step_test, step_unless, step_unless_name}
use Rattle.ob_typing.specs.ExpressionVerdicts.{expression}
use Rattle.ob_typing.specs.TypeVerdicts.{type_named, number_at, constant, denoted, denoted_fields, formal}
use Rattle.ob_typing.proofs.ToldExpressions.{IsTyped, expression_told}

module _ (env : Environment) where
  value_told : (e : Expr) (t : _) (c : _) (v : Option Scalar) → HasType env InConstant e t c v →
      Told (HasConstant env e) (ExpressionFails env InConstant e) (need v)
  value_told e t c (Some s) h = Expressions.constant h
  value_told e t c None h = tt

  pub constant_told : (e : Expr) → Told (HasConstant env e) (ExpressionFails env InConstant e) (constant env e)
  constant_told e =
      step (HasConstant env e) (ExpressionFails env InConstant e) (IsTyped env InConstant e) (ExpressionFails env InConstant e) (expression env e InConstant) _
      (expression_told env e InConstant) (λ x h. value_told e x.type x.code x.value h) (λ f h. h)

  name_told : (name : Tree.Name) (m : Meant) → meant env name.text ≡ m →
      Told (Denotes env (Tree.NamedType name)) (TypeFails env (Tree.NamedType name)) (need (type_named m))
  name_told name (AType t) h = Types.called h
  name_told name Nothing h = tt
  name_told name (AConstant v) h = tt
  name_told name (AVariable slot t) h = tt
  name_told name FarVariable h = tt
  name_told name (AProcedure n ps) h = tt

  -- a length goes on where it is a number
  length_told : (place : ℕ) (e : Expr) (t : TypeExpr) (s : Scalar) (go : ℤ → Verdict DataType) → HasConstant env e s →
      ((z : ℤ) → HasConstant env e (Int z) → Told (Denotes env (Tree.Array place e t)) (TypeFails env (Tree.Array place e t)) (go z)) →
      Told (Denotes env (Tree.Array place e t)) (TypeFails env (Tree.Array place e t)) (◌>>=◌ (number_at (first_place e) s) go)
  length_told place e t (Int z) go h k = k z h
  length_told place e t (Bool b) go h k = TypeFaults.parts (TypeFaults.no_number h)

  behind_told : (rest : FieldLists) (taken : Taken) (v : Verdict Fields) → Told (DenotesFields env taken rest) (FieldsFail env taken rest) v →
      Told (DenotesFields env taken (Tree.empty_list rest)) (FieldsFail env taken (Tree.empty_list rest)) v
  behind_told rest taken (Right fields) h = Types.empty h
  behind_told rest taken (Wrong f) h = TypeFaults.behind_empty h
  behind_told rest taken Foreign h = tt

  mutual
    pub type_told : (e : TypeExpr) → Told (Denotes env e) (TypeFails env e) (denoted env e)
    type_told (Tree.NamedType name) =
        step_unless (Denotes env (Tree.NamedType name)) (TypeFails env (Tree.NamedType name)) (type_broken (meant env name.text)) name.place _
        (λ ok. name_told name (meant env name.text) refl) (λ rule bad. TypeFaults.name bad)
    type_told (Tree.Array place e of_type) =
        let R = Denotes env (Tree.Array place e of_type) in
        let W = TypeFails env (Tree.Array place e of_type) in
        step R W (HasConstant env e) (ExpressionFails env InConstant e) (constant env e) _ (constant_told e)
        (λ s h. length_told place e of_type s _ h (λ z k.
        step_or_wrong R W (array_length z) BadLength (first_place e) _
        (λ length l. step R W (Denotes env of_type) (TypeFails env of_type) (denoted env of_type) _ (type_told of_type)
        (λ element d. step_test R W (is_small (Program.Array place length element)) PassesLimit place _
        (λ small. Types.built (Types.array k l d) small) (λ small. TypeFaults.large (Types.array k l d) small))
        (λ f d. TypeFaults.parts (TypeFaults.element k l d)))
        (λ l. TypeFaults.parts (TypeFaults.length k l))))
        (λ f h. TypeFaults.parts (TypeFaults.within_length h))
    type_told (Tree.Record place lists) =
        let R = Denotes env (Tree.Record place lists) in
        let W = TypeFails env (Tree.Record place lists) in
        step R W (DenotesFields env none_taken lists) (FieldsFail env none_taken lists) (denoted_fields env lists none_taken) _ (fields_told lists none_taken)
        (λ fields h. step_test R W (is_small (Program.Record place fields)) PassesLimit place _
        (λ small. Types.built (Types.record' h) small) (λ small. TypeFaults.large (Types.record' h) small))
        (λ f h. TypeFaults.parts (TypeFaults.within_record h))

    pub fields_told : (lists : FieldLists) (taken : Taken) →
        Told (DenotesFields env taken lists) (FieldsFail env taken lists) (denoted_fields env lists taken)
    fields_told Tree.no_list taken = Types.none
    fields_told (Tree.empty_list rest) taken = behind_told rest taken (denoted_fields env rest taken) (fields_told rest taken)
    fields_told (Tree.fields names e rest) taken =
        let R = DenotesFields env taken (Tree.fields names e rest) in
        let W = FieldsFail env taken (Tree.fields names e rest) in
        step_unless_name R W (second taken names) DeclaredTwice _
        (λ new. step R W (Denotes env e) (TypeFails env e) (denoted env e) _ (type_told e)
        (λ t h. step R W (DenotesFields env (and_all_taken taken names) rest) (FieldsFail env (and_all_taken taken names) rest) (denoted_fields env rest (and_all_taken taken names)) _
        (fields_told rest (and_all_taken taken names))
        (λ fields k. Types.of_type new h k) (λ f k. TypeFaults.others new h k))
        (λ f h. TypeFaults.of_type new h))
        (λ name bad. TypeFaults.twice bad)

  -- a formal type is a name
  abbrev pub IsFormal : TypeExpr → DataType → Type 0
  IsFormal e t = Denotes env e t × is_name e ≡ true

  named_told : (name : Tree.Name) (v : Verdict DataType) → Told (Denotes env (Tree.NamedType name)) (TypeFails env (Tree.NamedType name)) v →
      Told (IsFormal (Tree.NamedType name)) (FormalTypeFails env (Tree.NamedType name)) v
  named_told name (Right t) h = (h, refl)
  named_told name (Wrong f) (TypeFaults.name h) = TypeFaults.FormalTypeFails.name h
  named_told name (Wrong f) (TypeFaults.parts h) = TypeFaults.FormalTypeFails.parts h
  named_told name (Wrong f) (TypeFaults.large built beyond) = elim built [ ]
  named_told name Foreign h = tt

  -- within an array
  formal_length_told : (place : ℕ) (e : Expr) (t : TypeExpr) (s : Scalar) → HasConstant env e s →
      Told (IsFormal (Tree.Array place e t)) (FormalTypeFails env (Tree.Array place e t))
      (◌>>=◌ (number_at (first_place e) s) (λ z. ◌>>=◌ (or_wrong (array_length z) BadLength (first_place e)) (λ length. ◌>>=◌ (denoted env t) (λ element. Wrong (broken WrongKind place)))))
  formal_length_told place e t (Bool b) h = TypeFaults.FormalTypeFails.parts (TypeFaults.no_number h)
  formal_length_told place e t (Int z) h =
      let R = IsFormal (Tree.Array place e t) in
      let W = FormalTypeFails env (Tree.Array place e t) in
      step_or_wrong R W (array_length z) BadLength (first_place e) _
      (λ length l. step R W (Denotes env t) (TypeFails env t) (denoted env t) _ (type_told t)
      (λ element d. TypeFaults.no_name (Types.array h l d))
      (λ f d. TypeFaults.FormalTypeFails.parts (TypeFaults.element h l d)))
      (λ l. TypeFaults.FormalTypeFails.parts (TypeFaults.length h l))

  pub formal_told : (e : TypeExpr) → Told (IsFormal e) (FormalTypeFails env e) (formal env e)
  formal_told (Tree.NamedType name) = named_told name (denoted env (Tree.NamedType name)) (type_told (Tree.NamedType name))
  formal_told (Tree.Array place e t) =
      step (IsFormal (Tree.Array place e t)) (FormalTypeFails env (Tree.Array place e t)) (HasConstant env e) (ExpressionFails env InConstant e) (constant env e) _
      (constant_told e) (λ s h. formal_length_told place e t s h) (λ f h. TypeFaults.FormalTypeFails.parts (TypeFaults.within_length h))
  formal_told (Tree.Record place lists) =
      step (IsFormal (Tree.Record place lists)) (FormalTypeFails env (Tree.Record place lists)) (DenotesFields env none_taken lists) (FieldsFail env none_taken lists)
      (denoted_fields env lists none_taken) _ (fields_told lists none_taken)
      (λ fields h. TypeFaults.no_name (Types.record' h)) (λ f h. TypeFaults.FormalTypeFails.parts (TypeFaults.within_record h))
