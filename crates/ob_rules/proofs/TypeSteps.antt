-- The verdict on a type of the program, step by step.
use Rattle.std.proofs.Common.{◌≡◌, ℕ, Bool, true, false, List, [], ◌∷◌, ◌++◌, length, Some, None, refl, sym, ap, ◌∙◌, Box, Vec, String}
use Rattle.std.specs.Prelude.{if◌then◌else◌, string_bytes}
use Rattle.std.specs.declared.alloc.Global.{Global}
use Rattle.ob_grammar.specs.declared.tree.Expr.{Expr}
use Rattle.ob_grammar.specs.declared.tree.FieldList.{FieldList}
use Rattle.ob_grammar.specs.declared.tree.FieldList.TheVariants as Lists
use Rattle.ob_grammar.specs.declared.tree.Name.{Name}
use Rattle.ob_grammar.specs.declared.tree.TypeExpr.{TypeExpr}
use Rattle.ob_grammar.specs.declared.tree.TypeExpr.TheVariants as Types
use Rattle.ob_grammar.specs.Tree
use Rattle.ob_grammar.specs.View.{name_of, expr_of, type_of, fields_in}
use Rattle.ob_grammar.proofs.Rows.{type_of-record}
use Rattle.ob_interface.specs.declared.scalar.Scalar.{Scalar}
use Rattle.ob_typing.specs.declared.rule.Rule.{Rule}
use Rattle.ob_typing.specs.declared.rule.Rule.TheVariants.{DeclaredTwice, WrongKind, BadLength, PassesLimit}
use Rattle.ob_typing.specs.Program
use Rattle.ob_typing.specs.Program.{DataType}
use Rattle.ob_typing.specs.Scopes.{Environment, Meant, AType, meant, is_small}
use Rattle.ob_typing.specs.Types.{Taken, none_taken, and_all_taken, second, array_length, with_fields}
use Rattle.ob_typing.specs.TypeFaults.{type_broken}
use Rattle.ob_typing.specs.ExpressionFaults.{broken, first_place}
use Rattle.ob_typing.specs.Verdict.{Verdict, Right, Wrong, ◌>>=◌, or_wrong, test}
use Rattle.ob_typing.specs.TypeVerdicts.{number_at, constant, denoted, denoted_fields, formal}
use Rattle.ob_checked.specs.declared.types.DataType as Numbers
use Rattle.ob_checked.specs.Types.{Entry, type_in, type_by, types_of, is_below, all_below, fields_by, if_small, Extends}
use Rattle.ob_rules.specs.Checking.{and_then}
use Rattle.ob_rules.specs.CheckingTypes.{length_at, small_at, list_before, fields_before, behind_fields}
use Rattle.ob_rules.proofs.Steps.{bind_assoc, bind_same}
use Rattle.ob_scopes.proofs.Kept.{and_both, and_left, and_right}

module _ (env : Environment) (e : TypeExpr) where
  pub named_verdict : (name : Name) → e ≡ Types.Named name → denoted env (type_of e) ≡ denoted env (Tree.NamedType (name_of name))
  named_verdict name is = ap (λ x. denoted env (type_of x)) is

  -- behind the value of a length
  abbrev pub behind_length : (place first : ℕ) → TypeExpr → Scalar → Verdict DataType
  behind_length place first element s = ◌>>=◌ (length_at first s) (λ n. ◌>>=◌ (denoted env (type_of element)) (λ t. small_at place (Program.Array place n t)))

  pub array_verdict : (place : ℕ) (length : Expr) (element : Box TypeExpr Global) → e ≡ Types.Array place length element → (x : TypeExpr) → x ≡ element.value →
      (first : ℕ) → first ≡ first_place (expr_of length) →
      denoted env (type_of e) ≡ ◌>>=◌ (constant env (expr_of length)) (behind_length place first x)
  array_verdict place length element is x at first same =
      ap (λ y. denoted env (type_of y)) is
      ∙ bind_same (constant env (expr_of length)) _ (behind_length place (first_place (expr_of length)) element.value)
      (λ s. sym (bind_assoc (number_at (first_place (expr_of length)) s) (λ z. or_wrong (array_length z) BadLength (first_place (expr_of length))) _))
      ∙ ap (λ y. ◌>>=◌ (constant env (expr_of length)) (behind_length place (first_place (expr_of length)) y)) (sym at)
      ∙ ap (λ k. ◌>>=◌ (constant env (expr_of length)) (behind_length place k x)) (sym same)

  pub record_verdict : (place : ℕ) (fields : Vec FieldList Global) → e ≡ Types.Record place fields → (ls : List FieldList) → ls ≡ fields.items →
      denoted env (type_of e) ≡ ◌>>=◌ (denoted_fields env (fields_in ls) none_taken) (λ fs. small_at place (Program.Record place fs))
  record_verdict place fields is ls at =
      ap (λ y. denoted env (type_of y)) is ∙ ap (denoted env) (type_of-record place fields)
      ∙ ap (λ xs. ◌>>=◌ (denoted_fields env (fields_in xs) none_taken) (λ fs. small_at place (Program.Record place fs))) (sym at)

-- a formal type: a name, or the parts of another one before it is refused
module _ (env : Environment) (e : TypeExpr) where
  pub formal_named : (name : Name) → e ≡ Types.Named name → formal env (type_of e) ≡ denoted env (Tree.NamedType (name_of name))
  formal_named name is = ap (λ x. formal env (type_of x)) is

  abbrev pub behind_formal_length : (place first : ℕ) → TypeExpr → Scalar → Verdict DataType
  behind_formal_length place first element s = ◌>>=◌ (length_at first s) (λ n. ◌>>=◌ (denoted env (type_of element)) (λ t. Wrong (broken WrongKind place)))

  pub formal_array : (place : ℕ) (length : Expr) (element : Box TypeExpr Global) → e ≡ Types.Array place length element → (x : TypeExpr) → x ≡ element.value →
      (first : ℕ) → first ≡ first_place (expr_of length) →
      formal env (type_of e) ≡ ◌>>=◌ (constant env (expr_of length)) (behind_formal_length place first x)
  formal_array place length element is x at first same =
      ap (λ y. formal env (type_of y)) is
      ∙ bind_same (constant env (expr_of length)) _ (behind_formal_length place (first_place (expr_of length)) element.value)
      (λ s. sym (bind_assoc (number_at (first_place (expr_of length)) s) (λ z. or_wrong (array_length z) BadLength (first_place (expr_of length))) _))
      ∙ ap (λ y. ◌>>=◌ (constant env (expr_of length)) (behind_formal_length place (first_place (expr_of length)) y)) (sym at)
      ∙ ap (λ k. ◌>>=◌ (constant env (expr_of length)) (behind_formal_length place k x)) (sym same)

  pub formal_record : (place : ℕ) (fields : Vec FieldList Global) → e ≡ Types.Record place fields → (ls : List FieldList) → ls ≡ fields.items →
      formal env (type_of e) ≡ ◌>>=◌ (denoted_fields env (fields_in ls) none_taken) (λ fs. Wrong (broken WrongKind place))
  formal_record place fields is ls at =
      ap (λ y. formal env (type_of y)) is ∙ ap (formal env) (type_of-record place fields)
      ∙ ap (λ xs. ◌>>=◌ (denoted_fields env (fields_in xs) none_taken) (λ fs. Wrong (broken WrongKind place))) (sym at)

-- a name
module _ (env : Environment) (name : Tree.Name) (m : Meant) (is : m ≡ meant env name.text) where
  pub type_right : (t : DataType) → m ≡ AType t → denoted env (Tree.NamedType name) ≡ Right t
  type_right t at = let e : meant env name.text ≡ AType t = sym is ∙ at in rw e refl

  pub type_wrong : (rule : Rule) → type_broken m ≡ Some rule → denoted env (Tree.NamedType name) ≡ Wrong (broken rule name.place)
  type_wrong rule at = let e : type_broken (meant env name.text) ≡ Some rule = ap type_broken (sym is) ∙ at in rw e refl

-- the limits
module _ (place : ℕ) (t : DataType) where
  pub given_some : (u : DataType) → Some u ≡ if_small t → small_at place t ≡ Right u
  given_some u h = by (is_small t) h
    where
      by : (b : Bool) → Some u ≡ (if b then Some t else None) → ◌>>=◌ (test b PassesLimit place) (λ small. Right t) ≡ Right u
      by true h = let e : u ≡ t = cc in ap Right (sym e)
      by false h = absurd cc

  pub given_none : None ≡ if_small t → small_at place t ≡ Wrong (broken PassesLimit place)
  given_none h = by (is_small t) h
    where
      by : (b : Bool) → None ≡ (if b then Some t else None) → ◌>>=◌ (test b PassesLimit place) (λ small. Right t) ≡ Wrong (broken PassesLimit place)
      by true h = absurd cc
      by false h = refl

-- fields
pub before_kept : (es fs : List Entry) → Extends es fs → (xs : List (String Global × Numbers.DataType)) → all_below (length es) xs ≡ true → (rest : Program.Fields) →
    fields_before (types_of fs) xs rest ≡ fields_before (types_of es) xs rest
before_kept es fs h [] b rest = refl
before_kept es fs h (x ∷ xs) b rest =
    let first = h.same x.1 (and_left (is_below (length es) x.1) (all_below (length es) xs) b) in
    let others = before_kept es fs h xs (and_right (is_below (length es) x.1) (all_below (length es) xs) b) rest in
    ap (λ t. Program.field (string_bytes x.0) t (fields_before (types_of fs) xs rest)) first ∙ ap (λ r. Program.field (string_bytes x.0) (type_in es x.1) r) others

pub before_end : (ts : List DataType) (xs : List (String Global × Numbers.DataType)) → fields_before ts xs Program.no_field ≡ fields_by ts xs
before_end ts [] = refl
before_end ts (x ∷ xs) = ap (Program.field (string_bytes x.0) (type_by ts x.1)) (before_end ts xs)

module _ (env : Environment) (names : List Tree.Name) (e : Tree.TypeExpr) (taken : Taken) (rest : Tree.FieldLists) where
  pub list_twice : (name : Tree.Name) → second taken names ≡ Some name → denoted_fields env (Tree.fields names e rest) taken ≡ Wrong (broken DeclaredTwice name.place)
  list_twice name h = rw h refl

  pub list_new : second taken names ≡ None →
      denoted_fields env (Tree.fields names e rest) taken
      ≡ ◌>>=◌ (denoted env e) (λ t. ◌>>=◌ (denoted_fields env rest (and_all_taken taken names)) (λ fs. Right (with_fields names t fs)))
  list_new h = rw h refl

  -- the fields of a list, behind those so far
  module _ (old new : List Entry) (h : Extends old new) (xs ys : List (String Global × Numbers.DataType)) (known : all_below (length old) xs ≡ true) (t : Numbers.DataType) where
    pub list_step : second taken names ≡ None → denoted env e ≡ Right (type_in new t) →
        ((types : List DataType) (others : Program.Fields) → fields_before types ys others ≡ fields_before types xs (with_fields names (type_by types t) others)) →
        (more : Taken) → more ≡ and_all_taken taken names →
        and_then (denoted_fields env (Tree.fields names e rest) taken) (behind_fields old xs) ≡ and_then (denoted_fields env rest more) (behind_fields new ys)
    list_step free typed grown more is =
        let u = type_in new t in
        ap (λ v. and_then v (behind_fields old xs)) (list_new free ∙ ap (λ v. ◌>>=◌ v (λ t. ◌>>=◌ (denoted_fields env rest (and_all_taken taken names)) (λ fs. Right (with_fields names t fs)))) typed)
        ∙ bind_assoc (denoted_fields env rest (and_all_taken taken names)) (λ fs. Right (with_fields names u fs)) (behind_fields old xs)
        ∙ bind_same (denoted_fields env rest (and_all_taken taken names)) _ (behind_fields new ys)
        (λ fs. ap Right (sym (grown (types_of new) fs ∙ before_kept old new h xs known (with_fields names u fs))))
        ∙ ap (λ tk. and_then (denoted_fields env rest tk) (behind_fields new ys)) (sym is)

pub lists_first : (x : FieldList) (rest : List FieldList) → fields_in (x ∷ rest) ≡ list_before x (fields_in rest)
lists_first Lists.Empty rest = refl
lists_first (Lists.Fields names e) rest = refl

-- a field more
pub before_push : (ts : List DataType) (xs : List (String Global × Numbers.DataType)) (x : String Global × Numbers.DataType) (rest : Program.Fields) →
    fields_before ts (xs ++ x ∷ []) rest ≡ fields_before ts xs (Program.field (string_bytes x.0) (type_by ts x.1) rest)
before_push ts [] x rest = refl
before_push ts (y ∷ xs) x rest = ap (Program.field (string_bytes y.0) (type_by ts y.1)) (before_push ts xs x rest)

pub field_pushed : (n : ℕ) (xs : List (String Global × Numbers.DataType)) (x : String Global × Numbers.DataType) → all_below n xs ≡ true → is_below n x.1 ≡ true →
    all_below n (xs ++ x ∷ []) ≡ true
field_pushed n [] x b k = and_both (is_below n x.1) true k refl
field_pushed n (y ∷ xs) x b k =
    and_both (is_below n y.1) (all_below n (xs ++ x ∷ [])) (and_left (is_below n y.1) (all_below n xs) b)
    (field_pushed n xs x (and_right (is_below n y.1) (all_below n xs) b) k)
