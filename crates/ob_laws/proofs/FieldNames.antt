-- The types that a text denotes: arrays have elements, fields have names, and no type is too deep, so that what is written of a value says it.
use Rattle.std.proofs.Common.{◌≡◌, ℕ, ◌≤◌, ℤ, pos, negsuc, Bool, true, false, ◌&&◌, List, [], ◌∷◌, ◌++◌, bytes_eq, if◌then◌else◌, Option, Some, None, refl, subst, arith}
use Rattle.std.specs.Prelude.{codes, nat_eq, nat_le}
use Rattle.std.proofs.lemmas.Bool.{and_parts, leb-true}
use Rattle.ob_grammar.specs.Tree as Tree
use Rattle.ob_grammar.specs.Tree.{FieldLists, TypeExpr}
use Rattle.ob_interface.specs.declared.scalar.Scalar.TheVariants as Scalars
use Rattle.ob_interface.specs.declared.scalar.ScalarType.{ScalarType}
use Rattle.ob_interface.specs.declared.scalar.ScalarType.TheVariants.{Integer, Boolean}
use Rattle.ob_scan.specs.declared.token.Kind.{Kind}
use Rattle.ob_syntax.specs.Printing.{expr_words, field_words, fixed, more_field_words, name_words, type_words}
use Rattle.ob_laws.proofs.Names.{AreNamed, AreNames, IsNamed, left, names_listed, right}
use Rattle.ob_text_values_reading.specs.ValueTexts.{deepest_value}
use Rattle.ob_text_words.specs.Words.{IsName}
use Rattle.ob_typing.specs.Program.{DataType, Simple, Array, Record, Fields, no_field, field, Name, Own}
use Rattle.ob_typing.specs.Scopes.{Object, Constant, TypeName, ModuleVariable, LocalVariable, ProcedureName, Scope, no_names, with_name, Environment, or_else, found, declared, variable_in, outermost, opening_names, level, Meant, AType, AVariable, FarVariable, depth, meant_as, words}
use Rattle.ob_typing.specs.Types as Denoting
use Rattle.ob_typing.specs.Types.{Builds, Denotes, DenotesFields, array_length, with_fields}

-- each array within a type has an element, and each field a name
abbrev mutual
  pub HasNames : DataType → Type 0
  HasNames (Simple type) = Unit {0}
  HasNames (Array place length element) = (1 ≤ length) × HasNames element
  HasNames (Record place fields) = HaveNames fields

  pub HaveNames : Fields → Type 0
  HaveNames no_field = Unit {0}
  HaveNames (field name type rest) = IsName name × HasNames type × HaveNames rest

pub record IsSayable (type : DataType) : Type 0 where
  pub parts : HasNames type
  pub shallow : depth type ≤ deepest_value

simple_sayable : (type : ScalarType) → IsSayable (Simple type)
simple_sayable type = record { parts = tt; shallow = omega arith }

-- an object whose type is one of those, where it is a type
abbrev pub IsWorded : Object → Type 0
IsWorded (TypeName type) = IsSayable type
IsWorded _ = Unit {0}

abbrev pub IsWordedIf : Option Object → Type 0
IsWordedIf None = Unit {0}
IsWordedIf (Some o) = IsWorded o

abbrev pub AreWorded : Environment → Type 0
AreWorded env = (name : Name) → IsWordedIf (found env name)

abbrev IsWordedScope : Scope → Type 0
IsWordedScope scope = (name : Name) → IsWordedIf (scope name)

if_worded : (b : Bool) (new : Object) (other : Option Object) → IsWorded new → IsWordedIf other → IsWordedIf (if b then Some new else other)
if_worded true new other h k = h
if_worded false new other h k = k

scope_more : (scope : Scope) (name : Name) (new : Object) → IsWordedScope scope → IsWorded new → IsWordedScope (with_name scope name new)
scope_more scope name new h k other = if_worded (bytes_eq name other) new (scope other) k (h other)

either_worded : (a b : Option Object) → IsWordedIf a → IsWordedIf b → IsWordedIf (or_else a b)
either_worded None b h k = k
either_worded (Some o) b h k = h

split : (b : Bool) (new : Object) (inner rest : Option Object) → IsWorded new → IsWordedIf (or_else inner rest) → IsWordedIf (or_else (if b then Some new else inner) rest)
split true new inner rest h k = h
split false new inner rest h k = k

pub worded_more : (env : Environment) (name : Name) (new : Object) → AreWorded env → IsWorded new → AreWorded (declared env name new)
worded_more [] name new h k other = split (bytes_eq name other) new None None k tt
worded_more (scope ∷ env) name new h k other = split (bytes_eq name other) new (scope other) (found env other) k (h other)

pub variable_worded : (env : Environment) (position : ℕ) (type : DataType) → IsWorded (variable_in env position type)
variable_worded [] position type = tt
variable_worded (a ∷ []) position type = tt
variable_worded (a ∷ b ∷ []) position type = tt
variable_worded (a ∷ b ∷ c ∷ env) position type = tt

none_worded : IsWordedScope no_names
none_worded name = tt

outermost_worded : IsWordedScope outermost
outermost_worded =
    scope_more (with_name (with_name (with_name no_names (codes "FALSE") (Constant (Scalars.Bool false))) (codes "TRUE") (Constant (Scalars.Bool true))) (codes "BOOLEAN") (TypeName (Simple Boolean)))
    (codes "INTEGER") (TypeName (Simple Integer))
    (scope_more (with_name (with_name no_names (codes "FALSE") (Constant (Scalars.Bool false))) (codes "TRUE") (Constant (Scalars.Bool true))) (codes "BOOLEAN") (TypeName (Simple Boolean))
    (scope_more (with_name no_names (codes "FALSE") (Constant (Scalars.Bool false))) (codes "TRUE") (Constant (Scalars.Bool true))
    (scope_more no_names (codes "FALSE") (Constant (Scalars.Bool false)) none_worded tt) tt) (simple_sayable Boolean)) (simple_sayable Integer)

pub opening_worded : AreWorded opening_names
opening_worded name = either_worded (outermost name) None (outermost_worded name) tt

not_type : (b : Bool) (m : Meant) (t : DataType) → (m ≡ AType t → ⊥) → (if b then m else FarVariable) ≡ AType t → ⊥
not_type true m t h e = h e
not_type false m t h e = cc

type_at : (here : ℕ) (name : Name) (o : Option Object) (t : DataType) → IsWordedIf o → meant_as here name o ≡ AType t → IsSayable t
type_at here name None t h e = absurd (cc)
type_at here name (Some (Constant value)) t h e = absurd (cc)
type_at here name (Some (TypeName type)) t h e = let same : type ≡ t = cc in subst IsSayable same h
type_at here name (Some (ModuleVariable position type)) t h e = absurd (cc)
type_at here name (Some (LocalVariable level position type)) t h e =
    absurd (not_type (nat_eq level here) (AVariable (record { owner = Own; position = position; name = name }) type) t (λ f. cc) e)
type_at here name (Some (ProcedureName number parameters)) t h e = absurd (cc)

behind_first : (lists : FieldLists) → AreNamed (more_field_words lists) → AreNamed (field_words lists)
behind_first Tree.no_list h = tt
behind_first (Tree.empty_list rest) h = h.1
behind_first (Tree.fields names t rest) h = h.1

fields_worded : (names : List Tree.Name) (t : DataType) (rest : Fields) → AreNames names → HasNames t → HaveNames rest → HaveNames (with_fields names t rest)
fields_worded [] t rest h k rests = rests
fields_worded (name ∷ names) t rest h k rests = (h.0, k, fields_worded names t rest h.1 k rests)

long_if : (b : Bool) (n length : ℕ) → (b ≡ true → 1 ≤ n) → (if b then Some n else None) ≡ Some length → 1 ≤ length
long_if true n length h e = let same : n ≡ length = cc in omega (arith, same, h refl)
long_if false n length h e = absurd (cc)

long : (z : ℤ) (length : ℕ) → array_length z ≡ Some length → 1 ≤ length
long (pos n) length e = long_if (nat_le 1 n && nat_le n 4096) n length (λ b. leb-true 1 n (and_parts (nat_le 1 n) (nat_le n 4096) b).0) e
long (negsuc n) length e = absurd (cc)

module _ (env : Environment) (worded : AreWorded env) where
  mutual
    pub denoted : {e : TypeExpr} {t : DataType} → Denotes env e t → AreNamed (type_words e) → IsSayable t
    denoted (Denoting.called {name = name} {t = t} m) h = type_at (level env) name.text (found env name.text) t (worded name.text) m
    denoted (Denoting.built {t = t} k small) h =
        record { parts = built k h; shallow = leb-true (depth t) 100 (and_parts (nat_le (words t) 4096) (nat_le (depth t) 100) small).1 }

    built : {e : TypeExpr} {t : DataType} → Builds env e t → AreNamed (type_words e) → HasNames t
    built (Denoting.array {length = length} {z = z} {e = e} {of_type = of_type} c is k) h =
        (long z length is, (denoted k (right IsNamed (expr_words e) (fixed Kind.Of ∷ type_words of_type) h.1).1).parts)
    built (Denoting.record' {lists = lists} k) h = fields k (left IsNamed (field_words lists) (fixed Kind.End ∷ []) h.1)

    fields : {taken : _} {lists : FieldLists} {fs : Fields} → DenotesFields env taken lists fs → AreNamed (field_words lists) → HaveNames fs
    fields Denoting.none h = tt
    fields (Denoting.empty {rest = rest} k) h = fields k (behind_first rest h)
    fields (Denoting.of_type {names = names} {e = e} {t = t} {rest = rest} {fields = fs} new k later) h =
        let tail = (right IsNamed (name_words names) (fixed Kind.Colon ∷ (type_words e ++ more_field_words rest)) h).1 in
        fields_worded names t fs
        (names_listed names (left IsNamed (name_words names) (fixed Kind.Colon ∷ (type_words e ++ more_field_words rest)) h))
        (denoted k (left IsNamed (type_words e) (more_field_words rest) tail)).parts
        (fields later (behind_first rest (right IsNamed (type_words e) (more_field_words rest) tail)))
