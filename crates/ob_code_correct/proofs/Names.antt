-- What the names in scope stand for: constants in range, and types that keep the limits.
use Rattle.std.proofs.Common.{◌≡◌, ℕ, Bool, true, false, [], ◌∷◌, bytes_eq, if◌then◌else◌, Option, Some, None, refl, subst}
use Rattle.std.specs.Prelude.{codes, nat_eq}
use Rattle.ob_interface.specs.declared.scalar.Scalar.{Scalar}
use Rattle.ob_interface.specs.declared.scalar.Scalar.TheVariants as Scalars
use Rattle.ob_interface.specs.declared.scalar.ScalarType.TheVariants.{Integer, Boolean}
use Rattle.ob_typing.specs.Program.{Name, DataType, Simple, Own}
use Rattle.ob_typing.specs.Scopes.{Object, Constant, TypeName, ModuleVariable, LocalVariable, ProcedureName, Scope, no_names, with_name, Environment, or_else, found, declared, variable_in, outermost, opening_names, level, Meant, AConstant, AType, AVariable, FarVariable, meant_as, meant, is_small}
use Rattle.ob_typing.specs.Declarations.{inner_scope}
use Rattle.ob_code_scheme.specs.Correct.{IsInRange}
use Rattle.ob_code_correct.proofs.Plain.{IsBuilt}

-- a type within the limits
abbrev pub IsFineType : DataType → Type 0
IsFineType t = IsBuilt t × (is_small t ≡ true)

abbrev pub IsSound : Object → Type 0
IsSound (Constant value) = IsInRange value
IsSound (TypeName type) = IsFineType type
IsSound _ = Unit {0}

abbrev pub IsSoundIf : Option Object → Type 0
IsSoundIf None = Unit {0}
IsSoundIf (Some o) = IsSound o

-- all names that are found are sound
abbrev pub AreSound : Environment → Type 0
AreSound env = (name : Name) → IsSoundIf (found env name)

-- ---- scopes

abbrev IsSoundScope : Scope → Type 0
IsSoundScope scope = (name : Name) → IsSoundIf (scope name)

either_sound : (a b : Option Object) → IsSoundIf a → IsSoundIf b → IsSoundIf (or_else a b)
either_sound None b h k = k
either_sound (Some o) b h k = h

if_sound : (b : Bool) (new : Object) (other : Option Object) → IsSound new → IsSoundIf other → IsSoundIf (if b then Some new else other)
if_sound true new other h k = h
if_sound false new other h k = k

scope_more : (scope : Scope) (name : Name) (new : Object) → IsSoundScope scope → IsSound new → IsSoundScope (with_name scope name new)
scope_more scope name new h k other = if_sound (bytes_eq name other) new (scope other) k (h other)

first_scope : (a b : Option Object) → IsSoundIf (or_else a b) → IsSoundIf a
first_scope None b h = tt
first_scope (Some o) b h = h

-- where the first scope hides a name, what is behind it may be anything; so a name more is taken apart by whether it is that one
split : (b : Bool) (new : Object) (inner rest : Option Object) → IsSound new → IsSoundIf (or_else inner rest) → IsSoundIf (or_else (if b then Some new else inner) rest)
split true new inner rest h k = h
split false new inner rest h k = k

pub sound_more : (env : Environment) (name : Name) (new : Object) → AreSound env → IsSound new → AreSound (declared env name new)
sound_more [] name new h k other = split (bytes_eq name other) new None None k tt
sound_more (scope ∷ env) name new h k other = split (bytes_eq name other) new (scope other) (found env other) k (h other)

pub sound_inside : (env : Environment) → AreSound env → AreSound (no_names ∷ env)
sound_inside env h name = h name

pub sound_inner : (within env : Environment) → AreSound within → AreSound env → AreSound (inner_scope within env)
sound_inner [] env h k name = k name
sound_inner (scope ∷ within) env h k name =
    either_sound (scope name) (found env name) (first_scope (scope name) (found within name) (h name)) (k name)

pub variable_sound : (env : Environment) (position : ℕ) (type : DataType) → IsSound (variable_in env position type)
variable_sound [] position type = tt
variable_sound (a ∷ []) position type = tt
variable_sound (a ∷ b ∷ []) position type = tt
variable_sound (a ∷ b ∷ c ∷ env) position type = tt

none_sound : IsSoundScope no_names
none_sound name = tt

outermost_sound : IsSoundScope outermost
outermost_sound =
    scope_more (with_name (with_name (with_name no_names (codes "FALSE") (Constant (Scalars.Bool false))) (codes "TRUE") (Constant (Scalars.Bool true))) (codes "BOOLEAN") (TypeName (Simple Boolean)))
    (codes "INTEGER") (TypeName (Simple Integer))
    (scope_more (with_name (with_name no_names (codes "FALSE") (Constant (Scalars.Bool false))) (codes "TRUE") (Constant (Scalars.Bool true))) (codes "BOOLEAN") (TypeName (Simple Boolean))
    (scope_more (with_name no_names (codes "FALSE") (Constant (Scalars.Bool false))) (codes "TRUE") (Constant (Scalars.Bool true))
    (scope_more no_names (codes "FALSE") (Constant (Scalars.Bool false)) none_sound tt) tt) (tt, refl)) (tt, refl)

pub opening_sound : AreSound opening_names
opening_sound name = either_sound (outermost name) None (outermost_sound name) tt

-- ---- what names mean

not_constant : (b : Bool) (m : Meant) (s : Scalar) → (m ≡ AConstant s → ⊥) → (if b then m else FarVariable) ≡ AConstant s → ⊥
not_constant true m s h e = h e
not_constant false m s h e = cc

not_type : (b : Bool) (m : Meant) (t : DataType) → (m ≡ AType t → ⊥) → (if b then m else FarVariable) ≡ AType t → ⊥
not_type true m t h e = h e
not_type false m t h e = cc

constant_at : (here : ℕ) (name : Name) (o : Option Object) (s : Scalar) → IsSoundIf o → meant_as here name o ≡ AConstant s → IsInRange s
constant_at here name None s h e = absurd (cc)
constant_at here name (Some (Constant value)) s h e = let same : value ≡ s = cc in subst IsInRange same h
constant_at here name (Some (TypeName type)) s h e = absurd (cc)
constant_at here name (Some (ModuleVariable position type)) s h e = absurd (cc)
constant_at here name (Some (LocalVariable level position type)) s h e =
    absurd (not_constant (nat_eq level here) (AVariable (record { owner = Own; position = position; name = name }) type) s (λ f. cc) e)
constant_at here name (Some (ProcedureName number parameters)) s h e = absurd (cc)

pub constant_sound : (env : Environment) (name : Name) (s : Scalar) → AreSound env → meant env name ≡ AConstant s → IsInRange s
constant_sound env name s h e = constant_at (level env) name (found env name) s (h name) e

type_at : (here : ℕ) (name : Name) (o : Option Object) (t : DataType) → IsSoundIf o → meant_as here name o ≡ AType t → IsFineType t
type_at here name None t h e = absurd (cc)
type_at here name (Some (Constant value)) t h e = absurd (cc)
type_at here name (Some (TypeName type)) t h e = let same : type ≡ t = cc in subst IsFineType same h
type_at here name (Some (ModuleVariable position type)) t h e = absurd (cc)
type_at here name (Some (LocalVariable level position type)) t h e =
    absurd (not_type (nat_eq level here) (AVariable (record { owner = Own; position = position; name = name }) type) t (λ f. cc) e)
type_at here name (Some (ProcedureName number parameters)) t h e = absurd (cc)

pub type_sound : (env : Environment) (name : Name) (t : DataType) → AreSound env → meant env name ≡ AType t → IsFineType t
type_sound env name t h e = type_at (level env) name (found env name) t (h name) e
