-- What the names in scope stand for in the checked program.
use Rattle.std.proofs.Common.{◌≡◌, refl, sym, subst, ◌∙◌, ℕ, ◌≤◌, Bool, true, false, List, ◌∷◌, bytes_eq, if◌then◌else◌, Option, Some, None, eqb-true}
use Rattle.std.specs.Prelude.{slice_get, nat_eq}
use Rattle.std.proofs.lemmas.Slice.Eq.{bytes_eq-Decides}
use Rattle.ob_typing.specs.Program.{Name, DataType, OfModule, Own, Slot, Parameter, Procedure}
use Rattle.ob_typing.specs.Scopes.{Object, Constant, TypeName, ModuleVariable, LocalVariable, ProcedureName, Scope, Environment, or_else, found, declared, level, AVariable, FarVariable, AProcedure, meant_as, meant}
use Rattle.ob_meaning.specs.Resolved.{IsAt, declared_by}

-- a variable of this name and type stands at this position
abbrev pub Stands : List Parameter → Name → ℕ → DataType → Type 0
Stands ps name i t = (p : Parameter) × (IsAt ps name i p × (p.type ≡ t))

pub same_name : (a b : Name) → bytes_eq a b ≡ true → a ≡ b
same_name a b e = (bytes_eq-Decides a b).0 e

some_object : (o p : Object) → Some o ≡ Some p → o ≡ p
some_object o p e = cc

slot_meant : (a b : Slot) (s t : DataType) → AVariable a s ≡ AVariable b t → a ≡ b
slot_meant a b s t e = cc

type_meant : (a b : Slot) (s t : DataType) → AVariable a s ≡ AVariable b t → s ≡ t
type_meant a b s t e = cc

number_meant : (n m : ℕ) (ps qs : List Parameter) → AProcedure n ps ≡ AProcedure m qs → n ≡ m
number_meant n m ps qs e = cc

parameters_meant : (n m : ℕ) (ps qs : List Parameter) → AProcedure n ps ≡ AProcedure m qs → ps ≡ qs
parameters_meant n m ps qs e = cc

module _ (outer : List Parameter) (procedures : List Procedure) where
  -- a name that is declared so, in a scope of this level or around it, is right in the program
  abbrev pub IsRight : ℕ → List Parameter → Name → Object → Type 0
  IsRight here own name (Constant value) = Unit {0}
  IsRight here own name (TypeName type) = Unit {0}
  IsRight here own name (ModuleVariable position type) = Stands outer name position type
  IsRight here own name (LocalVariable there position type) = (there ≤ here) × (there ≡ here → Stands own name position type)
  IsRight here own name (ProcedureName number parameters) = (p : Procedure) × ((slice_get procedures number ≡ Some p) × (p.parameters ≡ parameters))

  -- all names that are found are right
  abbrev pub Knows : List Parameter → Environment → Type 0
  Knows own env = (name : Name) (o : Object) → found env name ≡ Some o → IsRight (level env) own name o

  -- one name more in the innermost scope

  found_more : (own : List Parameter) (env : Environment) (name other : Name) (o new : Object) (b : Bool) → bytes_eq name other ≡ b → Knows own env → IsRight (level env) own name new →
      or_else (if b then Some new else None) (found env other) ≡ Some o → IsRight (level env) own other o
  found_more own env name other o new true e known right h =
      subst (λ x. IsRight (level env) own other x) (some_object new o h) (subst (λ x. IsRight (level env) own x new) (same_name name other e) right)
  found_more own env name other o new false e known right h = known other o h

  split : (b : Bool) (new : Object) (inner rest : Option Object) →
      or_else (if b then Some new else inner) rest ≡ or_else (if b then Some new else None) (or_else inner rest)
  split true new inner rest = refl
  split false new inner rest = refl

  pub knows_more : (own : List Parameter) (scope : Scope) (env : Environment) (name : Name) (new : Object) → Knows own (scope ∷ env) → IsRight (level (scope ∷ env)) own name new →
      Knows own (declared (scope ∷ env) name new)
  knows_more own scope env name new known right other o h =
      found_more own (scope ∷ env) name other o new (bytes_eq name other) refl known right (sym (split (bytes_eq name other) new (scope other) (found env other)) ∙ h)

  -- what a name of a variable, or of a procedure, means

  module _ (own : List Parameter) (env : Environment) (known : Knows own env) where
    own_meant : (name : Name) (there i : ℕ) (slot : Slot) (s t : DataType) (b : Bool) → nat_eq there (level env) ≡ b → found env name ≡ Some (LocalVariable there i s) →
        (if b then AVariable (record { owner = Own; position = i; name = name }) s else FarVariable) ≡ AVariable slot t →
        Stands (declared_by outer own slot.owner) slot.name slot.position t
    own_meant name there i slot s t true e is h =
        let stands : Stands own name i s = (known name (LocalVariable there i s) is).1 (eqb-true there (level env) e) in
        subst (λ x. Stands (declared_by outer own x.owner) x.name x.position t) (slot_meant (record { owner = Own; position = i; name = name }) slot s t h)
        (subst (λ u. Stands own name i u) (type_meant (record { owner = Own; position = i; name = name }) slot s t h) stands)
    own_meant name there i slot s t false e is h = absurd cc

    object_meant : (name : Name) (slot : Slot) (t : DataType) (o : Option Object) → found env name ≡ o → meant_as (level env) name o ≡ AVariable slot t →
        Stands (declared_by outer own slot.owner) slot.name slot.position t
    object_meant name slot t None is h = absurd cc
    object_meant name slot t (Some (Constant v)) is h = absurd cc
    object_meant name slot t (Some (TypeName v)) is h = absurd cc
    object_meant name slot t (Some (ModuleVariable i s)) is h =
        let stands : Stands outer name i s = known name (ModuleVariable i s) is in
        subst (λ x. Stands (declared_by outer own x.owner) x.name x.position t) (slot_meant (record { owner = OfModule; position = i; name = name }) slot s t h)
        (subst (λ u. Stands outer name i u) (type_meant (record { owner = OfModule; position = i; name = name }) slot s t h) stands)
    object_meant name slot t (Some (LocalVariable there i s)) is h = own_meant name there i slot s t (nat_eq there (level env)) refl is h
    object_meant name slot t (Some (ProcedureName n ps)) is h = absurd cc

    pub variable_meant : (name : Name) (slot : Slot) (t : DataType) → meant env name ≡ AVariable slot t → Stands (declared_by outer own slot.owner) slot.name slot.position t
    variable_meant name slot t h = object_meant name slot t (found env name) refl h

    far_procedure : (name : Name) (i n : ℕ) (ps : List Parameter) (s : DataType) (b : Bool) →
        (if b then AVariable (record { owner = Own; position = i; name = name }) s else FarVariable) ≡ AProcedure n ps → ⊥
    far_procedure name i n ps s true h = cc
    far_procedure name i n ps s false h = cc

    procedure_found : (name : Name) (n : ℕ) (ps : List Parameter) (o : Option Object) → found env name ≡ o → meant_as (level env) name o ≡ AProcedure n ps →
        (p : Procedure) × ((slice_get procedures n ≡ Some p) × (p.parameters ≡ ps))
    procedure_found name n ps None is h = absurd cc
    procedure_found name n ps (Some (Constant v)) is h = absurd cc
    procedure_found name n ps (Some (TypeName v)) is h = absurd cc
    procedure_found name n ps (Some (ModuleVariable i s)) is h = absurd cc
    procedure_found name n ps (Some (LocalVariable there i s)) is h = absurd (far_procedure name i n ps s (nat_eq there (level env)) h)
    procedure_found name n ps (Some (ProcedureName m qs)) is h =
        let right = known name (ProcedureName m qs) is in
        (right.0, (subst (λ k. slice_get procedures k ≡ Some right.0) (number_meant m n qs ps h) right.1.0, right.1.1 ∙ parameters_meant m n qs ps h))

    pub procedure_meant : (name : Name) (n : ℕ) (ps : List Parameter) → meant env name ≡ AProcedure n ps →
        (p : Procedure) × ((slice_get procedures n ≡ Some p) × (p.parameters ≡ ps))
    procedure_meant name n ps h = procedure_found name n ps (found env name) refl h
