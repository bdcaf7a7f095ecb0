-- Variables by their names: where one stands, and what it has.
use Rattle.std.proofs.Common.{◌≡◌, ◌∙◌, ℕ, zero, suc, ◌+◌, ◌<◌, ◌≤◌, List, [], ◌∷◌, length, get_or, map, drop, Some, None, Bool, true, false, string_bytes, refl, ap, sym, subst, arith, add-one, drop-cons}
use Rattle.std.proofs.Math.ListN.{get_or-map}
use Rattle.std.proofs.lemmas.List.{drop_all, length-map}
use Rattle.std.proofs.Props.{props}
use Rattle.std.specs.Prelude.{bytes_eq, if◌then◌else◌}
use Rattle.ob_meaning.proofs.SameValues.{if_true, if_false}
use Rattle.ob_meaning.specs.Resolved.{AreDistinct, NoneCalled}
use Rattle.ob_checked.specs.Types.{Entry}
use Rattle.ob_checked.specs.View.{variable_of}
use Rattle.ob_checked.specs.declared.program.Variable as Checked
use Rattle.ob_meaning.specs.ByNameValue as Named
use Rattle.ob_typing.specs.Program.{Name, Parameter, Variable}
use Rattle.ob_carry.specs.Carried.{IsVariableFor, position_from, variable_named}
use Rattle.ob_carry.specs.Values.{IsValueOf}

-- the first variable of a name stands at this position
abbrev pub IsFirst : List Variable → Name → ℕ → Variable → Type 0
IsFirst [] name i v = ⊥
IsFirst (x ∷ variables) name zero v = (bytes_eq x.name name ≡ true) × (x ≡ v)
IsFirst (x ∷ variables) name (suc i) v = (bytes_eq x.name name ≡ false) × IsFirst variables name i v

-- the search from a position on

module _ (types : List Entry) (name : Name) (variables : List Checked.Variable) (i : ℕ) where
  pub found_here : (v : Checked.Variable) → i < length variables → v ≡ get_or variables i v → bytes_eq (string_bytes v.name) name ≡ true →
      Some i ≡ position_from i (map (variable_of types) (drop i variables)) name
  found_here v below at is =
      let first : drop i variables ≡ v ∷ drop (suc i) variables = drop-cons variables i v below ∙ ap (λ x. x ∷ drop (suc i) variables) (sym at) in
      rw first (sym (if_true (bytes_eq (string_bytes v.name) name) (Some i) (position_from (suc i) (map (variable_of types) (drop (suc i) variables)) name) is))

  pub found_later : (v : Checked.Variable) → i < length variables → v ≡ get_or variables i v → bytes_eq (string_bytes v.name) name ≡ false →
      position_from (i + 1) (map (variable_of types) (drop (i + 1) variables)) name ≡ position_from i (map (variable_of types) (drop i variables)) name
  found_later v below at is =
      let first : drop i variables ≡ v ∷ drop (suc i) variables = drop-cons variables i v below ∙ ap (λ x. x ∷ drop (suc i) variables) (sym at) in
      rw (first, add-one) (sym (if_false (bytes_eq (string_bytes v.name) name) (Some i) (position_from (suc i) (map (variable_of types) (drop (suc i) variables)) name) is))

  pub found_nowhere : length variables ≤ i → None ≡ position_from i (map (variable_of types) (drop i variables)) name
  found_nowhere past = sym (ap (λ vs. position_from i (map (variable_of types) vs) name) (drop_all i variables past))

-- what was found is the first one

abbrev Found : ℕ → List Variable → Name → ℕ → Type 0
Found n variables name p = (i : ℕ) × ((p ≡ n + i) × ((v : Variable) × IsFirst variables name i v))

found_from : (n : ℕ) (variables : List Variable) (name : Name) (p : ℕ) → Some p ≡ position_from n variables name → Found n variables name p
found_from n [] name p h = absurd cc
found_from n (x ∷ variables) name p h = at (bytes_eq x.name name) refl (λ k. found_from (suc n) variables name p k) h
  where
    at : (b : Bool) → bytes_eq x.name name ≡ b → (Some p ≡ position_from (suc n) variables name → Found (suc n) variables name p) →
        Some p ≡ (if b then Some n else position_from (suc n) variables name) → Found n (x ∷ variables) name p
    at true e later k = let same : p ≡ n = cc in (0, (omega (arith, same), (x, (e, refl))))
    at false e later k =
        let rest = later k in
        let next : p ≡ n + suc rest.0 = omega (arith, rest.1.0) in
        (suc rest.0, (next, (rest.1.1.0, (e, rest.1.1.1))))

pub first_found : (variables : List Variable) (name : Name) (p : ℕ) → Some p ≡ position_from 0 variables name → (v : Variable) × IsFirst variables name p v
first_found variables name p h =
    let found = found_from 0 variables name p h in
    let same : found.0 ≡ p = omega (arith, found.1.0) in
    subst (λ i. (v : Variable) × IsFirst variables name i v) same found.1.1

pub first_below : (variables : List Variable) (name : Name) (i : ℕ) (v : Variable) → IsFirst variables name i v → i < length variables
first_below [] name i v h = absurd h
first_below (x ∷ variables) name zero v h = omega arith
first_below (x ∷ variables) name (suc i) v h = let rest = first_below variables name i v h.1 in omega (arith, rest)

pub first_there : (variables : List Variable) (name : Name) (i : ℕ) (v d : Variable) → IsFirst variables name i v → get_or variables i d ≡ v
first_there [] name i v d h = absurd h
first_there (x ∷ variables) name zero v d h = h.1
first_there (x ∷ variables) name (suc i) v d h = first_there variables name i v d h.1

pub first_named : (variables : List Variable) (name : Name) (i : ℕ) (v : Variable) → IsFirst variables name i v → variable_named variables name ≡ Some v
first_named [] name i v h = absurd h
first_named (x ∷ variables) name zero v h = if_true (bytes_eq x.name name) (Some x) (variable_named variables name) h.0 ∙ ap (λ y. Some y) h.1
first_named (x ∷ variables) name (suc i) v h = if_false (bytes_eq x.name name) (Some x) (variable_named variables name) h.0 ∙ first_named variables name i v h.1

-- where nothing was found there is none
none_from : (n : ℕ) (variables : List Variable) (name : Name) → None ≡ position_from n variables name → variable_named variables name ≡ None
none_from n [] name h = refl
none_from n (x ∷ variables) name h = at (bytes_eq x.name name) (λ k. none_from (suc n) variables name k) h
  where
    at : (b : Bool) → (None ≡ position_from (suc n) variables name → variable_named variables name ≡ None) →
        None ≡ (if b then Some n else position_from (suc n) variables name) → (if b then Some x else variable_named variables name) ≡ None
    at true later k = absurd cc
    at false later k = later k

pub none_named : (variables : List Variable) (name : Name) → None ≡ position_from 0 variables name → variable_named variables name ≡ None
none_named variables name h = none_from 0 variables name h

-- a variable for a value stands somewhere
abbrev pub StandsFor : List Variable → Name → Named.Value → Type 0
StandsFor variables name value = (i : ℕ) × ((v : Variable) × (IsFirst variables name i v × IsValueOf v.type value))

pub stands_for : (variables : List Variable) (name : Name) (value : Named.Value) → IsVariableFor (variable_named variables name) value → StandsFor variables name value
stands_for [] name value h = absurd h
stands_for (x ∷ variables) name value h = at (bytes_eq x.name name) refl (λ k. stands_for variables name value k) h
  where
    at : (b : Bool) → bytes_eq x.name name ≡ b → (IsVariableFor (variable_named variables name) value → StandsFor variables name value) →
        IsVariableFor (if b then Some x else variable_named variables name) value → StandsFor (x ∷ variables) name value
    at true e later k = (0, (x, ((e, refl), k)))
    at false e later k =
        let rest = later k in
        (suc rest.0, (rest.1.0, ((e, rest.1.1.0), rest.1.1.1)))

-- the variable of a program at the position that was found
pub found_variable : (types : List Entry) (variables : List Checked.Variable) (name : Name) (p : ℕ) (d : Checked.Variable) →
    Some p ≡ position_from 0 (map (variable_of types) variables) name → IsFirst (map (variable_of types) variables) name p (variable_of types (get_or variables p d))
found_variable types variables name p d h =
    let first = first_found (map (variable_of types) variables) name p h in
    subst (λ v. IsFirst (map (variable_of types) variables) name p v)
    (sym (first_there (map (variable_of types) variables) name p first.0 (variable_of types d) first.1) ∙ get_or-map (variable_of types) variables p d) first.1

pub found_below : (types : List Entry) (variables : List Checked.Variable) (name : Name) (p : ℕ) → Some p ≡ position_from 0 (map (variable_of types) variables) name → p < length variables
found_below types variables name p h =
    let first = first_found (map (variable_of types) variables) name p h in
    let below = first_below (map (variable_of types) variables) name p first.0 first.1 in
    let count = length-map variables (variable_of types) in
    omega (arith, below, count)

-- that names are distinct is a proposition

none_prop : (parameters : List Parameter) (name : Name) → IsProp (NoneCalled parameters name)
none_prop [] name = hlevel props
none_prop (q ∷ parameters) name = let rest = none_prop parameters name in hlevel (props, rest)

pub distinct_prop : (parameters : List Parameter) → IsProp (AreDistinct parameters)
distinct_prop [] = hlevel props
distinct_prop (q ∷ parameters) =
    let first = none_prop parameters q.name in
    let rest = distinct_prop parameters in
    hlevel (props, first, rest)
