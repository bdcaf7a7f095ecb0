-- Scopes of the program, from the innermost outward.
use Rattle.std.proofs.Common.{◌≡◌, arith, ℕ, suc, ◌+◌, ◌-◌, ◌<◌, ◌≤◌, List, [], ◌∷◌, ◌++◌, length, take, get_or, Option, Some, None, refl, sym, ap, ◌∙◌, String, option_map}
use Rattle.std.specs.declared.alloc.Global.{Global}
use Rattle.std.proofs.lemmas.List.{take_more}
use Rattle.std.specs.BTreeMap.{BTreeMap, get_by_text}
use Rattle.ob_typing.specs.Scopes as Declared
use Rattle.ob_typing.specs.Program.{DataType}
use Rattle.ob_typing.specs.Scopes.{Environment, or_else, found, variable_in}
use Rattle.ob_checked.specs.Types.{Entry}
use Rattle.ob_scopes.specs.declared.scopes.Object.{Object}
use Rattle.ob_scopes.specs.Objects.{object_of, scope_of, env_behind}

module _ (types : List Entry) where
  pub env_behind-push : (ss : List (BTreeMap (String Global) Object)) (s : BTreeMap (String Global) Object) (outer : Environment) →
      env_behind types (ss ++ s ∷ []) outer ≡ scope_of types s ∷ env_behind types ss outer
  env_behind-push [] s outer = refl
  env_behind-push (x ∷ ss) s outer = env_behind-push ss s (scope_of types x ∷ outer)

  -- the next scope is the innermost of those that are left
  pub next_scope : (ss : List (BTreeMap (String Global) Object)) (k : ℕ) (s : BTreeMap (String Global) Object) → k < length ss → s ≡ get_or ss k s →
      env_behind types (take (k + 1) ss) [] ≡ scope_of types s ∷ env_behind types (take k ss) []
  next_scope ss k s h e =
      ap (λ ys. env_behind types ys []) (take_more ss k s h ∙ ap (λ y. take k ss ++ y ∷ []) (sym e)) ∙ env_behind-push (take k ss) s []

  pub found_there : (ss : List (BTreeMap (String Global) Object)) (k : ℕ) (s : BTreeMap (String Global) Object) (name : List ℕ) → k < length ss → s ≡ get_or ss k s →
      found (env_behind types (take (k + 1) ss) []) name ≡ or_else (option_map (object_of types) (get_by_text s name)) (found (env_behind types (take k ss) []) name)
  found_there ss k s name h e = ap (λ env. found env name) (next_scope ss k s h e)

  module _ (ss : List (BTreeMap (String Global) Object)) (l : ℕ) (s : BTreeMap (String Global) Object) (name : List ℕ) (some : 0 < l) (within : l ≤ length ss) (is : s ≡ get_or ss (l - 1) s) where
    abbrev around : Option Declared.Object
    around = found (env_behind types (take (l - 1) ss) []) name

    at_last : found (env_behind types (take l ss) []) name ≡ or_else (option_map (object_of types) (get_by_text s name)) around
    at_last =
        let e : l ≡ (l - 1) + 1 = omega arith in
        let h : l - 1 < length ss = omega arith in
        ap (λ m. found (env_behind types (take m ss) []) name) e ∙ found_there ss (l - 1) s name h is

    pub found_here : (o : Object) → Some o ≡ get_by_text s name → Some (object_of types o) ≡ found (env_behind types (take l ss) []) name
    found_here o h = sym (at_last ∙ ap (λ x. or_else (option_map (object_of types) x) around) (sym h))

    pub not_here : None ≡ get_by_text s name → found (env_behind types (take (l - 1) ss) []) name ≡ found (env_behind types (take l ss) []) name
    not_here h = sym (at_last ∙ ap (λ x. or_else (option_map (object_of types) x) around) (sym h))

  pub length_around : (ss : List (BTreeMap (String Global) Object)) (outer : Environment) → length (env_behind types ss outer) ≡ length ss + length outer
  length_around [] outer = omega arith
  length_around (x ∷ ss) outer = omega (arith, length_around ss (scope_of types x ∷ outer))

-- a variable of the innermost scope
pub of_module : (scope : Declared.Scope) (outer : Environment) (position : ℕ) (t : DataType) → length outer ≡ 1 →
    Declared.ModuleVariable position t ≡ variable_in (scope ∷ outer) position t
of_module scope [] position t h = absurd (omega (arith, h))
of_module scope (o ∷ []) position t h = refl
of_module scope (o ∷ p ∷ outer) position t h = absurd (omega (arith, h))

pub of_procedure : (scope : Declared.Scope) (outer : Environment) (position : ℕ) (t : DataType) (level : ℕ) → level ≡ suc (length outer) → (level ≡ 2 → ⊥) →
    Declared.LocalVariable level position t ≡ variable_in (scope ∷ outer) position t
of_procedure scope [] position t level h k = ap (λ n. Declared.LocalVariable n position t) h
of_procedure scope (o ∷ []) position t level h k = absurd (k h)
of_procedure scope (o ∷ p ∷ outer) position t level h k = ap (λ n. Declared.LocalVariable n position t) h
