-- The verdict on declarations, one in front of others.
use Rattle.std.proofs.Common.{◌≡◌, ℕ, ◌≤◌, ◌+◌, Bool, true, false, List, [], ◌∷◌, ◌++◌, length, map, Some, None, refl, sym, ap, ◌∙◌}
use Rattle.std.specs.Prelude.{string_bytes, nat_le, if◌then◌else◌}
use Rattle.std.proofs.lemmas.List.{append_assoc}
use Rattle.ob_grammar.specs.Tree
use Rattle.ob_grammar.specs.Tree.{TypeDecl, VarDecl}
use Rattle.ob_typing.specs.declared.rule.Rule.TheVariants.{DeclaredTwice, PassesLimit}
use Rattle.ob_typing.specs.Program as Programs
use Rattle.ob_typing.specs.Scopes.{TypeName, Environment, is_declared, declared, words}
use Rattle.ob_typing.specs.Types.{second}
use Rattle.ob_typing.specs.Declarations.{Room, with_words, first_beyond, with_variables, room_behind, variables_of}
use Rattle.ob_typing.specs.ExpressionFaults.{broken}
use Rattle.ob_typing.specs.Verdict.{Verdict, Right, Wrong, ◌>>=◌, unless_name}
use Rattle.ob_typing.specs.TypeVerdicts.{denoted}
use Rattle.ob_typing.specs.ModuleVerdicts.{WithVariables, types, variables}
use Rattle.ob_checked.specs.declared.program.Variable.{Variable}
use Rattle.ob_checked.specs.Types.{Entry, is_below, Extends}
use Rattle.ob_checked.specs.View.{variable_of}
use Rattle.ob_rules.specs.Checking.{and_then}
use Rattle.ob_rules.specs.CheckingVariables.{known_variables, behind_variables}
use Rattle.ob_rules.proofs.Steps.{bind_assoc, bind_same}
use Rattle.ob_scopes.proofs.Kept.{and_both, and_left, and_right, below_more}

-- a type in front of others
module _ (env : Environment) (x : TypeDecl) (rest : List TypeDecl) where
  pub type_twice : is_declared env x.name.text ≡ true → types (x ∷ rest) env ≡ Wrong (broken DeclaredTwice x.name.place)
  type_twice h = rw h refl

  pub type_new : is_declared env x.name.text ≡ false →
      types (x ∷ rest) env ≡ ◌>>=◌ (denoted env x.definition) (λ t. types rest (declared env x.name.text (TypeName t)))
  type_new h = rw h refl

-- variables
pub variables_more : (n m : ℕ) → n ≤ m → (vs : List Variable) → known_variables n vs ≡ true → known_variables m vs ≡ true
variables_more n m h [] b = refl
variables_more n m h (v ∷ vs) b =
    and_both (is_below m v.data_type) (known_variables m vs) (below_more n m h v.data_type (and_left (is_below n v.data_type) (known_variables n vs) b))
    (variables_more n m h vs (and_right (is_below n v.data_type) (known_variables n vs) b))

pub variable_pushed : (n : ℕ) (vs : List Variable) (v : Variable) → known_variables n vs ≡ true → is_below n v.data_type ≡ true → known_variables n (vs ++ v ∷ []) ≡ true
variable_pushed n [] v b k = and_both (is_below n v.data_type) true k refl
variable_pushed n (w ∷ vs) v b k =
    and_both (is_below n w.data_type) (known_variables n (vs ++ v ∷ [])) (and_left (is_below n w.data_type) (known_variables n vs) b)
    (variable_pushed n vs v (and_right (is_below n w.data_type) (known_variables n vs) b) k)

pub variables_kept : (es fs : List Entry) → Extends es fs → (vs : List Variable) → known_variables (length es) vs ≡ true → map (variable_of fs) vs ≡ map (variable_of es) vs
variables_kept es fs h [] b = refl
variables_kept es fs h (v ∷ vs) b =
    let first = h.same v.data_type (and_left (is_below (length es) v.data_type) (known_variables (length es) vs) b) in
    let rest = variables_kept es fs h vs (and_right (is_below (length es) v.data_type) (known_variables (length es) vs) b) in
    let with : Programs.DataType → Programs.Variable = λ t. record { name = string_bytes v.name; type = t } in
    ap (λ t. with t ∷ map (variable_of fs) vs) first ∙ ap (λ ws. variable_of es v ∷ ws) rest

module _ (env : Environment) (room : Room) (x : VarDecl) (rest : List VarDecl) where
  -- behind their type
  abbrev pub behind_type : Programs.DataType → Verdict WithVariables
  behind_type t =
      ◌>>=◌ (unless_name (first_beyond room (words t) x.names) PassesLimit) (λ small.
      ◌>>=◌ (variables rest (with_variables env room t x.names) (room_behind room t x.names)) (λ r.
      Right (record { env = r.env; variables = variables_of t x.names ++ r.variables })))

  pub variable_twice : (name : Tree.Name) → second (is_declared env) x.names ≡ Some name → variables (x ∷ rest) env room ≡ Wrong (broken DeclaredTwice name.place)
  variable_twice name h = rw h refl

  pub variable_new : second (is_declared env) x.names ≡ None → variables (x ∷ rest) env room ≡ ◌>>=◌ (denoted env x.of_type) behind_type
  variable_new h = rw h refl

  module _ (t : Programs.DataType) (free : second (is_declared env) x.names ≡ None) (typed : denoted env x.of_type ≡ Right t) where
    pub variable_typed : variables (x ∷ rest) env room ≡ behind_type t
    variable_typed = variable_new free ∙ ap (λ v. ◌>>=◌ v behind_type) typed

    pub variable_fits : first_beyond room (words t) x.names ≡ None →
        variables (x ∷ rest) env room ≡ ◌>>=◌ (variables rest (with_variables env room t x.names) (room_behind room t x.names)) (λ r.
        Right (record { env = r.env; variables = variables_of t x.names ++ r.variables }))
    variable_fits small = variable_typed ∙ rw small refl

    -- variables of one type, behind those so far
    pub variable_step : first_beyond room (words t) x.names ≡ None → (old new : List Entry) → Extends old new → (vs ws : List Variable) →
        known_variables (length old) vs ≡ true → map (variable_of new) ws ≡ map (variable_of new) vs ++ variables_of t x.names →
        (after : Environment) → after ≡ with_variables env room t x.names → (left : Room) → left ≡ room_behind room t x.names →
        and_then (variables (x ∷ rest) env room) (behind_variables old vs) ≡ and_then (variables rest after left) (behind_variables new ws)
    variable_step small old new h vs ws known grown after is left there =
        let kept = variables_kept old new h vs known in
        let join : (r : WithVariables) → map (variable_of old) vs ++ (variables_of t x.names ++ r.variables) ≡ map (variable_of new) ws ++ r.variables =
        λ r. sym (append_assoc (map (variable_of old) vs) (variables_of t x.names) r.variables)
        ∙ ap (λ us. (us ++ variables_of t x.names) ++ r.variables) (sym kept) ∙ ap (λ us. us ++ r.variables) (sym grown) in
        ap (λ v. and_then v (behind_variables old vs)) (variable_fits small)
        ∙ bind_assoc (variables rest (with_variables env room t x.names) (room_behind room t x.names)) _ (behind_variables old vs)
        ∙ bind_same (variables rest (with_variables env room t x.names) (room_behind room t x.names)) _ (behind_variables new ws)
        (λ r. ap (λ us. Right (record { env = r.env; variables = us })) (join r))
        ∙ ap (λ a. and_then (variables rest a (room_behind room t x.names)) (behind_variables new ws)) (sym is)
        ∙ ap (λ l. and_then (variables rest after l) (behind_variables new ws)) (sym there)

-- the room, name by name
pub room_none : {X : Type 0} (b : Bool) (x : X) → None ≡ (if b then Some x else None) → b ≡ false
room_none true x h = absurd cc
room_none false x h = refl

pub room_some : {X : Type 0} (b : Bool) (x y : X) → Some y ≡ (if b then Some x else None) → (b ≡ true) × (y ≡ x)
room_some true x y h = (refl, cc)
room_some false x y h = absurd cc

module _ (room : Room) (w : ℕ) (name : Tree.Name) (names : List Tree.Name) where
  pub beyond_here : nat_le (room.taken + w) room.limit ≡ false → first_beyond room w (name ∷ names) ≡ Some name
  beyond_here h = rw h refl

  pub beyond_next : nat_le (room.taken + w) room.limit ≡ true → first_beyond room w (name ∷ names) ≡ first_beyond (with_words room w) w names
  beyond_next h = rw h refl
