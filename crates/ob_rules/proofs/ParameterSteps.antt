-- The verdict on a section of parameters, in front of others.
use Rattle.std.proofs.Common.{◌≡◌, arith, ◌≤◌, ◌<◌, ℕ, zero, suc, ◌+◌, ◌-◌, Bool, true, false, List, [], ◌∷◌, ◌++◌, length, take, map, Option, Some, None, is_some, refl, sym, ap, ◌∙◌}
use Rattle.std.specs.Prelude.{◌||◌, nat_le, slice_get, option_map, min, if◌then◌else◌}
use Rattle.std.proofs.lemmas.List.{append_assoc, take_all, length-append, length-map}
use Rattle.std.proofs.lemmas.Bool.{leb-true, leb-false}
use Rattle.std.proofs.Math.Dec.{eqb-suc-zero}
use Rattle.ob_grammar.specs.declared.tree.Name.{Name}
use Rattle.ob_grammar.specs.View.{name_of}
use Rattle.ob_grammar.specs.Tree
use Rattle.ob_grammar.specs.Tree.{Section}
use Rattle.ob_typing.specs.declared.rule.Rule.TheVariants.{DeclaredTwice, TypesDiffer, PassesLimit}
use Rattle.ob_typing.specs.declared.rule.BrokenRule.{BrokenRule}
use Rattle.ob_typing.specs.Program as Programs
use Rattle.ob_typing.specs.Scopes.{Environment, is_declared, is_simple}
use Rattle.ob_typing.specs.Types.{Taken, and_taken, second}
use Rattle.ob_typing.specs.TypeFaults.{type_place}
use Rattle.ob_typing.specs.Declarations.{most_parameters, with_parameters, parameters_of}
use Rattle.ob_typing.specs.DeclarationFaults.{parameter_broken}
use Rattle.ob_typing.specs.ExpressionFaults.{broken}
use Rattle.ob_typing.specs.Verdict.{Verdict, Right, Wrong, ◌>>=◌, test}
use Rattle.ob_typing.specs.TypeVerdicts.{formal}
use Rattle.ob_typing.specs.ModuleVerdicts.{WithParameters, parameters}
use Rattle.ob_checked.specs.declared.program.Parameter.{Parameter}
use Rattle.ob_checked.specs.Types.{Entry, is_below, Extends}
use Rattle.ob_checked.specs.View.{parameter_of}
use Rattle.ob_scopes.specs.Objects.{known_parameters}
use Rattle.ob_scopes.specs.SimpleTypes.{simple_type}
use Rattle.ob_rules.specs.Checking.{and_then}
use Rattle.ob_rules.specs.CheckingVariables.{behind_parameters}
use Rattle.ob_rules.proofs.Steps.{bind_assoc, bind_same}
use Rattle.ob_scopes.proofs.Kept.{and_both, and_left, and_right, parameters_kept}

-- the first name that is taken among those for which there is room and the next one, or else that one
abbrev pub first_bad : Option Tree.Name → Option Tree.Name → Option BrokenRule
first_bad (Some name) next = Some (broken DeclaredTwice name.place)
first_bad None (Some name) = Some (broken PassesLimit name.place)
first_bad None None = None

pub broken_split : (taken : Taken) (left : ℕ) (names : List Tree.Name) →
    parameter_broken taken left names ≡ first_bad (second taken (take (suc left) names)) (slice_get names left)
broken_split taken left [] = refl
broken_split taken zero (name ∷ names) = at (taken name.text)
  where
    at : (b : Bool) → (if b then Some (broken DeclaredTwice name.place) else Some (broken PassesLimit name.place)) ≡ first_bad (if b then Some name else None) (Some name)
    at true = refl
    at false = refl
broken_split taken (suc left) (name ∷ names) = rw (eqb-suc-zero left) (at (taken name.text) (broken_split (and_taken taken name.text) left names))
  where
    at : (b : Bool) →
        parameter_broken (and_taken taken name.text) left names ≡ first_bad (second (and_taken taken name.text) (take (suc left) names)) (slice_get names left) →
        (if b then Some (broken DeclaredTwice name.place) else parameter_broken (and_taken taken name.text) left names)
        ≡ first_bad (if b then Some name else second (and_taken taken name.text) (take (suc left) names)) (slice_get names left)
    at true rest = refl
    at false rest = rest

pub simple_or_not : (t : Programs.DataType) → is_simple t ≡ is_some (simple_type t)
simple_or_not (Programs.Simple t) = refl
simple_or_not (Programs.Array place length element) = refl
simple_or_not (Programs.Record place fields) = refl

module _ (env : Environment) (count : ℕ) (x : Section) (rest : List Section) where
  -- behind their type
  abbrev pub behind_parameter_type : Programs.DataType → Verdict WithParameters
  behind_parameter_type t =
      ◌>>=◌ (test (x.is_var || is_simple t) TypesDiffer (type_place x.of_type)) (λ simple.
      ◌>>=◌ (parameters rest (with_parameters env count t x.names) (count + length x.names)) (λ r.
      Right (record { env = r.env; parameters = parameters_of x.is_var t x.names ++ r.parameters })))

  pub section_broken : (b : BrokenRule) → parameter_broken (is_declared env) (most_parameters - count) x.names ≡ Some b → parameters (x ∷ rest) env count ≡ Wrong b
  section_broken b h = rw h refl

  pub section_new : parameter_broken (is_declared env) (most_parameters - count) x.names ≡ None →
      parameters (x ∷ rest) env count ≡ ◌>>=◌ (formal env x.of_type) behind_parameter_type
  section_new h = rw h refl

  module _ (t : Programs.DataType) (new : parameter_broken (is_declared env) (most_parameters - count) x.names ≡ None) (typed : formal env x.of_type ≡ Right t) where
    pub section_typed : parameters (x ∷ rest) env count ≡ behind_parameter_type t
    section_typed = section_new new ∙ ap (λ v. ◌>>=◌ v behind_parameter_type) typed

    pub section_structured : (x.is_var || is_simple t) ≡ false → parameters (x ∷ rest) env count ≡ Wrong (broken TypesDiffer (type_place x.of_type))
    section_structured h = section_typed ∙ rw h refl

    -- the parameters of a section, behind those so far
    pub section_step : (x.is_var || is_simple t) ≡ true → (old new : List Entry) → Extends old new → (ps qs : List Parameter) →
        known_parameters (length old) ps ≡ true → map (parameter_of new) qs ≡ map (parameter_of new) ps ++ parameters_of x.is_var t x.names →
        (after : Environment) → after ≡ with_parameters env count t x.names → (counted : ℕ) → counted ≡ count + length x.names →
        and_then (parameters (x ∷ rest) env count) (behind_parameters old ps) ≡ and_then (parameters rest after counted) (behind_parameters new qs)
    section_step simple old new h ps qs known grown after is counted more =
        let kept = parameters_kept old new h ps known in
        let whole : parameters (x ∷ rest) env count ≡ ◌>>=◌ (parameters rest (with_parameters env count t x.names) (count + length x.names)) (λ r.
        Right (record { env = r.env; parameters = parameters_of x.is_var t x.names ++ r.parameters })) = section_typed ∙ rw simple refl in
        let join : (r : WithParameters) → map (parameter_of old) ps ++ (parameters_of x.is_var t x.names ++ r.parameters) ≡ map (parameter_of new) qs ++ r.parameters =
        λ r. sym (append_assoc (map (parameter_of old) ps) (parameters_of x.is_var t x.names) r.parameters)
        ∙ ap (λ us. (us ++ parameters_of x.is_var t x.names) ++ r.parameters) (sym kept) ∙ ap (λ us. us ++ r.parameters) (sym grown) in
        ap (λ v. and_then v (behind_parameters old ps)) whole
        ∙ bind_assoc (parameters rest (with_parameters env count t x.names) (count + length x.names)) _ (behind_parameters old ps)
        ∙ bind_same (parameters rest (with_parameters env count t x.names) (count + length x.names)) _ (behind_parameters new qs)
        (λ r. ap (λ us. Right (record { env = r.env; parameters = us })) (join r))
        ∙ ap (λ a. and_then (parameters rest a (count + length x.names)) (behind_parameters new qs)) (sym is)
        ∙ ap (λ k. and_then (parameters rest after k) (behind_parameters new qs)) (sym more)

-- one parameter more
pub parameter_pushed : (n : ℕ) (ps : List Parameter) (p : Parameter) → known_parameters n ps ≡ true → is_below n p.data_type ≡ true →
    known_parameters n (ps ++ p ∷ []) ≡ true
parameter_pushed n [] p b k = and_both (is_below n p.data_type) true k refl
parameter_pushed n (q ∷ ps) p b k =
    and_both (is_below n q.data_type) (known_parameters n (ps ++ p ∷ [])) (and_left (is_below n q.data_type) (known_parameters n ps) b)
    (parameter_pushed n ps p (and_right (is_below n q.data_type) (known_parameters n ps) b) k)

-- the names for which there is room, and the next one
pub taken_min : {X : Type 0} (xs : List X) (k n : ℕ) → k ≡ min (length xs) n → take k xs ≡ take n xs
taken_min xs k n is = by (nat_le (length xs) n) refl
  where
    by : (b : Bool) → nat_le (length xs) n ≡ b → take k xs ≡ take n xs
    by true h =
        let few : length xs ≤ n = leb-true (length xs) n h in
        let all : length xs ≤ k = omega (arith, is, few) in
        take_all k xs all ∙ sym (take_all n xs few)
    by false h =
        let many : n < length xs = leb-false (length xs) n h in
        let same : k ≡ n = omega (arith, is, many) in
        ap (λ m. take m xs) same

pub map_taken : {X Y : Type 0} (f : X → Y) (xs : List X) (n : ℕ) → map f (take n xs) ≡ take n (map f xs)
map_taken f [] zero = refl
map_taken f [] (suc n) = refl
map_taken f (x ∷ xs) zero = refl
map_taken f (x ∷ xs) (suc n) = ap (λ ys. f x ∷ ys) (map_taken f xs n)

pub map_got : {X Y : Type 0} (f : X → Y) (xs : List X) (n : ℕ) → slice_get (map f xs) n ≡ option_map f (slice_get xs n)
map_got f [] n = refl
map_got f (x ∷ xs) zero = refl
map_got f (x ∷ xs) (suc n) = map_got f xs n

-- the names of a section that are tested
pub names_tested : (taken : Taken) (names : List Name) (left k : ℕ) → k ≡ min (length names) (left + 1) → (r : Option Tree.Name) →
    r ≡ second taken (map name_of (take k names)) → parameter_broken taken left (map name_of names) ≡ first_bad r (option_map name_of (slice_get names left))
names_tested taken names left k is r found =
    let more : left + 1 ≡ suc left = omega arith in
    broken_split taken left (map name_of names)
    ∙ ap (λ ns. first_bad (second taken ns) (slice_get (map name_of names) left))
    (ap (λ n. take n (map name_of names)) (sym more) ∙ sym (map_taken name_of names (left + 1)) ∙ ap (map name_of) (sym (taken_min names k (left + 1) is)))
    ∙ ap (λ o. first_bad o (slice_get (map name_of names) left)) (sym found) ∙ ap (first_bad r) (map_got name_of names left)

pub counted : {X Y Z : Type 0} (f : X → Y) (g : Z → Y) (ps qs : List X) (ns : List Z) → map f qs ≡ map f ps ++ map g ns → length qs ≡ length ps + length ns
counted f g ps qs ns h =
    omega (arith, ap length h, length-append (map f ps) (map g ns), length-map qs f, length-map ps f, length-map ns g)

pub got_past : {X : Type 0} (xs : List X) (n : ℕ) → length xs ≤ n → slice_get xs n ≡ None
got_past [] n h = refl
got_past (x ∷ xs) zero h = absurd (omega (arith, h))
got_past (x ∷ xs) (suc n) h = let less : length xs ≤ n = omega (arith, h) in got_past xs n less
