-- The searches for the first fault of a name find one just where the rules do not hold.
use Rattle.std.proofs.Common.{◌≡◌, refl, arith, ℕ, zero, suc, pred, ◌-◌, ◌≤◌, Bool, true, false, List, [], ◌∷◌, length, Option, Some, None}
use Rattle.std.specs.Prelude.{◌&&◌, nat_eq, if◌then◌else◌}
use Rattle.std.proofs.lemmas.Bool.{ne_eqb, eqb-false}
use Rattle.ob_grammar.specs.Tree
use Rattle.ob_grammar.specs.Tree.{Heading}
use Rattle.ob_typing.specs.declared.rule.Rule.TheVariants.{DeclaredTwice, PassesLimit, BadExport}
use Rattle.ob_typing.specs.ExpressionFaults.{broken}
use Rattle.ob_typing.specs.Scopes.{Environment, is_declared}
use Rattle.ob_typing.specs.Types.{Taken, and_taken, second}
use Rattle.ob_typing.specs.Declarations.{most_parameters, most_exports, is_nested, NewParameters, NewProcedure}
use Rattle.ob_typing.specs.DeclarationFaults.{parameter_broken, heading_broken}

else_none : {A : Type 0} (b : Bool) (x : Option A) (a : A) → (if b then Some a else x) ≡ None → (b ≡ false) × (x ≡ None)
else_none false x a h = (refl, h)
else_none true x a h = absurd cc

-- names of parameters

one_less : (n l : ℕ) → (l ≡ 0 → ⊥) → n ≤ pred l → suc n ≤ l
one_less n zero some h = absurd (some refl)
one_less n (suc l) some h = let k : n ≤ l = h in omega (arith, k)

one_more : (n l : ℕ) → suc n ≤ l → n ≤ pred l
one_more n zero h = absurd (omega (arith, h))
one_more n (suc l) h = let k : n ≤ l = omega (arith, h) in k

-- what a search that finds nothing has seen
seen : (taken : Taken) (left : ℕ) (name : Tree.Name) (names : List Tree.Name) → parameter_broken taken left (name ∷ names) ≡ None →
    (taken name.text ≡ false) × (nat_eq left 0 ≡ false) × (parameter_broken (and_taken taken name.text) (pred left) names ≡ None)
seen taken left name names h =
    let new = else_none (taken name.text) (if nat_eq left 0 then Some (broken PassesLimit name.place) else parameter_broken (and_taken taken name.text) (pred left) names)
    (broken DeclaredTwice name.place) h in
    let room = else_none (nat_eq left 0) (parameter_broken (and_taken taken name.text) (pred left) names) (broken PassesLimit name.place) new.1 in
    (new.0, room.0, room.1)

all_new : (taken : Taken) (left : ℕ) (names : List Tree.Name) → parameter_broken taken left names ≡ None → second taken names ≡ None
all_new taken left [] h = refl
all_new taken left (name ∷ names) h =
    let s = seen taken left name names h in
    rw s.0 (all_new (and_taken taken name.text) (pred left) names s.2)

few_enough : (taken : Taken) (left : ℕ) (names : List Tree.Name) → parameter_broken taken left names ≡ None → length names ≤ left
few_enough taken left [] h = omega arith
few_enough taken left (name ∷ names) h =
    let s = seen taken left name names h in
    one_less (length names) left (eqb-false left 0 s.1) (few_enough (and_taken taken name.text) (pred left) names s.2)

nothing_broken : (taken : Taken) (left : ℕ) (names : List Tree.Name) → second taken names ≡ None → length names ≤ left → parameter_broken taken left names ≡ None
nothing_broken taken left [] h few = refl
nothing_broken taken left (name ∷ names) h few =
    let new = else_none (taken name.text) (second (and_taken taken name.text) names) name h in
    let more : suc (length names) ≤ left = few in
    let some : nat_eq left 0 ≡ false = ne_eqb left 0 (λ e. omega (arith, more, e)) in
    rw new.0 (rw some (nothing_broken (and_taken taken name.text) (pred left) names new.1 (one_more (length names) left more)))

pub parameters_unbroken : (env : Environment) (count : ℕ) (names : List Tree.Name) → NewParameters env count names →
    parameter_broken (is_declared env) (most_parameters - count) names ≡ None
parameters_unbroken env count names h = nothing_broken (is_declared env) (most_parameters - count) names h.new (let few = h.few in omega (arith, few))

pub new_parameters : (env : Environment) (count : ℕ) (names : List Tree.Name) → count ≤ most_parameters →
    parameter_broken (is_declared env) (most_parameters - count) names ≡ None → NewParameters env count names
new_parameters env count names so_far h =
    let few = few_enough (is_declared env) (most_parameters - count) names h in
    record { new = all_new (is_declared env) (most_parameters - count) names h; few = omega (arith, so_far, few) }

-- names of procedures

not_full : (marked : Bool) (n : ℕ) → (if marked then suc n else n) ≤ most_exports → (marked && nat_eq n most_exports) ≡ false
not_full false n h = refl
not_full true n h = ne_eqb n most_exports (λ e. omega (arith, h, e))

not_many : (marked : Bool) (n : ℕ) → n ≤ most_exports → (marked && nat_eq n most_exports) ≡ false → (if marked then suc n else n) ≤ most_exports
not_many false n h k = h
not_many true n h k = below n most_exports h (eqb-false n most_exports k)
  where
    below : (n m : ℕ) → n ≤ m → (n ≡ m → ⊥) → suc n ≤ m
    below n m h d = omega (arith, h, d)

none_of : (old within full : Bool) →
    (if old then Some DeclaredTwice else if within then Some BadExport else if full then Some PassesLimit else None) ≡ None → (old ≡ false) × (within ≡ false) × (full ≡ false)
none_of false false false h = (refl, refl, refl)
none_of true within full h = absurd cc
none_of false true full h = absurd cc
none_of false false true h = absurd cc

pub heading_unbroken : (env : Environment) (exported : ℕ) (heading : Heading) → NewProcedure env exported heading → heading_broken env exported heading ≡ None
heading_unbroken env exported heading h = rw h.new (rw h.of_module (rw (not_full heading.is_exported exported h.few) refl))

pub new_procedure : (env : Environment) (exported : ℕ) (heading : Heading) → exported ≤ most_exports → heading_broken env exported heading ≡ None → NewProcedure env exported heading
new_procedure env exported heading so_far h =
    let n = none_of (is_declared env heading.name.text) (heading.is_exported && is_nested env) (heading.is_exported && nat_eq exported most_exports) h in
    record { new = n.0; of_module = n.1; few = not_many heading.is_exported exported so_far n.2 }
