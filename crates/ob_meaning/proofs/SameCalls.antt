-- Calls from outside by position and by name come to the same.
use Rattle.std.proofs.Common.{◌≡◌, refl, ap, sym, subst, ◌∙◌, arith, ℕ, zero, suc, ◌<◌, ◌-◌, Bool, true, false, not, List, [], ◌∷◌, ◌++◌, map, length, bytes_eq, if◌then◌else◌, Some}
use Rattle.std.proofs.lemmas.Option.{slice_get-map}
use Rattle.std.specs.Prelude.{slice_get, Option, None, option_map, ◌&&◌, ◌||◌}
use Rattle.std.specs.List.{filter}
use Rattle.std.proofs.lemmas.Bool.{false_from_ne_true}
use Rattle.std.proofs.lemmas.Slice.Eq.{bytes_eq-Decides}
use Rattle.ob_interface.specs.declared.scalar.Scalar.{Scalar}
use Rattle.ob_interface.specs.declared.scalar.Scalar.TheVariants.{Int, Bool as Truth}
use Rattle.ob_interface.specs.declared.scalar.ScalarType.{ScalarType}
use Rattle.ob_interface.specs.declared.scalar.ScalarType.TheVariants.{Integer}
use Rattle.ob_interface.specs.declared.export.Formal.{Formal}
use Rattle.ob_interface.specs.Export.{Signature, ArgumentsFit, CallFits}
use Rattle.ob_interface.specs.Export as Exports
use Rattle.ob_typing.specs.Program.{Name, DataType, Simple, Array, Record, Parameter, Procedure, Program, exports}
use Rattle.ob_typing.specs.Arithmetic.{type_of}
use Rattle.ob_typing.specs.Declarations.{all_simple}
use Rattle.ob_typing.specs.Scopes.{is_simple}
use Rattle.ob_checked.specs.Exports.{scalar_type_of, formal_of, signature_in, signatures}
use Rattle.ob_meaning.specs.ByNameValue as Named
use Rattle.ob_meaning.specs.ByNameStore as Names
use Rattle.ob_meaning.specs.ByNameStatements as Meanings
use Rattle.ob_interface.specs.Call as Calls
use Rattle.ob_meaning.specs.ByNameObject as Objects
use Rattle.ob_interface.specs.Call.{ObjectCall, Answers}
use Rattle.ob_meaning.specs.ByNameObject.{State, most_activations}
use Rattle.ob_meaning.specs.ByPositionValue.{Value, Single, Parts, initial, scalar_of}
use Rattle.ob_meaning.specs.ByPositionStore.{Held, Holds, Refers, Activation, activation_at, value_held}
use Rattle.ob_meaning.specs.ByPositionStatements.{Outcome, Done, Trap, calls}
use Rattle.ob_meaning.specs.ByPositionObject.{results_begun, outside_handed, values_of_results, effect_of, effect_of_procedure, effect}
use Rattle.ob_meaning.specs.Resolved.{as_parameter, scope_of, module_scope, IsAt, NoneCalled, AreDistinct, IsProcedure, IsResolved}
use Rattle.ob_meaning.specs.Same.{SameValue, Scopes, SameHeld, SameHanded, SameActivation, SameStore, SameOutcome, SameState, SameEffect}
use Rattle.ob_meaning.proofs.Known.{same_name}
use Rattle.ob_meaning.proofs.SameStores.{activation_same}
use Rattle.ob_meaning.proofs.SameStatements.{initial_same, entered, activation_moved, statements_same, calls_same}

-- the results: variables of the names of the VAR parameters

abbrev as_own : Parameter → Parameter
as_own p = record p { is_var = false }

abbrev results_scope : List Parameter → List Parameter
results_scope ps = map as_own (filter (λ p. p.is_var) ps)

-- names that differ

itself : (name : Name) → bytes_eq name name ≡ true
itself name = (bytes_eq-Decides name name).1 refl

other_way : (a b : Name) → bytes_eq a b ≡ false → bytes_eq b a ≡ false
other_way a b h =
    false_from_ne_true (bytes_eq b a)
    (λ e. let same : bytes_eq a b ≡ bytes_eq a a = ap (bytes_eq a) (same_name b a e) in let i = itself a in cc)

none_before : (ps qs : List Parameter) (name : Name) → NoneCalled (ps ++ qs) name → NoneCalled ps name
none_before [] qs name h = tt
none_before (p ∷ ps) qs name h = (h.0, none_before ps qs name h.1)

distinct_before : (ps qs : List Parameter) → AreDistinct (ps ++ qs) → AreDistinct ps
distinct_before [] qs h = tt
distinct_before (p ∷ ps) qs h = (none_before ps qs p.name h.0, distinct_before ps qs h.1)

none_if : (b : Bool) (p : Parameter) (ps : List Parameter) (name : Name) → bytes_eq p.name name ≡ false → NoneCalled (map as_own ps) name →
    NoneCalled (map as_own (if b then p ∷ ps else ps)) name
none_if true p ps name e h = (e, h)
none_if false p ps name e h = h

none_of_results : (ps : List Parameter) (name : Name) → NoneCalled ps name → NoneCalled (results_scope ps) name
none_of_results [] name h = tt
none_of_results (p ∷ ps) name h = none_if p.is_var p (filter (λ q. q.is_var) ps) name h.0 (none_of_results ps name h.1)

distinct_if : (b : Bool) (p : Parameter) (ps : List Parameter) → NoneCalled (map as_own ps) p.name → AreDistinct (map as_own ps) →
    AreDistinct (map as_own (if b then p ∷ ps else ps))
distinct_if true p ps e h = (e, h)
distinct_if false p ps e h = h

distinct_results : (ps : List Parameter) → AreDistinct ps → AreDistinct (results_scope ps)
distinct_results [] h = tt
distinct_results (p ∷ ps) h = distinct_if p.is_var p (filter (λ q. q.is_var) ps) (none_of_results ps p.name h.0) (distinct_results ps h.1)

-- these stand from this position on
abbrev AllAt : List Parameter → ℕ → List Parameter → Type 0
AllAt all n [] = Unit {0}
AllAt all n (q ∷ qs) = IsAt all q.name n q × AllAt all (suc n) qs

all_further : (p : Parameter) (all : List Parameter) (n : ℕ) (qs : List Parameter) → NoneCalled qs p.name → AllAt all n qs → AllAt (p ∷ all) (suc n) qs
all_further p all n [] h k = tt
all_further p all n (q ∷ qs) h k = ((other_way q.name p.name h.0, k.0), all_further p all (suc n) qs h.1 k.1)

all_at : (qs : List Parameter) → AreDistinct qs → AllAt qs 0 qs
all_at [] h = tt
all_at (q ∷ qs) h = ((itself q.name, refl), all_further q qs 0 qs h.0 (all_at qs h.1))

-- what results begin as

begun_from : (scopes : Scopes) (k : ℕ) (qs : List Parameter) → AreDistinct (map as_own qs) →
    SameActivation scopes k (map as_own qs) (map (λ p. record { name = p.name; held = Names.Holds (Named.initial p.type) }) qs) (map (λ p. Holds (initial p.type)) qs)
begun_from scopes k [] h = tt
begun_from scopes k (q ∷ qs) h = ((refl, h.0), ((refl, initial_same q.type), begun_from scopes k qs h.1))

-- the types of arguments that fit

abbrev first_type : List ScalarType → ScalarType
first_type [] = Integer
first_type (t ∷ types) = t

abbrev other_types : List ScalarType → List ScalarType
other_types [] = []
other_types (t ∷ types) = types

one_type : (a : Scalar) → type_of a ≡ Exports.type_of a
one_type (Int z) = refl
one_type (Truth b) = refl

simple_type : (type : DataType) (a : Scalar) → is_simple type ≡ true → Exports.type_of a ≡ scalar_type_of type → type ≡ Simple (type_of a)
simple_type (Simple t) a simple is = ap Simple (sym (one_type a ∙ is))
simple_type (Array place n element) a simple is = absurd cc
simple_type (Record place fields) a simple is = absurd cc

both_first : (a b : Bool) → (a && b) ≡ true → a ≡ true
both_first true b h = refl
both_first false b h = h

both_second : (a b : Bool) → (a && b) ≡ true → b ≡ true
both_second true b h = h
both_second false b h = absurd cc

with_export : (e s : Bool) → e ≡ true → (not e || s) ≡ true → s ≡ true
with_export true s is h = h
with_export false s is h = absurd cc

-- the formals of the value parameters
abbrev value_formals : List Parameter → List Formal
value_formals ps = filter (λ f. not f.is_var) (map formal_of ps)

-- what a call hands over

module _ (scope all : List Parameter) where
  abbrev before : Scopes
  before = scope ∷ all ∷ []

  value_handed : (p : Parameter) (a : Scalar) → p.type ≡ Simple (type_of a) → SameValue p.type (Named.Single a) (Single a)
  value_handed p a h = subst (λ t. SameValue t (Named.Single a) (Single a)) (sym h) (refl, refl)

  handed_if : (p : Parameter) (ps : List Parameter) (arguments : List Scalar) (n : ℕ) (b : Bool) → p.is_var ≡ b → is_simple p.type ≡ true →
      ((others : List Scalar) (k : ℕ) → AllAt all k (results_scope ps) → ArgumentsFit (map formal_of ps) others →
      SameHanded before ps (Objects.outside_handed ps others) (outside_handed k ps others)) →
      AllAt all n (map as_own (if b then p ∷ filter (λ q. q.is_var) ps else filter (λ q. q.is_var) ps)) →
      map Exports.type_of arguments ≡ map (λ f. f.scalar_type) (if not b then formal_of p ∷ value_formals ps else value_formals ps) →
      SameHanded before (p ∷ ps)
      (if b
      then Names.Refers (record { activation = 1; name = p.name; selectors = [] }) ∷ Objects.outside_handed ps arguments
      else Names.Holds (Named.Single (Objects.first_argument arguments)) ∷ Objects.outside_handed ps (Objects.other_arguments arguments))
      (if b
      then Refers (record { activation = 1; position = n; path = [] }) ∷ outside_handed (suc n) ps arguments
      else Holds (Single (Objects.first_argument arguments)) ∷ outside_handed n ps (Objects.other_arguments arguments))
  handed_if p ps arguments n true is simple others at fit = (
    (is, (record { activation = refl; variable = as_own p; there = at.0; own = refl; path = refl }, omega arith)),
    others arguments (suc n) at.1 fit,
  )
  handed_if p ps [] n false is simple others at fit = absurd (cc)
  handed_if p ps (a ∷ arguments) n false is simple others at fit =
      ((is, value_handed p a (simple_type p.type a simple (ap first_type fit))), others arguments n at (ap other_types fit))

  handed_outside : (ps : List Parameter) (arguments : List Scalar) (n : ℕ) → AllAt all n (results_scope ps) → all_simple ps ≡ true → ArgumentsFit (map formal_of ps) arguments →
      SameHanded before ps (Objects.outside_handed ps arguments) (outside_handed n ps arguments)
  handed_outside [] arguments n at simple fit = tt
  handed_outside (p ∷ ps) arguments n at simple fit =
      handed_if p ps arguments n p.is_var refl (both_first (is_simple p.type) (all_simple ps) simple)
      (λ others k at' fit'. handed_outside ps others k at' (both_second (is_simple p.type) (all_simple ps) simple) fit') at fit

-- the values of results

scalar_same : (t : DataType) (v : Named.Value) (w : Value) → SameValue t v w → Named.scalar_of v ≡ scalar_of w
scalar_same (Simple t) (Named.Single s) (Single r) h = h.0
scalar_same (Simple t) (Named.Single s) (Parts ws) h = absurd h
scalar_same (Simple t) (Named.Elements vs) w h = absurd h
scalar_same (Simple t) (Named.Named vs) w h = absurd h
scalar_same (Array place n element) (Named.Elements vs) (Parts ws) h = refl
scalar_same (Array place n element) (Named.Elements vs) (Single s) h = absurd h
scalar_same (Array place n element) (Named.Single s) w h = absurd h
scalar_same (Array place n element) (Named.Named vs) w h = absurd h
scalar_same (Record place fs) (Named.Named vs) (Parts ws) h = refl
scalar_same (Record place fs) (Named.Named vs) (Single s) h = absurd h
scalar_same (Record place fs) (Named.Single s) w h = absurd h
scalar_same (Record place fs) (Named.Elements vs) w h = absurd h

module _ (scopes : Scopes) (k : ℕ) where
  result_same : (p : Parameter) (m : Names.Held) (g : Held) → SameHeld scopes k p m g → Named.scalar_of (Names.value_held m) ≡ scalar_of (value_held g)
  result_same p (Names.Holds v) (Holds w) h = scalar_same p.type v w h.1
  result_same p (Names.Holds v) (Refers b) h = absurd h
  result_same p (Names.Refers a) (Holds w) h = absurd h
  result_same p (Names.Refers a) (Refers b) h = refl

  results_same : (ps : List Parameter) (bs : Names.Activation) (hs : Activation) → SameActivation scopes k ps bs hs → Objects.values_of_results bs ≡ values_of_results hs
  results_same [] [] [] h = refl
  results_same [] [] (g ∷ hs) h = absurd h
  results_same [] (b ∷ bs) hs h = absurd h
  results_same (p ∷ ps) [] hs h = absurd h
  results_same (p ∷ ps) (b ∷ bs) [] h = absurd h
  results_same (p ∷ ps) (b ∷ bs) (g ∷ hs) h =
      ap (λ s. s ∷ Objects.values_of_results bs) (result_same p b.held g h.1.0) ∙ ap (λ ss. scalar_of (value_held g) ∷ ss) (results_same ps bs hs h.1.1)

-- an export is one of the procedures

-- an exported procedure stands somewhere among these
record Within (ps : List Procedure) (p : Procedure) : Type 0 where
  number : ℕ
  there : slice_get ps number ≡ Some p
  is_exported : p.is_exported ≡ true

export_if : (b : Bool) (q : Procedure) (fs ps : List Procedure) (n : ℕ) (p : Procedure) → q.is_exported ≡ b → slice_get (if b then q ∷ fs else fs) n ≡ Some p →
    ((k : ℕ) → slice_get fs k ≡ Some p → Within ps p) → Within (q ∷ ps) p
export_if true q fs ps zero p is e again =
    let same : q ≡ p = cc (e) in
    record { number = 0; there = e; is_exported = subst (λ (r : Procedure). r.is_exported ≡ true) same is }
export_if true q fs ps (suc n) p is e again =
    let r = again n e in record { number = suc r.number; there = r.there; is_exported = r.is_exported }
export_if false q fs ps n p is e again =
    let r = again n e in record { number = suc r.number; there = r.there; is_exported = r.is_exported }

export_within : (ps : List Procedure) (n : ℕ) (p : Procedure) → slice_get (filter (λ q. q.is_exported) ps) n ≡ Some p → Within ps p
export_within [] n p e = absurd cc
export_within (q ∷ ps) n p e =
    export_if q.is_exported q (filter (λ r. r.is_exported) ps) ps n p refl e (λ k h. export_within ps k p h)

-- the export of a signature
of_signature : (o : Option Procedure) (s : Signature) → option_map signature_in o ≡ Some s → (p : Procedure) × ((o ≡ Some p) × (signature_in p ≡ s))
of_signature None s h = absurd (cc (h))
of_signature (Some p) s h = (p, (refl, cc (h)))

-- one call

module _ (program : Program) (good : IsResolved program) where
  abbrev outside : Procedure → Scopes
  outside p = module_scope program ∷ results_scope p.parameters ∷ []

  state_moved : (one other : Scopes) (state : State) (activation : Activation) → SameActivation one 0 (module_scope program) state activation →
      SameActivation other 0 (module_scope program) state activation
  state_moved one other state activation h =
      activation_moved one other 0 (λ k b. absurd (omega (arith, b))) 0 (omega arith) (module_scope program) state activation h

  effect_same : (p : Procedure) (state : State) (activation : Activation) (o : Meanings.Outcome) (r : Outcome) → SameState program state activation →
      SameOutcome (outside p ++ scope_of p ∷ []) o r → SameEffect program (Objects.effect_of state o) (effect_of activation r)
  effect_same p state activation (Meanings.Done t ms) (Done u ss) same h =
      let scopes : Scopes = outside p ++ scope_of p ∷ [] in
      let first = activation_same scopes 0 0 0 scopes ms ss (omega arith) h.1 in
      let second = activation_same scopes 0 1 1 scopes ms ss (omega arith) h.1 in
      record {
        state = state_moved scopes (module_scope program ∷ []) (Names.activation_at ms 0) (activation_at ss 0) first;
        reply = ap Answers (results_same scopes 1 (results_scope p.parameters) (Names.activation_at ms 1) (activation_at ss 1) second);
      }
  effect_same p state activation (Meanings.Trap n) (Trap m) same h = record { state = same; reply = ap Calls.Trapped h }
  effect_same p state activation (Meanings.Done t ms) (Trap m) same h = absurd h
  effect_same p state activation (Meanings.Trap n) (Done u ss) same h = absurd h

  procedure_same : (p : Procedure) → IsProcedure program p → (arguments : List Scalar) → all_simple p.parameters ≡ true → ArgumentsFit (map formal_of p.parameters) arguments →
      (turns : ℕ) (state : State) (activation : Activation) → SameState program state activation →
      SameEffect program (Objects.effect_of_procedure program (Some p) arguments turns state) (effect_of_procedure program (Some p) arguments turns activation)
  procedure_same p is arguments simple fit turns state activation same =
      let scopes : Scopes = outside p in
      let all : Scopes = scopes ++ scope_of p ∷ [] in
      let results = distinct_results p.parameters (distinct_before p.parameters (map as_parameter p.variables) is.distinct) in
      let two : SameStore scopes (state ∷ Objects.results_begun p.parameters ∷ []) (activation ∷ results_begun p.parameters ∷ []) =
      (state_moved (module_scope program ∷ []) scopes state activation same, (begun_from scopes 1 (filter (λ q. q.is_var) p.parameters) results, tt)) in
      let handed = handed_outside (module_scope program) (results_scope p.parameters) p.parameters arguments 0 (all_at (results_scope p.parameters) results) simple fit in
      let some : 0 < length all = omega arith in
      effect_same p state activation _ _ same
      (statements_same program good (Meanings.calls program (most_activations - 1)) (calls program (most_activations - 1)) scopes (scope_of p) refl
      (λ n q hs gs at t ms ss h k. calls_same program good (most_activations - 1) all some refl n q hs gs at t ms ss h k)
      p.body is.body turns _ _
      (entered scopes (state ∷ Objects.results_begun p.parameters ∷ []) (activation ∷ results_begun p.parameters ∷ []) p
      (Objects.outside_handed p.parameters arguments) (outside_handed 0 p.parameters arguments) is.distinct two handed))

  pub call_same : (call : ObjectCall) → CallFits (signatures program) call → (turns : ℕ) (state : State) (activation : Activation) → SameState program state activation →
      SameEffect program (Objects.effect program call turns state) (effect program call turns activation)
  call_same call fits turns state activation same =
      let (p, (at, is)) = of_signature (slice_get (exports program) call.export) fits.signature (sym (slice_get-map signature_in (exports program) call.export) ∙ fits.here) in
      let within = export_within program.procedures call.export p at in
      let good = good.procedures within.number p within.there in
      let simple = with_export p.is_exported (all_simple p.parameters) within.is_exported good.export in
      let fit : ArgumentsFit (map formal_of p.parameters) call.arguments =
      subst (λ (s : Signature). ArgumentsFit s.formals call.arguments) (sym is) fits.fit in
      subst (λ o. SameEffect program (Objects.effect_of_procedure program o call.arguments turns state) (effect_of_procedure program o call.arguments turns activation)) (sym at)
      (procedure_same p good call.arguments simple fit turns state activation same)
