-- The sites of calls from outside and of the opening.
use Rattle.std.proofs.Common.{◌≡◌, refl, ap, ℕ, zero, suc, ◌-◌, Bool, true, false, List, [], ◌∷◌, if◌then◌else◌, Option, Some, None}
use Rattle.std.specs.Prelude.{slice_get, option_map}
use Rattle.std.specs.List.{filter}
use Rattle.ob_interface.specs.declared.scalar.Scalar.{Scalar}
use Rattle.ob_interface.specs.Call.{ObjectCall}
use Rattle.ob_typing.specs.Program.{Procedure, Program, exports}
use Rattle.ob_meaning.specs.ByNameObject.{most_activations}
use Rattle.ob_meaning.specs.OverStore.{Outcome}
use Rattle.ob_meaning.specs.ByPositionStore.{Activation, Store}
use Rattle.ob_meaning.specs.ByPositionStatements.{activation_of, begun}
use Rattle.ob_meaning.specs.ByPositionObject as Objects
use Rattle.ob_meaning.specs.ByPositionObject.{results_begun, outside_handed}
use Rattle.ob_meaning.specs.ByPositionEvaluation.{by_position}
use Rattle.ob_trap_places.specs.Site.{Explains, Site, Sited, Yields, TrapsAt, of_procedure, site_of, outcome}
use Rattle.ob_trap_places.specs.TrapOfCall.{export_number, run_outside, site_in_procedure, site_of_call, site_of_opening, opening, trap_of, trap_of_run}
use Rattle.ob_trap_places.proofs.WithoutSites.{body_same}
use Rattle.ob_trap_places.proofs.Explained.{body_explained, in_procedure, of_site}

-- the number of the site of a run is that of the trap in its effect
effect_trap : (number : ℕ) (x : Sited (ℕ × Store)) (o : Outcome Store) (state : Activation) → outcome x ≡ o →
    option_map (λ site. site.number) (site_of (of_procedure number x)) ≡ trap_of (Objects.effect_of state o).reply
effect_trap number (Yields (t, s)) o state h = ap (λ o. trap_of (Objects.effect_of state o).reply) h
effect_trap number (TrapsAt site) o state h = ap (λ o. trap_of (Objects.effect_of state o).reply) h

procedure_trap : (program : Program) (number : ℕ) (p : Option Procedure) (arguments : List Scalar) (budget : ℕ) (state : Activation) →
    option_map (λ site. site.number) (site_in_procedure program number p arguments budget state)
    ≡ trap_of (Objects.effect_of_procedure program p arguments budget state).reply
procedure_trap program number None arguments budget state = refl
procedure_trap program number (Some p) arguments budget state =
    effect_trap number _ _ state
    (body_same by_position program (most_activations - 1) p.body budget
    (state ∷ results_begun p.parameters ∷ activation_of p (outside_handed 0 p.parameters arguments) ∷ []))

pub call_trap : (program : Program) (call : ObjectCall) (budget : ℕ) (state : Activation) →
    option_map (λ site. site.number) (site_of_call program call budget state) ≡ trap_of (Objects.effect program call budget state).reply
call_trap program call budget state =
    procedure_trap program (export_number program.procedures call.export) (slice_get (exports program) call.export) call.arguments budget state

pub opening_same : (program : Program) (turns : ℕ) → outcome (opening program turns) ≡ Objects.opening program turns
opening_same program turns = body_same by_position program most_activations program.body turns (begun program.variables ∷ [])

-- the number of the site of a run is that of the trap by which it ends
run_trap : (x : Sited (ℕ × Store)) (o : Outcome Store) → outcome x ≡ o → option_map (λ site. site.number) (site_of x) ≡ trap_of_run o
run_trap (Yields (t, s)) o h = ap trap_of_run h
run_trap (TrapsAt site) o h = ap trap_of_run h

pub opening_trap : (program : Program) (turns : ℕ) →
    option_map (λ site. site.number) (site_of_opening program turns) ≡ trap_of_run (Objects.opening program turns)
opening_trap program turns = run_trap (opening program turns) (Objects.opening program turns) (opening_same program turns)

procedure_explained : (program : Program) (number : ℕ) (p : Option Procedure) (arguments : List Scalar) (budget : ℕ) (state : Activation) (site : Site) →
    site_in_procedure program number p arguments budget state ≡ Some site → Explains site.cause site.number
procedure_explained program number None arguments budget state site h = absurd cc
procedure_explained program number (Some p) arguments budget state site h =
    of_site (run_outside program number p arguments budget state) site
    (in_procedure number _
    (body_explained by_position program (most_activations - 1) p.body budget
    (state ∷ results_begun p.parameters ∷ activation_of p (outside_handed 0 p.parameters arguments) ∷ []))) h

pub call_explained : (program : Program) (call : ObjectCall) (budget : ℕ) (state : Activation) (site : Site) →
    site_of_call program call budget state ≡ Some site → Explains site.cause site.number
call_explained program call budget state site h =
    procedure_explained program (export_number program.procedures call.export) (slice_get (exports program) call.export) call.arguments budget state site h

pub opening_explained : (program : Program) (turns : ℕ) (site : Site) → site_of_opening program turns ≡ Some site → Explains site.cause site.number
opening_explained program turns site h =
    of_site (opening program turns) site (body_explained by_position program most_activations program.body turns (begun program.variables ∷ [])) h

-- the numbers of exports

abbrev marked : List Procedure → List Procedure
marked = filter (λ p. p.is_exported)

number_if : (b : Bool) (q : Procedure) (ps : List Procedure) (k : ℕ) (p : Procedure) →
    ((k : ℕ) → slice_get (marked ps) k ≡ Some p → slice_get ps (export_number ps k) ≡ Some p) →
    slice_get (if b then q ∷ marked ps else marked ps) k ≡ Some p →
    slice_get (q ∷ ps) (elim k as (λ _. ℕ) [ zero ↦ (if b then 0 else suc (export_number ps zero)) | suc j ↦ suc (export_number ps (if b then j else suc j)) ]) ≡ Some p
number_if true q ps zero p h e = e
number_if true q ps (suc k) p h e = h k e
number_if false q ps zero p h e = h zero e
number_if false q ps (suc k) p h e = h (suc k) e

pub export_at : (ps : List Procedure) (k : ℕ) (p : Procedure) → slice_get (marked ps) k ≡ Some p → slice_get ps (export_number ps k) ≡ Some p
export_at [] k p e = absurd cc
export_at (q ∷ ps) zero p e = number_if q.is_exported q ps zero p (λ j. export_at ps j p) e
export_at (q ∷ ps) (suc k) p e = number_if q.is_exported q ps (suc k) p (λ j. export_at ps j p) e

pub export_here : (program : Program) (k : ℕ) (p : Procedure) → slice_get (exports program) k ≡ Some p → slice_get program.procedures (export_number program.procedures k) ≡ Some p
export_here program k p e = export_at program.procedures k p e
