-- The sites of calls from outside and of the opening have places.
use Rattle.std.proofs.Common.{◌≡◌, refl, sym, subst, ℕ, zero, suc, ◌-◌, List, [], ◌∷◌, ◌++◌, Option, Some, None}
use Rattle.std.specs.Prelude.{slice_get}
use Rattle.ob_grammar.specs.Tree.{Stmts, Declarations, Procedures, Module}
use Rattle.ob_interface.specs.declared.scalar.Scalar.{Scalar}
use Rattle.ob_interface.specs.Call.{ObjectCall}
use Rattle.ob_typing.specs.Program.{Variable, Procedure, Program, exports}
use Rattle.ob_typing.specs.Scopes.{Environment}
use Rattle.ob_typing.specs.Statements.{IsBody}
use Rattle.ob_typing.specs.Declarations as Typing
use Rattle.ob_typing.specs.Declarations.{Room, DeclaresProcedures, Declares, WellTyped}
use Rattle.ob_meaning.specs.OverStore.{Stores}
use Rattle.ob_meaning.specs.ByNameObject.{most_activations}
use Rattle.ob_meaning.specs.ByPositionStore.{Activation}
use Rattle.ob_meaning.specs.ByPositionStatements.{activation_of, begun}
use Rattle.ob_meaning.specs.ByPositionObject.{results_begun, outside_handed}
use Rattle.ob_meaning.specs.ByPositionEvaluation.{by_position}
use Rattle.ob_trap_places.specs.Site.{Site, Sited, Yields, TrapsAt, of_procedure, called, site_of}
use Rattle.ob_trap_places.specs.SitesOverStore as Sites
use Rattle.ob_trap_places.specs.TrapOfCall.{export_number, site_in_procedure, site_of_call, site_of_opening, opening}
use Rattle.ob_trap_places.proofs.CallSites.{export_here}
use Rattle.ob_trap_places.specs.Places.{Places, Parts, no_part, before, itself, places_in_body, places_in_one, places_in_module, bodies_of, bodies_in, place_of}
use Rattle.ob_trap_places.proofs.Landing as Landing
use Rattle.ob_trap_places.proofs.Landing.{HasPlace, Lands, Fits, FitsFrom, this_part}
use Rattle.ob_trap_places.proofs.PlacedRuns.{Runs, in_turn, of_body}

-- the bodies of a text, one by one those of the procedures

abbrev IsBodyOf : Option Stmts → Procedure → Type 0
IsBodyOf body p = (env : Environment) × IsBody env body p.body

abbrev Matched : List (Option Stmts) → List Procedure → Type 0
Matched [] [] = Unit {0}
Matched [] (p ∷ ps) = ⊥
Matched (b ∷ bs) [] = ⊥
Matched (b ∷ bs) (p ∷ ps) = IsBodyOf b p × Matched bs ps

both : (bs cs : List (Option Stmts)) (ps qs : List Procedure) → Matched bs ps → Matched cs qs → Matched (bs ++ cs) (ps ++ qs)
both [] cs [] qs h k = k
both [] cs (p ∷ ps) qs h k = absurd h
both (b ∷ bs) cs [] qs h k = absurd h
both (b ∷ bs) cs (p ∷ ps) qs h k = (h.0, both bs cs ps qs h.1 k)

found : (bs : List (Option Stmts)) (ps : List Procedure) → Matched bs ps → (n : ℕ) (p : Procedure) → slice_get ps n ≡ Some p →
    (body : Option Stmts) × ((slice_get bs n ≡ Some body) × IsBodyOf body p)
found [] [] h n p e = absurd cc
found [] (q ∷ ps) h n p e = absurd h
found (b ∷ bs) [] h n p e = absurd h
found (b ∷ bs) (q ∷ ps) h zero p e = let same : q ≡ p = cc in (b, (refl, subst (IsBodyOf b) same h.0))
found (b ∷ bs) (q ∷ ps) h (suc n) p e = found bs ps h.1 n p e

mutual
  matched : {env after : Environment} {n exported : ℕ} {procedures : Procedures} {ps : List Procedure} →
      DeclaresProcedures env n exported procedures after ps → Matched (bodies_in procedures) ps
  matched Typing.none = tt
  matched (Typing.procedure {inside = inside} {inner = inner} {rest = rest} {nested = nested} {others = others} new parameters simple declares body more) =
      ((inside, body), both (bodies_of inner) (bodies_in rest) nested others (matched_within declares) (matched more))

  matched_within : {env after : Environment} {n : ℕ} {room : Room} {declarations : Declarations} {vs : List Variable} {ps : List Procedure} →
      Declares env n room declarations after vs ps → Matched (bodies_of declarations) ps
  matched_within (Typing.declarations constants types variables procedures) = matched procedures

module _ (stores : Stores) (bodies : List (Option Stmts)) (program : Program) (match : Matched bodies program.procedures) where
  open stores use {Store, Held}

  abbrev procedures : ℕ → Places
  procedures number path = places_in_one (slice_get bodies number) path

  in_left : (places : Places) (x : Sited (ℕ × Store)) → Fits procedures places x → Fits procedures places (Sites.left stores x)
  in_left places (Yields (t, s)) h = tt
  in_left places (TrapsAt site) h = h

  -- within the procedure of a number
  within : (number : ℕ) (p : Procedure) (parts : Parts) (call : Sites.Calls stores) →
      ((n : ℕ) (hs : List Held) (place : ℕ) (rest : Parts) → Runs procedures stores (before (itself place) rest) 0 (call n hs)) →
      slice_get program.procedures number ≡ Some p → (t : ℕ) (s : Store) →
      FitsFrom procedures parts 0 (of_procedure number (Sites.meaning_of_all stores call 0 p.body t s))
  within number p parts call calls is t s =
      let (body, (here, (env, typed))) = found bodies program.procedures match number p is in
      Landing.called procedures (places_in_body body) parts 0 number (Sites.meaning_of_all stores call 0 p.body t s)
      (λ path h. subst (λ b. HasPlace (places_in_one b path)) (sym here) h) (of_body procedures stores env call calls typed t s)

  left_after : (number : ℕ) (parts : Parts) (x : Sited (ℕ × Store)) → FitsFrom procedures parts 0 (of_procedure number x) →
      FitsFrom procedures parts 0 (of_procedure number (Sites.left stores x))
  left_after number parts (Yields (t, s)) h = tt
  left_after number parts (TrapsAt site) h = h

  activated_runs : (number : ℕ) (p : Option Procedure) (hs : List Held) (parts : Parts) (call : Sites.Calls stores) →
      ((n : ℕ) (hs : List Held) (place : ℕ) (rest : Parts) → Runs procedures stores (before (itself place) rest) 0 (call n hs)) →
      slice_get program.procedures number ≡ p → (t : ℕ) (s : Store) →
      FitsFrom procedures parts 0 (of_procedure number (Sites.activated stores call p hs t s))
  activated_runs number None hs parts call calls is t s = tt
  activated_runs number (Some p) hs parts call calls is t s =
      left_after number parts (Sites.meaning_of_all stores call 0 p.body t (stores.entered s p hs))
      (within number p parts call calls is t (stores.entered s p hs))

  calls_run : (more n : ℕ) (hs : List Held) (place : ℕ) (rest : Parts) → Runs procedures stores (before (itself place) rest) 0 (Sites.calls stores program more n hs)
  calls_run zero n hs place rest t s = this_part procedures place 0 rest
  calls_run (suc more) n hs place rest t s =
      in_turn procedures stores place rest (λ l. of_procedure n (Sites.activated stores (Sites.calls stores program more) (slice_get program.procedures n) hs l s))
      (λ l. activated_runs n (slice_get program.procedures n) hs (before (itself place) rest) (Sites.calls stores program more) (calls_run more) refl l s) t

-- a site within a procedure
placed : {A : Type 0} (m : Module) (number : ℕ) (x : Sited A) (site : Site) →
    FitsFrom (λ n path. places_in_one (slice_get (bodies_of m.declarations) n) path) no_part 0 (of_procedure number x) → site_of (of_procedure number x) ≡ Some site → HasPlace (place_of m site)
placed m number (Yields a) site h e = absurd cc
placed m number (TrapsAt inner) site h e = let same : called number inner ≡ site = cc in subst (λ s. HasPlace (place_of m s)) same h

-- a site in the module's body, or in a procedure that it calls
landed : (m : Module) (procedure : Option ℕ) (path : List ℕ) →
    Lands (λ n path. places_in_one (slice_get (bodies_of m.declarations) n) path) (places_in_body m.body) procedure path → HasPlace (places_in_module m procedure path)
landed m None path h = h
landed m (Some number) path h = h

placed_here : {A : Type 0} (m : Module) (x : Sited A) (site : Site) →
    Fits (λ n path. places_in_one (slice_get (bodies_of m.declarations) n) path) (places_in_body m.body) x → site_of x ≡ Some site → HasPlace (place_of m site)
placed_here m (Yields a) site h e = absurd cc
placed_here m (TrapsAt other) site h e =
    let same : other ≡ site = cc in subst (λ s. HasPlace (place_of m s)) same (landed m other.procedure other.path h)

procedure_placed : (m : Module) (program : Program) (number : ℕ) (p : Option Procedure) (arguments : List Scalar) (budget : ℕ) (state : Activation) (site : Site) →
    Matched (bodies_of m.declarations) program.procedures → ((q : Procedure) → p ≡ Some q → slice_get program.procedures number ≡ Some q) →
    site_in_procedure program number p arguments budget state ≡ Some site → HasPlace (place_of m site)
procedure_placed m program number None arguments budget state site match is h = absurd cc
procedure_placed m program number (Some p) arguments budget state site match is h =
    placed m number _ site
    (within by_position (bodies_of m.declarations) program match number p no_part (Sites.calls by_position program (most_activations - 1))
    (calls_run by_position (bodies_of m.declarations) program match (most_activations - 1)) (is p refl) budget
    (state ∷ results_begun p.parameters ∷ activation_of p (outside_handed 0 p.parameters arguments) ∷ [])) h

pub call_placed : (m : Module) (program : Program) (call : ObjectCall) (budget : ℕ) (state : Activation) (site : Site) → WellTyped m program →
    site_of_call program call budget state ≡ Some site → (place : ℕ) × (place_of m site ≡ Some place)
call_placed m program call budget state site (Typing.well_typed declares body) h =
    procedure_placed m program (export_number program.procedures call.export) (slice_get (exports program) call.export) call.arguments budget state site
    (matched_within declares) (λ q e. export_here program call.export q e) h

pub opening_placed : (m : Module) (program : Program) (turns : ℕ) (site : Site) → WellTyped m program →
    site_of_opening program turns ≡ Some site → (place : ℕ) × (place_of m site ≡ Some place)
opening_placed m program turns site (Typing.well_typed {inside = inside} declares body) h =
    placed_here m (opening program turns) site
    (of_body (λ n path. places_in_one (slice_get (bodies_of m.declarations) n) path) by_position inside (Sites.calls by_position program most_activations)
    (calls_run by_position (bodies_of m.declarations) program (matched_within declares) most_activations) body turns (begun program.variables ∷ [])) h
