-- The opening of a module, as its meaning says it by name, from what is found by position.
use Rattle.std.proofs.Common.{◌≡◌, refl, ap, subst, ◌∙◌, ℕ, List, [], ◌∷◌}
use Rattle.ob_carry.proofs.Carried.{one_state}
use Rattle.ob_object_compile.proofs.CarriedStates.{carried_state_typed}
use Rattle.ob_carry.specs.Carried.{carried}
use Rattle.ob_code_correct.specs.Kept.{OpeningsAreStates}
use Rattle.ob_code_scheme.specs.Types.{IsStateOf}
use Rattle.ob_code_scheme.specs.WellFormed.{IsWellFormed}
use Rattle.ob_meaning.proofs.ResolvedModules.{resolved}
use Rattle.ob_meaning.proofs.SameStatements.{opening_same}
use Rattle.ob_meaning.specs.Resolved.{module_scope, IsResolved}
use Rattle.ob_meaning.specs.Same.{SameOutcome, SameState}
use Rattle.ob_mean.specs.Faults.{IsOpenFault}
use Rattle.ob_mean.specs.Sequences as Positions
use Rattle.ob_mean.specs.declared.openings.OpenFault.{OpenFault}
use Rattle.ob_mean.specs.declared.openings.OpenFault.TheVariants as Open
use Rattle.ob_meaning.specs.ByNameObject as Objects
use Rattle.ob_meaning.specs.ByNameObject.{State, most_turns}
use Rattle.ob_meaning.specs.ByNameStatements as Meanings
use Rattle.ob_object_compile.specs.Asked.{Beginning, BeginsWith, ByBody, ByValues}
use Rattle.ob_object_compile.specs.Compilation.{OpeningFails, Opens}
use Rattle.ob_object_compile.specs.CompilationParts.{BeginsByPosition}
use Rattle.ob_meaning.specs.ByPositionObject as ObjectsByPosition
use Rattle.ob_meaning.specs.ByPositionStatements.{Outcome, Done, Trap}
use Rattle.ob_meaning.specs.ByPositionStore.{Activation}
use Rattle.ob_typing.specs.ModuleText.{IsModule}
use Rattle.ob_typing.specs.Program.{Program}

-- the program of a module's text is resolved
pub module_resolved : (text : List ℕ) (program : Program) → IsModule text program → IsResolved program
module_resolved text program m = resolved m.tree program m.typed

module _ (program : Program) (good : IsResolved program) where
  opened : (turns left : ℕ) (activation : Activation) (o : Meanings.Outcome) → Objects.opening program turns ≡ o →
      SameOutcome (module_scope program ∷ []) o (Done left (activation ∷ [])) →
      (state : State) × (((l : ℕ) × (Objects.opening program turns ≡ Meanings.Done l (state ∷ []))) × SameState program state activation)
  opened turns left activation (Meanings.Done t []) is h = absurd h.1
  opened turns left activation (Meanings.Done t (state ∷ [])) is h = (state, ((t, is), h.1.0))
  opened turns left activation (Meanings.Done t (state ∷ other ∷ ms)) is h = absurd h.1.1
  opened turns left activation (Meanings.Trap k) is h = absurd h

  pub opening_named : (activation : Activation) → Positions.IsOpening program activation → Opens ByBody program activation
  opening_named activation h =
      let o = opened most_turns h.0 activation (Objects.opening program most_turns) refl
      (subst (λ o. SameOutcome (module_scope program ∷ []) (Objects.opening program most_turns) o) h.1 (opening_same program good most_turns)) in
      record { state = o.0; opens = o.1.0; same = o.1.1 }

  trapped : (turns k : ℕ) (o : Meanings.Outcome) → Objects.opening program turns ≡ o → SameOutcome (module_scope program ∷ []) o (Trap k) →
      Objects.opening program turns ≡ Meanings.Trap k
  trapped turns k (Meanings.Done t ms) is h = absurd h
  trapped turns k (Meanings.Trap j) is h = is ∙ ap Meanings.Trap h

  pub fault_named : (e : OpenFault) → IsOpenFault program e → OpeningFails program e
  fault_named (Open.Trap k) h =
      trapped most_turns k (Objects.opening program most_turns) refl
      (subst (λ o. SameOutcome (module_scope program ∷ []) (Objects.opening program most_turns) o) h (opening_same program good most_turns))
  fault_named Open.NoMemory h = tt

  -- ---- by position, from what is said by name

  placed : (turns left : ℕ) (state : State) (o : Outcome) → ObjectsByPosition.opening program turns ≡ o →
      SameOutcome (module_scope program ∷ []) (Meanings.Done left (state ∷ [])) o →
      (activation : Activation) × (((l : ℕ) × (ObjectsByPosition.opening program turns ≡ Done l (activation ∷ []))) × SameState program state activation)
  placed turns left state (Done t []) is h = absurd h.1
  placed turns left state (Done t (activation ∷ [])) is h = (activation, ((t, is), h.1.0))
  placed turns left state (Done t (activation ∷ other ∷ ms)) is h = absurd h.1.1
  placed turns left state (Trap k) is h = absurd h

  pub opening_placed : (state : State) → Objects.IsOpening program state → (activation : Activation) × (Positions.IsOpening program activation × SameState program state activation)
  opening_placed state h =
      placed most_turns h.0 state (ObjectsByPosition.opening program most_turns) refl
      (subst (λ o. SameOutcome (module_scope program ∷ []) o (ObjectsByPosition.opening program most_turns)) h.1 (opening_same program good most_turns))

  -- ---- with which state a program begins

  pub begins_named : (beginning : Beginning) (activation : Activation) → BeginsByPosition beginning program activation → Opens beginning program activation
  begins_named ByBody activation h = opening_named activation h
  begins_named (ByValues values) activation h = record { state = carried program values; opens = record { carriable = h.0; is = refl }; same = h.1 }

  -- it is a state of the program
  pub begins_typed : IsWellFormed program → OpeningsAreStates → (beginning : Beginning) (activation : Activation) → Opens beginning program activation → IsStateOf program.variables activation
  begins_typed well states ByBody activation o =
      let p = opening_placed o.state o.opens in
      let typed = states program most_turns p.1.0.0 (p.0 ∷ []) well p.1.0.1 in
      subst (λ (a : Activation). IsStateOf program.variables a) (one_state program o.state p.0 activation p.1.1 o.same) typed
  begins_typed well states (ByValues values) activation o =
      carried_state_typed program good values activation o.opens.carriable
      (subst (λ (s : State). SameState program s activation) o.opens.is o.same)

-- a program begins so with one state
one_opening : (program : Program) (state other : State) → Objects.IsOpening program state → Objects.IsOpening program other → state ≡ other
one_opening program state other h k = let is = h.1 in let is' = k.1 in cc

pub one_beginning : (program : Program) (beginning : Beginning) (state other : State) → BeginsWith beginning program state → BeginsWith beginning program other → state ≡ other
one_beginning program ByBody state other h k = one_opening program state other h k
one_beginning program (ByValues values) state other h k = let is = h.is in let is' = k.is in cc

pub one_activation : (program : Program) (beginning : Beginning) (activation other : Activation) → Opens beginning program activation → Opens beginning program other → activation ≡ other
one_activation program beginning activation other o p =
    one_state program p.state activation other
    (subst (λ (s : State). SameState program s activation) (one_beginning program beginning o.state p.state o.opens p.opens) o.same) p.same
