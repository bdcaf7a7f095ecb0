-- The opening of a program by position and by name: one state, or one trap.
use Rattle.std.proofs.Common.{◌≡◌, refl, ap, subst, sym, ◌∙◌, ℕ, List, [], ◌∷◌}
use Rattle.ob_meaning.proofs.ResolvedModules.{resolved}
use Rattle.ob_meaning.proofs.SameStatements.{opening_same}
use Rattle.ob_meaning.specs.Resolved.{module_scope, IsResolved}
use Rattle.ob_meaning.specs.Same.{SameOutcome, SameState}
use Rattle.ob_mean.specs.Sequences as Sequences
use Rattle.ob_meaning.specs.ByNameObject as Objects
use Rattle.ob_meaning.specs.ByNameObject.{State, most_turns}
use Rattle.ob_meaning.specs.ByNameStatements as Meanings
use Rattle.ob_meaning.specs.ByPositionObject as Positions
use Rattle.ob_meaning.specs.ByPositionStatements.{Outcome, Done, Trap}
use Rattle.ob_meaning.specs.ByPositionStore.{Activation}
use Rattle.ob_typing.specs.ModuleText.{IsModule}
use Rattle.ob_typing.specs.Program.{Program}

-- the program of a module's text is resolved
pub module_resolved : (text : List ℕ) (program : Program) → IsModule text program → IsResolved program
module_resolved text program m = resolved m.tree program m.typed

module _ (program : Program) (good : IsResolved program) where
  abbrev Same : Meanings.Outcome → Outcome → Type 0
  Same o r = SameOutcome (module_scope program ∷ []) o r

  same : Same (Objects.opening program most_turns) (Positions.opening program most_turns)
  same = opening_same program good most_turns

  named_by : (left : ℕ) (activation : Activation) (o : Meanings.Outcome) → Objects.opening program most_turns ≡ o → Same o (Done left (activation ∷ [])) →
      (state : State) × Objects.IsOpening program state × SameState program state activation
  named_by left activation (Meanings.Done t []) is h = absurd h.1
  named_by left activation (Meanings.Done t (state ∷ [])) is h = (state, (t, is), h.1.0)
  named_by left activation (Meanings.Done t (state ∷ other ∷ ms)) is h = absurd h.1.1
  named_by left activation (Meanings.Trap k) is h = absurd h

  pub opening_named : (activation : Activation) → Sequences.IsOpening program activation →
      (state : State) × Objects.IsOpening program state × SameState program state activation
  opening_named activation h =
      named_by h.0 activation (Objects.opening program most_turns) refl (subst (λ (r : Outcome). Same (Objects.opening program most_turns) r) h.1 same)

  placed_by : (left : ℕ) (state : State) (r : Outcome) → Positions.opening program most_turns ≡ r → Same (Meanings.Done left (state ∷ [])) r →
      (activation : Activation) × Sequences.IsOpening program activation × SameState program state activation
  placed_by left state (Done t []) is h = absurd h.1
  placed_by left state (Done t (activation ∷ [])) is h = (activation, (t, is), h.1.0)
  placed_by left state (Done t (activation ∷ other ∷ store)) is h = absurd h.1.1
  placed_by left state (Trap k) is h = absurd h

  pub opening_placed : (state : State) → Objects.IsOpening program state →
      (activation : Activation) × Sequences.IsOpening program activation × SameState program state activation
  opening_placed state h =
      placed_by h.0 state (Positions.opening program most_turns) refl (subst (λ (o : Meanings.Outcome). Same o (Positions.opening program most_turns)) h.1 same)

  trap_named_by : (k : ℕ) (o : Meanings.Outcome) → Objects.opening program most_turns ≡ o → Same o (Trap k) → Objects.OpeningTraps program k
  trap_named_by k (Meanings.Done t ms) is h = absurd h
  trap_named_by k (Meanings.Trap j) is h = is ∙ ap Meanings.Trap h

  pub trap_named : (k : ℕ) → Sequences.OpeningTraps program k → Objects.OpeningTraps program k
  trap_named k h =
      trap_named_by k (Objects.opening program most_turns) refl (subst (λ (r : Outcome). Same (Objects.opening program most_turns) r) h same)

  trap_placed_by : (k : ℕ) (r : Outcome) → Positions.opening program most_turns ≡ r → Same (Meanings.Trap k) r → Sequences.OpeningTraps program k
  trap_placed_by k (Done t store) is h = absurd h
  trap_placed_by k (Trap j) is h = is ∙ ap Trap (sym h)

  pub trap_placed : (k : ℕ) → Objects.OpeningTraps program k → Sequences.OpeningTraps program k
  trap_placed k h =
      trap_placed_by k (Positions.opening program most_turns) refl (subst (λ (o : Meanings.Outcome). Same o (Positions.opening program most_turns)) h same)
