-- What is shown of the site of an opening's trap tells of the trap.
use Rattle.std.proofs.Common.{◌≡◌, refl, ap, sym, subst, ◌∙◌, ℕ, List, [], ◌∷◌, Option, Some, None, option_map}
use Rattle.ob_meaning.proofs.ResolvedModules.{resolved}
use Rattle.ob_meaning.proofs.SameStatements.{opening_same}
use Rattle.ob_meaning.specs.Resolved.{IsResolved, module_scope}
use Rattle.ob_meaning.specs.Same.{SameOutcome, Scopes}
use Rattle.ob_grammar.specs.Texts.{IsTextOf}
use Rattle.ob_grammar.specs.Tree.{Module}
use Rattle.ob_meaning.specs.ByNameObject as Named
use Rattle.ob_meaning.specs.ByNameObject.{most_turns}
use Rattle.ob_meaning.specs.ByNameStatements as Meanings
use Rattle.ob_meaning.specs.ByPositionObject.{opening}
use Rattle.ob_meaning.specs.ByPositionStatements.{Outcome, Done, Trap}
use Rattle.ob_trap_places.proofs.PlacedCalls.{opening_placed}
use Rattle.ob_trap_places.proofs.CallSites.{opening_trap}
use Rattle.ob_trap_places.specs.TrapOfCall.{site_of_opening, trap_of_run}
use Rattle.ob_trap_places.specs.Site.{Site}
use Rattle.ob_typing.specs.Declarations.{WellTyped}
use Rattle.ob_typing.specs.ModuleText.{IsModule}
use Rattle.ob_typing.specs.Program.{Program}
use Rattle.ob_explained.specs.Openings.{IsTrapExplanation, site_lines, trap_lines}

-- a run traps by name with the number with which it traps by position

trap_by_position : (scopes : Scopes) (o : Meanings.Outcome) (r : Outcome) (k : ℕ) → SameOutcome scopes o r → o ≡ Meanings.Trap k → trap_of_run r ≡ Some k
trap_by_position scopes (Meanings.Done t s) r k same h = absurd cc
trap_by_position scopes (Meanings.Trap j) (Done u s) k same h = absurd same
trap_by_position scopes (Meanings.Trap j) (Trap i) k same h = let is : j ≡ k = cc in ap Some (sym same ∙ is)

trap_by_name : (scopes : Scopes) (o : Meanings.Outcome) (r : Outcome) (k : ℕ) → SameOutcome scopes o r → trap_of_run r ≡ Some k → o ≡ Meanings.Trap k
trap_by_name scopes (Meanings.Done t s) (Done u r) k same h = absurd cc
trap_by_name scopes (Meanings.Done t s) (Trap i) k same h = absurd same
trap_by_name scopes (Meanings.Trap j) (Done u r) k same h = absurd same
trap_by_name scopes (Meanings.Trap j) (Trap i) k same h = let is : i ≡ k = cc in ap Meanings.Trap (same ∙ is)

module _ (program : Program) (good : IsResolved program) where
  number_of_trap : (k : ℕ) → Named.OpeningTraps program k → option_map (λ (s : Site). s.number) (site_of_opening program most_turns) ≡ Some k
  number_of_trap k traps =
      opening_trap program most_turns
      ∙ trap_by_position (module_scope program ∷ []) (Named.opening program most_turns) (opening program most_turns) k (opening_same program good most_turns) traps

  trap_of_site : (site : Site) → site_of_opening program most_turns ≡ Some site → Named.OpeningTraps program site.number
  trap_of_site site is =
      trap_by_name (module_scope program ∷ []) (Named.opening program most_turns) (opening program most_turns) site.number (opening_same program good most_turns)
      (sym (opening_trap program most_turns) ∙ ap (option_map (λ (s : Site). s.number)) is)

module _ (name text : List ℕ) (tree : Module) (program : Program) (m : IsModule text program) (alone : (other : Program) → IsModule text other → other ≡ program)
    (is_tree : IsTextOf text tree) (one_tree : (other : Module) → IsTextOf text other → other ≡ tree) where
  good : IsResolved program
  good = resolved m.tree program m.typed

  typed : WellTyped tree program
  typed = subst (λ (t : Module). WellTyped t program) (one_tree m.tree m.text_of) m.typed

  no_trap : (k : ℕ) → site_of_opening program most_turns ≡ None → Named.OpeningTraps program k → ⊥
  no_trap k none traps =
      let both : option_map (λ (s : Site). s.number) None ≡ Some k = sym (ap (option_map (λ (s : Site). s.number)) none) ∙ number_of_trap program good k traps in
      absurd cc

  of_site : (found : Option Site) → site_of_opening program most_turns ≡ found → IsTrapExplanation name text (site_lines name text tree found)
  of_site None is = λ other n k traps. no_trap k is (subst (λ (p : Program). Named.OpeningTraps p k) (alone other n) traps)
  of_site (Some site) is =
      let there = opening_placed tree program most_turns site typed is in
      subst (IsTrapExplanation name text) (sym (ap (option_map (trap_lines name text site)) there.1))
      (record {
        program = program;
        is_module = m;
        tree = tree;
        is_tree = is_tree;
        site = site;
        comes = is;
        traps = trap_of_site program good site is;
        place = there.0;
        placed = there.1;
        is = refl;
      })

  pub explained : (shown : Option (List ℕ)) → shown ≡ site_lines name text tree (site_of_opening program most_turns) → IsTrapExplanation name text shown
  explained shown is = subst (IsTrapExplanation name text) (sym is) (of_site (site_of_opening program most_turns) refl)
