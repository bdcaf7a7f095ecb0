-- The exports of a program, read off the procedures that the program keeps.
use Rattle.std.proofs.Common.{◌≡◌, refl, ap, sym, ◌∙◌, ℕ, Bool, true, false, List, [], ◌∷◌, map, Option, Some, None, option_map, Bor, if◌then◌else◌}
use Rattle.std.specs.Prelude.{filter, slice_get}
use Rattle.std.proofs.lemmas.Option.{slice_get-map}
use Rattle.ob_checked.specs.declared.program.Procedure.{Procedure}
use Rattle.ob_typing.specs.Program as Programs
use Rattle.ob_checked.specs.View.{procedure_of}
use Rattle.ob_checked.specs.Types.{Entry}

module _ (types : List Entry) where
  filter_exported : (ps : List Procedure) →
      filter (λ (p : Programs.Procedure). p.is_exported) (map (procedure_of types) ps) ≡ map (procedure_of types) (filter (λ p. p.is_exported) ps)
  filter_exported [] = refl
  filter_exported (p ∷ ps) =
      let each : (b : Bool) →
      (if b then procedure_of types p ∷ filter (λ (q : Programs.Procedure). q.is_exported) (map (procedure_of types) ps) else filter (λ (q : Programs.Procedure). q.is_exported) (map (procedure_of types) ps))
      ≡ map (procedure_of types) (if b then p ∷ filter (λ q. q.is_exported) ps else filter (λ q. q.is_exported) ps) =
      λ b. elim b as (λ t. (if t then procedure_of types p ∷ filter (λ (q : Programs.Procedure). q.is_exported) (map (procedure_of types) ps) else filter (λ (q : Programs.Procedure). q.is_exported) (map (procedure_of types) ps))
      ≡ map (procedure_of types) (if t then p ∷ filter (λ q. q.is_exported) ps else filter (λ q. q.is_exported) ps)) [
        | true ↦ ap (λ qs. procedure_of types p ∷ qs) (filter_exported ps)
        | false ↦ filter_exported ps
      ] in
      each p.is_exported

  procedures_lent : (r : Option (Bor Procedure)) → option_map (λ (p : Bor Procedure). procedure_of types p.now) r ≡ option_map (procedure_of types) (option_map (λ p. p.now) r)
  procedures_lent None = refl
  procedures_lent (Some p) = refl

  pub export_is : (r : Option (Bor Procedure)) (ps : List Procedure) (n : ℕ) →
      option_map (λ (p : Bor Procedure). p.now) r ≡ slice_get (filter (λ p. p.is_exported) ps) n →
      option_map (λ (p : Bor Procedure). procedure_of types p.now) r ≡ slice_get (filter (λ (p : Programs.Procedure). p.is_exported) (map (procedure_of types) ps)) n
  export_is r ps n found =
      procedures_lent r ∙ ap (option_map (procedure_of types)) found
      ∙ sym (slice_get-map (procedure_of types) (filter (λ p. p.is_exported) ps) n)
      ∙ ap (λ qs. slice_get qs n) (sym (filter_exported ps))
