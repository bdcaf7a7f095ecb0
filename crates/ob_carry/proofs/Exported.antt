-- What is told of the exported procedures.
use Rattle.std.proofs.Common.{◌≡◌, refl, sym, ap, ◌∙◌, subst, ℕ, zero, suc, ◌+◌, ◌<◌, Bool, true, false, List, [], ◌∷◌, ◌++◌, length, take, map, get_or, if◌then◌else◌, Option, Some, None}
use Rattle.std.specs.Prelude.{slice_get, option_map}
use Rattle.std.specs.List.{AllZip, filter}
use Rattle.std.proofs.lemmas.List.{take_more}
use Rattle.std.proofs.lemmas.List.Elements.{filter-append}
use Rattle.std.proofs.lemmas.Option.{same_Some, slice_get-get_or, slice_get-map}
use Rattle.ob_typing.specs.Program as Programs
use Rattle.ob_typing.specs.Program.{exports}
use Rattle.ob_checked.specs.declared.program.Procedure.{Procedure}
use Rattle.ob_checked.specs.declared.program.Program.{Program}
use Rattle.ob_checked.specs.Types.{Entry}
use Rattle.ob_checked.specs.View.{procedure_of, program_of, statements_in, table_of}
use Rattle.ob_carry.specs.ReadOnly.{AllSpareModule, TellsReadOnly}
use Rattle.ob_carry.specs.ReadOnlyExports.{AllKeep, SparesIf, exported, in_flags}
use Rattle.ob_carry.proofs.Runs.{read_only_calls}
use Rattle.ob_carry.proofs.Sets.{zip_push}

-- what is told of those before a number
abbrev pub ToldBelow : List Bool → List Procedure → ℕ → List Bool → Type 0
ToldBelow flags procedures n told = AllZip (SparesIf flags) (exported (take n procedures)) told

next_exported : (procedures : List Procedure) (i : ℕ) (p : Procedure) (b : Bool) → i < length procedures → p ≡ get_or procedures i p → p.is_exported ≡ b →
    exported (take (i + 1) procedures) ≡ exported (take i procedures) ++ (if b then p ∷ [] else [])
next_exported procedures i p b within is e =
    ap exported (take_more procedures i p within ∙ ap (λ (q : Procedure). take i procedures ++ q ∷ []) (sym is))
    ∙ filter-append (λ (q : Procedure). q.is_exported) (take i procedures) (p ∷ [])
    ∙ ap (λ (c : Bool). exported (take i procedures) ++ (if c then p ∷ [] else [])) e

module _ (flags : List Bool) (procedures : List Procedure) (i : ℕ) (p : Procedure) (told : List Bool) (within : i < length procedures) (is : p ≡ get_or procedures i p) where
  pub told_one_more : AllKeep procedures flags → p.is_exported ≡ true → ToldBelow flags procedures i told → ToldBelow flags procedures (i + 1) (told ++ in_flags flags i ∷ [])
  told_one_more keep e below =
      let spares : SparesIf flags p (in_flags flags i) = λ so. keep i p so (slice_get-get_or procedures i p within ∙ ap Some (sym is)) in
      subst (λ (qs : List Procedure). AllZip (SparesIf flags) qs (told ++ in_flags flags i ∷ [])) (sym (next_exported procedures i p true within is e))
      (zip_push (SparesIf flags) (exported (take i procedures)) told p (in_flags flags i) below spares)

  pub told_as_before : p.is_exported ≡ false → ToldBelow flags procedures i told → ToldBelow flags procedures (i + 1) told
  told_as_before e below =
      subst (λ (qs : List Procedure). AllZip (SparesIf flags) qs told) (sym (next_exported procedures i p false within is e ∙ append_nil (exported (take i procedures)))) below
    where
      append_nil : (qs : List Procedure) → qs ++ [] ≡ qs
      append_nil [] = refl
      append_nil (q ∷ qs) = ap (λ (rs : List Procedure). q ∷ rs) (append_nil qs)

-- of the checked program's procedures
module _ (types : List Entry) (flags : List Bool) where
  abbrev OfProgram : Programs.Procedure → Bool → Type 0
  OfProgram p told = told ≡ true → AllSpareModule (in_flags flags) p.body

  one_of_program : (b : Bool) (p : Procedure) (ps : List Procedure) (qs : List Programs.Procedure) (told : List Bool) →
      ((rest : List Bool) → AllZip (SparesIf flags) ps rest → AllZip OfProgram qs rest) →
      AllZip (SparesIf flags) (if b then p ∷ ps else ps) told → AllZip OfProgram (if b then procedure_of types p ∷ qs else qs) told
  one_of_program true p ps qs [] go zip = absurd zip
  one_of_program true p ps qs (t ∷ told) go zip = (zip.0, go told zip.1)
  one_of_program false p ps qs told go zip = go told zip

  of_program : (procedures : List Procedure) (told : List Bool) → AllZip (SparesIf flags) (exported procedures) told →
      AllZip OfProgram (filter (λ p. p.is_exported) (map (procedure_of types) procedures)) told
  of_program [] told zip = none told zip
    where
      none : (told : List Bool) → AllZip (SparesIf flags) [] told → AllZip OfProgram [] told
      none [] zip = tt
      none (t ∷ told) zip = absurd zip
  of_program (p ∷ procedures) told zip =
      one_of_program p.is_exported p (exported procedures) (filter (λ p. p.is_exported) (map (procedure_of types) procedures)) told (of_program procedures) zip

  as_many : (ps : List Programs.Procedure) (told : List Bool) → AllZip OfProgram ps told → length told ≡ length ps
  as_many [] [] zip = refl
  as_many [] (t ∷ told) zip = absurd zip
  as_many (p ∷ ps) [] zip = absurd zip
  as_many (p ∷ ps) (t ∷ told) zip = ap suc (as_many ps told zip.1)

  told_at : (ps : List Programs.Procedure) (told : List Bool) (k : ℕ) → AllZip OfProgram ps told → slice_get told k ≡ Some true →
      (p : Programs.Procedure) × (slice_get ps k ≡ Some p) × AllSpareModule (in_flags flags) p.body
  told_at ps [] k zip at = absurd cc
  told_at [] (t ∷ told) k zip at = absurd zip
  told_at (p ∷ ps) (t ∷ told) zero zip at = (p, refl, zip.0 (same_Some t true at))
  told_at (p ∷ ps) (t ∷ told) (suc k) zip at = told_at ps told k zip.1 at

  kept_there : (found : Option Procedure) (p : Programs.Procedure) → ((q : Procedure) → found ≡ Some q → AllSpareModule (in_flags flags) (statements_in q.body.items)) →
      option_map (procedure_of types) found ≡ Some p → AllSpareModule (in_flags flags) p.body
  kept_there None p keep at = absurd cc
  kept_there (Some q) p keep at =
      subst (λ (x : Programs.Procedure). AllSpareModule (in_flags flags) x.body) (same_Some (procedure_of types q) p at) (keep q refl)

  rule_kept : (procedures : List Procedure) → AllKeep procedures flags → (number : ℕ) (p : Programs.Procedure) → in_flags flags number ≡ true →
      slice_get (map (procedure_of types) procedures) number ≡ Some p → AllSpareModule (in_flags flags) p.body
  rule_kept procedures keep number p told at =
      kept_there (slice_get procedures number) p (λ q here. keep number q told here) (sym (slice_get-map (procedure_of types) procedures number) ∙ at)

-- what is told of the exports of a program
pub told_of_program : (program : Program) (meant : Programs.Program) (flags told : List Bool) → program_of program ≡ meant → AllKeep program.procedures.items flags →
    AllZip (SparesIf flags) (exported program.procedures.items) told → TellsReadOnly meant told
told_of_program program meant flags told is keep zip =
    let types = table_of program.types in
    let ours = of_program types flags program.procedures.items told zip in
    subst (λ (p : Programs.Program). TellsReadOnly p told) is
    (record {
      each = as_many types flags (exports (program_of program)) told ours;
      true_of = λ k at.
          let here = told_at types flags (exports (program_of program)) told k ours at in
          read_only_calls (program_of program) (in_flags flags) k here.0 (rule_kept types flags program.procedures.items keep) here.1 here.2;
    })

-- the same of slices
pub told_of_slices : (program : Program) (meant : Programs.Program) (procedures : List Procedure) (flags given told : List Bool) → program_of program ≡ meant → procedures ≡ program.procedures.items →
    given ≡ flags → AllKeep procedures flags → (AllKeep procedures given → AllZip (SparesIf given) (exported procedures) told) → TellsReadOnly meant told
told_of_slices program meant procedures flags given told is same flagged keep zip =
    let kept : AllKeep procedures given = subst (AllKeep procedures) (sym flagged) keep in
    told_of_program program meant given told is (subst (λ (ps : List Procedure). AllKeep ps given) same kept)
    (subst (λ (ps : List Procedure). AllZip (SparesIf given) (exported ps) told) same (zip kept))
