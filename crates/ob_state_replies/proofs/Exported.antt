-- What is told of the exported procedures.
use Rattle.std.proofs.Common.{◌≡◌, refl, sym, ap, ◌∙◌, subst, ℕ, zero, suc, ◌+◌, ◌<◌, ◌≤◌, Bool, true, false, List, [], ◌∷◌, ◌++◌, length, drop, map, get_or, if◌then◌else◌, Some}
use Rattle.std.specs.Prelude.{slice_get}
use Rattle.std.specs.List.{AllZip, filter}
use Rattle.std.proofs.lemmas.List.{drop_more, drop_all, append_assoc}
use Rattle.std.proofs.lemmas.Option.{same_Some}
use Rattle.ob_typing.specs.Program as Programs
use Rattle.ob_typing.specs.Program.{exports}
use Rattle.ob_checked.specs.declared.program.Parameter.{Parameter}
use Rattle.ob_checked.specs.declared.program.Procedure.{Procedure}
use Rattle.ob_checked.specs.declared.program.Program.{Program}
use Rattle.ob_checked.specs.Types.{Entry}
use Rattle.ob_checked.specs.View.{parameter_of, procedure_of, program_of, statements_in, table_of}
use Rattle.ob_carry.specs.ReadOnlyExports.{exported}
use Rattle.ob_state_replies.specs.AnswersAndNotes.{AnswersThenNotes, Keeps, KeepsIf, KeepsTheRule, modes_of}
use Rattle.ob_state_replies.specs.StateReplies.{TellsStateReplies}
use Rattle.ob_state_replies.proofs.Runs.{rule_replies}

-- what is told of those from a number on, behind what is told so far, is told of all
abbrev pub GoesOn : List Procedure → ℕ → List Bool → Type 0
GoesOn procedures i told =
    (rest : List Bool) → AllZip KeepsIf (exported (drop i procedures)) rest → AllZip KeepsIf (exported procedures) (told ++ rest)

module _ (procedures : List Procedure) (i : ℕ) (p : Procedure) (told : List Bool) (within : i < length procedures) (is : p ≡ get_or procedures i p) where
  next : (b : Bool) → p.is_exported ≡ b → exported (drop i procedures) ≡ (if b then p ∷ exported (drop (i + 1) procedures) else exported (drop (i + 1) procedures))
  next b e =
      ap exported (drop_more procedures i p within ∙ ap (λ (q : Procedure). q ∷ drop (i + 1) procedures) (sym is))
      ∙ ap (λ (c : Bool). if c then p ∷ exported (drop (i + 1) procedures) else exported (drop (i + 1) procedures)) e

  pub told_one_more : (b : Bool) → p.is_exported ≡ true → KeepsIf p b → GoesOn procedures i told → GoesOn procedures (i + 1) (told ++ b ∷ [])
  told_one_more b e keeps so_far rest zip =
      subst (AllZip KeepsIf (exported procedures)) (sym (append_assoc told (b ∷ []) rest))
      (so_far (b ∷ rest) (subst (λ (qs : List Procedure). AllZip KeepsIf qs (b ∷ rest)) (sym (next true e)) (keeps, zip)))

  pub told_as_before : p.is_exported ≡ false → GoesOn procedures i told → GoesOn procedures (i + 1) told
  told_as_before e so_far rest zip = so_far rest (subst (λ (qs : List Procedure). AllZip KeepsIf qs rest) (sym (next false e)) zip)

append_nil : (bs : List Bool) → bs ++ [] ≡ bs
append_nil [] = refl
append_nil (b ∷ bs) = ap (λ (cs : List Bool). b ∷ cs) (append_nil bs)

pub told_of_all : (procedures : List Procedure) (i : ℕ) (told : List Bool) → length procedures ≤ i → GoesOn procedures i told → AllZip KeepsIf (exported procedures) told
told_of_all procedures i told past so_far =
    subst (AllZip KeepsIf (exported procedures)) (append_nil told)
    (so_far [] (subst (λ (qs : List Procedure). AllZip KeepsIf (exported qs) []) (sym (drop_all i procedures past)) tt))

-- of the checked program's procedures
module _ (types : List Entry) where
  same_modes : (ps : List Parameter) → modes_of ps ≡ map (λ q. q.is_var) (map (parameter_of types) ps)
  same_modes [] = refl
  same_modes (p ∷ ps) = ap (λ (bs : List Bool). p.is_var ∷ bs) (same_modes ps)

  kept : (p : Procedure) → Keeps p → KeepsTheRule (procedure_of types p)
  kept p = subst (λ (modes : List Bool). AnswersThenNotes modes true (statements_in p.body.items)) (same_modes p.parameters.items)

  abbrev OfProgram : Programs.Procedure → Bool → Type 0
  OfProgram p told = told ≡ true → KeepsTheRule p

  one_of_program : (b : Bool) (p : Procedure) (ps : List Procedure) (qs : List Programs.Procedure) (told : List Bool) →
      ((rest : List Bool) → AllZip KeepsIf ps rest → AllZip OfProgram qs rest) →
      AllZip KeepsIf (if b then p ∷ ps else ps) told → AllZip OfProgram (if b then procedure_of types p ∷ qs else qs) told
  one_of_program true p ps qs [] go zip = absurd zip
  one_of_program true p ps qs (t ∷ told) go zip = (λ so. kept p (zip.0 so), go told zip.1)
  one_of_program false p ps qs told go zip = go told zip

  none : (told : List Bool) → AllZip KeepsIf [] told → AllZip OfProgram [] told
  none [] zip = tt
  none (t ∷ told) zip = absurd zip

  of_program : (procedures : List Procedure) (told : List Bool) → AllZip KeepsIf (exported procedures) told →
      AllZip OfProgram (filter (λ p. p.is_exported) (map (procedure_of types) procedures)) told
  of_program [] told zip = none told zip
  of_program (p ∷ procedures) told zip =
      one_of_program p.is_exported p (exported procedures) (filter (λ p. p.is_exported) (map (procedure_of types) procedures)) told (of_program procedures) zip

  as_many : (ps : List Programs.Procedure) (told : List Bool) → AllZip OfProgram ps told → length told ≡ length ps
  as_many [] [] zip = refl
  as_many [] (t ∷ told) zip = absurd zip
  as_many (p ∷ ps) [] zip = absurd zip
  as_many (p ∷ ps) (t ∷ told) zip = ap suc (as_many ps told zip.1)

  told_at : (ps : List Programs.Procedure) (told : List Bool) (k : ℕ) → AllZip OfProgram ps told → slice_get told k ≡ Some true →
      (p : Programs.Procedure) × (slice_get ps k ≡ Some p) × KeepsTheRule p
  told_at ps [] k zip at = absurd cc
  told_at [] (t ∷ told) k zip at = absurd zip
  told_at (p ∷ ps) (t ∷ told) zero zip at = (p, refl, zip.0 (same_Some t true at))
  told_at (p ∷ ps) (t ∷ told) (suc k) zip at = told_at ps told k zip.1 at

-- what is told of the exports of a program
pub told_of_program : (program : Program) (meant : Programs.Program) (procedures : List Procedure) (told : List Bool) → program_of program ≡ meant → procedures ≡ program.procedures.items →
    AllZip KeepsIf (exported procedures) told → TellsStateReplies meant told
told_of_program program meant procedures told is same zip =
    let types = table_of program.types in
    let ours = of_program types program.procedures.items told (subst (λ (ps : List Procedure). AllZip KeepsIf (exported ps) told) same zip) in
    subst (λ (p : Programs.Program). TellsStateReplies p told) is
    (record {
      each = as_many types (exports (program_of program)) told ours;
      true_of = λ k at. let here = told_at types (exports (program_of program)) told k ours at in rule_replies (program_of program) k here.0 here.1 here.2;
    })
