-- Where the code of each procedure stands.
use Rattle.std.proofs.Common.{◌≡◌, ℕ, zero, suc, ◌+◌, ◌≤◌, List, [], ◌∷◌, length, Some, None, refl, ap, ◌∙◌, subst, append-nil, arith}
use Rattle.std.specs.Prelude.{slice_get}
use Rattle.ob_typing.specs.Program.{Procedure, Program}
use Rattle.ob_code_scheme.specs.Types.{Scope, variables_scope}
use Rattle.ob_code_words.specs.declared.instr.Instr.{Instr}
use Rattle.ob_code_scheme.specs.Scheme.{procedure_size, entry_of, procedure_at, procedures_at, entries_from, code_of, HasAt}
use Rattle.ob_code_correct.proofs.Lengths.{procedure_long}
use Rattle.ob_code_correct.proofs.Placed.{has_front, has_behind, has_all, has_long}

-- the entries of procedures that stand from a place on
pub entry_from : (place : ℕ) (ps : List Procedure) (i : ℕ) (p : Procedure) → slice_get ps i ≡ Some p → slice_get (entries_from place ps) i ≡ Some (place + entry_of ps i)
entry_from place [] i p h = absurd (cc)
entry_from place (q ∷ ps) zero p h = let e : place ≡ place + 0 = omega arith in ap (λ (n : ℕ). Some n) e
entry_from place (q ∷ ps) (suc i) p h =
    let e : place + procedure_size q + entry_of ps i ≡ place + (procedure_size q + entry_of ps i) = omega arith in
    entry_from (place + procedure_size q) ps i p h ∙ ap (λ (n : ℕ). Some n) e

-- a procedure has an entry where there is one
pub no_entry : (place : ℕ) (ps : List Procedure) (i : ℕ) → slice_get ps i ≡ None → slice_get (entries_from place ps) i ≡ None
no_entry place [] i h = refl
no_entry place (p ∷ ps) zero h = absurd (cc)
no_entry place (p ∷ ps) (suc i) h = no_entry (place + procedure_size p) ps i h

module _ (globals : Scope) (entry : ℕ → ℕ) (code : List Instr) where
  -- where procedures stand from a place on, each stands at its own
  pub procedure_from : (place : ℕ) (ps : List Procedure) (i : ℕ) (p : Procedure) → slice_get ps i ≡ Some p → HasAt code place (procedures_at globals entry place ps) →
      HasAt code (place + entry_of ps i) (procedure_at globals entry (place + entry_of ps i) p)
  procedure_from place [] i p h has = absurd (cc)
  procedure_from place (q ∷ ps) zero p h has =
      let same : q ≡ p = cc in
      let e : place ≡ place + 0 = omega arith in
      subst (λ (r : Procedure). HasAt code (place + 0) (procedure_at globals entry (place + 0) r)) same
      (subst (λ (n : ℕ). HasAt code n (procedure_at globals entry n q)) e
      (has_front code place (procedure_at globals entry place q) (procedures_at globals entry (place + procedure_size q) ps) has))
  procedure_from place (q ∷ ps) (suc i) p h has =
      let e : place + procedure_size q + entry_of ps i ≡ place + (procedure_size q + entry_of ps i) = omega arith in
      let behind = has_behind code place (procedure_at globals entry place q) (procedures_at globals entry (place + procedure_size q) ps)
      (procedure_size q) (place + procedure_size q) (procedure_long globals entry place q) refl has in
      subst (λ (n : ℕ). HasAt code n (procedure_at globals entry n p)) e (procedure_from (place + procedure_size q) ps i p h behind)

module _ (program : Program) where
  abbrev globals : Scope
  globals = variables_scope program.variables

  abbrev entry : ℕ → ℕ
  entry = entry_of program.procedures

  code_whole : HasAt (code_of program).instructions 0 (code_of program).instructions
  code_whole =
      subst (λ (l : List Instr). HasAt l 0 (code_of program).instructions) (append-nil (code_of program).instructions) (has_all (code_of program).instructions [] [])

  -- in the code each procedure stands at its entry
  pub procedure_stands : (i : ℕ) (p : Procedure) → slice_get program.procedures i ≡ Some p → HasAt (code_of program).instructions (entry i) (procedure_at globals entry (entry i) p)
  procedure_stands i p h =
      let e : 0 + entry i ≡ entry i = omega arith in
      subst (λ (n : ℕ). HasAt (code_of program).instructions n (procedure_at globals entry n p)) e
      (procedure_from globals entry (code_of program).instructions 0 program.procedures i p h code_whole)

  pub entry_is : (i : ℕ) (p : Procedure) → slice_get program.procedures i ≡ Some p → slice_get (code_of program).entries i ≡ Some (entry i)
  entry_is i p h = let e : 0 + entry i ≡ entry i = omega arith in entry_from 0 program.procedures i p h ∙ ap (λ (n : ℕ). Some n) e

  pub entry_told : (i : ℕ) (p : Procedure) (n : ℕ) → slice_get program.procedures i ≡ Some p → slice_get (code_of program).entries i ≡ Some n → entry i ≡ n
  entry_told i p n h k = let e = entry_is i p h in cc

  -- and is no longer than the code
  pub procedure_within : (i : ℕ) (p : Procedure) → slice_get program.procedures i ≡ Some p → procedure_size p ≤ length (code_of program).instructions
  procedure_within i p h =
      let long = procedure_long globals entry (entry i) p in
      let within = has_long (code_of program).instructions (entry i) (procedure_at globals entry (entry i) p) (procedure_stands i p h) in
      omega (arith, long, within)
